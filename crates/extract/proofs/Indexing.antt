-- The index of removals.
use Rattle.std.proofs.Common.{◌≡◌, ℕ, suc, zero, ◌+◌, ◌-◌, ◌<◌, ◌≤◌, Bool, true, false, ◌&&◌, not, cond, List, [], ◌∷◌, ◌++◌, length, map, take, get_or, All, refl, sym, ap, ap₂, ◌∙◌, ⊎_elim, arith, ◌==◌, ◌||◌}
use Rattle.std.specs.List.{filter}
use Rattle.std.proofs.lemmas.List.{append-nil, append_assoc, map-append, get_or-map, take_more, take_all, length-map}
use Rattle.std.proofs.lemmas.Bool.{cases_Bool, cond-true, cond-false, eqb-true, eq-eqb, false_from_ne_true}
use Rattle.calculus.proofs.Lists.{filter_same}
use Rattle.prefix.specs.declared.quant.Quant.{Quant}
use Rattle.prefix.specs.Literal.{Literal}
use Rattle.calculus.specs.Rows.{Row, bad_choice}
use Rattle.calculus.specs.Derivations.{Inference}
use Rattle.step_core.specs.Cores.{core_rows, inferences_of, inference_from, row_numbered, step_numbered}
use Rattle.extract.specs.Removals.{Removed, removals, removed_by, goes, stands_over}
use Rattle.extract.specs.Tables.{removals_by, removals_here, removals_of_line, removed_of, unmarked}
use Rattle.step_core.specs.declared.listing.Line.{Line}
use Rattle.step_core.specs.declared.listing.CoreStep.{CoreStep}
use Rattle.step_core.specs.declared.listing.CoreStep.TheVariants.{Input, One, Two}
use Rattle.extract.specs.declared.index.Removal.{Removal}

pub removals_append : (pivot : Quant) (x : ℕ) (steps : List Inference) (s : Inference)
    → removals pivot x (steps ++ s ∷ []) ≡ removals pivot x steps ++ removed_by pivot x s.row s.reason
removals_append pivot x [] s = append-nil (removed_by pivot x s.row s.reason)
removals_append pivot x (t ∷ steps) s =
    ap (λ rs. removed_by pivot x t.row t.reason ++ rs) (removals_append pivot x steps s)
    ∙ sym (append_assoc (removed_by pivot x t.row t.reason) (removals pivot x steps)
    (removed_by pivot x s.row s.reason))

-- what removals in memory stand for, those of one step
here_stands : (pivot : Quant) (step : ℕ) (rows : List Row) (row : Row) (kept : List Literal) → get_or rows step [] ≡ row
    → map (removed_of rows) (map (λ (l : Literal). record { step = step; value = bad_choice pivot l }) kept) ≡ map
    (λ (l : Literal). record { row = row; value = bad_choice pivot l }) kept
here_stands pivot step rows row [] is = refl
here_stands pivot step rows row (l ∷ kept) is =
    ap₂ (λ (r : Removed) rs. r ∷ rs) (ap (λ (w : Row). record { row = w; value = bad_choice pivot l }) is)
    (here_stands pivot step rows row kept is)

pub line_stands : (pivot : Quant) (x i : ℕ) (rows : List Row) (row : Row) (step : CoreStep) → get_or rows i [] ≡ row
    → map (removed_of rows) (removals_by pivot x i rows row step) ≡ removed_by pivot x row
    (inference_from rows (record { lits = row; step = step })).reason
line_stands pivot x i rows row Input is = refl
line_stands pivot x i rows row (One k) is = here_stands pivot i rows row (filter (goes x row) (row_numbered rows k)) is
line_stands pivot x i rows row (Two p n y) is = refl

here_within : (pivot : Quant) (step n : ℕ) (kept : List Literal) → step < n
    → All (λ (r : Removal). r.step < n) (map (λ (l : Literal). record { step = step; value = bad_choice pivot l }) kept)
here_within pivot step n [] below k d within = absurd (omega arith)
here_within pivot step n (l ∷ kept) below zero d within = below
here_within pivot step n (l ∷ kept) below (suc k) d within = here_within pivot step n kept below k d (omega arith)

line_within : (pivot : Quant) (x i n : ℕ) (rows : List Row) (row : Row) (step : CoreStep) → i < n
    → All (λ (r : Removal). r.step < n) (removals_by pivot x i rows row step)
line_within pivot x i n rows row Input below = λ k d within. absurd (omega arith)
line_within pivot x i n rows row (One m) below = here_within pivot i n (filter (goes x row) (row_numbered rows m)) below
line_within pivot x i n rows row (Two p q y) below = λ k d within. absurd (omega arith)

all_append : {X : Type 0} (P : X → Type 0) (xs ys : List X) → All P xs → All P ys → All P (xs ++ ys)
all_append P [] ys f g k d below = g k d below
all_append P (x ∷ xs) ys f g zero d below = f zero d (omega arith)
all_append P (x ∷ xs) ys f g (suc k) d below =
    all_append P xs ys (λ j e h. f (suc j) e (omega arith)) g k d (omega arith)

-- the index once the lines before a place are in it
pub record IsIndexed (pivot : Quant) (lines : List Line) (i : ℕ) (list : List Removal) (x : ℕ) : Type 0 where
  pub stands : map (removed_of (core_rows lines)) list ≡ removals pivot x (take i (inferences_of lines))
  pub within : All (λ (r : Removal). r.step < length lines) list

pub index_start : (pivot : Quant) (lines : List Line) (x : ℕ) → IsIndexed pivot lines 0 [] x
index_start pivot lines x = record { stands = refl; within = λ k d h. absurd (omega arith) }

pub index_more : (pivot : Quant) (lines : List Line) (i : ℕ) (old new : List Removal) (x : ℕ) (d : Line)
    → i < length lines → IsIndexed pivot lines i old x → new ≡ old
    ++ removals_of_line pivot x i (core_rows lines) (get_or lines i d) → IsIndexed pivot lines (i + 1) new x
index_more pivot lines i old new x d below before more =
    let rows = core_rows lines in
    let line = get_or lines i d in
    let inside : i < length (inferences_of lines) = rw (length-map lines (inference_from rows)) below in
    let row : get_or rows i [] ≡ line.lits = get_or-map (λ (l : Line). l.lits) lines i d [] below in
    let inference : get_or (inferences_of lines) i (inference_from rows d) ≡ inference_from rows line =
    get_or-map (inference_from rows) lines i d (inference_from rows d) below in
    record {
      stands = rw more (map-append (removed_of rows) old (removals_by pivot x i rows line.lits line.step)
          ∙ ap₂ (λ a b. a ++ b) before.stands (line_stands pivot x i rows line.lits line.step row)
          ∙ sym (ap (removals pivot x) (take_more (inferences_of lines) i (inference_from rows d) inside
          ∙ ap (λ (s : Inference). take i (inferences_of lines) ++ s ∷ []) inference)
          ∙ removals_append pivot x (take i (inferences_of lines)) (inference_from rows line)));
      within = rw more (all_append (λ (r : Removal). r.step < length lines) old
          (removals_by pivot x i rows line.lits line.step) before.within
          (line_within pivot x i (length lines) rows line.lits line.step below));
    }

pub index_end : (pivot : Quant) (lines : List Line) (i : ℕ) (list : List Removal) (x : ℕ) → length lines ≤ i
    → IsIndexed pivot lines i list x → map (removed_of (core_rows lines)) list ≡ removals pivot x (inferences_of lines)
index_end pivot lines i list x whole is = is.stands
    ∙ ap (removals pivot x) (take_all i (inferences_of lines)
    (rw (length-map lines (inference_from (core_rows lines))) whole))

-- stamps

pub unmarked_here : (stamps : List ℕ) (pivot : Quant) (x step : ℕ) (row before : Row)
    → ((y : ℕ) → (get_or stamps y 0 == step + 1) ≡ stands_over row y)
    → unmarked stamps pivot x step before ≡ removals_here pivot x step row before
unmarked_here stamps pivot x step row before marked =
    ap (map (λ (l : Literal). record { step = step; value = bad_choice pivot l }))
    (filter_same (λ (l : Literal). l.variable == x && not (get_or stamps l.variable 0 == step + 1))
    (goes x row) before (λ l i. ap (λ b. l.variable == x && not b) (marked l.variable)))

pub record IsStamped (stamp : ℕ) (stamps : List ℕ) (row : Row) (x : ℕ) : Type 0 where
  pub marked : (get_or stamps x 0 == stamp) ≡ stands_over row x
  pub bounded : get_or stamps x 0 ≤ stamp

any_append : (row : Row) (l : Literal) (x : ℕ) → stands_over (row ++ l ∷ []) x ≡ (stands_over row x || l.variable == x)
any_append [] l x = or_none (l.variable == x)
  where
    or_none : (b : Bool) → (b || false) ≡ (false || b)
    or_none true = refl
    or_none false = refl
any_append (m ∷ row) l x = ap (λ b. m.variable == x || b) (any_append row l x)
    ∙ assoc (m.variable == x) (stands_over row x) (l.variable == x)
  where
    assoc : (a b c : Bool) → (a || (b || c)) ≡ ((a || b) || c)
    assoc true b c = refl
    assoc false b c = refl

pub stamp_start : (stamp : ℕ) (stamps : List ℕ) (x : ℕ) → get_or stamps x 0 < stamp → IsStamped stamp stamps [] x
stamp_start stamp stamps x below =
    record {
      marked = false_from_ne_true (get_or stamps x 0 == stamp)
          (λ t. let e = eqb-true (get_or stamps x 0) stamp t in absurd (omega arith));
      bounded = omega arith;
    }

pub stamp_more : (stamp : ℕ) (old new : List ℕ) (row : Row) (i v x : ℕ) (l : Literal) → i < length row
    → l ≡ get_or row i l → v ≡ l.variable → IsStamped stamp old (take i row) x
    → get_or new x 0 ≡ cond (v == x) stamp (get_or old x 0) → IsStamped stamp new (take (i + 1) row) x
stamp_more stamp old new row i v x l below is var before puts =
    let stands : stands_over (take (i + 1) row) x ≡ (stands_over (take i row) x || v == x) =
    ap (λ (r : Row). stands_over r x) (take_more row i l below ∙ ap (λ (m : Literal). take i row ++ m ∷ []) (sym is))
    ∙ any_append (take i row) l x ∙ ap (λ (y : ℕ). stands_over (take i row) x || y == x) (sym var) in
    ⊎_elim
    (λ t.
    let here : get_or new x 0 ≡ stamp = puts ∙ cond-true (v == x) stamp (get_or old x 0) t in
    record {
      marked = eq-eqb (get_or new x 0) stamp here ∙ sym (or_true (stands_over (take i row) x))
          ∙ sym (stands ∙ ap (λ b. stands_over (take i row) x || b) t);
      bounded = omega arith;
    })
    (λ f.
    let there : get_or new x 0 ≡ get_or old x 0 = puts ∙ cond-false (v == x) stamp (get_or old x 0) f in
    let bound = before.bounded in
    record {
      marked = ap (λ n. n == stamp) there ∙ before.marked ∙ sym (or_false (stands_over (take i row) x))
          ∙ sym (stands ∙ ap (λ b. stands_over (take i row) x || b) f);
      bounded = omega arith;
    })
    (cases_Bool (v == x))
  where
    or_true : (b : Bool) → (b || true) ≡ true
    or_true true = refl
    or_true false = refl

    or_false : (b : Bool) → (b || false) ≡ b
    or_false true = refl
    or_false false = refl

-- the removals of the line at a place, by its number
pub line_removals : (pivot : Quant) (x i k : ℕ) (lines : List Line) (d : Line) (row before : Row) → i < length lines
    → One k ≡ step_numbered lines (i + 1) → row ≡ row_numbered (core_rows lines) (i + 1)
    → before ≡ row_numbered (core_rows lines) k
    → removals_here pivot x i row before ≡ removals_of_line pivot x i (core_rows lines) (get_or lines i d)
line_removals pivot x i k lines d row before below step is_row is_before =
    let line = get_or lines i d in
    let back : i + 1 - 1 ≡ i = omega arith in
    let at_step : line.step ≡ One k = sym (get_or-map (λ (l : Line). l.step) lines i d Input below)
    ∙ sym (step ∙ ap (λ j. get_or (map (λ (l : Line). l.step) lines) j Input) back) in
    let at_row : row ≡ line.lits = is_row ∙ ap (λ j. get_or (core_rows lines) j []) back
    ∙ get_or-map (λ (l : Line). l.lits) lines i d [] below in
    ap₂ (λ (r b : Row). removals_here pivot x i r b) at_row is_before
    ∙ sym (ap (removals_by pivot x i (core_rows lines) line.lits) at_step)
