-- Edges of rows and of the first-falsified rule, while the circuit grows.
use Rattle.std.proofs.Common.{◌≡◌, ℕ, suc, ◌+◌, ◌<◌, ◌≤◌, Bool, true, false, ◌&&◌, cond, List, [], ◌∷◌, ◌++◌, length, map, drop, get_or, unwrap_or, Option, Some, Contains, zero, ◌-◌, refl, sym, ap, ap₂, ◌∙◌, ⊎_elim, arith, length-append, subst, ◌==◌}
use Rattle.std.specs.List.{list_all}
use Rattle.std.proofs.lemmas.Bool.{cases_Bool, cond-true, cond-false, eqb-true}
use Rattle.calculus.proofs.Lists.{contains_head, contains_tail}
use Rattle.prefix.specs.declared.quant.Quant.{Quant}
use Rattle.prefix.specs.Literal.{Literal}
use Rattle.calculus.specs.Rows.{Row, Assignment, is_bad, is_bad_throughout}
use Rattle.aig.specs.Circuits.{Circuit, value_of, IsEdge, Grows}
use Rattle.aig.specs.declared.edge.Edge.{Edge}
use Rattle.extract.specs.Removals.{Removed, first_bad, weight_of}
use Rattle.extract.specs.Tables.{edge_of, Agrees, AreEdges, AreKept, Keeps}

-- growth

pub grows_refl : (c : Circuit) → Grows c c
grows_refl c = record { inputs = refl; edges = λ e h. h; values = λ i e h. refl }

pub grows_trans : (a b c : Circuit) → Grows a b → Grows b c → Grows a c
grows_trans a b c f g = record {
  inputs = g.inputs ∙ f.inputs;
  edges = λ e h. g.edges e (f.edges e h);
  values = λ i e h. g.values i e (f.edges e h) ∙ f.values i e h;
}

pub edges_later : (old new : Circuit) (table : List (Option Edge)) → Grows old new → AreEdges old table
    → AreEdges new table
edges_later old new table grows are x e is = grows.edges e (are x e is)

pub agrees_before : (old new : Circuit) (table : List (Option Edge)) (inputs : List Bool) (values : Assignment)
    → Grows old new → AreEdges old table → Agrees new inputs table values → Agrees old inputs table values
agrees_before old new table inputs values grows are agrees x e is = agrees x e is ∙ grows.values inputs e (are x e is)

-- rows

pub all_append : {X : Type 0} (p : X → Bool) (xs : List X) (x : X) → list_all p (xs ++ x ∷ []) ≡ (list_all p xs && p x)
all_append p [] x = and_true (p x)
  where
    and_true : (b : Bool) → (b && true) ≡ (true && b)
    and_true true = refl
    and_true false = refl
all_append p (y ∷ xs) x = ap (λ b. p y && b) (all_append p xs x) ∙ assoc (p y) (list_all p xs) (p x)
  where
    assoc : (a b c : Bool) → (a && (b && c)) ≡ ((a && b) && c)
    assoc true b c = refl
    assoc false b c = refl

-- an edge that is true where a row is bad, in a circuit that grew from another
pub record IsRowEdge (pivot : Quant) (first circuit : Circuit) (table : List (Option Edge)) (row : Row)
    (e : Edge) : Type 0 where
  pub grows : Grows first circuit
  pub stands : IsEdge circuit e
  pub value : (inputs : List Bool) (values : Assignment) → Agrees circuit inputs table values
      → value_of circuit inputs e ≡ is_bad_throughout pivot values row
  pub size : length circuit.gates ≤ length first.gates + length row

pub row_start : (pivot : Quant) (c : Circuit) (table : List (Option Edge)) (e : Edge)
    → ((circuit : Circuit) (inputs : List Bool) → value_of circuit inputs e ≡ true)
    → ((circuit : Circuit) → IsEdge circuit e) → IsRowEdge pivot c c table [] e
row_start pivot c table e value stands = record {
  grows = grows_refl c;
  stands = stands c;
  value = λ i v a. value c i;
  size = omega arith;
}

pub row_more : (pivot : Quant) (first old new : Circuit) (table : List (Option Edge)) (row : Row) (l : Literal)
    (all bad e : Edge) → AreEdges first table → IsRowEdge pivot first old table row all
    → ((inputs : List Bool) (values : Assignment) → Agrees old inputs table values
    → value_of old inputs bad ≡ is_bad pivot values l)
    → ((inputs : List Bool) → value_of new inputs e ≡ (value_of old inputs all && value_of old inputs bad))
    → IsEdge new e → Grows old new → length new.gates ≤ length old.gates + 1
    → IsRowEdge pivot first new table (row ++ l ∷ []) e
row_more pivot first old new table row l all bad e are built is_bad_edge conjunction stands grows size = record {
  grows = grows_trans first old new built.grows grows;
  stands = stands;
  value = λ i v a.
      let b = agrees_before old new table i v grows (edges_later first old table built.grows are) a in
      conjunction i ∙ ap₂ (λ x y. x && y) (built.value i v b) (is_bad_edge i v b)
      ∙ sym (all_append (is_bad pivot v) row l);
  size =
      let s : length old.gates ≤ length first.gates + length row = built.size in
      let t = length-append row (l ∷ []) in
      omega arith;
}

-- the rule

-- an edge that has the value of the first-falsified rule over these removals, in a circuit that grew from another
pub record IsRuleEdge (pivot : Quant) (first circuit : Circuit) (table : List (Option Edge)) (rs : List Removed)
    (e : Edge) : Type 0 where
  pub grows : Grows first circuit
  pub stands : IsEdge circuit e
  pub value : (inputs : List Bool) (values : Assignment) → Agrees circuit inputs table values
      → value_of circuit inputs e ≡ unwrap_or (first_bad pivot values rs) false
  pub size : length circuit.gates ≤ length first.gates + weight_of rs

pub rule_start : (pivot : Quant) (c : Circuit) (table : List (Option Edge)) (e : Edge)
    → ((circuit : Circuit) (inputs : List Bool) → value_of circuit inputs e ≡ false)
    → ((circuit : Circuit) → IsEdge circuit e) → IsRuleEdge pivot c c table [] e
rule_start pivot c table e value stands = record {
  grows = grows_refl c;
  stands = stands c;
  value = λ i v a. value c i;
  size = omega arith;
}

pub rule_more : (pivot : Quant) (first old new : Circuit) (table : List (Option Edge)) (rs : List Removed)
    (r : Removed) (rest e : Edge) → AreEdges first table → IsRuleEdge pivot first old table rs rest
    → ((inputs : List Bool) (values : Assignment) → Agrees new inputs table values
    → value_of new inputs e ≡ cond (is_bad_throughout pivot values r.row) r.value (value_of old inputs rest))
    → IsEdge new e → Grows old new → length new.gates ≤ length old.gates + (length r.row + 1)
    → IsRuleEdge pivot first new table (r ∷ rs) e
rule_more pivot first old new table rs r rest e are built choice stands grows size = record {
  grows = grows_trans first old new built.grows grows;
  stands = stands;
  value = λ i v a.
      let b = agrees_before old new table i v grows (edges_later first old table built.grows are) a in
      choice i v a ∙ ap (λ x. cond (is_bad_throughout pivot v r.row) r.value x) (built.value i v b) ∙ ⊎_elim
      (λ t. cond-true (is_bad_throughout pivot v r.row) r.value (unwrap_or (first_bad pivot v rs) false) t
      ∙ sym (ap (λ o. unwrap_or o false) (cond-true (is_bad_throughout pivot v r.row) (Some r.value)
      (first_bad pivot v rs) t)))
      (λ f. cond-false (is_bad_throughout pivot v r.row) r.value (unwrap_or (first_bad pivot v rs) false) f
      ∙ sym (ap (λ o. unwrap_or o false) (cond-false (is_bad_throughout pivot v r.row) (Some r.value)
      (first_bad pivot v rs) f)))
      (cases_Bool (is_bad_throughout pivot v r.row));
  size =
      let s : length old.gates ≤ length first.gates + weight_of rs = built.size in
      omega arith;
}

-- elements of a mapped list

pub contains_mapped : {X Y : Type 0} (f : X → Y) (xs : List X) (i : ℕ) (d : X) → i < length xs
    → Contains (map f xs) (f (get_or xs i d))
contains_mapped f [] i d below = absurd (omega arith)
contains_mapped f (x ∷ xs) zero d below = contains_head (f x) (map f xs)
contains_mapped f (x ∷ xs) (suc i) d below =
    contains_tail (f x) (map f xs) (f (get_or xs i d)) (contains_mapped f xs i d (omega arith))

drop_at : {X Y : Type 0} (f : X → Y) (xs : List X) (i : ℕ) (d : X) → i < length xs
    → drop i (map f xs) ≡ f (get_or xs i d) ∷ drop (suc i) (map f xs)
drop_at f [] i d below = absurd (omega arith)
drop_at f (x ∷ xs) zero d below = refl
drop_at f (x ∷ xs) (suc i) d below = drop_at f xs i d (omega arith)

pub drop_before : {X Y : Type 0} (f : X → Y) (xs : List X) (k : ℕ) (d : X) → 0 < k → k ≤ length xs
    → drop (k - 1) (map f xs) ≡ f (get_or xs (k - 1) d) ∷ drop k (map f xs)
drop_before f xs zero d some within = absurd (omega arith)
drop_before f xs (suc k) d some within =
    let e : suc k - 1 ≡ k = omega arith in
    rw e (drop_at f xs k d (omega arith))

-- kept edges

pub kept_later : (pivot : Quant) (rows : List Row) (old new : Circuit) (table kept : List (Option Edge))
    → Grows old new → AreEdges old table → AreKept pivot rows old table kept → AreKept pivot rows new table kept
kept_later pivot rows old new table kept grows are was = record {
  stands = λ i e is. grows.edges e (was.stands i e is);
  value = λ i e is inputs values agrees. grows.values inputs e (was.stands i e is)
      ∙ was.value i e is inputs values (agrees_before old new table inputs values grows are agrees);
}

pub kept_wider : (pivot : Quant) (rows : List Row) (circuit : Circuit) (before table kept : List (Option Edge))
    → Keeps before table → AreKept pivot rows circuit before kept → AreKept pivot rows circuit table kept
kept_wider pivot rows circuit before table kept keeps was = record {
  stands = was.stands;
  value = λ i e is inputs values agrees. was.value i e is inputs values (λ x f at. agrees x f (keeps x f at));
}

pub kept_more : (pivot : Quant) (rows : List Row) (circuit : Circuit) (table old new : List (Option Edge)) (step : ℕ)
    (e : Edge) → AreKept pivot rows circuit table old → IsEdge circuit e
    → ((inputs : List Bool) (values : Assignment) → Agrees circuit inputs table values
    → value_of circuit inputs e ≡ is_bad_throughout pivot values (get_or rows step []))
    → ((w : ℕ) → edge_of new w ≡ cond (step == w) (Some e) (edge_of old w)) → AreKept pivot rows circuit table new
kept_more pivot rows circuit table old new step e was stands value puts = record {
  stands = λ i f is. ⊎_elim
      (λ t. let g : Some e ≡ Some f = sym (cond-true (step == i) (Some e) (edge_of old i) t) ∙ sym (puts i) ∙ is in
      let p : e ≡ f = cc in subst (IsEdge circuit) p stands)
      (λ n. was.stands i f (sym (cond-false (step == i) (Some e) (edge_of old i) n) ∙ sym (puts i) ∙ is))
      (cases_Bool (step == i));
  value = λ i f is inputs values agrees. ⊎_elim
      (λ t. let g : Some e ≡ Some f = sym (cond-true (step == i) (Some e) (edge_of old i) t) ∙ sym (puts i) ∙ is in
      let p : f ≡ e = cc in ap (value_of circuit inputs) p ∙ value inputs values agrees
      ∙ ap (λ k. is_bad_throughout pivot values (get_or rows k [])) (eqb-true step i t))
      (λ n. was.value i f (sym (cond-false (step == i) (Some e) (edge_of old i) n) ∙ sym (puts i) ∙ is) inputs values
      agrees)
      (cases_Bool (step == i));
}

pub kept_none : (pivot : Quant) (rows : List Row) (circuit : Circuit) (table : List (Option Edge))
    → AreKept pivot rows circuit table []
kept_none pivot rows circuit table = record {
  stands = λ i e is. absurd (cc);
  value = λ i e is. absurd (cc);
}
