-- What the parts `[--budget N] [--restarts R] [--keep K] [--FLAG] .. [NAME]` use: each argument once at most.
use Rattle.std.proofs.Common.{◌≡◌, ◌≢◌, ◌∙◌, ◌++◌, ◌||◌, ◌+◌, ◌≤◌, ℕ, Bool, cond, true, false, List, [], ◌∷◌, map, Option, Some, None, IsPermutation, codes, option_map, slice_get, refl, sym, ap, subst, arith, append-nil, append_assoc}
use Rattle.std.specs.List.{AllByRecursion, filter, find, sum_by}
use Rattle.std.specs.Prelude.{option_and_then}
use Rattle.std.specs.Str.{bytes_eq}
use Rattle.std.proofs.lemmas.List.Folds.{list_any-append}
use Rattle.std.proofs.lemmas.List.Sorted.{IsPermutation-append_right, IsPermutation-cons, IsPermutation-middle, IsPermutation-refl, IsPermutation-trans}
use Rattle.std.proofs.lemmas.List.Sums.{sum_by-cons}
use Rattle.std.proofs.lemmas.Slice.Eq.{bytes_eq-Decides}
use Rattle.clap.specs.Words.{Row, Rule}
use Rattle.clap.specs.Simple.{filled, with_index}
use Rattle.clap.specs.Takes.{value_passes}
use Rattle.clap.specs.Walk.{Text, at_row, first_of, has_row, more_values, used, with_values, without}
use Rattle.clap.specs.Faults.{use_fault}
use Rattle.clap.specs.declared.builder.value_parser.Reading.TheVariants.{AsWritten}
use Rattle.clap.specs.declared.parser.matches.ValueSource.{ValueSource}
use Rattle.clap.specs.declared.parser.matches.ValueSource.TheVariants.{CommandLine}
use Rattle.command.specs.Account.{name_rule}
use Rattle.command.specs.Forms.{Part, flag_name, setting_name}
use Rattle.command.specs.Forms.Flag.{the_qdo, the_qcir, the_binary, the_trim, the_decide}
use Rattle.command.specs.Forms.Part.{setting_part, joined_part, flag_part, name_part}
use Rattle.command.specs.Forms.Setting.{the_budget, the_keep, the_restarts}
use Rattle.command.proofs.Names.{argument_names, bit}
use Rattle.command.proofs.Turns.{no_kinds}
use Rattle.command.proofs.WordKinds.{flag, setting}
use Rattle.command.proofs.PartWalk.{AreTaken, Use, used_rows, uses_fault, uses_of}

abbrev pub name : Rule
name = with_index 1 (filled name_rule)

-- the argument of a part, and its value
abbrev pub id_of : Part → Text
id_of (setting_part s t) = setting_name s
id_of (joined_part s t) = setting_name s
id_of (flag_part f) = flag_name f
id_of (name_part w) = codes "name"

abbrev pub value_of : Part → Text
value_of (setting_part s t) = t
value_of (joined_part s t) = t
value_of (flag_part f) = codes "true"
value_of (name_part w) = w

-- the part is of this argument
abbrev pub is_of : Text → Part → Bool
is_of id p = bytes_eq (id_of p) id

abbrev pub part_use : Part → Use
part_use (setting_part s t) = (setting s, t ∷ [])
part_use (joined_part s t) = (setting s, t ∷ [])
part_use (flag_part f) = (flag f, [])
part_use (name_part w) = (name, w ∷ [])

-- where the name's place is left, or none
abbrev pub name_left : Bool → List Rule
name_left true = name ∷ []
name_left false = []

pub uses_are : (c : List Rule) (b : Bool) (ps : List Part) → AreTaken c (name_left b) ps
    → uses_of (name_left b) ps ≡ map part_use ps
uses_are c b [] taken = refl
uses_are c b (setting_part s t ∷ ps) taken = ap (λ us. part_use (setting_part s t) ∷ us) (uses_are c b ps taken.1)
uses_are c b (joined_part s t ∷ ps) taken = ap (λ us. part_use (joined_part s t) ∷ us) (uses_are c b ps taken.1)
uses_are c b (flag_part f ∷ ps) taken = ap (λ us. part_use (flag_part f) ∷ us) (uses_are c b ps taken.1)
uses_are c true (name_part w ∷ ps) taken = ap (λ us. part_use (name_part w) ∷ us) (uses_are c false ps taken.1)
uses_are c false (name_part w ∷ ps) taken = absurd taken.0

-- ---- one more row

pub either_false : (a b : Bool) → (a || b) ≡ false → (a ≡ false) × (b ≡ false)
either_false true b e = absurd cc
either_false false b e = (refl, e)

absent : (id : Text) (change : Row → List Row) (missing rows : List Row) → has_row id rows ≡ false
    → at_row id change missing rows ≡ rows ++ missing
absent id change missing [] none = refl
absent id change missing (r ∷ rs) none =
    let both = either_false (bytes_eq r.id id) (has_row id rs) none in rw both.0 (ap (λ l. r ∷ l)
    (absent id change missing rs both.1))

-- a row of an argument that has none comes last
pub joins : (id : Text) (source : ValueSource) (vs : List Text) (rows : List Row) → has_row id rows ≡ false
    → with_values id AsWritten source vs rows
    ≡ rows ++ (record { id = id; values = vs; count = None; source = Some source; reading = AsWritten }) ∷ []
joins id source vs rows none = absent id (more_values source vs) _ rows none

abbrev pub new_row : Part → Row
new_row p = record {
  id = id_of p;
  values = value_of p ∷ [];
  count = None;
  source = Some CommandLine;
  reading = AsWritten;
}

-- `clap` accepts the value of the part
abbrev pub IsAccepted : Part → Type 0
IsAccepted p = value_passes (part_use p).0 (value_of p) ≡ true

module _ (rows : List Row) where
  replaces : (id : Text) (vs : List Text) → has_row id rows ≡ false
      → with_values id AsWritten CommandLine vs (without id rows)
      ≡ rows ++ (record { id = id; values = vs; count = None; source = Some CommandLine; reading = AsWritten }) ∷ []
  replaces id vs none =
      ap (with_values id AsWritten CommandLine vs) (absent id (λ _. []) [] rows none ∙ append-nil rows)
      ∙ joins id CommandLine vs rows none

  used_is : (p : Part) → has_row (id_of p) rows ≡ false → used (part_use p).0 (part_use p).1 rows
      ≡ rows ++ new_row p ∷ []
  used_is (setting_part s t) none = replaces (setting_name s) (t ∷ []) none
  used_is (joined_part s t) none = replaces (setting_name s) (t ∷ []) none
  used_is (flag_part f) none = replaces (flag_name f) (codes "true" ∷ []) none
  used_is (name_part w) none = replaces (codes "name") (w ∷ []) none

  -- a second use fails
  fails_twice : (p : Part) → has_row (id_of p) rows ≡ true → use_fault false (part_use p).0 (part_use p).1 rows ≢ []
  fails_twice (setting_part s t) has = rw has (λ e. absurd cc)
  fails_twice (joined_part s t) has = rw has (λ e. absurd cc)
  fails_twice (flag_part f) has = rw has (λ e. absurd cc)
  fails_twice (name_part w) has = rw has (λ e. absurd cc)

  -- a first one doesn't, where `clap` accepts the value
  passes_once : (p : Part) → IsAccepted p → has_row (id_of p) rows ≡ false
      → use_fault false (part_use p).0 (part_use p).1 rows ≡ []
  passes_once (setting_part s t) accepted none = rw (none, accepted) refl
  passes_once (joined_part s t) accepted none = rw (none, accepted) refl
  passes_once (flag_part f) accepted none = rw none refl
  passes_once (name_part w) accepted none = rw none refl

-- ---- how often an argument is used

abbrev pub tally : Text → List Part → ℕ
tally id ps = sum_by (λ p. bit (is_of id p)) ps

pub tally-cons : (id : Text) (p : Part) (ps : List Part) → tally id (p ∷ ps) ≡ bit (is_of id p) + tally id ps
tally-cons id p ps = sum_by-cons (λ q. bit (is_of id q)) p ps

pub of_itself : (p : Part) → is_of (id_of p) p ≡ true
of_itself (setting_part the_budget t) = refl
of_itself (setting_part the_restarts t) = refl
of_itself (setting_part the_keep t) = refl
of_itself (joined_part the_budget t) = refl
of_itself (joined_part the_restarts t) = refl
of_itself (joined_part the_keep t) = refl
of_itself (flag_part the_qdo) = refl
of_itself (flag_part the_qcir) = refl
of_itself (flag_part the_binary) = refl
of_itself (flag_part the_trim) = refl
of_itself (flag_part the_decide) = refl
of_itself (name_part w) = refl

-- an argument is used once at most, those of earlier rows too
abbrev pub AreOnce : List Row → List Part → Type 0
AreOnce rows ps = (id : Text) → tally id ps + bit (has_row id rows) ≤ 1

has_after : (id : Text) (p : Part) (rows : List Row)
    → has_row id (rows ++ new_row p ∷ []) ≡ (has_row id rows || (is_of id p || false))
has_after id p rows = list_any-append (λ (r : Row). bytes_eq r.id id) rows (new_row p ∷ [])

-- of a first part, and of those behind it
module _ (p : Part) (ps : List Part) (rows : List Row) where
  or_bits : (a b : Bool) → bit (a || (b || false)) ≤ bit a + bit b
  or_bits true true = omega arith
  or_bits true false = omega arith
  or_bits false true = omega arith
  or_bits false false = omega arith

  once_after : AreOnce rows (p ∷ ps) → AreOnce (rows ++ new_row p ∷ []) ps
  once_after h id =
      let after : bit (has_row id (rows ++ new_row p ∷ [])) ≤ bit (has_row id rows) + bit (is_of id p) =
      rw (has_after id p rows) (or_bits (has_row id rows) (is_of id p)) in
      omega (arith, after, h id, tally-cons id p ps)

  none_before : AreOnce rows (p ∷ ps) → has_row (id_of p) rows ≡ false
  none_before h = go (has_row (id_of p) rows) refl
    where
      go : (b : Bool) → has_row (id_of p) rows ≡ b → b ≡ false
      go false e = refl
      go true e =
          let here : tally (id_of p) (p ∷ ps) + bit true ≤ 1 = rw e at (h (id_of p)) in
          let one : bit (is_of (id_of p) p) ≡ 1 = ap bit (of_itself p) in
          absurd (omega (arith, here, one, tally-cons (id_of p) p ps))

  xor_bits : (a b : Bool) → (b ≡ true → a ≡ false) → bit b + bit a ≤ bit (a || (b || false))
  xor_bits true true h = absurd (let bad = h refl in cc)
  xor_bits true false h = omega arith
  xor_bits false true h = omega arith
  xor_bits false false h = omega arith

  once_before : has_row (id_of p) rows ≡ false → AreOnce (rows ++ new_row p ∷ []) ps → AreOnce rows (p ∷ ps)
  once_before none h id =
      let apart : is_of id p ≡ true → has_row id rows ≡ false =
      λ e. subst (λ t. has_row t rows ≡ false) ((bytes_eq-Decides (id_of p) id).0 e) none in
      let after : bit (is_of id p) + bit (has_row id rows) ≤ bit (has_row id (rows ++ new_row p ∷ [])) =
      rw (has_after id p rows) (xor_bits (has_row id rows) (is_of id p) apart) in
      omega (arith, after, h id, tally-cons id p ps)

-- parts don't fail that are used once and accepted
pub uses_pass : (ps : List Part) (rows : List Row) → AllByRecursion IsAccepted ps → AreOnce rows ps
    → uses_fault rows (map part_use ps) ≡ []
uses_pass [] rows accepted once = refl
uses_pass (p ∷ ps) rows accepted once =
    let none = none_before p ps rows once in
    rw (passes_once rows p accepted.0 none, used_is rows p none)
    (uses_pass ps (rows ++ new_row p ∷ []) accepted.1 (once_after p ps rows once))

-- what is so of parts that don't fail
pub record AreUsed (rows : List Row) (ps : List Part) : Type 0 where
  pub once : AreOnce rows ps
  pub rows_are : used_rows rows (map part_use ps) ≡ rows ++ map new_row ps

bit_small : (b : Bool) → 0 + bit b ≤ 1
bit_small true = omega arith
bit_small false = omega arith

pub uses_are_once : (ps : List Part) (rows : List Row) → uses_fault rows (map part_use ps) ≡ [] → AreUsed rows ps
uses_are_once [] rows e = record { once = λ id. bit_small (has_row id rows); rows_are = sym (append-nil rows) }
uses_are_once (p ∷ ps) rows e = go (has_row (id_of p) rows) refl (uses_are_once ps)
  where
    go : (b : Bool) → has_row (id_of p) rows ≡ b
        → ((after : List Row) → uses_fault after (map part_use ps) ≡ [] → AreUsed after ps) → AreUsed rows (p ∷ ps)
    go true has rest = absurd (fails_twice rows p has (no_kinds _ _ e).0)
    go false none rest =
        let u = part_use p in
        let tail = (no_kinds (use_fault false u.0 u.1 rows) (uses_fault (used u.0 u.1 rows) (map part_use ps)) e).1 in
        let ih = rest (rows ++ new_row p ∷ []) (rw (used_is rows p none) at tail) in
        record {
          once = once_before p ps rows none ih.once;
          rows_are = ap (λ after. used_rows after (map part_use ps)) (used_is rows p none) ∙ ih.rows_are
              ∙ append_assoc rows (new_row p ∷ []) (map new_row ps);
        }

-- ---- the part of an argument

abbrev pub part_at : Text → List Part → Option Part
part_at id ps = find (is_of id) ps

-- what `clap` reads of an argument
pub first_of_parts : (id : Text) (ps : List Part) → first_of id (map new_row ps) ≡ option_map value_of (part_at id ps)
first_of_parts id [] = refl
first_of_parts id (p ∷ ps) = go (is_of id p) (first_of_parts id ps)
  where
    go : (b : Bool) → first_of id (map new_row ps) ≡ option_map value_of (part_at id ps)
        → option_and_then (λ (r : Row). slice_get r.values 0) (cond b (Some (new_row p)) (find
        (λ r. bytes_eq r.id id) (map new_row ps)))
        ≡ option_map value_of (cond b (Some p) (part_at id ps))
    go true e = refl
    go false e = e

-- none of the parts is of the argument
pub record IsUnused (id : Text) (ps : List Part) : Type 0 where
  pub none : part_at id ps ≡ None
  pub empty : filter (is_of id) ps ≡ []

pub unused : (id : Text) (ps : List Part) → tally id ps ≡ 0 → IsUnused id ps
unused id [] e = record { none = refl; empty = refl }
unused id (p ∷ ps) e = go (is_of id p) refl (unused id ps)
  where
    go : (b : Bool) → is_of id p ≡ b → (tally id ps ≡ 0 → IsUnused id ps) → IsUnused id (p ∷ ps)
    go true is rest = absurd (omega (arith, e, tally-cons id p ps, ap bit is))
    go false is rest =
        let r = rest (omega (arith, e, tally-cons id p ps)) in
        record { none = rw is r.none; empty = rw is r.empty }

-- one of them is
pub record IsUsedOnce (id : Text) (ps : List Part) : Type 0 where
  pub part : Part
  pub is : is_of id part ≡ true
  pub some : part_at id ps ≡ Some part
  pub alone : filter (is_of id) ps ≡ part ∷ []

used_later : (id : Text) (p : Part) (ps : List Part) → is_of id p ≡ false → IsUsedOnce id ps → IsUsedOnce id (p ∷ ps)
used_later id p ps is r = record { part = r.part; is = r.is; some = rw is r.some; alone = rw is r.alone }

used_here : (id : Text) (p : Part) (ps : List Part) → is_of id p ≡ true → IsUnused id ps → IsUsedOnce id (p ∷ ps)
used_here id p ps is none =
    record { part = p; is = is; some = rw is refl; alone = rw is (ap (λ l. p ∷ l) none.empty) }

pub used_once : (id : Text) (ps : List Part) → tally id ps ≡ 1 → IsUsedOnce id ps
used_once id [] e = absurd (omega (arith, e))
used_once id (p ∷ ps) e = go (is_of id p) refl (used_once id ps)
  where
    go : (b : Bool) → is_of id p ≡ b → (tally id ps ≡ 1 → IsUsedOnce id ps) → IsUsedOnce id (p ∷ ps)
    go true is rest = used_here id p ps is (unused id ps (omega (arith, e, tally-cons id p ps, ap bit is)))
    go false is rest = used_later id p ps is (rest (omega (arith, e, tally-cons id p ps, ap bit is)))

-- what holds of each part holds of the one that is found
pub holds_of_part : (P : Part → Type 0) (id : Text) (ps : List Part) (p : Part) → AllByRecursion P ps
    → part_at id ps ≡ Some p → P p
holds_of_part P id [] p all e = absurd cc
holds_of_part P id (q ∷ ps) p all e = go (is_of id q) refl (λ f. holds_of_part P id ps p all.1 f)
  where
    go : (b : Bool) → is_of id q ≡ b → (part_at id ps ≡ Some p → P p) → P p
    go true is rest = let same : q ≡ p = (let here = rw is at e in cc) in subst P same all.0
    go false is rest = rest (rw is at e)

-- ---- the parts by their arguments

abbrev pub by_names : List Text → List Part → List Part
by_names [] ps = []
by_names (n ∷ ns) ps = filter (is_of n) ps ++ by_names ns ps

-- how often the argument of a part is among these
abbrev own : Part → List Text → ℕ
own p [] = 0
own p (n ∷ ns) = bit (is_of n p) + own p ns

-- one more part of another argument
of_others : (p : Part) (ns : List Text) (ps : List Part) → own p ns ≡ 0 → by_names ns (p ∷ ps) ≡ by_names ns ps
of_others p [] ps e = refl
of_others p (n ∷ ns) ps e = go (is_of n p) refl (of_others p ns ps)
  where
    go : (b : Bool) → is_of n p ≡ b → (own p ns ≡ 0 → by_names ns (p ∷ ps) ≡ by_names ns ps)
        → by_names (n ∷ ns) (p ∷ ps) ≡ by_names (n ∷ ns) ps
    go true is rest = let one : bit (is_of n p) ≡ 1 = ap bit is in absurd (omega (arith, e, one))
    go false is rest = rw is (ap (λ l. filter (is_of n) ps ++ l) (rest (omega (arith, e))))

-- one more part, whose argument is there
of_one : (p : Part) (ns : List Text) (ps : List Part) → own p ns ≡ 1
    → IsPermutation (by_names ns (p ∷ ps)) (p ∷ by_names ns ps)
of_one p [] ps e = absurd (omega (arith, e))
of_one p (n ∷ ns) ps e = go (is_of n p) refl (of_one p ns ps)
  where
    go : (b : Bool) → is_of n p ≡ b
        → (own p ns ≡ 1 → IsPermutation (by_names ns (p ∷ ps)) (p ∷ by_names ns ps))
        → IsPermutation (by_names (n ∷ ns) (p ∷ ps)) (p ∷ by_names (n ∷ ns) ps)
    go true is rest =
        let one : bit (is_of n p) ≡ 1 = ap bit is in
        let others = of_others p ns ps (omega (arith, e, one)) in
        rw is (subst (λ l. IsPermutation (p ∷ (filter (is_of n) ps ++ l)) (p ∷ by_names (n ∷ ns) ps)) (sym others)
        (IsPermutation-refl (p ∷ by_names (n ∷ ns) ps)))
    go false is rest =
        let none : bit (is_of n p) ≡ 0 = ap bit is in
        let here = filter (is_of n) ps in
        let later = IsPermutation-append_right here (by_names ns (p ∷ ps)) (p ∷ by_names ns ps)
        (rest (omega (arith, e, none))) in
        rw is (IsPermutation-trans _ _ _ later (IsPermutation-middle here p (by_names ns ps)))

own_once : (p : Part) → own p argument_names ≡ 1
own_once (setting_part the_budget t) = refl
own_once (setting_part the_restarts t) = refl
own_once (setting_part the_keep t) = refl
own_once (joined_part the_budget t) = refl
own_once (joined_part the_restarts t) = refl
own_once (joined_part the_keep t) = refl
own_once (name_part w) = refl
own_once (flag_part the_qdo) = refl
own_once (flag_part the_qcir) = refl
own_once (flag_part the_binary) = refl
own_once (flag_part the_trim) = refl
own_once (flag_part the_decide) = refl

pub argument_order : (ps : List Part) → IsPermutation (by_names argument_names ps) ps
argument_order [] = IsPermutation-refl []
argument_order (p ∷ ps) = IsPermutation-trans _ _ _ (of_one p argument_names ps (own_once p))
    (IsPermutation-cons p (by_names argument_names ps) ps (argument_order ps))
