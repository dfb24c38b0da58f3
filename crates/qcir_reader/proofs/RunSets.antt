-- The computation goes through quantifier statements.
use Rattle.std.proofs.Common.{◌≡◌, ◌≢◌, ℕ, ◌≤◌, pos, Bool, true, false, ◌||◌, List, [], ◌∷◌, ◌++◌, length, map, None, refl, sym, ap, subst, ◌∙◌, arith}
use Rattle.std.specs.Prelude.{nat_lt}
use Rattle.std.specs.List.{AllByRecursion, flat_map}
use Rattle.std.proofs.lemmas.Bool.{le-ltb}
use Rattle.std.proofs.lemmas.List.{append_assoc, append-nil}
use Rattle.prefix.specs.declared.quant.Quant.{Quant}
use Rattle.prefix.specs.Scopes.{is_among, AreDistinct}
use Rattle.reading.specs.declared.refusal.Quantity.TheVariants.{Scopes}
use Rattle.qdimacs.specs.Formula.{QuantSet, merged, declared}
use Rattle.qdimacs.proofs.Grown.{declared_more}
use Rattle.qdimacs.proofs.Shorter.{all_less, distinct_less}
use Rattle.qdimacs.proofs.Lists.{all_first}
use Rattle.qcir_reader.specs.declared.sign.Place.{Place}
use Rattle.qcir_reader.specs.declared.sign.Place.TheVariants.{Before, Opened, Behind, Continued}
use Rattle.qcir_reader.specs.declared.sign.Stage.TheVariants.{Between, InSet}
use Rattle.qcir_reader.specs.declared.sign.Sign.TheVariants.{Quantifier, Opening, Closing, Comma, Number}
use Rattle.qcir_reader.specs.Rules.{Front, first_of, refused, limit, is_known, is_no_variable, variable_rules}
use Rattle.truth.specs.Limits.{max_scopes}
use Rattle.qcir_reader.specs.Run.{nothing}
use Rattle.qcir_reader.specs.Reads.{IsName, listed_more, set_signs, begun, IsPlaced}
use Rattle.qcir_reader.proofs.Runs.{Runs, runs_none, runs_one, runs_on, runs_to, none_with, name_is, distinct_front, merged_vars, merged_sets}

-- what quantifier statements keep to
pub record AreSets (sets : List QuantSet) : Type 0 where
  pub names : AllByRecursion IsName (declared sets)
  pub distinct : AreDistinct (declared sets)
  pub scopes : length (merged sets) ≤ max_scopes

-- whole statements, and a list of one that has not ended
abbrev pub at_sets : List QuantSet → Quant → Front
at_sets sets q = record nothing { sets = sets; quant = q }

abbrev pub in_sets : List QuantSet → Quant → List ℕ → Front
in_sets sets q vs = record nothing { sets = sets; quant = q; vars = vs }

-- a statement with fewer variables
split_vars : (sets : List QuantSet) (q : Quant) (us vs : List ℕ) → declared (sets ++ (q, us ++ vs) ∷ []) ≡ declared
    (sets ++ (q, us) ∷ []) ++ vs
split_vars sets q us vs = declared_more sets q (us ++ vs) ∙ sym (append_assoc (declared sets) us vs) ∙ ap (λ r. r ++ vs)
    (sym (declared_more sets q us))

pub fewer_vars : (sets : List QuantSet) (q : Quant) (us vs : List ℕ) → AreSets (sets ++ (q, us ++ vs) ∷ [])
    → AreSets (sets ++ (q, us) ∷ [])
fewer_vars sets q us vs a = record {
  names = all_first IsName (declared (sets ++ (q, us) ∷ [])) vs
      (subst (λ ds. AllByRecursion IsName ds) (split_vars sets q us vs) a.names);
  distinct = distinct_front (declared (sets ++ (q, us) ∷ [])) vs
      (subst AreDistinct (split_vars sets q us vs) a.distinct);
  scopes = (let le : length (merged (sets ++ (q, us) ∷ [])) ≤ length (merged (sets ++ (q, us ++ vs) ∷ [])) =
      merged_vars sets q us vs in let top : length (merged (sets ++ (q, us ++ vs) ∷ [])) ≤ max_scopes = a.scopes in
      omega (arith, le, top));
}

split_sets : (xs ys : List QuantSet) → declared (xs ++ ys) ≡ declared xs ++ declared ys
split_sets [] ys = refl
split_sets (x ∷ xs) ys = ap (λ r. x.1 ++ r) (split_sets xs ys) ∙ sym (append_assoc x.1 (declared xs) (declared ys))

pub fewer_sets : (xs ys : List QuantSet) → AreSets (xs ++ ys) → AreSets xs
fewer_sets xs ys a = record {
  names = all_first IsName (declared xs) (declared ys)
      (subst (λ ds. AllByRecursion IsName ds) (split_sets xs ys) a.names);
  distinct = distinct_front (declared xs) (declared ys) (subst AreDistinct (split_sets xs ys) a.distinct);
  scopes = (let le : length (merged xs) ≤ length (merged (xs ++ ys)) = merged_sets xs ys in let top :
      length (merged (xs ++ ys)) ≤ max_scopes = a.scopes in omega (arith, le, top));
}

-- no rule refuses a variable
or_none : (b : Bool) → b ≡ false → (b || false) ≡ false
or_none true e = cc
or_none false e = refl

variable_silent : (sets : List QuantSet) (q : Quant) (us : List ℕ) (v : ℕ) → AreSets (sets ++ (q, us ++ v ∷ []) ∷ [])
    → (line : ℕ) → first_of (variable_rules (in_sets sets q us) (pos v) line) ≡ None
variable_silent sets q us v a line =
    let names : AllByRecursion IsName (declared (sets ++ (q, us) ∷ [])) × IsName v = all_less IsName
    (declared (sets ++ (q, us) ∷ [])) v
    (subst (λ ds. AllByRecursion IsName ds) (split_vars sets q us (v ∷ [])) a.names) in
    let new : AreDistinct (declared (sets ++ (q, us) ∷ [])) × (is_among v (declared (sets ++ (q, us) ∷ [])) ≡ false) =
    distinct_less (declared (sets ++ (q, us) ∷ [])) v (subst AreDistinct (split_vars sets q us (v ∷ [])) a.distinct)
    in
    let fresh : is_among v (declared sets ++ us) ≡ false = ap (is_among v) (sym (declared_more sets q us)) ∙ new.1 in
    let many : ℕ = length (merged (sets ++ (q, us ++ v ∷ []) ∷ [])) in
    none_with (is_no_variable (pos v)) (refused 71 line)
    ((is_known (in_sets sets q us) v, refused 73 line) ∷ (nat_lt max_scopes many, limit Scopes line) ∷ [])
    (name_is (pos v) names.1)
    (none_with (is_known (in_sets sets q us) v) (refused 73 line) ((nat_lt max_scopes many, limit Scopes line) ∷ [])
    (or_none (is_among v (declared sets ++ us)) fresh)
    (none_with (nat_lt max_scopes many) (limit Scopes line) [] (le-ltb max_scopes many a.scopes) refl))

number_runs : (place : Place) (sets : List QuantSet) (q : Quant) (us : List ℕ) (v : ℕ)
    → AreSets (sets ++ (q, us ++ v ∷ []) ∷ [])
    → Runs (InSet Opened) (in_sets sets q us) (Number (pos v) ∷ []) (InSet Behind) (in_sets sets q (us ++ v ∷ []))
    × Runs (InSet Continued) (in_sets sets q us) (Number (pos v) ∷ []) (InSet Behind) (in_sets sets q (us ++ v ∷ []))
number_runs place sets q us v a = (
  runs_one (InSet Opened) (in_sets sets q us) (Number (pos v)) (InSet Behind) (in_sets sets q (us ++ v ∷ []))
      (λ line. variable_silent sets q us v a line) refl (λ line. refl),
  runs_one (InSet Continued) (in_sets sets q us) (Number (pos v)) (InSet Behind) (in_sets sets q (us ++ v ∷ []))
      (λ line. variable_silent sets q us v a line) refl (λ line. refl),
)

comma_runs : (f : Front) → Runs (InSet Behind) f (Comma ∷ []) (InSet Continued) f
comma_runs f = runs_one (InSet Behind) f Comma (InSet Continued) f (λ line. refl) refl (λ line. refl)

-- the variables behind others
more_runs : (vs : List ℕ) (sets : List QuantSet) (q : Quant) (us : List ℕ) → AreSets (sets ++ (q, us ++ vs) ∷ [])
    → Runs (InSet Behind) (in_sets sets q us) (listed_more (map pos vs)) (InSet Behind) (in_sets sets q (us ++ vs))
more_runs [] sets q us a = runs_to (InSet Behind) (InSet Behind) (in_sets sets q us) (in_sets sets q us)
    (in_sets sets q (us ++ [])) [] (ap (in_sets sets q) (sym (append-nil us)))
    (runs_none (InSet Behind) (in_sets sets q us))
more_runs (v ∷ vs) sets q us a =
    let longer : (us ++ v ∷ []) ++ vs ≡ us ++ v ∷ vs = append_assoc us (v ∷ []) vs in
    let all : AreSets (sets ++ (q, (us ++ v ∷ []) ++ vs) ∷ []) = subst (λ x. AreSets (sets ++ (q, x) ∷ [])) (sym longer)
    a in
    let here : AreSets (sets ++ (q, us ++ v ∷ []) ∷ []) = fewer_vars sets q (us ++ v ∷ []) vs all in
    runs_to (InSet Behind) (InSet Behind) (in_sets sets q us) (in_sets sets q ((us ++ v ∷ []) ++ vs))
    (in_sets sets q (us ++ v ∷ vs)) (Comma ∷ Number (pos v) ∷ listed_more (map pos vs)) (ap (in_sets sets q) longer)
    (runs_on (InSet Behind) (InSet Continued) (InSet Behind) (in_sets sets q us) (in_sets sets q us)
    (in_sets sets q ((us ++ v ∷ []) ++ vs)) (Comma ∷ []) (Number (pos v) ∷ listed_more (map pos vs))
    (comma_runs (in_sets sets q us))
    (runs_on (InSet Continued) (InSet Behind) (InSet Behind) (in_sets sets q us) (in_sets sets q (us ++ v ∷ []))
    (in_sets sets q ((us ++ v ∷ []) ++ vs)) (Number (pos v) ∷ []) (listed_more (map pos vs))
    (number_runs Continued sets q us v here).1
    (more_runs vs sets q (us ++ v ∷ []) all)))

-- a quantifier, and its bracket
begin_runs : (sets : List QuantSet) (p q : Quant) → Runs Between (at_sets sets p) (Quantifier q ∷ []) (InSet Before)
    (in_sets sets q [])
begin_runs sets p q = runs_one Between (at_sets sets p) (Quantifier q) (InSet Before) (in_sets sets q []) (λ line. refl)
    refl (λ line. refl)

open_runs : (f : Front) → Runs (InSet Before) f (Opening ∷ []) (InSet Opened) f
open_runs f = runs_one (InSet Before) f Opening (InSet Opened) f (λ line. refl) refl (λ line. refl)

some_list : {A : Type 0} (xs : List A) → xs ≢ [] → (x : A) × (rest : List A) × (xs ≡ x ∷ rest)
some_list [] some = absurd (some refl)
some_list (x ∷ xs) some = (x, xs, refl)

-- a list behind a number
behind_runs : (sets : List QuantSet) (p q : Quant) (vs : List ℕ) → vs ≢ [] → AreSets (sets ++ (q, vs) ∷ [])
    → Runs Between (at_sets sets p) (Quantifier q ∷ begun Behind (map pos vs)) (InSet Behind) (in_sets sets q vs)
behind_runs sets p q [] e a = absurd (e refl)
behind_runs sets p q (v ∷ vs) e a =
    let here : AreSets (sets ++ (q, v ∷ []) ∷ []) = fewer_vars sets q (v ∷ []) vs a in
    runs_on Between (InSet Before) (InSet Behind) (at_sets sets p) (in_sets sets q []) (in_sets sets q (v ∷ vs))
    (Quantifier q ∷ []) (Opening ∷ Number (pos v) ∷ listed_more (map pos vs)) (begin_runs sets p q)
    (runs_on (InSet Before) (InSet Opened) (InSet Behind) (in_sets sets q []) (in_sets sets q [])
    (in_sets sets q (v ∷ vs)) (Opening ∷ []) (Number (pos v) ∷ listed_more (map pos vs))
    (open_runs (in_sets sets q []))
    (runs_on (InSet Opened) (InSet Behind) (InSet Behind) (in_sets sets q []) (in_sets sets q (v ∷ []))
    (in_sets sets q (v ∷ vs)) (Number (pos v) ∷ []) (listed_more (map pos vs))
    (number_runs Opened sets q [] v here).0
    (more_runs vs sets q (v ∷ []) a)))

-- a list that has not ended
pub begun_runs : (place : Place) (sets : List QuantSet) (p q : Quant) (vs : List ℕ) → IsPlaced place vs
    → AreSets (sets ++ (q, vs) ∷ [])
    → Runs Between (at_sets sets p) (Quantifier q ∷ begun place (map pos vs)) (InSet place) (in_sets sets q vs)
begun_runs Before sets p q vs e a = subst (λ x. Runs Between (at_sets sets p) (Quantifier q ∷ []) (InSet Before)
    (in_sets sets q x)) (sym e) (begin_runs sets p q)
begun_runs Opened sets p q vs e a =
    subst (λ x. Runs Between (at_sets sets p) (Quantifier q ∷ Opening ∷ []) (InSet Opened) (in_sets sets q x)) (sym e)
    (runs_on Between (InSet Before) (InSet Opened) (at_sets sets p) (in_sets sets q []) (in_sets sets q [])
    (Quantifier q ∷ []) (Opening ∷ []) (begin_runs sets p q) (open_runs (in_sets sets q [])))
begun_runs Behind sets p q vs e a = behind_runs sets p q vs e a
begun_runs Continued sets p q vs e a =
    runs_on Between (InSet Behind) (InSet Continued) (at_sets sets p) (in_sets sets q vs) (in_sets sets q vs)
    (Quantifier q ∷ begun Behind (map pos vs)) (Comma ∷ []) (behind_runs sets p q vs e a)
    (comma_runs (in_sets sets q vs))

-- a whole statement
close_runs : (place : Place) (sets : List QuantSet) (q : Quant) (vs : List ℕ) → Runs (InSet Opened) (in_sets sets q vs)
    (Closing ∷ []) Between (at_sets (sets ++ (q, vs) ∷ []) q) × Runs (InSet Behind) (in_sets sets q vs) (Closing ∷ [])
    Between (at_sets (sets ++ (q, vs) ∷ []) q)
close_runs place sets q vs = (
  runs_one (InSet Opened) (in_sets sets q vs) Closing Between (at_sets (sets ++ (q, vs) ∷ []) q) (λ line. refl) refl
      (λ line. refl),
  runs_one (InSet Behind) (in_sets sets q vs) Closing Between (at_sets (sets ++ (q, vs) ∷ []) q) (λ line. refl) refl
      (λ line. refl),
)

set_runs : (sets : List QuantSet) (p q : Quant) (vs : List ℕ) → AreSets (sets ++ (q, vs) ∷ [])
    → Runs Between (at_sets sets p) (set_signs (q, vs)) Between (at_sets (sets ++ (q, vs) ∷ []) q)
set_runs sets p q [] a =
    runs_on Between (InSet Opened) Between (at_sets sets p) (in_sets sets q []) (at_sets (sets ++ (q, []) ∷ []) q)
    (Quantifier q ∷ Opening ∷ []) (Closing ∷ []) (begun_runs Opened sets p q [] refl a)
    (close_runs Opened sets q []).0
set_runs sets p q (v ∷ vs) a =
    runs_on Between (InSet Behind) Between (at_sets sets p) (in_sets sets q (v ∷ vs))
    (at_sets (sets ++ (q, v ∷ vs) ∷ []) q) (Quantifier q ∷ begun Behind (map pos (v ∷ vs))) (Closing ∷ [])
    (begun_runs Behind sets p q (v ∷ vs) (λ e. let no_list : v ∷ vs ≡ [] = e in cc) a)
    (close_runs Behind sets q (v ∷ vs)).1

-- the quantifier of the last statement
abbrev pub last_quant : Quant → List QuantSet → Quant
last_quant p [] = p
last_quant p (s ∷ rest) = last_quant s.0 rest

pub sets_run : (rest done : List QuantSet) (p : Quant) → AreSets (done ++ rest) → Runs Between (at_sets done p)
    (flat_map set_signs rest) Between (at_sets (done ++ rest) (last_quant p rest))
sets_run [] done p a = runs_to Between Between (at_sets done p) (at_sets done p) (at_sets (done ++ []) p) []
    (ap (λ x. at_sets x p) (sym (append-nil done))) (runs_none Between (at_sets done p))
sets_run (s ∷ rest) done p a =
    let longer : (done ++ s ∷ []) ++ rest ≡ done ++ s ∷ rest = append_assoc done (s ∷ []) rest in
    let all : AreSets ((done ++ s ∷ []) ++ rest) = subst AreSets (sym longer) a in
    runs_to Between Between (at_sets done p) (at_sets ((done ++ s ∷ []) ++ rest) (last_quant s.0 rest))
    (at_sets (done ++ s ∷ rest) (last_quant s.0 rest)) (flat_map set_signs (s ∷ rest))
    (ap (λ x. at_sets x (last_quant s.0 rest)) longer)
    (runs_on Between Between Between (at_sets done p) (at_sets (done ++ s ∷ []) s.0)
    (at_sets ((done ++ s ∷ []) ++ rest) (last_quant s.0 rest)) (set_signs s) (flat_map set_signs rest)
    (set_runs done p s.0 s.1 (fewer_sets (done ++ s ∷ []) rest all)) (sets_run rest (done ++ s ∷ []) s.0 all))
