-- Where the gates go in the prefix.
use Rattle.std.proofs.Common.{◌≡◌, ℕ, Bool, true, false, ◌||◌, List, [], ◌∷◌, ◌++◌, map, refl, sym, ap, ap₂, ◌∙◌, append_assoc, append-nil}
use Rattle.prefix.specs.declared.quant.Quant.{Quant}
use Rattle.prefix.specs.declared.quant.Quant.TheVariants.{Exists, Forall}
use Rattle.prefix.specs.Scopes.{Scope, BoundVariable, bound_by, variables_of, prefix_order, all_variables, is_among}
use Rattle.prefix.proofs.ScopeLemmas.{is_among-append}
use Rattle.clauses.specs.Clause.{ascending}
use Rattle.clauses.proofs.Ascending.{ascending_among}
use Rattle.qcir.specs.Translation.{own_scope, scopes_with}
use Rattle.qcir.proofs.Over.{AreExistential}

-- both prefixes begin alike and end in existential variables, to which the gates come
pub record IsSplit (scopes : List Scope) (names : List ℕ) : Type 0 where
  pub first : List BoundVariable
  pub last : List BoundVariable
  pub wide : List BoundVariable
  pub old : prefix_order scopes ≡ first ++ last
  pub new : prefix_order (scopes_with scopes names) ≡ first ++ wide
  pub last_exists : AreExistential last
  pub wide_exists : AreExistential wide
  pub same : (v : ℕ) → is_among v (variables_of wide) ≡ (is_among v (variables_of last) || is_among v names)

bound_variables : (q : Quant) (vs : List ℕ) → variables_of (map (bound_by q) vs) ≡ vs
bound_variables q [] = refl
bound_variables q (v ∷ vs) = ap (λ r. v ∷ r) (bound_variables q vs)

bound_exist : (vs : List ℕ) → AreExistential (map (bound_by Exists) vs)
bound_exist [] = tt
bound_exist (v ∷ vs) = (refl, bound_exist vs)

own_order : (names : List ℕ) → prefix_order (own_scope names) ≡ map (bound_by Exists) (ascending names)
own_order [] = refl
own_order (n ∷ ns) = append-nil (map (bound_by Exists) (ascending (n ∷ ns)))

own_among : (v : ℕ) (names : List ℕ)
    → is_among v (variables_of (map (bound_by Exists) (ascending names))) ≡ is_among v names
own_among v names = ap (is_among v) (bound_variables Exists (ascending names)) ∙ ascending_among v names

split_last : (q : Quant) (vs names : List ℕ) → IsSplit (record { quantifier = q; variables = vs } ∷ []) names
split_last Exists vs names = record {
  first = [];
  last = map (bound_by Exists) vs;
  wide = map (bound_by Exists) (ascending (vs ++ names));
  old = append-nil (map (bound_by Exists) vs);
  new = append-nil (map (bound_by Exists) (ascending (vs ++ names)));
  last_exists = bound_exist vs;
  wide_exists = bound_exist (ascending (vs ++ names));
  same = λ v.
      own_among v (vs ++ names) ∙ is_among-append v vs names
      ∙ ap (λ r. is_among v r || is_among v names) (sym (bound_variables Exists vs));
}
split_last Forall vs names = record {
  first = map (bound_by Forall) vs;
  last = [];
  wide = map (bound_by Exists) (ascending names);
  old = refl;
  new = ap (λ r. map (bound_by Forall) vs ++ r) (own_order names);
  last_exists = tt;
  wide_exists = bound_exist (ascending names);
  same = λ v. own_among v names;
}

pub split : (scopes : List Scope) (names : List ℕ) → IsSplit scopes names
split [] names = record {
  first = [];
  last = [];
  wide = map (bound_by Exists) (ascending names);
  old = refl;
  new = own_order names;
  last_exists = tt;
  wide_exists = bound_exist (ascending names);
  same = λ v. own_among v names;
}
split (s ∷ []) names = split_last s.quantifier s.variables names
split (s ∷ t ∷ rest) names =
    let r = split (t ∷ rest) names in
    let front = map (bound_by s.quantifier) s.variables in
    record {
      first = front ++ r.first;
      last = r.last;
      wide = r.wide;
      old = ap (λ l. front ++ l) r.old ∙ sym (append_assoc front r.first r.last);
      new = ap (λ l. front ++ l) r.new ∙ sym (append_assoc front r.first r.wide);
      last_exists = r.last_exists;
      wide_exists = r.wide_exists;
      same = r.same;
    }

variables_more : (xs ys : List BoundVariable) → variables_of (xs ++ ys) ≡ variables_of xs ++ variables_of ys
variables_more [] ys = refl
variables_more (x ∷ xs) ys = ap (λ r. x.variable ∷ r) (variables_more xs ys)

order_variables : (scopes : List Scope) → variables_of (prefix_order scopes) ≡ all_variables scopes
order_variables [] = refl
order_variables (s ∷ scopes) =
    variables_more (map (bound_by s.quantifier) s.variables) (prefix_order scopes)
    ∙ ap₂ (λ a b. a ++ b) (bound_variables s.quantifier s.variables) (order_variables scopes)

-- the variables of the prefix
pub split_among : (scopes : List Scope) (first last : List BoundVariable) (v : ℕ)
    → prefix_order scopes ≡ first ++ last
    → is_among v (all_variables scopes) ≡ (is_among v (variables_of first) || is_among v (variables_of last))
split_among scopes first last v e =
    ap (is_among v) (sym (order_variables scopes) ∙ ap variables_of e ∙ variables_more first last)
    ∙ is_among-append v (variables_of first) (variables_of last)

or_regrouped : (a b c : Bool) → (a || (b || c)) ≡ ((a || b) || c)
or_regrouped true b c = refl
or_regrouped false b c = refl

-- the formula's prefix has the variables of the circuit's, and the gates
pub with_among : (scopes : List Scope) (names : List ℕ) (v : ℕ)
    → is_among v (all_variables (scopes_with scopes names)) ≡ (is_among v (all_variables scopes) || is_among v names)
with_among scopes names v =
    let s = split scopes names in
    let front = is_among v (variables_of s.first) in
    split_among (scopes_with scopes names) s.first s.wide v s.new
    ∙ ap (λ b. front || b) (s.same v)
    ∙ or_regrouped front (is_among v (variables_of s.last)) (is_among v names)
    ∙ ap (λ b. b || is_among v names) (sym (split_among scopes s.first s.last v s.old))
