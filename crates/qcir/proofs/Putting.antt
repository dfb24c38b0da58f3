-- Rows put one behind the other.
use Rattle.std.proofs.Common.{◌≡◌, ℕ, ◌+◌, ◌<◌, ℤ, true, false, not, List, [], ◌∷◌, ◌++◌, length, map, filter, take, get_or, refl, sym, ap, ◌∙◌, append_assoc, append-nil}
use Rattle.std.specs.List.{flat_map}
use Rattle.std.proofs.lemmas.List.{map-append, map_more, take_more}
use Rattle.std.proofs.lemmas.List.Concat.{flat_map-append}
use Rattle.std.proofs.lemmas.List.Elements.{filter-append}
use Rattle.prefix.specs.Literal.{Literal, negation}
use Rattle.clauses.specs.Clause.{as_row, is_tautology}
use Rattle.qcir.specs.declared.circuit.Gate.{Gate}
use Rattle.qcir.specs.declared.circuit.GateKind.TheVariants.{And, Or}
use Rattle.qcir.specs.Translation.{defining, gate_clauses, gate_literal, rows_of, written}
use Rattle.qcir.specs.Building.{literal_when, pairs}

pub rows_append : (xs ys : List (List Literal)) → rows_of (xs ++ ys) ≡ rows_of xs ++ rows_of ys
rows_append xs ys =
    ap (λ (ns : List (List ℤ)). map as_row (filter (λ c. not (is_tautology c)) ns)) (map-append written xs ys)
    ∙ ap (map as_row) (filter-append (λ c. not (is_tautology c)) (map written xs) (map written ys))
    ∙ map-append as_row (filter (λ c. not (is_tautology c)) (map written xs))
    (filter (λ c. not (is_tautology c)) (map written ys))

-- rows behind rows behind others
pub both_put : (start mid last : List (List Literal)) (xs ys : List (List Literal)) → mid ≡ start ++ rows_of xs
    → last ≡ mid ++ rows_of ys → last ≡ start ++ rows_of (xs ++ ys)
both_put start mid last xs ys first second =
    second ∙ ap (λ m. m ++ rows_of ys) first ∙ append_assoc start (rows_of xs) (rows_of ys)
    ∙ ap (λ r. start ++ r) (sym (rows_append xs ys))

-- one more of the clauses of literals
pub map_step : (f : Literal → List Literal) (xs : List Literal) (i : ℕ) (x : Literal)
    (start old new : List (List Literal)) → i < length xs → x ≡ get_or xs i x
    → old ≡ start ++ rows_of (map f (take i xs)) → new ≡ old ++ rows_of (f x ∷ [])
    → new ≡ start ++ rows_of (map f (take (i + 1) xs))
map_step f xs i x start old new low is before put =
    both_put start old new (map f (take i xs)) (f x ∷ []) before put
    ∙ ap (λ cs. start ++ rows_of cs) (ap (λ y. map f (take i xs) ++ f y ∷ []) is ∙ sym (map_more f xs i x low))

-- one more gate
pub gates_step : (gates : List Gate) (i : ℕ) (g : Gate) (start old new : List (List Literal))
    → i < length gates → g ≡ get_or gates i g → old ≡ start ++ rows_of (flat_map gate_clauses (take i gates))
    → new ≡ old ++ rows_of (gate_clauses g) → new ≡ start ++ rows_of (flat_map gate_clauses (take (i + 1) gates))
gates_step gates i g start old new low is before put =
    let more : flat_map gate_clauses (take i gates) ++ gate_clauses g ≡ flat_map gate_clauses (take (i + 1) gates) =
    ap (λ r. flat_map gate_clauses (take i gates) ++ r) (sym (append-nil (gate_clauses g)))
    ∙ sym (flat_map-append gate_clauses (take i gates) (g ∷ []))
    ∙ ap (λ h. flat_map gate_clauses (take i gates ++ h ∷ [])) is
    ∙ ap (flat_map gate_clauses) (sym (take_more gates i g low)) in
    both_put start old new (flat_map gate_clauses (take i gates)) (gate_clauses g) before put
    ∙ ap (λ cs. start ++ rows_of cs) more

all_kept : (xs : List Literal) → map (literal_when true) xs ≡ xs
all_kept [] = refl
all_kept (x ∷ xs) = ap (λ r. x ∷ r) (all_kept xs)

-- the clauses of a gate
module _ (start mid last : List (List Literal)) (g : Gate) (own minus : Literal) (inputs : List Literal)
    (is : own ≡ gate_literal g) (is_minus : minus ≡ negation own) (are : inputs ≡ g.inputs) where
  pub and_put : g.kind ≡ And → mid ≡ start ++ rows_of (pairs minus true inputs)
      → last ≡ mid ++ rows_of ((own ∷ map (literal_when false) inputs) ∷ []) → last ≡ start ++ rows_of (gate_clauses g)
  and_put kind first second =
      both_put start mid last (pairs minus true inputs) ((own ∷ map (literal_when false) inputs) ∷ []) first second
      ∙ ap (λ n. start ++ rows_of (pairs n true inputs ++ (own ∷ map (literal_when false) inputs) ∷ [])) is_minus
      ∙ ap (λ l. start ++ rows_of (defining And l inputs)) is
      ∙ ap (λ xs. start ++ rows_of (defining And (gate_literal g) xs)) are
      ∙ ap (λ k. start ++ rows_of (defining k (gate_literal g) g.inputs)) (sym kind)

  pub or_put : g.kind ≡ Or → mid ≡ start ++ rows_of (pairs own false inputs)
      → last ≡ mid ++ rows_of ((minus ∷ map (literal_when true) inputs) ∷ []) → last ≡ start ++ rows_of (gate_clauses g)
  or_put kind first second =
      both_put start mid last (pairs own false inputs) ((minus ∷ map (literal_when true) inputs) ∷ []) first second
      ∙ ap (λ n. start ++ rows_of (pairs own false inputs ++ (n ∷ map (literal_when true) inputs) ∷ [])) is_minus
      ∙ ap (λ xs. start ++ rows_of (pairs own false inputs ++ (negation own ∷ xs) ∷ [])) (all_kept inputs)
      ∙ ap (λ l. start ++ rows_of (defining Or l inputs)) is
      ∙ ap (λ xs. start ++ rows_of (defining Or (gate_literal g) xs)) are
      ∙ ap (λ k. start ++ rows_of (defining k (gate_literal g) g.inputs)) (sym kind)
