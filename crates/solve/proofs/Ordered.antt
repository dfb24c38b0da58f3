-- The proofs of verdicts have their inputs first.
use Rattle.std.proofs.Common.{◌≡◌, ◌∙◌, ℕ, Bool, true, false, not, List, [], ◌∷◌, ◌++◌, Contains, cond, filter, refl, sym, ap, ap₂, append-nil, append_assoc}
use Rattle.std.specs.List.{list_all}
use Rattle.std.proofs.lemmas.Bool.{cond-false}
use Rattle.std.proofs.lemmas.List.Elements.{filter-append}
use Rattle.prefix.specs.Literal.{Literal}
use Rattle.calculus.specs.Rows.{Row}
use Rattle.calculus.specs.Derivations.{Inference, core_order, inferences_of, is_input, side_core}
use Rattle.calculus.specs.Verdicts.{finish_of, finish_steps, is_assumed}
use Rattle.calculus.proofs.Lists.{contains_head, contains_tail, filter_all, filter_at}
use Rattle.derive.specs.State.{State, steps_of, why_at}
use Rattle.step_core.specs.Cores.{end_row_in, proof_at, step_under}

not_true : (b : Bool) → not b ≡ true → b ≡ false
not_true true e = sym e
not_true false e = refl

module _ {X : Type 0} (p : X → Bool) where
  -- nothing is kept where nothing passes
  none_pass : (xs : List X) → ((x : X) → Contains xs x → p x ≡ false) → filter p xs ≡ []
  none_pass [] none = refl
  none_pass (x ∷ xs) none = cond-false (p x) (x ∷ filter p xs) (filter p xs) (none x (contains_head x xs))
      ∙ none_pass xs (λ y i. none y (contains_tail x xs y i))

-- What passes comes first, then what doesn't, and then more that doesn't: such a list is in that order already.
module _ {X : Type 0} (p : X → Bool) (xs zs : List X) (none : filter p zs ≡ [])
    (all : filter (λ x. not (p x)) zs ≡ zs) where
  abbrev first : List X
  first = filter p xs

  abbrev second : List X
  second = filter (λ x. not (p x)) xs

  passes : filter p ((first ++ second) ++ zs) ≡ first
  passes = filter-append p (first ++ second) zs
      ∙ ap₂ (λ front back. front ++ back) (filter-append p first second
      ∙ ap₂ (λ front back. front ++ back) (filter_all p first (λ x i. (filter_at p xs x i).1))
      (none_pass p second (λ x i. not_true (p x) (filter_at (λ y. not (p y)) xs x i).1))) none
      ∙ append-nil (first ++ []) ∙ append-nil first

  others : filter (λ x. not (p x)) ((first ++ second) ++ zs) ≡ second ++ zs
  others = filter-append (λ x. not (p x)) (first ++ second) zs
      ∙ ap₂ (λ front back. front ++ back) (filter-append (λ x. not (p x)) first second
      ∙ ap₂ (λ front back. front ++ back)
      (none_pass (λ x. not (p x)) first (λ x i. ap not (filter_at p xs x i).1))
      (filter_all (λ x. not (p x)) second (λ x i. (filter_at (λ y. not (p y)) xs x i).1))) all

  stays_ordered : filter p ((first ++ second) ++ zs) ++ filter (λ x. not (p x)) ((first ++ second) ++ zs)
      ≡ (first ++ second) ++ zs
  stays_ordered = ap₂ (λ front back. front ++ back) passes others ∙ sym (append_assoc first second zs)

-- a finish is no input
finish_last : (assumptions : List Literal) (row : Row) (steps : List Inference)
    → core_order (core_order steps ++ finish_steps assumptions row) ≡ core_order steps ++ finish_steps assumptions row
finish_last assumptions row steps = by (list_all (is_assumed assumptions) row)
  where
    by : (b : Bool) → core_order (core_order steps ++ cond b [] (finish_of assumptions row ∷ []))
        ≡ core_order steps ++ cond b [] (finish_of assumptions row ∷ [])
    by true = stays_ordered (λ (s : Inference). is_input s.reason) steps [] refl refl
    by false = stays_ordered (λ (s : Inference). is_input s.reason) steps (finish_of assumptions row ∷ []) refl refl

-- the proof of a verdict has its inputs first
pub proof_ordered : (d : State) (assumptions : List Literal) (end : ℕ)
    → core_order (proof_at d assumptions end) ≡ proof_at d assumptions end
proof_ordered d assumptions end =
    let last = step_under d (end_row_in (why_at d end) end) in
    finish_last assumptions last.row (inferences_of (side_core (steps_of d) last))
