-- The worked values.
use Rattle.std.proofs.Common.{◌≡◌, [], ◌∷◌, Contains, refl, sym, ap, ⊎_elim, arith}
use Rattle.std.proofs.lemmas.Bool.{true≢false}
use Rattle.calculus.proofs.Lists.{contains_cons, contains_head, contains_nil}
use Rattle.cores.specs.Cores.{Group, IsCore}
use Rattle.cores.specs.Worked.{WorkedCores, doubled, first_one, second_one, third_one, two_variables}
use Rattle.cores.proofs.Minimal.{contains_left, core_is}

numbers_differ : (g : Group) → g.number ≡ 1 → Contains (second_one ∷ third_one ∷ []) g → ⊥
numbers_differ g one i =
    ⊎_elim
    (λ (e : second_one ≡ g). (let n : 2 ≡ g.number = ap (λ (x : Group). x.number) e in omega (arith, n, one)))
    (λ j. ⊎_elim
    (λ (e : third_one ≡ g). (let n : 3 ≡ g.number = ap (λ (x : Group). x.number) e in omega (arith, n, one)))
    (λ n. contains_nil g n)
    (contains_cons third_one [] g j))
    (contains_cons second_one (third_one ∷ []) g i)

last_two_are : IsCore [] two_variables [] doubled (second_one ∷ third_one ∷ [])
last_two_are = core_is [] two_variables [] doubled refl

first_two_are : IsCore [] two_variables [] (first_one ∷ second_one ∷ []) (first_one ∷ second_one ∷ [])
first_two_are = core_is [] two_variables [] (first_one ∷ second_one ∷ []) refl

pub cores : WorkedCores
cores = record {
  refuted = refl;
  satisfied = refl;
  last_two = refl;
  first_two = refl;
  all_three = refl;
  assumed_false = refl;
  assumed_true = refl;
  with_others = refl;
  of_others = refl;
  is_core = last_two_are;
  other_core = record {
    refuted = first_two_are.refuted;
    minimal = first_two_are.minimal;
    among = λ g i. contains_left (first_one ∷ second_one ∷ []) (third_one ∷ []) g i;
  };
  not_minimal = λ h. true≢false (sym (h.minimal [] (second_one ∷ third_one ∷ []) first_one refl));
  not_refuted = λ h. true≢false h.refuted;
  not_among = λ h. numbers_differ first_one refl (h.among first_one (contains_head first_one (second_one ∷ [])));
}
