-- The tags of some steps, worked.
use Rattle.std.proofs.Common.{◌≡◌, ℕ, zero, suc, ◌<◌, ◌≤◌, true, false, Some, None, refl, sym, ap, ◌∙◌, inl, inr, ⊎_elim, subst, arith}
use Rattle.prefix.specs.declared.quant.Quant.{Quant}
use Rattle.prefix.specs.declared.quant.Quant.TheVariants.{Exists, Forall}
use Rattle.calculus.specs.Derivations.{Why}
use Rattle.calculus.specs.Derivations.Why.{Given, ReducedFrom, ResolvedFrom, FinishedFrom}
use Rattle.derive.specs.State.{Note, Notes, note_in, tag_in, is_finish}
use Rattle.derive.specs.Antecedents.{AreSupported, IsAntecedentIn, IsGreatestFrame, IsSupportedAt, Supports}
use Rattle.derive.specs.Antecedents.Supports.{itself, through}
use Rattle.derive.specs.Worked.{WorkedTags, three_frames}
use Rattle.derive.proofs.Tags.{greatest}

abbrev noted : Quant → Why → ℕ → Note
noted side why tag = record { side = side; why = why; tag = tag }

-- the note that stands there
one_of : (m n : Note) → Some m ≡ Some n → m ≡ n
one_of m n e = (let f : Some m ≡ Some n = e in cc)

none_is : (n : Note) → None ≡ Some n → ⊥
none_is n e = cc

-- what rests on nothing
given_there : (id : ℕ) (side : Quant) (tag : ℕ) → (side ≡ Forall → tag ≡ 0) → IsSupportedAt three_frames id
    (noted side Given tag)
given_there id side tag h = record { antecedents = λ on r. absurd r; tag = h }

resolvent_there : IsSupportedAt three_frames 3 (noted Exists (ResolvedFrom 1 0 3) 2)
resolvent_there = record {
  antecedents = λ on r. ⊎_elim
      (λ (e : 1 ≡ on). subst (IsAntecedentIn three_frames 3 Exists) e second)
      (λ (e : 0 ≡ on). subst (IsAntecedentIn three_frames 3 Exists) e first) r;
  tag = refl;
}
  where
    first : IsAntecedentIn three_frames 3 Exists 0
    first = record {
      under = noted Exists Given 0;
      there = refl;
      earlier = omega arith;
      one_side = refl;
      no_finish =
          refl;
    }

    second : IsAntecedentIn three_frames 3 Exists 1
    second = record {
      under = noted Exists Given 2;
      there = refl;
      earlier = omega arith;
      one_side = refl;
      no_finish =
          refl;
    }

over_resolvent : IsAntecedentIn three_frames 4 Exists 3
over_resolvent = record {
  under = noted Exists (ResolvedFrom 1 0 3) 2;
  there = refl;
  earlier = omega arith;
  one_side = refl;
  no_finish = refl;
}

over_cube : IsAntecedentIn three_frames 6 Forall 5
over_cube = record {
  under = noted Forall Given 0;
  there = refl;
  earlier = omega arith;
  one_side = refl;
  no_finish =
      refl;
}

reduction_there : IsSupportedAt three_frames 4 (noted Exists (ReducedFrom 3) 2)
reduction_there = record {
  antecedents = λ on (e : 3 ≡ on). subst (IsAntecedentIn three_frames 4 Exists) e over_resolvent;
  tag = refl;
}

finish_there : IsSupportedAt three_frames 6 (noted Forall (FinishedFrom 5) 0)
finish_there = record {
  antecedents = λ on (e : 5 ≡ on). subst (IsAntecedentIn three_frames 6 Forall) e over_cube;
  tag = refl;
}

not_theirs : Exists ≡ Forall → ⊥
not_theirs e = cc

-- the note that is told there stands
as_found : (id : ℕ) (m n : Note) → Some m ≡ Some n → IsSupportedAt three_frames id m → IsSupportedAt three_frames id n
as_found id m n e h = subst (IsSupportedAt three_frames id) (one_of m n e) h

all_supported : AreSupported three_frames
all_supported zero n e = as_found 0 _ n e (given_there 0 Exists 0 (λ f. refl))
all_supported (suc zero) n e = as_found 1 _ n e (given_there 1 Exists 2 (λ f. absurd (not_theirs f)))
all_supported (suc (suc zero)) n e = as_found 2 _ n e (given_there 2 Exists 5 (λ f. absurd (not_theirs f)))
all_supported (suc (suc (suc zero))) n e = as_found 3 _ n e resolvent_there
all_supported (suc (suc (suc (suc zero)))) n e = as_found 4 _ n e reduction_there
all_supported (suc (suc (suc (suc (suc zero))))) n e = as_found 5 _ n e (given_there 5 Forall 0 (λ f. refl))
all_supported (suc (suc (suc (suc (suc (suc zero)))))) n e = as_found 6 _ n e finish_there
all_supported (suc (suc (suc (suc (suc (suc (suc zero))))))) n e = absurd (none_is n e)
all_supported (suc (suc (suc (suc (suc (suc (suc (suc k)))))))) n e = absurd (none_is n e)

over_first : Supports three_frames 4 0
over_first =
    through 4 3 0 (noted Exists (ReducedFrom 3) 2) refl refl
    (through 3 0 0 (noted Exists (ResolvedFrom 1 0 3) 2) refl (inr refl) (itself 0 (noted Exists Given 0) refl refl))

over_second : Supports three_frames 4 1
over_second =
    through 4 3 1 (noted Exists (ReducedFrom 3) 2) refl refl
    (through 3 1 1 (noted Exists (ResolvedFrom 1 0 3) 2) refl (inl refl) (itself 1 (noted Exists Given 2) refl refl))

the_greatest : IsGreatestFrame three_frames 4 2
the_greatest = greatest three_frames all_supported 4 (noted Exists (ReducedFrom 3) 2) 2 refl refl

-- an input in the support of a step is given
is_given : (notes : Notes) (id input : ℕ) → Supports notes id input → (n : Note) × (note_in notes input ≡ Some n)
    × (n.why ≡ Given)
is_given notes id input (itself j n at given) = (n, at, given)
is_given notes id input (through j on i n at r s) = is_given notes on input s

pub tags : WorkedTags
tags = record {
  clause_of_any = λ e. absurd (not_theirs e);
  cube_of_none = λ e. refl;
  cube_of_one = λ h. let e : 1 ≡ 0 = h refl in omega (arith, e);
  greater_first = refl;
  greater_last = refl;
  not_the_less = λ h. let e : 0 ≡ 2 = h in omega (arith, e);
  not_the_sum = λ h. let e : 7 ≡ 5 = h in omega (arith, e);
  reduction = refl;
  not_its_own = λ h. let e : 4 ≡ 2 = h in omega (arith, e);
  finish = refl;
  not_another = λ h. let e : 2 ≡ 5 = h in omega (arith, e);
  antecedent = over_resolvent;
  later = λ a. let e : 3 < 3 = a.earlier in omega (arith, e);
  other_side = λ a. not_theirs
      (sym a.one_side ∙ ap (λ (n : Note). n.side) (sym (one_of (noted Forall Given 0) a.under a.there)));
  no_finish = λ a. finishes_not
      (ap (λ (n : Note). is_finish n.why) (one_of (noted Forall (FinishedFrom 5) 0) a.under a.there) ∙ a.no_finish);
  dropped = λ a. none_is a.under a.there;
  supported = all_supported;
  not_supported = λ h. let e : 0 ≡ 2 = (h 1 (noted Exists (ReducedFrom 0) 0) refl).tag in omega (arith, e);
  over_first = over_first;
  over_second = over_second;
  not_over_third = λ s. let e : 5 ≤ 2 = the_greatest.bound 2 s in omega (arith, e);
  not_a_resolvent = λ s. let g = is_given three_frames 4 3 s in
      not_given (ap (λ (n : Note). n.why) (one_of (noted Exists (ResolvedFrom 1 0 3) 2) g.0 g.1) ∙ g.2);
  greatest = the_greatest;
  not_less = λ h. let e : 2 ≤ 0 = h.bound 1 over_second in omega (arith, e);
  not_more = λ h. let e : tag_in (note_in three_frames h.reached.0) ≤ 2 = the_greatest.bound h.reached.0 h.reached.1 in
      let f : tag_in (note_in three_frames h.reached.0) ≡ 5 = h.reached.2 in omega (arith, e, f);
}
  where
    finishes_not : true ≡ false → ⊥
    finishes_not e = cc

    not_given : ResolvedFrom 1 0 3 ≡ Given → ⊥
    not_given e = cc
