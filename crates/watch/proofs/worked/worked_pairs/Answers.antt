use Rattle.std.proofs.Common.{◌≡◌, ◌<◌, [], ◌∷◌, true, refl, sym, ap, subst, inl, inr, ⊎_elim, arith}
use Rattle.prefix.specs.declared.quant.Quant.TheVariants.{Exists}
use Rattle.calculus.proofs.Lists.{contains_cons, contains_nil}
use Rattle.watch.specs.Pairs.{HasGood, is_good_now}
use Rattle.std.proofs.lemmas.Bool.{true≢false, false≢true}
use Rattle.prefix.specs.Literal.{Literal}
use Rattle.calculus.specs.Rows.{depth_of}
use Rattle.watch.specs.Worked.{minus, none_good, one_not_two, plus, three_scopes, two_good}
use Rattle.watch.proofs.worked.worked_pairs.Goals as goal

two_good_is : HasGood Exists one_not_two two_good
two_good_is = record { literal = minus 2; stands = (2, omega arith, refl); good = refl }

none_good_is : HasGood Exists one_not_two none_good → ⊥
none_good_is h =
    ⊎_elim (λ e. false≢true (subst (λ (l : Literal). is_good_now Exists one_not_two l ≡ true) (sym e) h.good))
    (λ r. ⊎_elim (λ e. false≢true (subst (λ (l : Literal). is_good_now Exists one_not_two l ≡ true) (sym e) h.good))
    (λ n. contains_nil h.literal n)
    (contains_cons (plus 3) [] h.literal r))
    (contains_cons (minus 1) (plus 3 ∷ []) h.literal h.stands)

pub returns : goal.returns
returns c = record {
  two_pivots = record {
    different = λ e. true≢false (ap (λ (l : Literal). l.positive) e);
    first = refl;
    second =
        inl refl;
  };
  earlier_joins = record {
    different = λ e. absurd (let h : 2 ≡ 1 = ap (λ (l : Literal). l.variable) e in omega arith);
    first = refl;
    second = inr (omega arith);
  };
  later_joins_not = λ t. ⊎_elim (λ s. false≢true s) (λ (h : depth_of three_scopes 4 < depth_of three_scopes 2). absurd
      (let k : 3 < 2 = h in omega arith)) t.second;
  pivot_comes_first = λ t. false≢true t.first;
  different = λ t. t.different refl;
  pivot_of_cubes = record {
    different = λ e. absurd (let h : 4 ≡ 3 = ap (λ (l : Literal). l.variable) e in omega arith);
    first = refl;
    second = inr (omega arith);
  };
  partner = refl;
  no_partner_later = refl;
  no_partner_itself = refl;
  no_partner_bad = refl;
  free = refl;
  bad_is_not_free = refl;
  other_type_is_not_free = refl;
  good = refl;
  bad_is_not_good = refl;
  open_is_not_good = refl;
  good_of_cubes = refl;
  guarded = record { first = λ bad. two_good_is; second = λ bad. two_good_is };
  guarded_before = record { first = λ bad. absurd (false≢true bad); second = λ bad. absurd (false≢true bad) };
  open_guards_not = λ g. none_good_is (g.first refl);
}
