-- A derivation stays legal under a prefix that agrees on the variables of its rows.
use Rattle.std.proofs.Common.{◌≡◌, List, Contains, sym, refl, ◌∙◌, true}
use Rattle.prefix.specs.Scopes.{Scope}
use Rattle.prefix.specs.Literal.{Literal}
use Rattle.prefix.specs.declared.quant.Quant.{Quant}
use Rattle.calculus.specs.Derivations.{AgreeOn, AreInputs, StandsIn, IsDerivation, IsLegalStep, Step, Why}
use Rattle.calculus.specs.Derivations.Why.{FinishedFrom, Given, ReducedFrom, ResolvedFrom}
use Rattle.calculus.specs.Rows.{Row, reduce}
use Rattle.calculus.proofs.Lists.{contains_map_of}
use Rattle.calculus.proofs.RowLaws.{reduce_reads}

module _ (old new : List Scope) (before after : List Row) (steps : List Step) (agree : AgreeOn old new (StandsIn steps))
    (inputs : AreInputs after steps) (d : IsDerivation old before steps) where
  stands : (s : Step) → Contains steps s → (l : Literal) → Contains s.row l → StandsIn steps l.variable
  stands s i l j = (s, i, contains_map_of (λ (k : Literal). k.variable) s.row l j)

  reduce_same : (pivot : Quant) (s : Step) → Contains steps s → reduce pivot old s.row ≡ reduce pivot new s.row
  reduce_same pivot s i = reduce_reads pivot old new s.row (λ l j. agree.quantifiers l.variable (stands s i l j))
      (λ l m j k. agree.depths l.variable m.variable (stands s i l j) (stands s i m k))

  changed_step : (s : Step) → Contains steps s → (why : Why) → s.why ≡ why → IsLegalStep old before steps s why
      → IsLegalStep new after steps s why
  changed_step s i Given e legal = inputs s i e
  changed_step s i (ReducedFrom a) e legal = record {
    from = legal.from;
    removes = legal.removes;
    result = legal.result
        ∙ reduce_same s.side legal.from.step legal.from.stands;
  }
  changed_step s i (ResolvedFrom a b x) e legal = record {
    from_positive = legal.from_positive;
    from_negative = legal.from_negative;
    has_positive = legal.has_positive;
    has_negative = legal.has_negative;
    is_pivot_variable =
        sym (agree.quantifiers x
        (stands legal.from_positive.step legal.from_positive.stands (record { variable = x; positive = true })
        legal.has_positive)) ∙ legal.is_pivot_variable;
    no_clash = legal.no_clash;
    result = legal.result;
  }
  changed_step s i (FinishedFrom a) e legal = absurd legal

  pub agreed_derivation : IsDerivation new after steps
  agreed_derivation = record {
    ascending_ids = d.ascending_ids;
    rows = λ s i. record {
      ascending = (d.rows s i).ascending;
      over_prefix = λ l j. agree.has l.variable
          (stands s i l j);
    };
    legal = λ s i. changed_step s i s.why refl (d.legal s i);
  }
