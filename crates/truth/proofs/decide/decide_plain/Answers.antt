use Rattle.std.proofs.Common.{◌≡◌, ℕ, ◌+◌, Bool, true, false, [], ◌∷◌, ◌++◌, length, Option, None, Result, Err, sym, ap, ◌∙◌, arith}
use Rattle.std.proofs.lemmas.List.{length_push}
use Rattle.std.proofs.lemmas.Result.{err_from_is_err_and}
use Rattle.steps.specs.declared.stop.Stop.{Stop}
use Rattle.steps.specs.declared.stop.Stop.TheVariants.{Spent}
use Rattle.steps.specs.Counter.{Counter}
use Rattle.truth.specs.Truth.{settles}
use Rattle.truth.specs.Search.{Tried}
use Rattle.truth.proofs.PlainSteps.{plain_steps_limit}
use Rattle.truth.proofs.ResumeLemmas.{Outcome, Clauses, outcome, one_more, outcome_chosen, outcome_settled, outcome_again, has_place}
use Rattle.truth.proofs.decide.decide_plain.Goals as goal
use Rattle.truth.proofs.decide.decide_plain.Goals.{then-value-via-then-value, then-value-via-else-value+then-settles}

err_is : (x y : Stop) → ◌≡◌ {A = Result Bool Stop} (Err x) (Err y) → x ≡ y
err_is x y e = cc

pub loop-answer-smaller-then-value : goal.loop-answer-smaller-then-value
loop-answer-smaller-then-value c =
    let a = c.in-Some-take_back.ensures in
    let settled : c.in-Some-take_back.value ≡ false → settles c.in-Some-take_back.quant c.in-Some.found ≡ true =
    elim c.then-value.branch [
      | then-value-via-then-value w ↦ λ e. cc
      | then-value-via-else-value+then-settles w ↦
          λ e. cc
    ] in
    let same = ap (outcome c.loop-answer.search c.args.f.now.clauses) c.in-Some.is
    ∙ outcome_settled c.loop-answer.search c.take_back.new.self _ c.in-Some.found _ c.args.f.now.clauses
    (sym a.order) a.some a.quantifier settled in
    omega (
      arith,
      ap (λ (o : Outcome). o.ticks) same,
      ap length a.some ∙ length_push c.take_back.new.self.values
          c.in-Some-take_back.value,
    )

pub loop-answer-preserved-then-value : goal.loop-answer-preserved-then-value
loop-answer-preserved-then-value c =
    let a = c.in-Some-take_back.ensures in
    let i = c.loop-answer.invariant in
    let settled : c.in-Some-take_back.value ≡ false → settles c.in-Some-take_back.quant c.in-Some.found ≡ true =
    elim c.then-value.branch [
      | then-value-via-then-value w ↦ λ e. cc
      | then-value-via-else-value+then-settles w ↦
          λ e. cc
    ] in
    let same = ap (outcome c.loop-answer.search c.args.f.now.clauses) c.in-Some.is
    ∙ outcome_settled c.loop-answer.search c.take_back.new.self _ c.in-Some.found _ c.args.f.now.clauses
    (sym a.order) a.some a.quantifier settled in
    record {
      order_is = a.order ∙ i.order_is;
      answer_is = ap (λ (o : Outcome). o.answer) (sym same) ∙ i.answer_is;
      ticks_are = ap (λ (o : Outcome). c.loop-answer.steps.spent + o.ticks) (sym same) ∙ i.ticks_are;
      later = i.later;
      room = i.room;
      budget_is = i.budget_is;
    }

pub try_value-requires : goal.try_value-requires
try_value-requires c = has_place c.take_back.new.self.order _ _ c.in-Some-take_back.ensures.quantifier

pub returns-in_err-try_value-clause-spent : goal.returns-in_err-try_value-clause-spent
returns-in_err-try_value-clause-spent c = λ e.
    let a = c.in_err-try_value.ensures in
    let b = c.in-Some-take_back.ensures in
    let p = err_from_is_err_and c.from_residual-in_err-try_value.result c.from_residual-in_err-try_value.ensures.1 in
    let is_spent : c.in_err-try_value.field-0.0 ≡ Spent = sym p.2 ∙ err_is p.0 Spent (sym p.1 ∙ e) in
    let was : Err c.in_err-try_value.field-0.0 ≡ (let r : Result (Unit {0}) Stop = Err Spent in r) = ap Err is_spent in
    let old_values = b.some ∙ ap (λ t. c.take_back.new.self.values ++ t ∷ []) c.if-value.false in
    let same = ap (outcome c.loop-answer.search c.args.f.now.clauses) c.in-Some.is ∙ outcome_again c.loop-answer.search
    c.take_back.new.self c.in-Some.found _ c.args.f.now.clauses (sym b.order) old_values b.quantifier
    (sym c.settles.ensures ∙ c.if-settles.false) in
    omega (
      arith,
      a.spent was,
      ap (λ (s : Counter). s.spent) (a.unchanged was),
      ap (λ (s : Counter). s.budget)
          (a.unchanged was),
      ap (λ (o : Outcome). o.ticks) same,
    )

pub loop-answer-smaller-in-Some : goal.loop-answer-smaller-in-Some
loop-answer-smaller-in-Some c =
    let a = c.in-Some-take_back.ensures in
    let b = c.in_ok-try_value.ensures in
    let old_values = a.some ∙ ap (λ t. c.take_back.new.self.values ++ t ∷ []) c.if-value.false in
    let same = ap (outcome c.loop-answer.search c.args.f.now.clauses) c.in-Some.is ∙ outcome_again c.loop-answer.search
    c.take_back.new.self c.in-Some.found _ c.args.f.now.clauses (sym a.order) old_values a.quantifier
    (sym c.settles.ensures ∙ c.if-settles.false) ∙ ap (λ s. one_more (outcome s c.args.f.now.clauses None))
    (sym b.search) in
    omega (
      arith,
      ap (λ (o : Outcome). o.ticks) same,
      ap length old_values,
      length_push c.take_back.new.self.values
          false,
      ap (λ (s : Tried). length s.values) b.search,
      length_push c.take_back.new.self.values true,
    )

pub loop-answer-preserved-in-Some : goal.loop-answer-preserved-in-Some
loop-answer-preserved-in-Some c =
    let a = c.in-Some-take_back.ensures in
    let b = c.in_ok-try_value.ensures in
    let i = c.loop-answer.invariant in
    let old_values = a.some ∙ ap (λ t. c.take_back.new.self.values ++ t ∷ []) c.if-value.false in
    let same = ap (outcome c.loop-answer.search c.args.f.now.clauses) c.in-Some.is ∙ outcome_again c.loop-answer.search
    c.take_back.new.self c.in-Some.found _ c.args.f.now.clauses (sym a.order) old_values a.quantifier
    (sym c.settles.ensures ∙ c.if-settles.false) ∙ ap (λ s. one_more (outcome s c.args.f.now.clauses None))
    (sym b.search) in
    record {
      order_is = ap (λ (s : Tried). s.order) b.search ∙ a.order ∙ i.order_is;
      answer_is = ap (λ (o : Outcome). o.answer) (sym same) ∙ i.answer_is;
      ticks_are = omega (arith, ap (λ (o : Outcome). o.ticks) same, i.ticks_are, ap (λ (s : Counter). s.spent) b.steps);
      later = omega (arith, i.later, ap (λ (s : Counter). s.spent) b.steps);
      room = omega (arith, b.within, i.later, b.budget, i.budget_is);
      budget_is = b.budget ∙ i.budget_is;
    }

pub loop-answer-smaller : goal.loop-answer-smaller
loop-answer-smaller c =
    let b = c.in_ok-try_value-2.ensures in
    let same = ap (outcome c.loop-answer.search c.args.f.now.clauses) c.in_default.is
    ∙ outcome_chosen c.loop-answer.search c.args.f.now.clauses (c.is_full.ensures.open c.if-is_full.false)
    ∙ ap (λ s. one_more (outcome s c.args.f.now.clauses None)) (sym b.search) in
    rw c.in_default.is
    (omega (
      arith,
      sym (ap (outcome_ticks c.loop-answer.search c.args.f.now.clauses) c.in_default.is)
          ∙ ap (λ (o : Outcome). o.ticks) same,
      ap (λ (s : Tried). length s.values) b.search,
      length_push c.loop-answer.search.values false,
    ))
  where
    outcome_ticks : Tried → Clauses → Option Bool → ℕ
    outcome_ticks s cs o = (outcome s cs o).ticks

pub loop-answer-preserved : goal.loop-answer-preserved
loop-answer-preserved c =
    let b = c.in_ok-try_value-2.ensures in
    let i = c.loop-answer.invariant in
    let same = ap (outcome c.loop-answer.search c.args.f.now.clauses) c.in_default.is
    ∙ outcome_chosen c.loop-answer.search c.args.f.now.clauses (c.is_full.ensures.open c.if-is_full.false)
    ∙ ap (λ s. one_more (outcome s c.args.f.now.clauses None)) (sym b.search) in
    rw c.in_default.is (record {
      order_is = ap (λ (s : Tried). s.order) b.search ∙ i.order_is;
      answer_is = ap (λ (o : Outcome). o.answer) (sym same) ∙ i.answer_is;
      ticks_are = omega (arith, ap (λ (o : Outcome). o.ticks) same, i.ticks_are, ap (λ (s : Counter). s.spent) b.steps);
      later = omega (arith, i.later, ap (λ (s : Counter). s.spent) b.steps);
      room = omega (arith, b.within, i.later, b.budget, i.budget_is);
      budget_is = b.budget ∙ i.budget_is;
    })

pub returns-in_err-try_value-2-clause-spent : goal.returns-in_err-try_value-2-clause-spent
returns-in_err-try_value-2-clause-spent c = λ e.
    let a = c.in_err-try_value-2.ensures in
    let p = err_from_is_err_and c.from_residual-in_err-try_value-2.result c.from_residual-in_err-try_value-2.ensures.1
    in
    let is_spent : c.in_err-try_value-2.field-0.0 ≡ Spent = sym p.2 ∙ err_is p.0 Spent (sym p.1 ∙ e) in
    let was : Err c.in_err-try_value-2.field-0.0 ≡ (let r : Result (Unit {0}) Stop = Err Spent in r) =
    ap Err is_spent in
    let same = ap (outcome c.loop-answer.search c.args.f.now.clauses) c.in_default.is
    ∙ outcome_chosen c.loop-answer.search c.args.f.now.clauses (c.is_full.ensures.open c.if-is_full.false) in
    omega (
      arith,
      a.spent was,
      ap (λ (s : Counter). s.spent) (a.unchanged was),
      ap (λ (s : Counter). s.budget)
          (a.unchanged was),
      ap (λ (o : Outcome). o.ticks) same,
    )

pub returns-in_err-try_value-clause-never : goal.returns-in_err-try_value-clause-never
returns-in_err-try_value-clause-never c = λ h e. absurd
    (omega (
      arith,
      h,
      returns-in_err-try_value-clause-spent c e,
      plain_steps_limit c.args.f.now.prefix
          c.args.f.now.clauses,
    ))

pub returns-in_err-try_value-2-clause-never : goal.returns-in_err-try_value-2-clause-never
returns-in_err-try_value-2-clause-never c = λ h e. absurd
    (omega (
      arith,
      h,
      returns-in_err-try_value-2-clause-spent c e,
      plain_steps_limit c.args.f.now.prefix
          c.args.f.now.clauses,
    ))
