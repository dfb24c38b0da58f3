use Rattle.std.proofs.Common.{◌<◌, ◌++◌, ◌∷◌, [], sym, ap, ◌∙◌, arith, length, map, refl, get_or-set_other}
use Rattle.qdimacs.specs.Formula.{in_order}
use Rattle.qdimacs.specs.Kept.{sets_of}
use Rattle.qdimacs.proofs.Fitting.{row_new}
use Rattle.qdimacs.proofs.InOrder.{row_step, as_long}
use Rattle.qdimacs.proofs.sets.Sets.prefix.Goals as goal

pub loop-i-preserved : goal.loop-i-preserved
loop-i-preserved c =
    let rows = c.loop-i.self.rows.items in
    let all = map in_order (sets_of c.args.self.now.rows.items) in
    let row = c.index_mut-row.result.now in
    let low : c.loop-i.i < length rows = omega (
      arith,
      c.loop-i-test.true,
      c.loop-i.auto.i-end,
      c.len-i-end.ensures,
      as_long rows c.args.self.now.rows.items c.loop-i.invariant.same,
    ) in
    let both = row_step rows c.loop-i.i row (record { quant = row.quant; vars = c.sort_unstable.new.self }) all low
    c.index_mut-row.ensures.value refl c.sort_unstable.ensures.permutation c.loop-i.invariant.same in
    record {
      done = c.in_ok-add_scope.ensures.ok ∙ ap (λ vs. c.loop-i.prefix ++ in_order (row.quant, vs) ∷ [])
          c.deref.ensures.value ∙ ap (λ p. p ++ in_order (row.quant, c.sort_unstable.new.self.items) ∷ [])
          c.loop-i.invariant.done ∙ sym both.0;
      same = both.1;
      marks = c.loop-i.invariant.marks;
      rest = λ j d le. get_or-set_other rows c.loop-i.i j _ d (λ e. omega (arith, e, le)) ∙ c.loop-i.invariant.rest j d
          (omega (arith, le));
    }

pub add_scope-requires-clause-new : goal.add_scope-requires-clause-new
add_scope-requires-clause-new c =
    let rows = c.args.self.now.rows.items in
    let now = c.loop-i.self.rows.items in
    let row = c.index_mut-row.result.now in
    let low : c.loop-i.i < length rows = omega (arith, c.loop-i-test.true, c.loop-i.auto.i-end, c.len-i-end.ensures) in
    row_new rows now c.loop-i.i row _ c.loop-i.prefix c.requires low c.index_mut-row.ensures.value
    (c.loop-i.invariant.rest c.loop-i.i row (omega arith)) c.loop-i.invariant.done
    (rw c.deref.ensures.value c.sort_unstable.ensures.permutation)

pub returns-in_err-add_scope-clause-same : goal.returns-in_err-add_scope-clause-same
returns-in_err-add_scope-clause-same c =
    let rows = c.loop-i.self.rows.items in
    let all = map in_order (sets_of c.args.self.now.rows.items) in
    let row = c.index_mut-row.result.now in
    let low : c.loop-i.i < length rows = omega (
      arith,
      c.loop-i-test.true,
      c.loop-i.auto.i-end,
      c.len-i-end.ensures,
      as_long rows c.args.self.now.rows.items c.loop-i.invariant.same,
    ) in
    (row_step rows c.loop-i.i row (record { quant = row.quant; vars = c.sort_unstable.new.self }) all low
    c.index_mut-row.ensures.value refl c.sort_unstable.ensures.permutation c.loop-i.invariant.same).1

pub returns-in_err-add_scope-clause-marks : goal.returns-in_err-add_scope-clause-marks
returns-in_err-add_scope-clause-marks c = c.loop-i.invariant.marks

pub returns-clause-marks : goal.returns-clause-marks
returns-clause-marks c = c.loop-i.invariant.marks
