use Rattle.std.proofs.Common.{◌≡◌, ℕ, ◌+◌, ◌∷◌, ◌++◌, [], take, drop, get_or, length, length-append, ap, sym, subst, ◌∙◌, true}
use Rattle.std.specs.Prelude.{IfSome, flat_map}
use Rattle.std.proofs.lemmas.List.{take_all}
use Rattle.prefix.specs.Scopes.{is_among, variables_at}
use Rattle.qdimacs.proofs.Building.{among_get}
use Rattle.ports.proofs.Pieces.{flat_more, flat_split}
use Rattle.blocks.proofs.Putting.{nothing, part_more, part_then, puts_err, whole_then}
use Rattle.blocks.specs.Held.{PassesOn, Puts}
use Rattle.engine.specs.Asks.{first_values, values_of}
use Rattle.files.specs.Jobs.{value_line}
use Rattle.files.proofs.Outermost.{lines_at, not_refused, value_at, value_told}
use Rattle.solve.proofs.Passing.{next_left, none_left}
use Rattle.files.proofs.file.put_values.Goals as goal

pub loop-var-init : goal.loop-var-init
loop-var-init g c = (
  λ v some won. nothing g.S.Sink.written g.S.Sink.flushed g.S.Sink.faults g.S.Sink.has_room
      c.args.sink.now c.args.block.now,
  c.into_iter-var-iterator.ensures.into_iter_gives.0 ∙ c.vars_of-var-items.ensures
      ∙ ap (λ ss. variables_at ss 1) c.prefix.ensures.value,
)

pub loop-var-preserved : goal.loop-var-preserved
loop-var-preserved g c =
    let e = c.args.engine.now in
    let vars = variables_at e.formula.scopes 1 in
    let i : ℕ = length c.loop-var.yielded in
    let x = c.in-Some.var.now in
    let next = next_left vars c.loop-var.var-iterator i x c.next.new.self c.loop-var.invariant.1
    c.in-Some.ensures.steps in
    let more : length (c.loop-var.yielded ++ c.in-Some.var ∷ []) ≡ i + 1 =
    length-append c.loop-var.yielded (c.in-Some.var ∷ []) in
    rw more (
      λ v some won.
          let f = value_at e.formula v in
          let here : f (get_or vars i x) ≡ value_line c.in-Ok.lit = ap f (next.item x)
          ∙ ap f (sym c.number.ensures.value) ∙ ap value_line (sym (subst (λ o. IfSome o (λ w. c.in-Ok.lit
          ≡ record { variable = c.number.result; positive = values_of e.formula w c.number.result })) some
          c.in-Ok.ensures.value)) in
          rw (flat_more f vars i x next.below, here)
          (whole_then g.S.Sink.written g.S.Sink.flushed g.S.Sink.faults g.S.Sink.has_room c.args.sink.now
          c.args.block.now c.loop-var.sink c.loop-var.block c.put_outermost.new.sink c.put_outermost.new.block
          (flat_map f (take i vars)) (value_line c.in-Ok.lit) (c.loop-var.invariant.0 v some won)
          c.in_ok-put_outermost.ensures),
      next.later,
    )

-- each variable of the first scope has a value
pub returns-in_default : goal.returns-in_default
returns-in_default g c v some won =
    let e = c.args.engine.now in
    let vars = variables_at e.formula.scopes 1 in
    let i : ℕ = length c.loop-var.yielded in
    let next = next_left vars c.loop-var.var-iterator i c.in-Some.var.now c.next.new.self c.loop-var.invariant.1
    c.in-Some.ensures.steps in
    let among : is_among c.number.result vars ≡ true =
    subst (λ y. is_among y vars ≡ true) (next.item 0 ∙ sym c.number.ensures.value) (among_get vars i next.below) in
    not_refused _ c.value.result (value_told e v c.number.result some won among) c.value.ensures.refused
    c.in_default.not-Ok

pub returns-in_err-put_outermost : goal.returns-in_err-put_outermost
returns-in_err-put_outermost g c v some won =
    let e = c.args.engine.now in
    let vars = variables_at e.formula.scopes 1 in
    let i : ℕ = length c.loop-var.yielded in
    let x = c.in-Some.var.now in
    let f = value_at e.formula v in
    let next = next_left vars c.loop-var.var-iterator i x c.next.new.self c.loop-var.invariant.1
    c.in-Some.ensures.steps in
    let here : f (get_or vars i x) ≡ value_line c.in-Ok.lit = ap f (next.item x)
    ∙ ap f (sym c.number.ensures.value) ∙ ap value_line (sym (subst (λ o. IfSome o (λ w. c.in-Ok.lit
    ≡ record { variable = c.number.result; positive = values_of e.formula w c.number.result })) some
    c.in-Ok.ensures.value)) in
    let text : flat_map value_line (first_values e.formula v)
    ≡ flat_map f (take i vars) ++ (value_line c.in-Ok.lit ++ flat_map f (drop (i + 1) vars)) =
    lines_at (values_of e.formula v) value_line vars ∙ flat_split f vars i x next.below
    ∙ ap (λ t. flat_map f (take i vars) ++ (t ++ flat_map f (drop (i + 1) vars))) here in
    subst (λ t. Puts g.S.Sink.written g.S.Sink.flushed g.S.Sink.faults g.S.Sink.has_room c.args.sink.now
    c.args.block.now c.put_outermost.new.sink c.put_outermost.new.block t c.from_residual.result) (sym text)
    (puts_err g.S.Sink.written g.S.Sink.flushed g.S.Sink.faults g.S.Sink.has_room _ c.from_residual.result
    c.args.sink.now c.args.block.now c.put_outermost.new.sink c.put_outermost.new.block _ c.from_residual.ensures.1
    (part_then g.S.Sink.written g.S.Sink.flushed g.S.Sink.faults g.S.Sink.has_room c.args.sink.now c.args.block.now
    c.loop-var.sink c.loop-var.block
    c.put_outermost.new.sink c.put_outermost.new.block (flat_map f (take i vars)) (value_line c.in-Ok.lit ++ flat_map f
    (drop (i + 1) vars))
    (c.loop-var.invariant.0 v some won)
    (part_more g.S.Sink.written g.S.Sink.flushed g.S.Sink.faults g.S.Sink.has_room c.loop-var.sink c.loop-var.block
    c.put_outermost.new.sink c.put_outermost.new.block (value_line c.in-Ok.lit) (flat_map f (drop (i + 1) vars))
    c.in_err-put_outermost.ensures)))

pub returns : goal.returns
returns g c v some won =
    let e = c.args.engine.now in
    let vars = variables_at e.formula.scopes 1 in
    let i : ℕ = length c.loop-var.yielded in
    let f = value_at e.formula v in
    let all : take i vars ≡ vars =
    take_all i vars (none_left vars c.loop-var.var-iterator i c.loop-var.invariant.1 c.in-None.ensures.steps.0) in
    subst (PassesOn g.S.Sink.written g.S.Sink.flushed g.S.Sink.faults g.S.Sink.has_room c.args.sink.now c.args.block.now
    c.loop-var.sink c.loop-var.block)
    (ap (flat_map f) all ∙ sym (lines_at (values_of e.formula v) value_line vars))
    (c.loop-var.invariant.0 v some won)
