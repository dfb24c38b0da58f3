use Rattle.std.proofs.Common.{◌≡◌, ◌+◌, true, false, ℕ, length, refl, sym, ap, subst, ◌∙◌}
use Rattle.calculus.specs.Rows.{IsRow}
use Rattle.frames.specs.Commands.{exceeds}
use Rattle.frames.specs.State.{FramesState}
use Rattle.frames.specs.declared.total.Total.{Total}
use Rattle.frames.specs.Kept.{outside}
use Rattle.frames.specs.Places.{with_joined}
use Rattle.frames.proofs.Holding.{beyond_is, counted_put, held_put}
use Rattle.frames.proofs.Keeping.{put_frames, put_leaving, view_put}
use Rattle.frames.proofs.frames.Frames.put.Goals as goal

pub invariant_of-self-2 : goal.invariant_of-self-2
invariant_of-self-2 c =
    let self = c.self.inside in
    let long : length c.lits-added.result.now ≡ length c.args.row = ap length c.lits-added.ensures in
    let fits : exceeds self.total.clauses self.total.literals (length c.args.row) ≡ false =
    ap (exceeds self.total.clauses self.total.literals) (sym long) ∙ sym c.is_beyond.ensures ∙ c.if-is_beyond.false in
    let row : IsRow self.prefix c.args.row =
    subst (λ (s : FramesState). IsRow s.formula.scopes c.args.row) (sym c.self.view_is) c.requires in
    rw c.in_ok-put_row.ensures.groups (
      put_frames self.prefix self.starts.items self.rows.items c.put_row.new.rows.items self.vars.items
          (outside self.latest self.groups.current) c.args.row self.groups.current c.in_ok-put_row.ensures.rows
          row c.self.invariant.0,
      c.self.invariant.1,
      put_leaving self.version self.prefix self.starts.items self.rows.items c.put_row.new.rows.items self.vars.items
          c.args.row self.groups.current c.in_ok-put_row.ensures.rows c.self.invariant.0.ascending
          c.self.invariant.2,
      held_put self.version self.prefix self.starts.items self.rows.items self.vars.items self.groups self.latest
          c.args.row row c.put_row.ensures.order c.self.invariant.2 c.self.invariant.3,
      counted_put self.total c.add.new.self self.rows.items c.put_row.new.rows.items self.groups
          (with_joined c.args.row self.groups) c.args.row c.in_ok-put_row.ensures.rows refl
          c.put_row.ensures.order fits (ap (λ (t : Total). t.clauses) c.add.ensures)
          (ap (λ (t : Total). t.literals) c.add.ensures ∙ ap (λ (k : ℕ). self.total.literals + k) long)
          c.self.invariant.4,
    )

pub returns-clause-ok : goal.returns-clause-ok
returns-clause-ok c =
    let self = c.self.inside in
    rw (← c.self.view_is) (view_put self.version self.prefix self.starts.items self.rows.items
    c.put_row.new.rows.items self.vars.items self.groups c.put_row.new.groups self.assumptions c.args.row
    c.in_ok-put_row.ensures.rows c.in_ok-put_row.ensures.groups c.self.invariant.0.ascending)

pub returns-then-is_beyond-clause-within : goal.returns-then-is_beyond-clause-within
returns-then-is_beyond-clause-within c =
    let self = c.self.inside in
    let wide : exceeds self.total.clauses self.total.literals (length c.args.row) ≡ true =
    ap (exceeds self.total.clauses self.total.literals) (sym (ap length c.lits-added.ensures)) ∙ sym c.is_beyond.ensures
    ∙ c.if-is_beyond.true in
    rw (
      ← c.self.view_is,
      beyond_is self.total self.starts.items self.rows.items self.vars.items self.groups.groups (length c.args.row)
          c.self.invariant.4,
    ) (λ f. absurd (let clash : true ≡ false = sym wide ∙ f in cc))

pub returns-in_err-put_row-clause-limit : goal.returns-in_err-put_row-clause-limit
returns-in_err-put_row-clause-limit c =
    let self = c.self.inside in
    let fits : exceeds self.total.clauses self.total.literals (length c.args.row) ≡ false =
    ap (exceeds self.total.clauses self.total.literals) (sym (ap length c.lits-added.ensures)) ∙ sym c.is_beyond.ensures
    ∙ c.if-is_beyond.false in
    rw (
      ← c.self.view_is,
      beyond_is self.total self.starts.items self.rows.items self.vars.items self.groups.groups (length c.args.row)
          c.self.invariant.4,
    ) (λ t. absurd (let clash : true ≡ false = sym t ∙ fits in cc))

pub returns-clause-limit : goal.returns-clause-limit
returns-clause-limit c =
    let self = c.self.inside in
    let fits : exceeds self.total.clauses self.total.literals (length c.args.row) ≡ false =
    ap (exceeds self.total.clauses self.total.literals) (sym (ap length c.lits-added.ensures)) ∙ sym c.is_beyond.ensures
    ∙ c.if-is_beyond.false in
    rw (
      ← c.self.view_is,
      beyond_is self.total self.starts.items self.rows.items self.vars.items self.groups.groups (length c.args.row)
          c.self.invariant.4,
    ) (λ t. absurd (let clash : true ≡ false = sym t ∙ fits in cc))
