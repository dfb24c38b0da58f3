use Rattle.std.proofs.Common.{Contains, subst}
use Rattle.calculus.specs.Rows.{Row}
use Rattle.derive.specs.State.{row_of}
use Rattle.clean.proofs.Keeping.{step_row}
use Rattle.analyse.specs.Levels.{IsLevelBelow}
use Rattle.analyse.proofs.Minimising.{makes_first, part_makes}
use Rattle.analyse.proofs.analysis.learned.Goals as goal

pub minimised-row-requires-clause-stands : goal.minimised-row-requires-clause-stands
minimised-row-requires-clause-stands g c = c.requires.makes.last.stands

pub level_below-level-requires : goal.level_below-level-requires
level_below-level-requires g c = λ l i must.
    (c.requires.makes.below l (c.minimised-row.ensures.part l (subst (λ (r : Row). Contains r l) c.lits.ensures i))
    must).0

pub returns-clause-lesson : goal.returns-clause-lesson
returns-clause-lesson g c =
    let trail = c.args.trail.now.placed in
    let row = row_of c.minimised-row.new.derivation c.minimised-row.result in (
      c.minimised-row.ensures.step,
      makes_first g.S.Side.PIVOT c.args.prefix.now trail row c.args.lit
          (step_row c.args.prefix.now c.minimised-row.new.derivation c.minimised-row.result
          c.minimised-row.ensures.cleanable.legal c.minimised-row.ensures.step.step)
          (part_makes g.S.Side.PIVOT c.args.prefix.now trail (row_of c.args.derivation.now c.args.row) c.args.lit row
          c.requires.makes c.minimised-row.ensures.stands c.minimised-row.ensures.part)
          c.level_below-level.result
          (subst (λ (r : Row). IsLevelBelow g.S.Side.PIVOT c.args.prefix.now trail c.args.lit r
          c.level_below-level.result) c.lits.ensures c.level_below-level.ensures),
    )
