use Rattle.std.proofs.Common.{refl}
use Rattle.engine.proofs.Changing.{none_long}
use Rattle.engine.proofs.engine.Engine.with_version.Goals as goal

pub returns : goal.returns
returns c =
    let none = none_long c.new.result c.new.ensures.resting c.new.ensures.watched in
    rw (c.with_version.ensures, c.new-2.ensures, none) refl
