-- What a handle owns.
use Rattle.std.specs.Prelude.{Bool, true, false}
use base.Fml.{Fml, ftrue}
use base.Stored.{Coded}
use denote.RawPtr.{Ptr}
use Rattle.std.specs.declared.alloc.Global.{Global}
use Rattle.std.specs.contracts.impls.GlobalAllocator.TheImpl.{ghosts}
use Rattle.std_alloc.specs.Box.Ownership.{box_owns}
use Rattle.engine.specs.contracts.engine.Engine.{the_row}

abbrev pub engine_coded : Coded the_row.Denot
engine_coded = the_row.coded

-- where it is live, the engine at p and the right to free its block; else nothing
abbrev pub handle_owns : Global → Bool → Ptr → the_row.Denot → Fml
handle_owns a true = box_owns (ghosts.dealloc_token a) the_row
handle_owns a false = λ p e. ftrue
