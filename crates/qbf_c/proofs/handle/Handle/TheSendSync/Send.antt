-- A handle may go to another thread, since an engine may.
use mathlib.Core.Bool.{Bool, true, false}
use base.Shift.{Keyless}
use mir.Raw.{raw}
use denote.Memory.{lone}
use denote.RawPtr.{Ptr}
use denote.Struct.Struct.{exits_of}
use denote.Struct.Owning.{shape, fields, to}
use denote.Param.Send.{IsSend, AllSend, owning_send, struct_send, sendable}
use Rattle.std.proofs.Crossing as heap
use Rattle.std_alloc.proofs.SendSync.{quiet, lies}
use Rattle.std.proofs.alloc.Global.TheSendSync as handle
use Rattle.std.specs.declared.alloc.Global.{Global}
use Rattle.engine.specs.contracts.engine.Engine as Engine
use Rattle.engine.proofs.engine.Engine.TheSendSync.{the_send as engine}
use Rattle.qbf_c.specs.Owned.{handle_owns}
use Rattle.qbf_c.specs.contracts.handle.Handle.{the_row, the_type}

crosses : (a : Global) (t : Bool) (p : Ptr) (e : Engine.the_row.Denot) → Keyless (handle_owns a t p e)
crosses a true p e = (lies Engine.the_row engine p e, heap.frees.frees a (raw (lone Engine.the_row.mir)) p)
crosses a false p e = tt

pub send : IsSend the_row
send =
    let all : AllSend (fields the_type) = (search sendable, (handle.the_field_send, (search sendable, tt))) in
    owning_send the_type all (λ d. crosses d.alloc d.live d.at d.engine)
    (λ k. quiet (to the_type) (exits_of k (fields the_type)) ((struct_send (shape the_type) all).leaving k))
