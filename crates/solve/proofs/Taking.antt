-- Inputs that are taken by several calls one after another, and refusals of readers with the endings that they are.
use Rattle.std.proofs.Common.{◌≡◌, ◌≤◌, ℕ, List, [], Option, Some, Result, Ok, Err, ap, arith, refl}
use Rattle.std.specs.Prelude.{IfSome, IsErrOf, IsOk, OnOk}
use Rattle.ports.specs.Causes.{Rose}
use Rattle.reading.specs.declared.refusal.ReadRefusal.{ReadRefusal}
use Rattle.reading.specs.declared.refusal.ReadRefusal.TheVariants.{Refused as Rejected, Limit as Beyond, ReadFault as Unreadable, NoMemory as NoRoom}
use Rattle.solve.specs.Endings.{ending_for}
use Rattle.solve.specs.Outside.{TakesInput}
use Rattle.solve.specs.declared.ending.Ending.{Ending}
use Rattle.solve.specs.declared.ending.Ending.TheVariants.{ReadFault, WriteFault}

-- the ending is a read fault only where the refusal is one
pub refused_unread : {T U : Type 0} (e : ReadRefusal) → IsErrOf {T = T} (Err (ending_for e)) ReadFault
    → IsErrOf {T = U} (Err e) Unreadable
refused_unread (Rejected number line) is = absurd (cc)
refused_unread (Beyond quantity line) is = absurd (cc)
refused_unread Unreadable is = refl
refused_unread NoRoom is = absurd (cc)

-- and it is never a write fault
pub refused_written : {T : Type 0} (e : ReadRefusal) → IsErrOf {T = T} (Err (ending_for e)) WriteFault → ⊥
refused_written (Rejected number line) is = absurd (cc)
refused_written (Beyond quantity line) is = absurd (cc)
refused_written Unreadable is = absurd (cc)
refused_written NoRoom is = absurd (cc)

-- a count that rose from a later one on
pub rose_later : (a b c : ℕ) → a ≤ b → Rose b c → Rose a c
rose_later a b c first second = omega (arith, first, second)

-- no error is a good answer
pub no_good : {E : Type 0} (T : Type 0) (e : E) → IsOk {T = T} (Err e) → ⊥
no_good T e is = absurd (cc)

on_any : {T E : Type 0} (P : Type 0) (r : Result T E) → P → OnOk r P
on_any P (Ok x) h = h
on_any P (Err e) h = tt

module _ {D : Type 0} (content : D → List ℕ → Option (List ℕ)) (left : D → Option (List ℕ)) (faults : D → ℕ)
    (steady : D → List ℕ → Type 0) (flows : D → Type 0) (old new : D) where
  -- an input that was taken in vain is so for each kind of answer
  pub taken_in_vain : {T : Type 0} (U : Type 0) (e : Ending)
      → TakesInput {T = T} content left faults steady flows old new (Err e)
      → TakesInput {T = U} content left faults steady flows old new (Err e)
  taken_in_vain U e taken = record {
    to_end = tt;
    counted = record {
      later = taken.counted.later;
      rose = λ is. taken.counted.rose (ap Err (let same : e ≡ ReadFault = cc in same));
      kept = λ ok. absurd (no_good U e ok);
    };
    flowing = λ flow.
        let on = taken.flowing flow in (λ is. on.0 (ap Err (let same : e ≡ ReadFault = cc in same)), on.1);
    holds = taken.holds;
    stays = taken.stays;
  }

  -- a call behind one that took it all, and that is no read fault
  pub taken_before : {T U : Type 0} (x : T) (r : Result U Ending)
      → TakesInput content left faults steady flows old new (Ok x) → (IsErrOf r ReadFault → ⊥)
      → TakesInput content left faults steady flows old new r
  taken_before x r taken readable = record {
    to_end = on_any (IfSome (left old) (λ _. left new ≡ Some [])) r taken.to_end;
    counted = record {
      later = taken.counted.later;
      rose = λ is. absurd (readable is);
      kept = λ ok. taken.counted.kept refl;
    };
    flowing = λ flow. (readable, (taken.flowing flow).1);
    holds = taken.holds;
    stays = taken.stays;
  }
