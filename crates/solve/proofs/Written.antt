-- What was written, in whole or in front, and what was flushed.
use Rattle.std.proofs.Common.{◌≡◌, ℕ, List, Option, Some, None, Result, Ok, Err, sym, subst, arith, length}
use Rattle.std.specs.Prelude.{IfSome, OnOk}
use Rattle.std.specs.Io.KnownBytes.{Appends, Keeps}
use Rattle.std.proofs.lemmas.List.{take_all}
use Rattle.ports.specs.Bytes.{AllFlushed, AppendsFront}
use Rattle.solve.specs.Outputs.{Text}

pub some_map : {X : Type 0} (o : Option X) (P Q : X → Type 0) → ((x : X) → P x → Q x) → IfSome o P → IfSome o Q
some_map None P Q f h = tt
some_map (Some x) P Q f h = f x h

pub front_all : (a b : Option (List ℕ)) (text : Text) → Appends a b text → AppendsFront a b text
front_all a b text whole = record {
  count = length text;
  within = omega arith;
  appended = subst (Appends a b) (sym (take_all (length text) text (omega arith))) whole;
}

pub flushed_kept : (old middle new all_of : Option (List ℕ)) → Keeps old middle → AllFlushed all_of middle new
    → AllFlushed all_of old new
flushed_kept None middle new written kept all = tt
flushed_kept (Some x) None new written kept all = absurd kept
flushed_kept (Some x) (Some y) new written kept all = all

-- what was written is the one text
pub appended_whole : {T E : Type 0} (IsText : List ℕ → Type 0) (r : Result T E) (text : List ℕ)
    (old new : Option (List ℕ)) → ((other : List ℕ) → IsText other → other ≡ text)
    → OnOk r ((other : List ℕ) × IsText other × Appends old new other) → OnOk r (Appends old new text)
appended_whole IsText (Ok x) text old new one ok = subst (Appends old new) (one ok.0 ok.1) ok.2
appended_whole IsText (Err e) text old new one ok = tt
