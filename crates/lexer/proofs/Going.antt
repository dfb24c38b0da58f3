-- What a lexer reads, from call to call.
use Rattle.std.proofs.Common.{◌≡◌, ℕ, ◌+◌, ◌<◌, ◌≤◌, Bool, true, false, None, Some, List, [], ◌∷◌, drop, slice_get, refl, sym, ap, subst, ◌∙◌, arith}
use Rattle.std.specs.Prelude.{if◌then◌else◌, ◌==◌}
use Rattle.lexer.specs.State.{State, past, line_read, GoesOn}
use Rattle.lexer.specs.Words.{is_line_end, last_line}
use Rattle.lexer.specs.declared.token.LexRefusal.{LexRefusal}
use Rattle.lexer.specs.declared.token.LexRefusal.TheVariants.{ReadFault, TooLong, BadByte, NumberRange}
use Rattle.lexer.specs.Answers.{IsOfLine, IsReadFault}
use Rattle.lexer.proofs.Known.{worded}
use Rattle.lexer.proofs.Bytewise.{last_line_step}

pub goes_on : {D : Type 0} (s t u : State) (a b c : D) → GoesOn s t a b → GoesOn t u b c → GoesOn s u a c
goes_on s t u a b c first next = record {
  onward = let one = first.onward in let two = next.onward in omega (arith, one, two);
  unread = λ behind.
      let later = next.onward in
      let one = first.unread (omega (arith, later, behind)) in
      let same : line_read t ≡ line_read s = one.1 in
      let two = next.unread (omega (arith, same, behind)) in
      (two.0 ∙ one.0, two.1 ∙ one.1);
}

-- where nothing is left to read of the bytes ahead
pub reads_more : {D : Type 0} (s t : State) (old new : D) → slice_get s.ahead 0 ≡ None → t.line ≡ s.line
    → GoesOn s t old new
reads_more s t old new none same = record {
  onward = omega (arith, same);
  unread = λ behind. absurd (spent s.ahead none (omega (arith, same, behind)));
}
  where
    spent : (ahead : List ℕ) → slice_get ahead 0 ≡ None → s.line < last_line s.line ahead → ⊥
    spent [] none behind = omega (arith, behind)
    spent (b ∷ ahead) none behind = cc

taken : (n : ℕ) (ahead : List ℕ) (b : ℕ) → slice_get ahead 0 ≡ Some b
    → last_line (if b == 10 then n + 1 else n) (drop 1 ahead) ≡ last_line n ahead
taken n [] b first = cc
taken n (a ∷ ahead) b first =
    let same : a ≡ b = cc in
    sym (last_line_step (is_line_end b) n b ahead refl) ∙ ap (λ x. last_line n (x ∷ ahead)) (sym same)

-- a byte is taken
pub read_past : (s : State) (b : ℕ) → slice_get s.ahead 0 ≡ Some b → line_read (past b s) ≡ line_read s
read_past s b first = taken s.line s.ahead b first

line_past : (t : Bool) (n : ℕ) → n ≤ (if t then n + 1 else n)
line_past true n = omega arith
line_past false n = omega arith

pub goes_past : {D : Type 0} (s : State) (b : ℕ) (desk : D) → slice_get s.ahead 0 ≡ Some b
    → GoesOn s (past b s) desk desk
goes_past s b desk first = record {
  onward = line_past (b == 10) s.line;
  unread = λ behind. (refl, read_past s b first);
}

pub goes_same : {D : Type 0} (s t : State) (desk : D) → t.line ≡ s.line → line_read t ≡ line_read s
    → GoesOn s t desk desk
goes_same s t desk line read = record {
  onward = omega (arith, line);
  unread = λ behind. (refl, read);
}

pub goes_to_past : {D : Type 0} (s t : State) (b : ℕ) (desk : D) → slice_get s.ahead 0 ≡ Some b → t ≡ past b s
    → GoesOn s t desk desk
goes_to_past s t b desk first is = subst (λ u. GoesOn s u desk desk) (sym is) (goes_past s b desk first)

-- the line has had a word
pub goes_worded : {D : Type 0} (s t : State) (desk : D) → t ≡ worded s → GoesOn s t desk desk
goes_worded s t desk is = goes_same s t desk (ap (λ (u : State). u.line) is) (ap line_read is)

-- a fault of the desk is of any line
pub fault_of_line : (n : ℕ) (e : LexRefusal) → IsReadFault e → IsOfLine n e
fault_of_line n ReadFault is = tt
fault_of_line n (TooLong line) is = absurd is
fault_of_line n (BadByte line) is = absurd is
fault_of_line n (NumberRange line) is = absurd is
