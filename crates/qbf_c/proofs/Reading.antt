-- What is told of a text that was read.
use Rattle.std.proofs.Common.{◌≡◌, ◌≢◌, ℕ, zero, suc, ◌+◌, Bool, List, Err, refl, sym, subst, arith}
use Rattle.std.specs.Prelude.{IsErrOf}
use Rattle.reading.specs.declared.refusal.Quantity.{Quantity}
use Rattle.reading.specs.declared.refusal.Quantity.TheVariants.{Variables, Scopes, Clauses, Literals, Bytes}
use Rattle.reading.specs.declared.refusal.ReadRefusal.{ReadRefusal}
use Rattle.reading.specs.declared.refusal.ReadRefusal.TheVariants.{Refused, Limit, ReadFault, NoMemory}
use Rattle.truth.specs.declared.formula.Formula.{Formula}
use Rattle.qdimacs.specs.Answers.{IsAnswer}
use Rattle.qdimacs.specs.Rules.{limit, parsed, refused}
use Rattle.solve.specs.Feeding.{HoldsFormula}
use Rattle.engine.specs.State.{EngineState}
use Rattle.qbf_c.specs.Codes.{accepted, no_memory}
use Rattle.qbf_c.specs.Made.{Makes}
use Rattle.qbf_c.specs.Read.{IsRead, IsUnread, ReadSays, limit_code, text_code, text_line}

-- what a reader without faults answers
pub unread : (text : List ℕ) (e : ReadRefusal) → IsAnswer (Err e) text
    → ¬ IsErrOf {T = Formula} {E = ReadRefusal} (Err e) ReadFault → IsUnread text e
unread text (Refused number line) is flows = is
unread text (Limit quantity line) is flows = is
unread text ReadFault is flows = flows refl
unread text NoMemory is flows = tt

-- what doesn't want memory is accepted
made_or : (code : ℕ) → (code ≢ accepted → code ≡ no_memory) → code ≢ no_memory → code ≡ accepted
made_or zero wanting there = refl
made_or (suc n) wanting there =
    absurd (there (wanting (λ e. let f : suc n ≡ 0 = e in absurd (let g : ⊥ = omega (arith, f) in g))))

pub read_made : (text : List ℕ) (Same : Type 0) (live : Bool) (e now : EngineState) (line code : ℕ) → IsRead text e
    → Makes e Same live now code → ReadSays text Same live now line line code
read_made text Same live e now line code is made = record {
  told = λ there.
      let ok = made_or code made.memory there in (
        parsed is.0,
        is.1,
        (
          ok,
          made.live_now ok,
          subst (HoldsFormula is.0.prefix is.0.clauses) (sym (made.made ok)) is.2,
          refl,
        ),
      );
  same = made.same;
  left = λ wanting. refl;
}

limits_apart : (q : Quantity) (code : ℕ) → code ≡ limit_code q → code ≡ no_memory → ⊥
limits_apart Variables code e f = let g : code ≡ 120 = e in let h : code ≡ 60 = f in omega (arith, g, h)
limits_apart Scopes code e f = let g : code ≡ 121 = e in let h : code ≡ 60 = f in omega (arith, g, h)
limits_apart Clauses code e f = let g : code ≡ 122 = e in let h : code ≡ 60 = f in omega (arith, g, h)
limits_apart Literals code e f = let g : code ≡ 123 = e in let h : code ≡ 60 = f in omega (arith, g, h)
limits_apart Bytes code e f = let g : code ≡ 124 = e in let h : code ≡ 60 = f in omega (arith, g, h)

rules_apart : (number code : ℕ) → code ≡ 100 + number → code ≡ no_memory → ⊥
rules_apart number code e f = let h : code ≡ 60 = f in omega (arith, e, h)

pub read_refused : (text : List ℕ) (Same : Type 0) (live : Bool) (now : EngineState) (before line code : ℕ)
    (e : ReadRefusal) → IsUnread text e → Same → code ≡ text_code e → line ≡ text_line e before
    → ReadSays text Same live now before line code
read_refused text Same live now before line code (Refused number at) is same tells where_is = record {
  told = λ there. (refused number at, is, (tells, where_is));
  same = λ other. same;
  left = λ wanting. absurd (rules_apart number code tells wanting);
}
read_refused text Same live now before line code (Limit quantity at) is same tells where_is = record {
  told = λ there. (limit quantity at, is, (tells, where_is));
  same = λ other. same;
  left = λ wanting. absurd (limits_apart quantity code tells wanting);
}
read_refused text Same live now before line code ReadFault is same tells where_is = absurd is
read_refused text Same live now before line code NoMemory is same tells where_is = record {
  told = λ there. absurd (there tells);
  same = λ other. same;
  left = λ wanting. where_is;
}
