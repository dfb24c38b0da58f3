use Rattle.std.proofs.Common.{◌≡◌, ◌<◌, None, sym, ap, ◌∙◌, ◌++◌, ◌∷◌, [], set, true, nat_abs, arith, w64}
use Rattle.std.proofs.Math.Facts.{to_z-of_z}
use Rattle.qdimacs.specs.Rules.{first_of, literal_rules}
use Rattle.qdimacs.specs.Represents.{header_of}
use Rattle.qdimacs.specs.Kept.{literal_rules_kept}
use Rattle.clauses.specs.Codes.{code_of}
use Rattle.qdimacs.proofs.ReaderSteps.{literal_zero, literal_taken, literal_low}
use Rattle.qdimacs.proofs.Keeping.{clause_ended, literal_more, above_zero}
use Rattle.qdimacs.proofs.reader.Reader.take_literal.Goals as goal

pub returns-then-unsigned_abs-eq0 : goal.returns-then-unsigned_abs-eq0
returns-then-unsigned_abs-eq0 c = λ sets clauses ls k low.
    let r = c.args.self.now in
    let zero_is : nat_abs c.args.n ≡ 0 = ap nat_abs (sym (to_z-of_z {w = w64} {z = c.args.n} c.ranges.n))
    ∙ sym c.unsigned_abs.ensures.value ∙ c.if-unsigned_abs-eq0.true in
    let step = literal_zero c.args.n (header_of r) sets clauses ls c.args.line zero_is in
    let e = c.in_ok-end.ensures in (
      step.0,
      (
        sets,
        clauses ++ ls ∷ [],
        step.1,
        record {
          vars_few = k.vars_few;
          count_few = k.count_few;
          of_sets = k.of_sets;
          of_clauses = clause_ended r.vars r.count r.clauses c.end.new.self clauses ls low
              (e.rows ls (above_zero r.vars ls k.of_clauses.low) k.of_clauses.begun) e.begun e.ended e.amount e.marks
              k.of_clauses;
        },
      ),
    )

pub returns : goal.returns
returns c = λ sets clauses ls k low.
    let r = c.args.self.now in
    let z = to_z-of_z {w = w64} {z = c.args.n} c.ranges.n in
    let kept : first_of (literal_rules_kept r.vars r.clauses.amount c.args.n c.args.line) ≡ None =
    ap (λ m. first_of (literal_rules_kept r.vars r.clauses.amount m c.args.line)) (sym z) ∙ c.in_ok-check.ensures in
    let none : first_of (literal_rules (header_of r) clauses ls c.args.n c.args.line) ≡ None =
    ap (λ a. first_of (literal_rules_kept r.vars a c.args.n c.args.line)) (sym k.of_clauses.amount) ∙ kept in
    let some : nat_abs c.args.n ≡ 0 → ⊥ = λ e. c.if-unsigned_abs-eq0.false (c.unsigned_abs.ensures.value ∙ ap nat_abs z
    ∙ e) in
    let step = literal_taken c.args.n (header_of r) sets clauses ls c.args.line some none in
    let e = c.in_ok-push.ensures in
    let positive : 0 < nat_abs c.args.n = omega (arith, some) in (
      step.0,
      (
        sets,
        clauses,
        ls ++ c.args.n ∷ [],
        step.1,
        low,
        record {
          vars_few = k.vars_few;
          count_few = k.count_few;
          of_sets = k.of_sets;
          of_clauses = literal_more r.vars r.count r.clauses c.push.new.self clauses ls c.args.n positive
              (literal_low r.vars r.clauses.amount c.args.n c.args.line kept).0
              (literal_low r.vars r.clauses.amount c.args.n c.args.line kept).1
              (e.begun ∙ ap (λ m. r.clauses.begun.items ++ code_of m ∷ []) z) e.amount
              (e.marks ∙ ap (λ m. set r.clauses.marks.items (nat_abs m) true) z) e.rows e.ended k.of_clauses;
        },
      ),
    )
