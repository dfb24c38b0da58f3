use Rattle.std.proofs.Common.{◌≡◌, true, List, length, sym, ap, ◌∙◌, subst}
use Rattle.std.specs.Prelude.{OnOk, Some}
use Rattle.std.specs.List.{list_all}
use Rattle.prefix.specs.Literal.{Literal}
use Rattle.calculus.specs.Rows.{IsRow, Row}
use Rattle.clauses.specs.Clause.{is_tautology, as_row, variables_of}
use Rattle.frames.specs.Commands.{exceeds, is_beyond, is_known, with_clause, with_row_at}
use Rattle.frames.specs.State.{OpenFormula, all_clauses}
use Rattle.frames.proofs.Holding.{beyond_is}
use Rattle.frames.proofs.Keeping.{if_plain}
use Rattle.frames.proofs.Knowing.{row_of_clause, row_length}
use Rattle.frames.proofs.Refusing.{without_row, put_answers, unmade}
use Rattle.frames.proofs.frames.Frames.add_clause.Goals as goal

pub returns-in_default-clause-refused : goal.returns-in_default-clause-refused
returns-in_default-clause-refused c =
    let lits = c.args.lits.now in
    let self = c.self.inside in
    let known : list_all (is_known self.prefix) lits ≡ true = sym c.are_known.ensures.value
    ∙ c.if-not-are_known.false in
    rw (
      ← c.self.view_is,
      beyond_is self.total self.starts.items self.rows.items self.vars.items self.groups.groups
          (length (variables_of lits)) c.self.invariant.4,
    )
    (without_row (list_all (is_known self.prefix) lits) (is_tautology lits)
    (exceeds self.total.clauses self.total.literals (length (variables_of lits))) c.refusal_without_row.result known
    c.refusal_without_row.ensures)

pub put-requires : goal.put-requires
put-requires c =
    let lits = c.args.lits.now in
    let self = c.self.inside in
    let known : list_all (is_known self.prefix) lits ≡ true = sym c.are_known.ensures.value
    ∙ c.if-not-are_known.false in
    let made = unmade {X = List Literal} (is_tautology lits) (as_row lits) c.in-Some.row
    (sym c.in-Some.is ∙ c.in-Ok.ensures) in
    rw (← c.self.view_is) (subst (IsRow self.prefix) (sym made.1) (row_of_clause self.prefix lits known))

pub returns-clause-ok : goal.returns-clause-ok
returns-clause-ok c =
    let lits = c.args.lits.now in
    let f = c.args.self.now.formula in
    let made = unmade {X = List Literal} (is_tautology lits) (as_row lits) c.in-Some.row
    (sym c.in-Some.is ∙ c.in-Ok.ensures) in
    let same : with_row_at f.current c.in-Some.row f ≡ with_clause lits f =
    ap (λ (r : Row). with_row_at f.current r f) made.1 ∙ if_plain (is_tautology lits) lits f made.0 in
    subst (λ (g : OpenFormula). OnOk c.put.result (c.put.new.self ≡ record { formula = g; before = Some f })) same
    c.put.ensures.ok

pub returns-clause-refused : goal.returns-clause-refused
returns-clause-refused c =
    let lits = c.args.lits.now in
    let f = c.args.self.now.formula in
    let self = c.self.inside in
    let known : list_all (is_known f.scopes) lits ≡ true = rw (← c.self.view_is) (sym c.are_known.ensures.value
    ∙ c.if-not-are_known.false) in
    let made = unmade {X = List Literal} (is_tautology lits) (as_row lits) c.in-Some.row
    (sym c.in-Some.is ∙ c.in-Ok.ensures) in
    let long : length c.in-Some.row ≡ length (variables_of lits) = ap length made.1 ∙ row_length lits in
    let same : is_beyond (all_clauses f) (length c.in-Some.row)
    ≡ is_beyond (all_clauses f) (length (variables_of lits)) = ap (is_beyond (all_clauses f)) long in
    put_answers (list_all (is_known f.scopes) lits) (is_tautology lits)
    (is_beyond (all_clauses f) (length (variables_of lits))) c.put.result known made.0
    (λ t. c.put.ensures.limit (same ∙ t)) (λ t. c.put.ensures.within (same ∙ t))
