use Rattle.std.proofs.Common.{◌≡◌, length, ap, sym, subst, ◌∙◌}
use Rattle.std.specs.Prelude.{OnOk, Some}
use Rattle.std.specs.List.{list_all}
use Rattle.calculus.specs.Rows.{Row}
use Rattle.clauses.specs.Clause.{is_tautology, variables_of}
use Rattle.frames.specs.Commands.{is_beyond, is_known, with_clause, with_row_at}
use Rattle.frames.specs.State.{OpenFormula, all_clauses}
use Rattle.frames.proofs.Keeping.{if_plain}
use Rattle.frames.proofs.Numbers.{numbers, row_over, row_refused}
use Rattle.frames.proofs.Refusing.{put_answers}
use Rattle.frames.proofs.frames.Frames.add_row.Goals as goal

pub put-requires : goal.put-requires
put-requires c = row_over c.args.self.now.formula.scopes c.args.row c.requires

pub returns-clause-ok : goal.returns-clause-ok
returns-clause-ok c =
    let f = c.args.self.now.formula in
    let ns = numbers c.args.row in
    let facts = row_refused f.scopes c.args.row c.prefix-valid.ensures.valid c.requires in
    let same : with_row_at f.current c.args.row f ≡ with_clause ns f =
    ap (λ (r : Row). with_row_at f.current r f) (sym facts.3) ∙ if_plain (is_tautology ns) ns f facts.1 in
    subst (λ (g : OpenFormula). OnOk c.put.result (c.put.new.self ≡ record { formula = g; before = Some f })) same
    c.put.ensures.ok

pub returns-clause-refused : goal.returns-clause-refused
returns-clause-refused c =
    let f = c.args.self.now.formula in
    let ns = numbers c.args.row in
    let facts = row_refused f.scopes c.args.row c.prefix-valid.ensures.valid c.requires in
    let same = ap (is_beyond (all_clauses f)) (sym facts.2) in
    let beyond = is_beyond (all_clauses f) (length (variables_of ns)) in
    put_answers (list_all (is_known f.scopes) ns) (is_tautology ns) beyond
    c.put.result facts.0 facts.1 (λ t. c.put.ensures.limit (same ∙ t)) (λ t. c.put.ensures.within (same ∙ t))
