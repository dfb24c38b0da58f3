use Rattle.std.proofs.Common.{sym, ◌∙◌, subst}
use Rattle.std.specs.Prelude.{IfSome}
use Rattle.frames.specs.State.{OpenFormula}
use Rattle.derive.specs.State.{clauses_of}
use Rattle.search.specs.Changing.{AddsClause}
use Rattle.search.specs.Moves.{SameSteps}
use Rattle.search.specs.State.{IsResting}
use Rattle.engine.specs.Kept.{AreTied}
use Rattle.engine.proofs.Joining.{aside_tied, joined_is_row, joined_tied, on_err_map, on_ok_map, resting_still, same_tied, scopes_stay, the_before}
use Rattle.engine.proofs.tied.put_last.Goals as goal

pub add_clause-requires-clause-resting : goal.add_clause-requires-clause-resting
add_clause-requires-clause-resting c =
    let s = c.args.search.now in
    let at = the_before c.args.frames.now.before (λ (f : OpenFormula). AreTied f s) c.requires.before in
    rw c.prefix.ensures.value (resting_still c.args.frames.now.formula at.0 c.in-Some.row.now s
    (c.in-Some.ensures at.0 at.1) at.2)

pub add_clause-requires-clause-row : goal.add_clause-requires-clause-row
add_clause-requires-clause-row c =
    let s = c.args.search.now in
    let f = c.args.frames.now.formula in
    let at = the_before c.args.frames.now.before (λ (f : OpenFormula). AreTied f s) c.requires.before in
    rw (c.prefix.ensures.value, c.lits.ensures) (joined_is_row f at.0 c.in-Some.row.now s
    (c.in-Some.ensures at.0 at.1) at.2 c.other_clauses-others.ensures.rows c.groups_len-groups.ensures.rows
    c.in-Some-tag_of_last.tag (sym c.in-Some-tag_of_last.ensures))

pub returns-in-Some-tag_of_last-clause-ok : goal.returns-in-Some-tag_of_last-clause-ok
returns-in-Some-tag_of_last-clause-ok c =
    let s = c.args.search.now in
    let new = c.add_clause.new.self in
    let f = c.args.frames.now.formula in
    let tag = c.in-Some-tag_of_last.tag in
    let row = c.in-Some.row.now in
    let at = the_before c.args.frames.now.before (λ (f : OpenFormula). AreTied f s) c.requires.before in
    on_ok_map c.add_clause.result
    (AddsClause tag c.lits.result.now (clauses_of s.derivation) (clauses_of new.derivation)) (AreTied f new)
    (λ adds. joined_tied f at.0 row s (c.in-Some.ensures at.0 at.1) at.2 new tag
    (sym c.in-Some-tag_of_last.ensures)
    (subst (λ scopes. IsResting scopes new) c.prefix.ensures.value c.add_clause.ensures.resting)
    (subst (λ lits. AddsClause tag lits (clauses_of s.derivation) (clauses_of new.derivation)) c.lits.ensures adds))
    c.add_clause.ensures.ok

pub returns-in-Some-tag_of_last-clause-tied : goal.returns-in-Some-tag_of_last-clause-tied
returns-in-Some-tag_of_last-clause-tied c =
    let s = c.args.search.now in
    let new = c.add_clause.new.self in
    let f = c.args.frames.now.formula in
    let at = the_before c.args.frames.now.before (λ (f : OpenFormula). AreTied f s) c.requires.before in
    let is = c.in-Some.ensures at.0 at.1 in
    let scopes = c.prefix.ensures.value ∙ scopes_stay f at.0 c.in-Some.row.now s is at.2 in
    on_err_map c.add_clause.result (SameSteps s.derivation new.derivation)
    (IfSome c.args.frames.now.before (λ (f : OpenFormula). AreTied f new))
    (λ same. subst (λ o. IfSome o (λ (f : OpenFormula). AreTied f new)) (sym at.1)
    (same_tied at.0 s new same (subst (λ scopes. IsResting scopes new) scopes c.add_clause.ensures.resting) at.2))
    c.add_clause.ensures.err

pub returns-in-None-clause-ok : goal.returns-in-None-clause-ok
returns-in-None-clause-ok c =
    let s = c.args.search.now in
    let at = the_before c.args.frames.now.before (λ (f : OpenFormula). AreTied f s) c.requires.before in
    aside_tied c.args.frames.now.formula at.0 c.in-Some.row.now s (c.in-Some.ensures at.0 at.1) at.2
    (sym c.in-None.ensures)
