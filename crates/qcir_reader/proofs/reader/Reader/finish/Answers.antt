use Rattle.std.proofs.Common.{◌≡◌, ap, ◌∙◌, subst, map}
use Rattle.std.proofs.lemmas.Result.{err_from_is_err_and}
use Rattle.prefix.specs.Scopes.{IsPrefix}
use Rattle.qdimacs.specs.Formula.{in_order}
use Rattle.qdimacs.specs.Kept.{sets_of}
use Rattle.qcir_reader.specs.Rules.{scopes_of}
use Rattle.qcir_reader.specs.Answers.{IsSmall}
use Rattle.qcir_reader.proofs.Ending.{circuit_small, scopes_fit}
use Rattle.qcir_reader.proofs.Taking.{allowed_body, circuit_is, circuit_parsed, output_known, output_refused, rows_are}
use Rattle.qcir_reader.proofs.reader.Reader.finish.Goals as goal

pub returns-in_err-output-clause-closing : goal.returns-in_err-output-clause-closing
returns-in_err-output-clause-closing c = λ line f rep.
    let p = err_from_is_err_and c.from_residual.result c.from_residual.ensures.1 in
    rw (p.1, p.2) (output_refused c.args.self.now f line c.in_err-output.field-0.0 c.requires.stage rep
    c.in_err-output.ensures)

pub prefix-requires : goal.prefix-requires
prefix-requires c =
    let r = c.args.self.now in
    let f = c.requires.stood.front in
    let rep = c.requires.stood.represents in
    let a = allowed_body r f c.requires.stage rep in
    scopes_fit f (sets_of r.sets.rows.items) a.stands.vars a (rows_are r f a.stands.vars rep.keeps) rep.keeps.few_scopes

pub returns-clause-closing : goal.returns-clause-closing
returns-clause-closing c = λ line f rep.
    let r = c.args.self.now in
    let a = allowed_body r f c.requires.stage rep in
    let known = output_known r f rep.keeps c.in_ok-output.ensures.0 in
    circuit_parsed r f line _ c.requires.stage known
    (circuit_is r f c.in-Ok.prefix c.from_vec.result c.in_ok-output.output rep.keeps a.stands.vars
    c.in-Ok.ensures.scopes (c.from_vec.ensures ∙ ap (λ v. v.items) c.replace-gates.ensures.value)
    c.in_ok-output.ensures.1)

pub returns-clause-small : goal.returns-clause-small
returns-clause-small c =
    let r = c.args.self.now in
    let f = c.requires.stood.front in
    let rep = c.requires.stood.represents in
    let a = allowed_body r f c.requires.stage rep in
    let known = output_known r f rep.keeps c.in_ok-output.ensures.0 in
    let prefix_is : c.in-Ok.prefix ≡ scopes_of f.sets = c.in-Ok.ensures.scopes ∙ ap (map in_order)
    (rows_are r f a.stands.vars rep.keeps) in
    let valid : IsPrefix (scopes_of f.sets) = subst IsPrefix prefix_is c.scopes-scopes.ensures.valid in
    subst IsSmall
    (circuit_is r f c.in-Ok.prefix c.from_vec.result c.in_ok-output.output rep.keeps a.stands.vars
    c.in-Ok.ensures.scopes (c.from_vec.ensures ∙ ap (λ v. v.items) c.replace-gates.ensures.value)
    c.in_ok-output.ensures.1)
    (circuit_small f a valid known)
