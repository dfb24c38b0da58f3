use Rattle.std.proofs.Common.{◌∙◌, ap, subst, sym}
use Rattle.solve.specs.Holding.{Holds}
use Rattle.solve.specs.Standing.{start_of}
use Rattle.solve.specs.Terms.{with_kept, with_restarts}
use Rattle.session.proofs.Restarting.{first_terms}
use Rattle.session.proofs.script.session_with.Goals as goal

pub returns-clause-terms : goal.returns-clause-terms
returns-clause-terms c =
    c.set_kept_rows.ensures.terms ∙ ap (with_kept c.args.kept) (c.set_restarts.ensures.terms
    ∙ ap (with_restarts c.args.restarts) c.in_ok-session.ensures.terms)
    ∙ first_terms c.args.budget c.args.restarts c.args.kept

pub returns-clause-holds : goal.returns-clause-holds
returns-clause-holds c =
    let made = c.in_ok-session.session in
    let standing = start_of c.args.version in
    let first = subst (λ terms. Holds terms made.engine standing) (sym c.in_ok-session.ensures.terms)
    c.in_ok-session.ensures.holds in
    subst (λ terms. Holds terms c.set_kept_rows.new.self.engine standing) (returns-clause-terms c)
    (c.set_kept_rows.ensures.holds standing (c.set_restarts.ensures.holds standing first))
