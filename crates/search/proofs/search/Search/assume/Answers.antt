use Rattle.std.proofs.Common.{ℕ, ◌≤◌, Contains, sym, ap, subst}
use Rattle.prefix.specs.Scopes.{all_variables}
use Rattle.calculus.specs.Rows.{variables_in}
use Rattle.calculus.specs.Search.{AreTheAssumptions, Trail}
use Rattle.calculus.proofs.Assuming.{given}
use Rattle.trail.specs.State.{TrailState}
use Rattle.search.specs.State.{SearchState}
use Rattle.search.specs.Forcing.{NoCubeAttached}
use Rattle.search.proofs.Forcing.{forced_start}
use Rattle.search.proofs.Starting.{assumed_room, distinct, starts, starts_paused}
use Rattle.search.proofs.Turning.{changes_of}
use Rattle.search.proofs.Laws.{looking_laws}
use Rattle.search.proofs.search.Search.assume.Goals as goal

pub assume_all-requires-clause-different : goal.assume_all-requires-clause-different
assume_all-requires-clause-different c = distinct (variables_in c.args.assumptions.now) c.requires.ascending

pub assume_all-requires-clause-room : goal.assume_all-requires-clause-room
assume_all-requires-clause-room c =
    assumed_room c.args.prefix.now c.self.inside.trail.room c.args.assumptions.now c.requires.outer
    (subst (λ (s : SearchState). (x : ℕ) → Contains (all_variables c.args.prefix.now) x → x ≤ s.trail.room)
    (sym c.self.view_is) c.requires.paused.intact.room.trail)

pub returns-in_err-assume_all-clause-paused : goal.returns-in_err-assume_all-clause-paused
returns-in_err-assume_all-clause-paused c =
    starts_paused c.args.prefix.now c.args.self.now _ looking_laws
    (changes_of _ c.args.self.now c.assume_all.new.self c.self.view_is
    (ap (λ (t : TrailState). t.room) c.in_err-assume_all.ensures.err)) c.requires.paused c.requires.rest.empty
    c.assume_all.ensures.kept

pub returns-clause-searching : goal.returns-clause-searching
returns-clause-searching c =
    let ok = c.in_ok-assume_all.ensures.ok in
    starts c.args.prefix.now c.args.self.now _ looking_laws
    (changes_of _ c.args.self.now c.assume_all.new.self c.self.view_is (ap (λ (t : TrailState). t.room) ok))
    c.requires.paused c.requires.rest.empty c.assume_all.ensures.kept c.args.assumptions.now
    (ap (λ (t : TrailState). t.placed) ok)

pub returns-clause-assumed : goal.returns-clause-assumed
returns-clause-assumed c =
    subst (λ (p : Trail). AreTheAssumptions p c.args.assumptions.now)
    (sym (ap (λ (t : TrailState). t.placed) c.in_ok-assume_all.ensures.ok)) (given c.args.assumptions.now)

pub returns-clause-paused : goal.returns-clause-paused
returns-clause-paused c =
    starts_paused c.args.prefix.now c.args.self.now _ looking_laws
    (changes_of _ c.args.self.now c.assume_all.new.self c.self.view_is
    (ap (λ (t : TrailState). t.room) c.in_ok-assume_all.ensures.ok)) c.requires.paused c.requires.rest.empty
    c.assume_all.ensures.kept

pub returns-clause-forced : goal.returns-clause-forced
returns-clause-forced c = λ none.
    let ok = c.in_ok-assume_all.ensures.ok in
    rw c.in_ok-assume_all.ensures.counted (forced_start c.args.prefix.now _ c.args.assumptions.now c.args.steps.now
    (subst NoCubeAttached (sym c.self.view_is) none) (ap (λ (t : TrailState). t.placed) ok))
