use Rattle.std.proofs.Common.{◌≡◌, ◌≤◌, ◌+◌, ◌∙◌, ap, sym, subst}
use Rattle.derive.specs.State.{side_at, side_in}
use Rattle.clean.specs.Reasons.{IsReducedStep}
use Rattle.search.specs.Long.{is_long}
use Rattle.search.specs.State.{IsAttached, IsSearching, SearchState}
use Rattle.search.specs.Watching.{Keeps}
use Rattle.search.specs.contracts.search.Search.{the_view}
use Rattle.search.proofs.Joining.{attached_own}
use Rattle.search.proofs.Listing.{intact_more, keeps_more}
use Rattle.search.proofs.Marks.{note_same}
use Rattle.search.proofs.Tallying.{one_if}
use Rattle.search.proofs.search.Search.attach_learned.Goals as goal

pub attach-requires-clause-intact : goal.attach-requires-clause-intact
attach-requires-clause-intact c =
    let s = the_view c.self.inside in
    let is : s ≡ c.args.self.now = c.self.view_is ∙ c.has.ensures.same in
    intact_more c.args.prefix.now s c.push.new.self.items c.args.row c.in_ok-push.ensures.items
    (subst (λ (t : SearchState). IsReducedStep
    (side_at t.derivation c.args.row) c.args.prefix.now t.derivation c.args.row) (sym is) c.requires.reduced)
    (subst (IsSearching c.args.prefix.now) (sym is) c.requires.searching).paused.intact

pub returns-clause-kept : goal.returns-clause-kept
returns-clause-kept c =
    let s = the_view c.self.inside in
    let is : s ≡ c.args.self.now = c.self.view_is ∙ c.has.ensures.same in
    let joins = c.attach.ensures.joins in
    let side : side_at c.attach.new.self.derivation c.args.row ≡ side_at s.derivation c.args.row =
    ap side_in (note_same s.derivation c.attach.new.self.derivation joins.steps c.args.row) in
    subst (λ (t : SearchState). IsAttached c.attach.new.self (side_at t.derivation c.args.row) c.args.row) is
    (subst (λ q. IsAttached c.attach.new.self q c.args.row) side
    (attached_own c.args.prefix.now c.attach.new.self c.args.row joins.intact joins.here))

pub returns-clause-keeps : goal.returns-clause-keeps
returns-clause-keeps c =
    let s = the_view c.self.inside in
    let is : s ≡ c.args.self.now = c.self.view_is ∙ c.has.ensures.same in
    subst (λ (t : SearchState). Keeps c.args.prefix.now t c.attach.new.self) is
    (keeps_more c.args.prefix.now s c.push.new.self.items c.args.row c.in_ok-push.ensures.items c.attach.new.self
    (subst (IsSearching c.args.prefix.now) (sym is) c.requires.searching) c.attach.ensures.joins
    c.attach.ensures.tallied)

pub returns-clause-one : goal.returns-clause-one
returns-clause-one c =
    let s = the_view c.self.inside in
    let is : s ≡ c.args.self.now = c.self.view_is ∙ c.has.ensures.same in
    subst (λ (t : SearchState). c.attach.new.self.long ≤ t.long + one_if (is_long t.derivation c.args.row)) is
    c.attach.ensures.one
