use Rattle.std.proofs.Common.{◌≡◌, ◌≤◌, ℕ, true, refl, ap, sym, subst, ◌∙◌, arith}
use Rattle.derive.specs.Dropping.{Falls, has_tag}
use Rattle.derive.specs.State.{tag_at, tag_in}
use Rattle.clean.specs.Turns.{reductions_in}
use Rattle.search.specs.Leaving.{Loses, may_fall}
use Rattle.search.specs.State.{IsAtRest, SearchState}
use Rattle.search.specs.Watching.{NoneFalls, Sheds}
use Rattle.search.specs.contracts.search.Search.{the_view}
use Rattle.search.proofs.Dropping.{clauses_left, frame_falls, no_frame_root, resting_left, shed_attached, shed_inputs, shed_stay}
use Rattle.search.proofs.Marks.{note_same}
use Rattle.search.proofs.Popping.{loses_shed, older_lost}
use Rattle.search.proofs.Reducing.{reductions_left, reductions_same}
use Rattle.search.proofs.Shedding.{falls_reached, frame_falls_before, none_reached}
use Rattle.search.proofs.Laws.{agreeing_laws, clauses_are_listed, holding_laws}
use Rattle.search.proofs.search.Search.drop_frame.Goals as goal

sheds : (c : goal.After-drop_frame)
    → Sheds (λ id. tag_at c.args.self.now.derivation id ≡ c.args.frame) c.args.self.now (the_view c.self-2.inside)
sheds c =
    subst (Sheds (λ id. tag_at c.args.self.now.derivation id ≡ c.args.frame) c.args.self.now) (sym c.self-2.view_is)
    c.detach_from.ensures.sheds

none : (c : goal.After-drop_frame) → NoneFalls (has_tag c.args.frame) (the_view c.self-2.inside)
none c =
    let old = c.args.self.now.derivation in
    let new = c.detach_from.new.self in
    let falls = subst (λ (s : SearchState). (id : ℕ) → Falls (has_tag c.args.frame) s.derivation.notes id
    → (c.frame_from-from.result ≤ id) × (c.args.frame ≤ tag_at s.derivation id)) c.self.view_is
    c.frame_from-from.ensures.falls in
    subst (NoneFalls (has_tag c.args.frame)) (sym c.self-2.view_is)
    (none_reached (has_tag c.args.frame) (λ id. may_fall c.args.frame old.notes id ≡ true) new
    c.frame_from-from.result c.detach_from.ensures.free
    (λ id fell.
    let was = frame_falls_before old new.derivation c.detach_from.ensures.sheds.steps c.args.frame id fell in
    ((falls id was).0, falls_reached c.args.frame old.notes (λ i f. (falls i f).1) id was)))

loses : (c : goal.After-drop_frame) → Loses (has_tag c.args.frame) c.args.self.now.derivation c.drop_frame.new.self
loses c =
    loses_shed (has_tag c.args.frame) (has_tag c.args.frame) c.args.self.now.derivation
    c.self-2.inside.derivation c.drop_frame.new.self (sheds c).steps (λ id note. refl) c.drop_frame.ensures.drops

pub returns-clause-loses : goal.returns-clause-loses
returns-clause-loses c = loses c

pub returns-clause-older : goal.returns-clause-older
returns-clause-older c =
    older_lost (has_tag c.args.frame) c.args.self.now.derivation c.drop_frame.new.self (loses c)

pub returns-clause-resting : goal.returns-clause-resting
returns-clause-resting c = λ scopes resting.
    let start = c.args.self.now in
    let s = the_view c.self-2.inside in
    let d = c.drop_frame.new.self in
    let frame = c.args.frame in
    let drops = c.drop_frame.ensures.drops in
    let shed = sheds c in
    let known = resting.intact in
    let intact = shed.intact scopes known in
    resting_left scopes s d (has_tag frame) drops
    (λ k at. let r = clauses_left scopes s.derivation d (has_tag frame) _ clauses_are_listed drops
    c.drop_frame.ensures.clauses (no_frame_root scopes s.derivation frame) k at in (r.0, λ id i. r.1 id))
    holding_laws agreeing_laws (subst IsAtRest (sym shed.trail) resting.rest) intact
    shed.tallied (c.drop_frame.ensures.legal scopes intact.legal)
    (shed_stay scopes start s d (has_tag frame) drops _ shed known (none c))
    (shed_inputs scopes start s d (has_tag frame) drops _ shed known (none c))
    (shed_attached scopes start s d (has_tag frame) drops _ shed known (none c) resting
    (λ id tag live. frame_falls frame s.derivation id
    (ap tag_in (note_same start.derivation s.derivation shed.steps id) ∙ tag) live))

pub returns-clause-reductions : goal.returns-clause-reductions
returns-clause-reductions c =
    let few = reductions_left (has_tag c.args.frame) c.self-2.inside.derivation c.drop_frame.new.self
    c.drop_frame.ensures.drops in
    let same = reductions_same c.args.self.now.derivation c.detach_from.new.self.derivation
    c.detach_from.ensures.sheds.steps in
    let is = ap (λ (s : SearchState). reductions_in s.derivation) c.self-2.view_is in
    omega (arith, few, same, is)
