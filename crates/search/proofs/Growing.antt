-- Searches at rest: at first, with more room, and under a larger prefix.
use Rattle.std.proofs.Common.{◌≡◌, ℕ, ◌≤◌, ◌++◌, List, [], length, replicate, length-append, Option, Some, None, Contains, get_or, refl, sym, ap, subst, ◌∙◌, inl, arith}
use Rattle.std.proofs.lemmas.Bool.{false≢true}
use Rattle.std.proofs.lemmas.List.{get_or_past}
use Rattle.calculus.proofs.Lists.{contains_nil}
use Rattle.prefix.specs.declared.quant.Quant.{Quant}
use Rattle.prefix.specs.declared.quant.Quant.TheVariants.{Exists, Forall}
use Rattle.prefix.specs.Scopes.{Scope}
use Rattle.rows.specs.Arena.{Arena, StoredRow, links_of}
use Rattle.calculus.specs.Rows.{IsRow}
use Rattle.calculus.specs.RowTheorems.{ReductionsStay}
use Rattle.calculus.specs.Derivations.{Extends}
use Rattle.calculus.specs.Search.{literals_on}
use Rattle.trail.specs.State.{IsTrailFor, TrailState, new_trail, with_room}
use Rattle.decide.specs.Memory.{Memory}
use Rattle.derive.specs.State.{IsLegalFor, OpenClause, State, arena_of, clauses_of, has_rows, may_be_antecedent, row_of, side_at}
use Rattle.derive.specs.Adding.{IsReductionOf}
use Rattle.derive.specs.Theorems.{ClausesAreListed, PrefixesMayGrow}
use Rattle.watch.specs.State.{GoesOnHolding, Holds, IsFront, IsUnattached, WatchState, looked, new_watch}
use Rattle.watch.specs.Laws.{HoldingLaws}
use Rattle.clean.specs.Reasons.{IsReducedStep}
use Rattle.clean.proofs.Keeping.{step_row}
use Rattle.search.specs.State.{AreAttached, AreWatched, IsAttached, IsResting, SearchState, rows_of, watch_of}
use Rattle.search.specs.Changing.{RestingGrows}
use Rattle.search.proofs.Tallying.{tally_none}
use Rattle.search.proofs.Turning.{tally_moved}
use Rattle.search.proofs.Marks.{not_attached}

-- at first

-- a derivation of no steps
abbrev pub no_steps : State
no_steps = record { notes = []; rows = Some [] }

no_links : (d : State) → d ≡ no_steps → (id : ℕ) → IsUnattached (arena_of d) id
no_links d e id = rw e (ap (λ (o : Option StoredRow). get_or (links_of o) 6 None)
    (get_or_past [] id None (omega arith)))

pub record IsNew (s : SearchState) : Type 0 where
  pub derivation : s.derivation ≡ no_steps
  pub legal : IsLegalFor [] s.derivation
  pub trail : s.trail ≡ new_trail
  pub kept : (scopes : List Scope) → IsTrailFor scopes s.trail
  pub watches : (side : Quant) → watch_of side s ≡ new_watch
  pub watched : s.watched ≡ []
  pub long : s.long ≡ 0

module _ (laws : HoldingLaws) (s : SearchState) (new : IsNew s) where
  none_attached : (side : Quant) (id : ℕ) → IsAttached s side id → ⊥
  none_attached side id a =
      false≢true (sym (not_attached side (rows_of s) id (no_links s.derivation new.derivation id)) ∙ a)

  none_listed : (id : ℕ) → Contains s.watched id → ⊥
  none_listed id at = contains_nil id (subst (λ ids. Contains ids id) new.watched at)

  none_open : (c : OpenClause) → Contains (clauses_of s.derivation) c → ⊥
  none_open c at = contains_nil c (subst (λ (d : State). Contains (clauses_of d) c) new.derivation at)

  new_watched : AreWatched [] s
  new_watched = record {
    marked = λ id. inl (no_links s.derivation new.derivation id);
    sides = λ side id a. absurd (none_attached side id a);
    listed = λ side id a. absurd (none_attached side id a);
    given = λ id at. absurd (none_listed id at);
    steps = λ id at live. absurd (none_listed id at);
    clauses = λ c at. absurd (none_open c at);
  }

  new_holds : (side : Quant) → Holds side [] (watch_of side s) (rows_of s)
  new_holds side = subst (λ (w : WatchState). Holds side [] w (rows_of s)) (sym (new.watches side))
      (laws.begins side [] (rows_of s) (λ id. not_attached side (rows_of s) id
      (no_links s.derivation new.derivation id)))

  new_front : (side : Quant) → IsFront (looked (watch_of side s)) (literals_on s.trail.placed)
  new_front side = subst (λ (w : WatchState). IsFront (looked w) (literals_on s.trail.placed))
      (sym (new.watches side)) refl

  new_room : (side : Quant) → s.trail.room ≤ (watch_of side s).room
  new_room side = let t = ap (λ (t : TrailState). t.room) new.trail in omega arith

  pub resting_new : IsResting [] s
  resting_new = record {
    rest = record {
      empty = ap (λ (t : TrailState). t.placed) new.trail;
      allowed = ap (λ (t : TrailState). t.allowed) new.trail;
      begun = ap (λ (t : TrailState). t.assigned) new.trail;
      fresh = ap (λ (t : TrailState). t.restarts) new.trail;
      kept = new.kept;
    };
    intact = record {
      trail = new.kept [];
      has_rows = ap has_rows new.derivation;
      legal = new.legal;
      watched = new_watched;
      watching = record { holds = new_holds; front = new_front; room = new_room };
      room = record { trail = λ x at. absurd (contains_nil x at); signs = λ x at. absurd (contains_nil x at) };
    };
    attached = λ joined id at live. absurd (none_listed id at);
    tallied = new.long ∙ sym (tally_none s.derivation (no_links s.derivation new.derivation));
  }

-- with more room

pub longer : (old new : Memory) → (more : ℕ) × (new ≡ old ++ replicate more None) → length old ≤ length new
longer old new grown = let e = ap length grown.1 in omega (arith, e, length-append old (replicate grown.0 None))

-- only the room of a trail grows
pub record WidensTrail (old new : TrailState) : Type 0 where
  pub placed : new.placed ≡ old.placed
  pub allowed : new.allowed ≡ old.allowed
  pub assigned : new.assigned ≡ old.assigned
  pub restarts : new.restarts ≡ old.restarts
  pub kept : (scopes : List Scope) → IsTrailFor scopes old → IsTrailFor scopes new
  pub room : old.room ≤ new.room

pub same_trail : (old new : TrailState) → new ≡ old → WidensTrail old new
same_trail old new e = record {
  placed = ap (λ (t : TrailState). t.placed) e;
  allowed = ap (λ (t : TrailState). t.allowed) e;
  assigned = ap (λ (t : TrailState). t.assigned) e;
  restarts = ap (λ (t : TrailState). t.restarts) e;
  kept = λ scopes kept. subst (IsTrailFor scopes) (sym e) kept;
  room = let r = ap (λ (t : TrailState). t.room) e in omega arith;
}

pub wider_trail : (old new : TrailState) (vars : ℕ) → new ≡ with_room old vars
    → ((scopes : List Scope) → IsTrailFor scopes old → IsTrailFor scopes new) → WidensTrail old new
wider_trail old new vars e kept = record {
  placed = ap (λ (t : TrailState). t.placed) e;
  allowed = ap (λ (t : TrailState). t.allowed) e;
  assigned = ap (λ (t : TrailState). t.assigned) e;
  restarts = ap (λ (t : TrailState). t.restarts) e;
  kept = kept;
  room = let r = ap (λ (t : TrailState). t.room) e in omega arith;
}

-- a watch holds what it held and has looked at what it had, and has room for a wider trail
pub record WidensWatch (pivot : Quant) (arena : Arena) (old new : WatchState) (narrow wide : ℕ) : Type 0 where
  pub holds : GoesOnHolding pivot old arena new arena
  pub looked : looked new ≡ looked old
  pub room : narrow ≤ old.room → wide ≤ new.room

-- only the room grows: that of the trail no further than that of the watches
pub record Widens (old new : SearchState) : Type 0 where
  pub derivation : new.derivation ≡ old.derivation
  pub watched : new.watched ≡ old.watched
  pub joined : new.joined ≡ old.joined
  pub long : new.long ≡ old.long
  pub trail : WidensTrail old.trail new.trail
  pub signs : length old.signs ≤ length new.signs
  pub watches : (side : Quant)
      → WidensWatch side (rows_of old) (watch_of side old) (watch_of side new) old.trail.room new.trail.room

module _ (s : SearchState) (t : TrailState) (clauses cubes : WatchState) (signs : Memory) where
  abbrev widened : SearchState
  widened = record s { trail = t; clauses = clauses; cubes = cubes; signs = signs }

  pub widens : WidensTrail s.trail t → length s.signs ≤ length signs
      → WidensWatch Exists (rows_of s) s.clauses clauses s.trail.room t.room
      → WidensWatch Forall (rows_of s) s.cubes cubes s.trail.room t.room → Widens s widened
  widens trail more ones twos = record {
    derivation = refl;
    watched = refl;
    joined = refl;
    long = refl;
    trail = trail;
    signs = more;
    watches = λ side. elim side as (λ p. WidensWatch p (rows_of s) (watch_of p s)
        (watch_of p widened) s.trail.room t.room) [ Exists ↦ ones | Forall ↦ twos ];
  }

module _ (scopes : List Scope) (old new : SearchState) (widens : Widens old new) (resting : IsResting scopes old) where
  wide_watched : AreWatched scopes new
  wide_watched =
      let h = resting.intact.watched in
      record {
        marked = rw widens.derivation h.marked;
        sides = rw widens.derivation h.sides;
        listed = rw (widens.derivation, widens.watched) h.listed;
        given = rw (widens.derivation, widens.watched) h.given;
        steps = rw (widens.derivation, widens.watched) h.steps;
        clauses = rw (widens.derivation, widens.watched) h.clauses;
      }

  wide_holds : (side : Quant) → Holds side scopes (watch_of side new) (rows_of new)
  wide_holds side = subst (λ (d : State). Holds side scopes (watch_of side new) (arena_of d)) (sym widens.derivation)
      ((widens.watches side).holds scopes (resting.intact.watching.holds side))

  wide_front : (side : Quant) → IsFront (looked (watch_of side new)) (literals_on new.trail.placed)
  wide_front side = rw ((widens.watches side).looked, widens.trail.placed) (resting.intact.watching.front side)

  attached_wide : AreAttached old → AreAttached new
  attached_wide h = rw (widens.derivation, widens.watched) h

  pub resting_wide : IsResting scopes new
  resting_wide = record {
    rest = record {
      empty = widens.trail.placed ∙ resting.rest.empty;
      allowed = widens.trail.allowed ∙ resting.rest.allowed;
      begun = widens.trail.assigned ∙ resting.rest.begun;
      fresh = widens.trail.restarts ∙ resting.rest.fresh;
      kept = λ prefix. widens.trail.kept prefix (resting.rest.kept prefix);
    };
    intact = record {
      trail = widens.trail.kept scopes resting.intact.trail;
      has_rows = rw widens.derivation resting.intact.has_rows;
      legal = rw widens.derivation resting.intact.legal;
      watched = wide_watched;
      watching = record {
        holds = wide_holds;
        front = wide_front;
        room =
            λ side. (widens.watches side).room (resting.intact.watching.room side);
      };
      room = record {
        trail = λ x at. let h = resting.intact.room.trail x at in let w = widens.trail.room in omega arith;
        signs = λ x at. let h = resting.intact.room.signs x at in let w = widens.signs in omega arith;
      };
    };
    attached = λ joined. attached_wide (resting.attached (sym widens.joined ∙ joined));
    tallied = tally_moved old new widens.derivation widens.long resting.tallied;
  }

-- under a larger prefix

module _ (extends_all : PrefixesMayGrow) (listed : ClausesAreListed) (stay : ReductionsStay)
    (holding : HoldingLaws) where
  reduced_under : (pivot : Quant) (old new : List Scope) (d : State) (id : ℕ) → Extends old new → IsLegalFor old d
      → IsReducedStep pivot old d id → IsReducedStep pivot new d id
  reduced_under pivot old new d id extends legal is = record {
    step = is.step;
    of_side = is.of_side;
    reduced = sym (stay.reduced pivot old new (row_of d id) extends (step_row old d id legal is.step)) ∙ is.reduced;
  }

  clause_row : (scopes : List Scope) (d : State) (c : OpenClause) → IsLegalFor scopes d → Contains (clauses_of d) c
      → IsRow scopes c.row
  clause_row scopes d c legal at =
      subst (IsRow scopes) (listed.row d c at)
      (step_row scopes d c.id legal (ap may_be_antecedent (listed.note d c at)))

  reduction_under : (old new : List Scope) (d : State) (c : OpenClause) (id : ℕ) → Extends old new → IsLegalFor old d
      → Contains (clauses_of d) c → IsReductionOf old d c id → IsReductionOf new d c id
  reduction_under old new d c id extends legal at is = record {
    step = is.step;
    of_side = is.of_side;
    literals = is.literals ∙ stay.reduced Exists old new c.row extends (clause_row old d c legal at);
    tag = is.tag;
    rests = is.rests;
  }

  pub resting_grows : RestingGrows
  resting_grows old new s extends room resting =
      let intact = resting.intact in
      let h = intact.watched in
      record {
        rest = resting.rest;
        intact = record {
          trail = resting.rest.kept new;
          has_rows = intact.has_rows;
          legal = extends_all old new s.derivation extends intact.legal;
          watched = record {
            marked = h.marked;
            sides = λ side id a. reduced_under side old new s.derivation id extends intact.legal (h.sides side id a);
            listed = h.listed;
            given = h.given;
            steps = λ id at live. reduced_under (side_at s.derivation id) old new s.derivation id extends intact.legal
                (h.steps id at live);
            clauses = λ c at. let r = h.clauses c at in
                (r.0, r.1, reduction_under old new s.derivation c r.0 extends intact.legal at r.2);
          };
          watching = record {
            holds = λ side. holding.grows side old new (watch_of side s) (rows_of s) extends
                (intact.watching.holds side);
            front = intact.watching.front;
            room = intact.watching.room;
          };
          room = room;
        };
        attached = resting.attached;
        tallied = resting.tallied;
      }
