-- Steps that nothing kept rests on are dropped while a search goes on.
use Rattle.std.proofs.Common.{◌≡◌, ◌<◌, ◌≤◌, ◌+◌, nat_lt, Bool, cond, length, ℕ, ◌++◌, true, List, Some, Contains, IsTrue, is_some, refl, sym, ap, subst, ◌∙◌, ⊎_elim, arith}
use Rattle.std.proofs.lemmas.Bool.{cases_Bool, cond-true, false≢true, ltb-true}
use Rattle.std.proofs.lemmas.List.Elements.{Contains-append_left, Contains-append_right}
use Rattle.std.proofs.lemmas.List.Sums.{count_by-le-length}
use Rattle.std.proofs.Math.Nat.{div-le_self}
use Rattle.prefix.specs.declared.quant.Quant.{Quant}
use Rattle.prefix.specs.Literal.{negation}
use Rattle.prefix.specs.Scopes.{Scope}
use Rattle.rows.specs.Arena.{literals_of}
use Rattle.calculus.proofs.Sizes.{row_length, trail_length}
use Rattle.calculus.specs.Rows.{Row}
use Rattle.calculus.specs.Search.{IsCleanBut, IsUnitIn, Placed, before_on, cause_on, value_on}
use Rattle.calculus.specs.Search.Cause.{Propagated}
use Rattle.calculus.specs.Derivations.{RestsOn}
use Rattle.calculus.specs.Derivations.Why.{ReducedFrom}
use Rattle.derive.specs.State.{IsLegalFor, State, SameStep, clauses_of, is_live, is_step, note_at, row_of, side_at, why_at, why_in}
use Rattle.derive.specs.Dropping.{Drops, StepTest}
use Rattle.derive.specs.Sweeping.{Stays, Sweeps}
use Rattle.derive.specs.Sweeping.Stays.{under}
use Rattle.trail.specs.State.{TrailState}
use Rattle.watch.specs.Laws.{AgreeingLaws, HoldingLaws}
use Rattle.clean.specs.Reasons.{HaveReasons, IsReason}
use Rattle.clean.proofs.Keeping.{step_row}
use Rattle.search.specs.Forgetting.{AreLive, Clears, Forgets, HasFewLong, HaveAllReasons, LetsOldest, Thins, is_by_long, left_long, long_reasons, without_detached}
use Rattle.search.specs.Counting.{size_of}
use Rattle.search.specs.Long.{is_input, is_learned, is_long}
use Rattle.search.specs.State.{IsAttached, IsSearching, SearchState}
use Rattle.search.proofs.Aging.{older_dropped, older_none, older_same, older_then}
use Rattle.search.proofs.Dropping.{attached_on, attached_still, attached_was, intact_rederived, note_of, rederived, tally_left, watched_left}
use Rattle.search.proofs.Marks.{reduced_by, step_live}
use Rattle.search.proofs.Reducing.{reductions_left, reductions_same}
use Rattle.search.proofs.Tallying.{one_if}
use Rattle.search.proofs.Thinning.{and_true}

-- the input clauses that reductions rest on stay
module _ (keep : List ℕ) (old new : State) (sweeps : Sweeps keep old new) where
  stays_live : (id : ℕ) → is_live new id ≡ true → Stays keep old.notes id × (note_at new id ≡ note_at old id)
  stays_live id live =
      ⊎_elim (λ stays. stays) (λ gone. absurd (false≢true (sym (ap is_some gone.1) ∙ live))) (sweeps.exactly id)

  pub inputs_swept : (id a : ℕ) → is_live new id ≡ true → why_at old id ≡ ReducedFrom a
      → is_input (note_at new a) ≡ is_input (note_at old a)
  inputs_swept id a live why =
      let stays = stays_live id live in
      let n = note_of (note_at old id) (sym (ap is_some stays.1) ∙ live) in
      let is : n.0.why ≡ ReducedFrom a = sym (ap why_in n.1) ∙ why in
      let rests : Stays keep old.notes a =
      under id a n.0 n.1 (subst (λ w. RestsOn w a) (sym is) refl) stays.0 in
      ⊎_elim (λ stay. ap is_input stay.1) (λ gone. absurd (gone.0 rests)) (sweeps.exactly a)

-- reasons stay
reasons_kept : (side : Quant) (scopes : List Scope) (old new : State) (t : TrailState)
    → ((x id : ℕ) → cause_on t.placed x ≡ Some (Propagated id) → IsTrue (is_live old id) → SameStep old new id)
    → HaveReasons side scopes old t → HaveReasons side scopes new t
reasons_kept side scopes old new t kept have l id pivot is_bad cause =
    let r : IsReason side scopes old t (negation l) id = have l id pivot is_bad cause in
    let same = kept l.variable id cause (step_live _ r.step.step) in
    let row : row_of new id ≡ row_of old id = ap literals_of same.row in
    record {
      step = reduced_by side scopes old new id same.note row r.step;
      unit = subst (λ (w : Row). IsUnitIn side scopes (value_on (before_on t.placed (negation l).variable)) w
          (negation l)) (sym row) r.unit;
      clean = λ marked. subst (λ (w : Row). IsCleanBut side t.placed (negation l) w) (sym row) (r.clean marked);
    }

module _ (holding : HoldingLaws) (agreeing : AgreeingLaws) (scopes : List Scope) (s : SearchState) (d : State)
    (ids keep : List ℕ) (searching : IsSearching scopes s)
    (alive : AreLive s.derivation s.watched) (all : keep ≡ ids ++ s.watched)
    (reasons : HaveAllReasons s.derivation s.trail.placed ids) (sweeps : Sweeps keep s.derivation d)
    (is_root : StepTest) (drops : Drops is_root s.derivation d)
    (kept : (id : ℕ) → Contains keep id → SameStep s.derivation d id)
    (clauses : clauses_of d ≡ clauses_of s.derivation) (legal : IsLegalFor scopes d) where
  abbrev new : SearchState
  new = rederived s d s.watched

  watched_same : (id : ℕ) → Contains s.watched id → SameStep s.derivation d id
  watched_same id at = kept id (subst (λ ws. Contains ws id) (sym all) (Contains-append_right ids s.watched id at))

  watched_live : (id : ℕ) → Contains s.watched id → IsTrue (is_live d id)
  watched_live id at =
      ap is_some (watched_same id at).note ∙ alive id at

  attached_same : (side : Quant) (id : ℕ) → IsAttached s side id → IsTrue (is_live d id)
  attached_same side id a = watched_live id (searching.paused.intact.watched.listed side id a)

  pub cleared : Clears scopes s new
  cleared = record {
    searching = record {
      paused = record {
        intact = intact_rederived holding agreeing scopes s d s.watched searching.paused.intact drops.has_rows legal
            (watched_left scopes s d is_root drops
            (λ c at. (subst (λ cs. Contains cs c) clauses at, λ id i r. watched_live id i))
            searching.paused.intact.watched)
            (λ side id a. (drops.others id (attached_same side id a)).row)
            (λ side id a. (attached_was scopes s d is_root drops side id a).0);
        attached = attached_still scopes s d is_root drops attached_same searching.paused.attached;
        tallied = searching.paused.tallied ∙ sym (tally_left scopes s d is_root drops attached_same
            (λ id a at. inputs_swept keep s.derivation d sweeps id a (attached_same (side_at s.derivation id) id at)));
      };
      reasons = λ side. reasons_kept side scopes s.derivation d s.trail
          (λ x id cause live. kept id (subst (λ ws. Contains ws id) (sym all)
          (Contains-append_left ids s.watched id (reasons x id cause live)))) (searching.reasons side);
    };
    clauses = clauses;
    older = older_dropped is_root s.derivation d drops;
    trail = refl;
    long = refl;
    attached = attached_on scopes s d is_root drops attached_same;
    was = λ side id a. (attached_was scopes s d is_root drops side id a).0;
    reductions = reductions_left is_root s.derivation d drops;
  }

-- where nothing is dropped
pub clears_none : (scopes : List Scope) (s : SearchState) → IsSearching scopes s → Clears scopes s s
clears_none scopes s searching = record {
  searching = searching;
  clauses = refl;
  older = older_none s.derivation;
  trail = refl;
  long = refl;
  attached = λ side id a. a;
  was = λ side id a. a;
  reductions = omega arith;
}

-- a list with another one behind it
pub extended : (old now other watched : List ℕ) (ok : Bool) → now ≡ cond ok (old ++ other) old → ok ≡ true
    → other ≡ watched → now ≡ old ++ watched
extended old now other watched ok is done same =
    is ∙ (cond-true ok (old ++ other) old done ∙ ap (λ (ids : List ℕ). old ++ ids) same)

-- the literals that were propagated from long rows are at most as many as the variables
few_reasons : (scopes : List Scope) (s : SearchState) → IsSearching scopes s → long_reasons s ≤ size_of scopes
few_reasons scopes s searching =
    let few = count_by-le-length (λ (p : Placed). is_by_long s.derivation p.cause) s.trail.placed in
    let short = trail_length scopes s.trail.placed searching.paused.intact.trail.ordered in
    omega (arith, few, short)

-- some rows were detached and left out, and steps dropped
pub forgets : (kept : ℕ) (scopes : List Scope) (old mid new : SearchState) → IsSearching scopes old
    → Thins scopes old mid → LetsOldest old mid → kept + long_reasons old < old.long
    → mid.long ≡ left_long kept + long_reasons old → Clears scopes (without_detached mid) new
    → Forgets kept scopes old new
forgets kept scopes old mid new searching thins oldest more left clears =
    let reasons = few_reasons scopes old searching in
    let half : left_long kept ≤ kept = div-le_self kept 2 in
    let same = clears.long in
    let reduced = reductions_same old.derivation mid.derivation thins.steps in
    let fewer = clears.reductions in
    record {
      searching = clears.searching;
      clauses = clears.clauses ∙ thins.steps.clauses;
      older = older_then old.derivation mid.derivation new.derivation
          (older_same old.derivation mid.derivation thins.steps) clears.older;
      trail = clears.trail ∙ thins.trail;
      few = omega (arith, reasons, half, same, left);
      none = λ least. absurd (omega (arith, least, more));
      left = λ _. same ∙ left;
      lets = record {
        was = λ side id a. thins.lets.was side id (clears.was side id a);
        stays = λ side id a may. clears.attached side id (thins.lets.stays side id a may);
      };
      oldest = λ side other gone id at not still. oldest side other gone id at
          (λ a. not (clears.attached side gone a)) (clears.was other id still);
      reductions = omega (arith, reduced, fewer);
    }

pub forgets_none : (kept : ℕ) (scopes : List Scope) (s : SearchState) → IsSearching scopes s
    → s.long ≤ kept + long_reasons s → Forgets kept scopes s s
forgets_none kept scopes s searching least = record {
  searching = searching;
  clauses = refl;
  older = older_none s.derivation;
  trail = refl;
  few = let reasons = few_reasons scopes s searching in omega (arith, reasons, least);
  none = λ _. refl;
  left = λ more. absurd (omega (arith, least, more));
  lets = record { was = λ side id a. a; stays = λ side id a may. a };
  oldest = λ side other gone id at not still may. absurd (not at);
  reductions = omega arith;
}

-- a row was attached: a short one, or one of few
pub few_kept : (kept : ℕ) (scopes : List Scope) (old new : SearchState) (id : ℕ) → IsLegalFor scopes old.derivation
    → IsTrue (is_step old.derivation id) → (IsTrue (is_long old.derivation id) → old.long ≤ kept)
    → new.long ≤ old.long + one_if (is_long old.derivation id) → HasFewLong kept scopes old
    → HasFewLong kept scopes new
few_kept kept scopes old new id legal step may one few =
    let row = row_of old.derivation id in
    ⊎_elim
    (λ t.
    let e : one_if (is_long old.derivation id) ≡ 1 = ap one_if t in
    let least = may t in
    let longer : 3 < length row =
    ltb-true 3 (length row)
    (and_true (is_learned old.derivation.notes (note_at old.derivation id)) (nat_lt 3 (length row)) t).1 in
    let most = row_length scopes row (step_row scopes old.derivation id legal step) in
    omega (arith, e, least, longer, most, one))
    (λ f. let e : one_if (is_long old.derivation id) ≡ 0 = ap one_if f in omega (arith, e, one, few))
    (cases_Bool (is_long old.derivation id))
