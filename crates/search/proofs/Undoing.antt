-- Searches that are undone, to a level or to rest.
use Rattle.std.proofs.Common.{◌≡◌, ℕ, ◌-◌, ◌≤◌, ◌<◌, Bool, List, [], ◌∷◌, length, take, refl, sym, ap, subst, ◌∙◌}
use Rattle.std.proofs.lemmas.List.{length-set}
use Rattle.prefix.specs.declared.quant.Quant.{Quant}
use Rattle.prefix.specs.declared.quant.Quant.TheVariants.{Exists, Forall}
use Rattle.prefix.specs.Literal.{Literal}
use Rattle.prefix.specs.Scopes.{Scope}
use Rattle.calculus.specs.Search.{AreTheAssumptions, Trail, cut_trail, last_level, literals_on}
use Rattle.calculus.proofs.Assuming.{cut}
use Rattle.calculus.proofs.Cutting.{cut_shorter}
use Rattle.trail.specs.State.{TrailState, IsTrailFor, allowed_anew, begun_anew, counted, restarted, undone_to, with_front}
use Rattle.trail.specs.declared.allowed.Allowed.TheVariants.{NoDecision, Nothing}
use Rattle.trail.proofs.Cutting.{undone_high}
use Rattle.decide.specs.Memory.{Memory, saved, with_phase}
use Rattle.derive.specs.State.{State, arena_of}
use Rattle.watch.specs.State.{Holds, IsFront, WatchState, looked, undone_to as watch_undone}
use Rattle.watch.specs.Laws.{HoldingLaws, LookingLaws}
use Rattle.clean.specs.Reasons.{HaveReasons}
use Rattle.clean.proofs.Reasoning.{cut_have}
use Rattle.search.specs.State.{IsAtRest, IsIntact, IsPaused, IsResting, IsSearching, SearchState, rows_of, watch_of}
use Rattle.search.specs.Counting.{size_of}
use Rattle.search.specs.Moves.{BeginsAnew, Undoes}
use Rattle.search.proofs.Counting.{counted_back}
use Rattle.search.proofs.Turning.{same_watched, tally_moved}

-- as many signs as before
pub saved_length : (literals : List Literal) (memory : Memory) → length (saved literals memory) ≡ length memory
saved_length [] memory = refl
saved_length (l ∷ literals) memory = saved_length literals (with_phase memory l) ∙ length-set memory (l.variable - 1) _

-- the watches are told of a cut, and nothing else changes but the trail
pub record CutChanges (s new : SearchState) (keep : ℕ) : Type 0 where
  pub derivation : new.derivation ≡ s.derivation
  pub watched : new.watched ≡ s.watched
  pub clauses : new.clauses ≡ watch_undone keep s.clauses
  pub cubes : new.cubes ≡ watch_undone keep s.cubes
  pub signs : length new.signs ≡ length s.signs
  pub long : new.long ≡ s.long
  pub room : new.trail.room ≡ s.trail.room

pub cut_changes : (v s : SearchState) (t : TrailState) (keep : ℕ) (clauses cubes : WatchState) (signs : Memory)
    → v ≡ s → t.room ≡ v.trail.room → clauses ≡ watch_undone keep v.clauses → cubes ≡ watch_undone keep v.cubes
    → length signs ≡ length v.signs → (joined : Bool)
    → CutChanges s (record v { trail = t; clauses = clauses; cubes = cubes; signs = signs; joined = joined }) keep
cut_changes v s t keep clauses cubes signs e room one two three joined = record {
  derivation = ap (λ (x : SearchState). x.derivation) e;
  watched = ap (λ (x : SearchState). x.watched) e;
  clauses = one ∙ ap (λ (x : SearchState). watch_undone keep x.clauses) e;
  cubes = two ∙ ap (λ (x : SearchState). watch_undone keep x.cubes) e;
  signs = three ∙ ap (λ (x : SearchState). length x.signs) e;
  long = ap (λ (x : SearchState). x.long) e;
  room = room ∙ ap (λ (x : SearchState). x.trail.room) e;
}

module _ (scopes : List Scope) (s new : SearchState) (keep : ℕ) (laws : HoldingLaws)
    (changes : CutChanges s new keep) where
  cut_watch : (side : Quant) → watch_of side new ≡ watch_undone keep (watch_of side s)
  cut_watch Exists = changes.clauses
  cut_watch Forall = changes.cubes

  pub intact_cut : IsIntact scopes s → IsTrailFor scopes new.trail
      → ((side : Quant) → IsFront (looked (watch_undone keep (watch_of side s))) (literals_on new.trail.placed))
      → IsIntact scopes new
  intact_cut intact trail front = record {
    trail = trail;
    has_rows = rw changes.derivation intact.has_rows;
    legal = rw changes.derivation intact.legal;
    watched = same_watched scopes s new changes.derivation changes.watched intact.watched;
    watching = record {
      holds = λ side. subst (λ (w : WatchState). Holds side scopes w (rows_of new)) (sym (cut_watch side))
          (subst (λ (d : State). Holds side scopes (watch_undone keep (watch_of side s)) (arena_of d))
          (sym changes.derivation) (laws.undone side scopes (watch_of side s) (rows_of s) keep
          (intact.watching.holds side)));
      front = λ side. subst (λ (w : WatchState). IsFront (looked w) (literals_on new.trail.placed))
          (sym (cut_watch side)) (front side);
      room = λ side. subst (λ (w : WatchState). new.trail.room ≤ w.room) (sym (cut_watch side))
          (rw changes.room (intact.watching.room side));
    };
    room = record { trail = rw changes.room intact.room.trail; signs = rw changes.signs intact.room.signs };
  }

  pub paused_cut : IsPaused scopes s → IsTrailFor scopes new.trail
      → ((side : Quant) → IsFront (looked (watch_undone keep (watch_of side s))) (literals_on new.trail.placed))
      → IsPaused scopes new
  paused_cut paused trail front =
      record {
        intact = intact_cut paused.intact trail front;
        attached =
            rw (changes.derivation, changes.watched) paused.attached;
        tallied = tally_moved s new changes.derivation changes.long paused.tallied;
      }

-- to a level below that of the trail
pub undoes : (scopes : List Scope) (level keep : ℕ) (s new : SearchState) → HoldingLaws → LookingLaws
    → IsSearching scopes s → level < last_level s.trail.placed → CutChanges s new keep
    → new.trail ≡ undone_to level s.trail → IsTrailFor scopes new.trail
    → keep ≡ length (cut_trail level s.trail.placed) → Undoes scopes level s new
undoes scopes level keep s new holding looking searching below changes is trail keeps =
    let intact = searching.paused.intact in
    let old = s.trail.placed in
    let high : new.trail ≡ with_front (cut_trail level old) (length (cut_trail level old)) s.trail = is
    ∙ undone_high level s.trail below in
    let placed : new.trail.placed ≡ cut_trail level old = ap (λ (t : TrailState). t.placed) high in
    let long : length (undone_to level s.trail).placed ≡ keep =
    ap (λ (t : TrailState). length t.placed) (undone_high level s.trail below) ∙ sym keeps in
    let front : (side : Quant) → IsFront (looked (watch_undone keep (watch_of side s))) (literals_on new.trail.placed) =
    λ side. subst (λ (t : TrailState). IsFront (looked (watch_undone keep (watch_of side s))) (literals_on t.placed))
    (sym is) (subst (λ n. IsFront (looked (watch_undone n (watch_of side s)))
    (literals_on (undone_to level s.trail).placed)) long
    (looking.undone (watch_of side s) s.trail level (intact.watching.front side))) in
    record {
      searching = record {
        paused = paused_cut scopes s new keep holding changes searching.paused trail front;
        reasons = λ side. subst (λ (t : TrailState). HaveReasons side scopes new.derivation t) (sym is)
            (subst (λ (d : State). HaveReasons side scopes d (undone_to level s.trail)) (sym changes.derivation)
            (cut_have side scopes s.derivation s.trail level (searching.reasons side)));
      };
      derivation = changes.derivation;
      restarts = ap (λ (t : TrailState). t.restarts) high;
      placed = placed;
      assigned = ap (λ (t : TrailState). t.assigned) high;
      allowed = λ e. (let g : NoDecision ≡ Nothing = sym (ap (λ (t : TrailState). t.allowed) high) ∙ e in cc);
      assumed = λ assumptions h. subst (λ (t : Trail). AreTheAssumptions t assumptions) (sym placed)
          (cut scopes old assumptions level intact.trail.ordered h);
      paid =
          λ start steps.
          let shorter : length new.trail.placed < length old = rw placed (cut_shorter old level below) in
          counted_back (size_of scopes) start s.trail new.trail steps shorter intact.trail.marked
          (ap (λ (t : TrailState). t.marks) high ∙ ap (λ n. take n s.trail.marks) (sym (ap length placed)))
          (ap (λ (t : TrailState). t.assigned) high);
    }

-- to level 0, from where the search begins anew
anew_have : (side : Quant) (scopes : List Scope) (d : State) (t : TrailState) → HaveReasons side scopes d t
    → HaveReasons side scopes d (begun_anew t)
anew_have side scopes d t have l id of_pivot is_bad cause =
    let r = have l id of_pivot is_bad cause in
    record { step = r.step; unit = r.unit; clean = r.clean }

pub anew : (scopes : List Scope) (keep : ℕ) (s new : SearchState) → HoldingLaws → LookingLaws
    → IsSearching scopes s → 0 < last_level s.trail.placed → CutChanges s new keep → new.trail ≡ restarted s.trail
    → IsTrailFor scopes new.trail → keep ≡ length (cut_trail 0 s.trail.placed) → BeginsAnew scopes s new
anew scopes keep s new holding looking searching below changes is trail keeps =
    let intact = searching.paused.intact in
    let old = s.trail.placed in
    let high = undone_high 0 s.trail below in
    let placed : new.trail.placed ≡ cut_trail 0 old = ap (λ (t : TrailState). t.placed) is
    ∙ ap (λ (t : TrailState). t.placed) high in
    let long : length (undone_to 0 s.trail).placed ≡ keep = ap (λ (t : TrailState). length t.placed) high
    ∙ sym keeps in
    let front : (side : Quant) → IsFront (looked (watch_undone keep (watch_of side s))) (literals_on new.trail.placed) =
    λ side. subst (λ (t : Trail). IsFront (looked (watch_undone keep (watch_of side s))) (literals_on t))
    (sym (ap (λ (t : TrailState). t.placed) is)) (subst (λ n. IsFront (looked (watch_undone n (watch_of side s)))
    (literals_on (undone_to 0 s.trail).placed)) long
    (looking.undone (watch_of side s) s.trail 0 (intact.watching.front side))) in
    let assigned : new.trail.assigned ≡ s.trail.assigned = ap (λ (t : TrailState). t.assigned) is
    ∙ ap (λ (t : TrailState). t.assigned) high in
    record {
      searching = record {
        paused = paused_cut scopes s new keep holding changes searching.paused trail front;
        reasons = λ side. subst (λ (t : TrailState). HaveReasons side scopes new.derivation t) (sym is)
            (subst (λ (d : State). HaveReasons side scopes d (restarted s.trail)) (sym changes.derivation)
            (anew_have side scopes s.derivation (undone_to 0 s.trail)
            (cut_have side scopes s.derivation s.trail 0 (searching.reasons side))));
      };
      derivation = changes.derivation;
      placed = placed;
      assigned = assigned;
      restarts = ap (λ (t : TrailState). t.restarts) is ∙ ap (λ (t : TrailState). counted t.restarts 1) high;
      allowed = ap (λ (t : TrailState). t.allowed) is ∙ ap (λ (t : TrailState). allowed_anew t.allowed) high;
      assumed = λ assumptions h. subst (λ (t : Trail). AreTheAssumptions t assumptions) (sym placed)
          (cut scopes old assumptions 0 intact.trail.ordered h);
      paid =
          λ start steps.
          let shorter : length new.trail.placed < length old = rw placed (cut_shorter old 0 below) in
          counted_back (size_of scopes) start s.trail new.trail steps shorter intact.trail.marked
          (ap (λ (t : TrailState). t.marks) is ∙ (ap (λ (t : TrailState). t.marks) high
          ∙ ap (λ n. take n s.trail.marks) (sym (ap length placed))))
          assigned;
    }

-- to rest
pub rests : (scopes : List Scope) (s new : SearchState) → HoldingLaws → LookingLaws → IsPaused scopes s
    → CutChanges s new 0 → IsAtRest new.trail → IsResting scopes new
rests scopes s new holding looking paused changes rest =
    record {
      rest = rest;
      intact = intact_cut scopes s new 0 holding changes paused.intact (rest.kept scopes)
          (λ side. rw rest.empty (looking.cleared (watch_of side s)));
      attached = λ joined. rw (changes.derivation, changes.watched) paused.attached;
      tallied = tally_moved s new changes.derivation changes.long paused.tallied;
    }
