-- What the calls of a desk keep.
use Rattle.std.proofs.Common.{◌≡◌, ◌≢◌, ℕ, ◌+◌, ◌<◌, ◌≤◌, List, [], ◌∷◌, ◌++◌, length, get_or, take, Contains, Ok, Err, sym, ap, subst, ◌∙◌, ⊎_elim, nat_le, arith}
use Rattle.std.specs.Prelude.{OnErr, OnOk, Result}
use Rattle.std.proofs.lemmas.Bool.{cases_Bool, cond-true, cond-false}
use Rattle.std.proofs.lemmas.List.{take_more, take_all}
use Rattle.std.proofs.lemmas.List.Elements.{Contains-append_cases}
use Rattle.prefix.specs.declared.quant.Quant.{Quant}
use Rattle.prefix.specs.Literal.{Literal}
use Rattle.prefix.specs.Scopes.{Scope, all_variables}
use Rattle.calculus.specs.Search.{Cause, Trail, cut_trail, last_level, literals_on}
use Rattle.calculus.proofs.Lists.{contains_cons, contains_nil}
use Rattle.rows.specs.Arena.{Arena, with_row}
use Rattle.trail.specs.State.{IsTrailFor, TrailState, cleared, undone_to as cut_to, with_front, with_literal, with_room}
use Rattle.trail.specs.declared.allowed.Allowed.TheVariants.{Anything, NoDecision, Nothing}
use Rattle.watch.specs.State.{Holds, IsFront, IsRoomFor, KeepsLooked, WatchState, looked, undone_to}
use Rattle.watch.proofs.Stability.{agrees_added, front_assigned, front_cleared, front_undone, holds_agrees}
use Rattle.test_watch.specs.Ready.{IsReady}

pub record AreRoomFor (scopes : List Scope) (room : ℕ) (row : List Literal) : Type 0 where
  pub known : IsRoomFor scopes room row

pub room_none : (scopes : List Scope) (room : ℕ) → AreRoomFor scopes room []
room_none scopes room = record { known = λ l i. absurd (contains_nil l i) }

pub room_more : (scopes : List Scope) (room : ℕ) (row : List Literal) (k : ℕ) (x : Literal)
    → AreRoomFor scopes room (take k row) → k < length row → x ≡ get_or row k x
    → Contains (all_variables scopes) x.variable → x.variable ≤ room → AreRoomFor scopes room (take (k + 1) row)
room_more scopes room row k x before below is known low = record {
  known = λ l i.
      let all : take (k + 1) row ≡ take k row ++ x ∷ [] = take_more row k x below
      ∙ ap (λ y. take k row ++ y ∷ []) (sym is) in
      ⊎_elim (λ early. before.known l early)
      (λ last. ⊎_elim (λ (e : x ≡ l). rw (← e) (known, low)) (λ n. absurd (contains_nil l n))
      (contains_cons x [] l last))
      (Contains-append_cases (take k row) (x ∷ []) l (rw all at i));
}

pub room_all : (scopes : List Scope) (room : ℕ) (row : List Literal) (k : ℕ) → length row ≤ k
    → AreRoomFor scopes room (take k row) → IsRoomFor scopes room row
room_all scopes room row k past all l i = all.known l (rw (take_all k row past) i)

-- a trail that is cut
abbrev cut_by : TrailState → ℕ → TrailState
cut_by t level = with_front (cut_trail level t.placed) (length (cut_trail level t.placed)) t

-- a cut leaves a trail on which literals may be assigned
allowed_undone : (t : TrailState) (level : ℕ) → t.allowed ≢ Nothing → (cut_to level t).allowed ≢ Nothing
allowed_undone t level before e =
    ⊎_elim
    (λ s. before
    (sym (ap (λ (u : TrailState). u.allowed) (cond-true (nat_le (last_level t.placed) level) t (cut_by t level) s))
    ∙ e))
    (λ f. let h : NoDecision ≡ Nothing =
    sym (ap (λ (u : TrailState). u.allowed) (cond-false (nat_le (last_level t.placed) level) t (cut_by t level) f))
    ∙ e in cc)
    (cases_Bool (nat_le (last_level t.placed) level))

module _ (pivot : Quant) (scopes : List Scope) (arena : Arena) (t : TrailState) (w : WatchState)
    (ready : IsReady pivot scopes arena t w) where
  -- a row comes in
  pub added_ready : (now : Arena) (lits : List Literal) → now ≡ with_row arena lits → IsReady pivot scopes now t w
  added_ready now lits is = record {
    holds = subst (λ (a : Arena). Holds pivot scopes w a) (sym is)
        (holds_agrees pivot scopes w arena (with_row arena lits) (agrees_added pivot arena lits) ready.holds);
    front = ready.front;
    order = ready.order;
    allowed = ready.allowed;
  }

  -- the watch is called, and what it looked at stays
  pub kept_ready : (now : Arena) (later : WatchState) → Holds pivot scopes later now → KeepsLooked w later
      → IsReady pivot scopes now t later
  kept_ready now later holds kept = record {
    holds = holds;
    front = subst (λ (xs : List Literal). IsFront xs (literals_on t.placed)) (sym kept.looked) ready.front;
    order = ready.order;
    allowed = ready.allowed;
  }

  -- the watch looks at the whole trail
  pub looked_ready : (now : Arena) (later : WatchState) → Holds pivot scopes later now
      → looked later ≡ literals_on t.placed → IsReady pivot scopes now t later
  looked_ready now later holds is =
      let all = literals_on t.placed in
      record {
        holds = holds;
        front = subst (λ (xs : List Literal). IsFront xs all) (sym is) (sym (take_all (length all) all (omega arith)));
        order = ready.order;
        allowed = ready.allowed;
      }

  -- a literal is assigned, or isn't
  pub assigned_ready : {A E : Type 0} (now : TrailState) (lit : Literal) (cause : Cause) (r : Result A E)
      → OnOk r (now ≡ with_literal scopes (with_room t lit.variable) lit cause) → OnErr r (now.placed ≡ t.placed)
      → OnErr r (now.allowed ≡ t.allowed) → IsTrailFor scopes now → IsReady pivot scopes arena now w
  assigned_ready now lit cause (Ok x) is placed allowed order = record {
    holds = ready.holds;
    front = subst (λ (u : TrailState). IsFront (looked w) (literals_on u.placed)) (sym is)
        (front_assigned w scopes (with_room t lit.variable) lit cause ready.front);
    order = order;
    allowed = λ e. let h : Anything ≡ Nothing = sym (ap (λ (u : TrailState). u.allowed) is) ∙ e in cc;
  }
  assigned_ready now lit cause (Err x) is placed allowed order = record {
    holds = ready.holds;
    front = subst (λ (ps : Trail). IsFront (looked w) (literals_on ps)) (sym placed) ready.front;
    order = order;
    allowed = λ e. ready.allowed (sym allowed ∙ e);
  }

  -- the trail is cut, and the watch told
  pub undone_ready : (now : TrailState) (later : WatchState) (level : ℕ) → now ≡ cut_to level t
      → later ≡ undone_to (length now.placed) w → IsTrailFor scopes now → IsReady pivot scopes arena now later
  undone_ready now later level is told order = record {
    holds = subst (λ (v : WatchState). Holds pivot scopes v arena) (sym told) ready.holds;
    front = subst (λ (v : WatchState). IsFront (looked v) (literals_on now.placed)) (sym told)
        (subst (λ (u : TrailState). IsFront (looked (undone_to (length u.placed) w)) (literals_on u.placed)) (sym is)
        (front_undone w t level ready.front));
    order = order;
    allowed = subst (λ (u : TrailState). u.allowed ≢ Nothing) (sym is) (allowed_undone t level ready.allowed);
  }

  -- the trail is emptied, and the watch told
  pub cleared_ready : (now : TrailState) (later : WatchState) → now ≡ cleared t → later ≡ undone_to 0 w
      → IsTrailFor scopes now → IsReady pivot scopes arena now later
  cleared_ready now later is told order = record {
    holds = subst (λ (v : WatchState). Holds pivot scopes v arena) (sym told) ready.holds;
    front = subst (λ (v : WatchState). IsFront (looked v) (literals_on now.placed)) (sym told)
        (subst (λ (u : TrailState). IsFront (looked (undone_to 0 w)) (literals_on u.placed)) (sym is)
        (front_cleared w));
    order = order;
    allowed = λ e. let h : Anything ≡ Nothing = sym (ap (λ (u : TrailState). u.allowed) is) ∙ e in cc;
  }
