-- The worked values.
use Rattle.std.proofs.Common.{◌≡◌, ◌<◌, ◌≤◌, List, ℕ, zero, suc, Bool, true, false, [], ◌∷◌, ◌++◌, length, map, get_or, replicate, Contains, Some, None, refl, sym, subst, inl, inr, ⊎_elim, arith, ap, ◌∙◌}
use Rattle.std.specs.Prelude.{IsTrue, is_some, if◌then◌else◌, ◌==◌}
use Rattle.std.proofs.lemmas.Bool.{true≢false, false≢true}
use Rattle.prefix.specs.declared.quant.Quant.{Quant}
use Rattle.prefix.specs.declared.quant.Quant.TheVariants.{Exists, Forall}
use Rattle.calculus.proofs.WorkingSearch.{units}
use Rattle.clean.proofs.Working.{blocked_stays}
use Rattle.search.specs.Moves.{IsDue, IsInitialCube}
use Rattle.search.specs.Moves.IsDue.{unit as unit_is_due, bad as bad_is_due, decision as decision_is_due, cube as cube_is_due}
use Rattle.prefix.specs.Literal.{Literal}
use Rattle.prefix.specs.Scopes.{all_variables}
use Rattle.prefix.specs.Sides.{bad_of, opposite}
use Rattle.trail.specs.Open.{is_assigned}
use Rattle.trail.specs.State.{TrailState}
use Rattle.trail.specs.declared.allowed.Allowed.TheVariants.{Anything, NoDecision}
use Rattle.derive.specs.State.{OpenClause, is_live, side_at}
use Rattle.calculus.proofs.Lists.{contains_cons, contains_head, contains_nil, contains_tail}
use Rattle.calculus.specs.Rows.{Row, depth_of}
use Rattle.calculus.specs.Search.{Trail, is_decision, value_on}
use Rattle.calculus.specs.Search.Cause.{Assumed, Decided}
use Rattle.calculus.specs.Worked.{minus, plus}
use Rattle.calculus.specs.WorkedSearch.{alternating, bad, three}
use Rattle.cover.proofs.Working.{covers}
use Rattle.cover.specs.Choices.{MayCover}
use Rattle.cover.specs.Worked.{lone, mixed, three_scopes}
use Rattle.decide.specs.Decision.{IsDecision}
use Rattle.rows.specs.Arena.{link_at}
use Rattle.watch.specs.Links.{is_attached}
use Rattle.search.specs.Finishes.{IsFinishId}
use Rattle.search.specs.State.{AreAttached, AreMarked, rows_of}
use Rattle.search.specs.Worked.{WorkedCounts, WorkedDue, WorkedFinds, WorkedFinishes, all_bad, all_true, attached_to, covered, detached, framed, no_steps, once, search_of, search_over, three_of, trail_of, two_bad}

-- the row has no mark of the other side
not_theirs : (q : Quant) → is_attached q (rows_of (search_over q (attached_to (opposite q)) (all_bad q))) 0 ≡ false
not_theirs Exists = refl
not_theirs Forall = refl

ours : (q : Quant) → is_attached q (rows_of (search_over q (attached_to q) (two_bad q))) 0 ≡ true
ours Exists = refl
ours Forall = refl

-- no row is attached
none_attached : (q side : Quant) (t : Trail) (id : ℕ) → is_attached side (rows_of (search_over q detached t)) id ≡ false
none_attached q side t zero = refl
none_attached q side t (suc id) = refl

no_link : (q : Quant) (t : Trail) (id : ℕ) → link_at (rows_of (search_over q detached t)) id 6 ≡ None
no_link q t zero = refl
no_link q t (suc id) = refl

-- the row is attached to its side, and no other one is there
marked : (q : Quant) → AreMarked (rows_of (search_over q (attached_to q) []))
marked q zero = inr (q, ours q)
marked q (suc id) = inl refl

-- 2 is no mark
no_mark : (q side : Quant)
    → is_attached side (rows_of (search_over q (replicate 6 None ++ Some 2 ∷ None ∷ []) [])) 0 ≡ false
no_mark q Exists = refl
no_mark q Forall = refl

some_none : (n : ℕ) → Some n ≡ None → ⊥
some_none n e = cc

no_less : (n : ℕ) → n < 0 → ⊥
no_less n l = absurd (omega arith)

-- a list with one or three elements
only : {A : Type 0} (P : A → Type 0) (a : A) → P a → (x : A) → Contains (a ∷ []) x → P x
only P a p x i = ⊎_elim (λ e. subst P e p) (λ n. absurd (contains_nil x n)) (contains_cons a [] x i)

each : (P : ℕ → Type 0) → P 1 → P 2 → P 3 → (x : ℕ) → Contains (1 ∷ 2 ∷ 3 ∷ []) x → P x
each P a b c x i = ⊎_elim (λ e. subst P e a)
    (λ j. ⊎_elim (λ e. subst P e b) (only P 3 c x) (contains_cons 2 (3 ∷ []) x j))
    (contains_cons 1 (2 ∷ 3 ∷ []) x i)

not_below : (n : ℕ) → suc n < 1 → ⊥
not_below n l = absurd (omega arith)

-- the first variable comes first
first : (q : Quant) → IsDecision (alternating q) [] 1
first q = record {
  known = (0, omega arith, refl);
  unassigned = refl;
  order = λ y i l. absurd (each (λ x. depth_of (alternating q) x < 1 → ⊥) (not_below 0) (not_below 1)
      (not_below 2) y i l);
}

only_listed : (q : Quant) → AreAttached (search_over q (attached_to q) [])
only_listed q id at live = (
  q,
  only (λ i. is_attached q (rows_of (search_over q (attached_to q) [])) i ≡ true) 0 (ours q)
      id at,
)

pub finds : (pivot : Quant) → WorkedFinds pivot
finds pivot = record {
  unit = (ours pivot, (units pivot).unit);
  bad = (ours pivot, (units pivot).is_bad);
  no_unit = λ p. absurd (false≢true p.0);
  no_bad = λ p. false≢true (sym (not_theirs pivot) ∙ p.0);
  quiet = λ side. record {
    none_bad = λ id a b. false≢true (sym (none_attached pivot side (two_bad pivot) id) ∙ a);
    none_unit = λ id l a u. false≢true (sym (none_attached pivot side (two_bad pivot) id) ∙ a);
  };
  not_quiet = λ quiet. (quiet pivot).none_unit 0 _ (ours pivot) (units pivot).unit;
  unit_due = unit_is_due pivot 0 _ (record { step = refl; of_side = refl; reduced = blocked_stays pivot })
      (units pivot).unit;
  decision_due = decision_is_due 1 refl (first pivot);
  attached = marked pivot;
  not_attached = λ id. inl (no_link pivot [] id);
  elsewhere = λ m. ⊎_elim (some_none 2) (λ p. false≢true (sym (no_mark pivot p.0) ∙ p.1)) (m 0);
  attached_row = only_listed pivot;
  detached_row = λ a. let d = a 0 (contains_head 0 []) refl in
      false≢true (sym (none_attached pivot d.0 [] 0) ∙ d.1);
  dropped_row = λ id at live. absurd (false≢true (subst (λ i. is_live (three_of pivot detached) i ≡ true)
      (only (λ i. i ≡ 1) 1 refl id at) live));
}

-- with no steps only a decision may be due
module _ (t : TrailState) where
  only_decision : IsDue three_scopes (search_of no_steps t)
      → (x : ℕ) × (t.allowed ≡ Anything) × IsDecision three_scopes t.placed x
  only_decision (unit_is_due side id l step is) = absurd (false≢true step.step)
  only_decision (bad_is_due side id step is needs) = absurd (false≢true step.step)
  only_decision (decision_is_due x may is) = (x, may, is)
  only_decision (cube_is_due id is goes) = absurd (false≢true is.step)

not_anything : NoDecision ≡ Anything → ⊥
not_anything e = cc

some_not_none : (b : Bool) → Some b ≡ None → ⊥
some_not_none b e = cc

each_of : (P : ℕ → Type 0) → P 1 → P 2 → P 3 → P 4 → (x : ℕ) → Contains (all_variables three_scopes) x → P x
each_of P a b c d x i = ⊎_elim (λ e. subst P e a)
    (λ j. ⊎_elim (λ e. subst P e b)
    (λ k. ⊎_elim (λ e. subst P e c) (only P 4 d x) (contains_cons 3 (4 ∷ []) x k))
    (contains_cons 2 (3 ∷ 4 ∷ []) x j))
    (contains_cons 1 (2 ∷ 3 ∷ 4 ∷ []) x i)

one_not_two : ◌≡◌ {A = ℕ} 1 2 → ⊥
one_not_two e = absurd (omega arith)

no_seven : ◌≡◌ {A = ℕ} 0 7 → ⊥
no_seven e = absurd (omega arith)

five_not_nine : ◌≡◌ {A = ℕ} 5 9 → ⊥
five_not_nine e = absurd (omega arith)

two_not_three : (ids : List ℕ) → length ids ≡ 3 → length {A = ℕ} (9 ∷ 5 ∷ 6 ∷ []) ≡ length {A = ℕ} (9 ∷ ids) → ⊥
two_not_three ids many long = absurd (omega arith)

not_so_long : three ∷ (plus 1 ∷ []) ∷ [] ≡ (plus 1 ∷ []) ∷ three ∷ [] → ⊥
not_so_long e =
    let same : ◌≡◌ {A = ℕ} 3 1 = ap (λ (rows : List Row). length (get_or rows 0 [])) e in
    absurd (omega (arith, same))

both_of_7 : (c : OpenClause) → Contains (framed 4 7 three ∷ framed 6 7 (plus 1 ∷ []) ∷ []) c → c.frame ≡ 7
both_of_7 c at =
    ⊎_elim
    (λ e. ap (λ (x : OpenClause). x.frame) (sym e))
    (λ rest.
    ⊎_elim
    (λ e. ap (λ (x : OpenClause). x.frame) (sym e))
    (λ none. absurd (contains_nil c none))
    (contains_cons (framed 6 7 (plus 1 ∷ [])) [] c rest))
    (contains_cons (framed 4 7 three) (framed 6 7 (plus 1 ∷ []) ∷ []) c at)

side_apart : Exists ≡ Forall → ⊥
side_apart e = cc

-- what may stand in a cover of two clauses
abbrev MayStand : Literal → Type 0
MayStand l = MayCover three_scopes (value_on all_true) (mixed ∷ lone ∷ []) l

may_stand : MayStand (plus 3)
may_stand =
    let m = covers.latest in
    record {
      is_true = m.is_true;
      clause = m.clause;
      stands = only (Contains (mixed ∷ lone ∷ [])) mixed (0, omega arith, refl) m.clause m.stands;
      holds = m.holds;
      latest = m.latest;
      alone = m.alone;
    }

initial_cube : IsInitialCube three_scopes (search_of covered (trail_of all_true)) 2
initial_cube = record {
  assigned = each_of (λ x. IsTrue (is_assigned all_true x)) refl refl refl refl;
  step = refl;
  of_side = refl;
  why = refl;
  literals = λ l i. ⊎_elim (λ e. subst MayStand e covers.needed) (only MayStand (plus 3) may_stand l)
      (contains_cons (minus 1) (plus 3 ∷ []) l i);
}

pub dues : WorkedDue
dues = record {
  not_allowed = λ due. not_anything (only_decision (record (trail_of []) { allowed = NoDecision }) due).1;
  none_open = λ due. let d = only_decision (trail_of all_true) due in
      each_of (λ x. value_on all_true x ≡ None → ⊥) (some_not_none _) (some_not_none _) (some_not_none _)
      (some_not_none _) d.0 d.2.known d.2.unassigned;
  initial = initial_cube;
  cube_due = cube_is_due 2 initial_cube (λ e. one_not_two (ap (λ (r : Row). length r) e));
  unassigned = λ c. false≢true (c.assigned 4 (3, omega arith, refl));
  a_clause = λ c. side_apart c.of_side;
}

too_many : 21 ≤ 20 → ⊥
too_many l = absurd (omega arith)

too_long : 64 < 64 → ⊥
too_long l = absurd (omega arith)

not_counted : ◌≡◌ {A = ℕ} 12 11 → ⊥
not_counted e = absurd (omega arith)

one_not_zero : ◌≡◌ {A = ℕ} 0 1 → ⊥
one_not_zero e = absurd (omega arith)

not_other : three ≡ [] → ⊥
not_other e = cc

no_signs_of : (n : ℕ) → suc n ≤ 0 → ⊥
no_signs_of n l = absurd (omega arith)

other_side : Forall ≡ Exists → ⊥
other_side e = cc

not_empty : once Exists ≡ [] → ⊥
not_empty e = cc

abbrev first_frame : List OpenClause → ℕ
first_frame [] = 0
first_frame (c ∷ rest) = c.frame

abbrev of_frame : ℕ → ℕ → OpenClause
of_frame id frame = record { id = id; frame = frame; row = three }

-- the frame of the clause that came last
frame_of : (id : ℕ) → of_frame 4 0 ∷ [] ≡ of_frame id 1 ∷ [] → ◌≡◌ {A = ℕ} 0 1
frame_of id e = ap first_frame e

-- what has a value is the literal that was assumed
assumed_one : (b : Bool) → IsTrue (is_some (if b then Some (bad_of Exists) else None))
    → (if b then Some Assumed else None) ≡ Some Assumed
assumed_one true t = refl
assumed_one false t = absurd (false≢true t)

pub counts : WorkedCounts
counts = record {
  size = refl;
  counted = record {
    later = omega arith;
    few = omega arith;
    less = omega arith;
    within = omega arith;
    fits =
        grind (arith);
  };
  too_many = λ c. too_many c.few;
  owed = record {
    later = omega arith;
    few = omega arith;
    less = omega arith;
    within = omega arith;
    fits =
        grind (arith);
  };
  bounded = record { later = omega arith; few = omega arith };
  unbounded = λ b. too_long b.few;
  forced = record {
    undecided = only (λ p. is_decision p.cause ≡ false) _ refl;
    others = λ x i. inl (assumed_one (1 == x) i);
    no_cubes = λ id. none_attached Exists Forall (once Exists) id;
    counted = refl;
  };
  one_more = λ f. not_counted f.counted;
  decided = λ f. true≢false (f.undecided (record { literal = bad Exists 2; cause = Decided }) (1, omega arith, refl));
  matrix = record { there = λ row c. c; none_else = λ row c. c };
  again = record {
    there = only (Contains (three ∷ three ∷ [])) three (0, omega arith, refl);
    none_else = λ row c. ⊎_elim (λ e. subst (Contains (three ∷ [])) e (0, omega arith, refl)) (λ i. i)
        (contains_cons three (three ∷ []) row c);
  };
  none_there = λ m. contains_nil three (m.there three (0, omega arith, refl));
  another = λ m. only (λ r. r ≡ [] → ⊥) three not_other [] (m.none_else [] (1, omega arith, refl)) refl;
  a_cube = record { there = λ row c. c; none_else = λ row c. c };
  no_cubes = λ id c l. only (λ i. side_at (three_of Exists detached) i ≡ Exists) 0 refl id c;
  cubes = λ h. other_side (h 0 (0, omega arith, refl) refl);
  added = record { id = 4; clauses = refl };
  other_frame = λ a. one_not_zero (frame_of a.id a.clauses);
  both_added = record {
    added = framed 4 7 three ∷ framed 6 7 (plus 1 ∷ []) ∷ [];
    clauses = refl;
    has_rows =
        refl;
    of_frame = both_of_7;
  };
  one_elsewhere = λ a. no_seven (a.of_frame (framed 6 0 (plus 1 ∷ []))
      (subst (λ (cs : List OpenClause). Contains cs (framed 6 0 (plus 1 ∷ []))) a.clauses
      (contains_tail (framed 4 7 three) (framed 6 0 (plus 1 ∷ []) ∷ []) (framed 6 0 (plus 1 ∷ []))
      (contains_head (framed 6 0 (plus 1 ∷ [])) []))));
  turned = λ a. not_so_long (ap (map (λ (c : OpenClause). c.row)) a.clauses ∙ a.has_rows);
  two_watched = record { added = 5 ∷ 6 ∷ []; many = refl; watched = refl };
  not_before = λ w. five_not_nine (ap (λ (ids : List ℕ). get_or ids 0 0) w.watched);
  not_three = λ w. two_not_three w.added w.many (ap (λ (ids : List ℕ). length ids) w.watched);
  no_signs = λ r. no_signs_of 2 (r.signs 3 (omega arith));
  no_room = record { trail = λ x l. omega arith; signs = λ x l. l };
  least_of_signs = refl;
  least_of_clauses = refl;
  least_of_cubes = refl;
  least_of_trail = refl;
  not_at_rest = λ r. not_empty r.empty;
}

-- the row alone is no finish, nor is what comes after it
no_finishes : (q : Quant) (id : ℕ) → IsFinishId (three_of q detached) id → ⊥
no_finishes q zero e = false≢true e
no_finishes q (suc id) e = false≢true e

not_paid : 1 ≤ 0 → ⊥
not_paid l = absurd (omega arith)

pub finishes : (pivot : Quant) → WorkedFinishes pivot
finishes pivot = record {
  finish = refl;
  row = λ e. false≢true e;
  next = λ e. false≢true e;
  none_there = no_finishes pivot;
  one_there = λ none. none 1 refl;
  goes = λ id e. absurd (no_finishes pivot id e);
  comes = λ gains. no_finishes pivot 1 (gains 1 refl);
  no_finishes = refl;
  one_finish = refl;
  no_reductions = refl;
  one_reduction = refl;
  not_finished = refl;
  paid = omega arith;
  unpaid = not_paid;
  gone = omega arith;
}
