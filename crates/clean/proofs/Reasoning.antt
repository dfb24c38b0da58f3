-- The laws of reasons on the trail.
use Rattle.std.proofs.Common.{◌≡◌, ℕ, suc, ◌<◌, Bool, true, false, not, List, [], ◌∷◌, ◌++◌, length, Contains, Option, Some, None, is_some, is_none, refl, sym, subst, ap, ap₂, ◌∙◌, ⊎_elim, arith, nat_eq, nat_le, append_assoc}
use Rattle.std.specs.Prelude.{IsTrue}
use Rattle.std.proofs.lemmas.Bool.{cases_Bool, cond-true, cond-false, eqb-true, eq-eqb, true≢false, false≢true}
use Rattle.std.proofs.lemmas.List.{take_all}
use Rattle.prefix.specs.declared.quant.Quant.{Quant}
use Rattle.prefix.specs.declared.quant.Quant.TheVariants.{Exists, Forall}
use Rattle.prefix.specs.Literal.{Literal, negation}
use Rattle.prefix.specs.Scopes.{Scope, all_variables, quantifier_of}
use Rattle.prefix.specs.Sides.{bad_of}
use Rattle.truth.specs.Matrix.{same}
use Rattle.calculus.specs.Rows.{Row, is_bad_at, is_of, is_pivot}
use Rattle.calculus.specs.Search.{Cause, HasReason, HaveReasonsAfter, IsCleanBut, IsOrderedAfter, IsUnitIn, IsUnitReason, Placed, Trail, before_on, cause_on, cut_from, is_bad_if, is_bad_now, level_after, place_on, value_on}
use Rattle.calculus.specs.Search.Cause.{Assumed, Decided, Propagated}
use Rattle.calculus.proofs.Levels.{has_quantifier}
use Rattle.calculus.proofs.RowLemmas.{same_from, some_from}
use Rattle.calculus.proofs.Searching.{bad_assigned}
use Rattle.calculus.proofs.TrailLaws.{clean_cut, clean_grows}
use Rattle.calculus.proofs.TrailMoves.{place_front, value_front}
use Rattle.calculus.proofs.Trails.{cause_here, cause_past, place_here, place_past, value_here, value_past}
use Rattle.derive.specs.State.{State, row_of, steps_of, why_at}
use Rattle.derive.proofs.Legality.{listed_told}
use Rattle.clean.specs.Cleaning.{MayBeCleaned}
use Rattle.trail.specs.State.{TrailState, is_marked, undone_to, with_literal}
use Rattle.trail.proofs.Cutting.{undone_high, undone_low}
use Rattle.calculus.specs.Search.{last_level}
use Rattle.std.proofs.Common.{take, get_or, zero, ◌≤◌}
use Rattle.std.proofs.lemmas.Bool.{cases_lt}
use Rattle.clean.specs.Laws.{HasReason as HasOwn}
use Rattle.clean.specs.Reasons.{HaveReasons}
use Rattle.clean.proofs.Fronts.{before_take, cause_front, place_none}

value_other : (trail : Trail) (p : Placed) (x : ℕ) → nat_eq p.literal.variable x ≡ false
    → value_on (trail ++ p ∷ []) x ≡ value_on trail x
value_other [] p x f = value_past p [] x f
value_other (q ∷ trail) p x f =
    ⊎_elim (λ t. value_here q (trail ++ p ∷ []) x t ∙ sym (value_here q trail x t))
    (λ g. value_past q (trail ++ p ∷ []) x g ∙ (value_other trail p x f ∙ sym (value_past q trail x g)))
    (cases_Bool (nat_eq q.literal.variable x))

cause_other : (trail : Trail) (p : Placed) (x : ℕ) → nat_eq p.literal.variable x ≡ false
    → cause_on (trail ++ p ∷ []) x ≡ cause_on trail x
cause_other [] p x f = cause_past p [] x f
cause_other (q ∷ trail) p x f =
    ⊎_elim (λ t. cause_here q (trail ++ p ∷ []) x t ∙ sym (cause_here q trail x t))
    (λ g. cause_past q (trail ++ p ∷ []) x g ∙ (cause_other trail p x f ∙ sym (cause_past q trail x g)))
    (cases_Bool (nat_eq q.literal.variable x))

-- where a variable stands behind an earlier part
module _ (earlier : Trail) (p : Placed) (rest : Trail) where
  pub value_at : value_on earlier p.literal.variable ≡ None
      → value_on (earlier ++ p ∷ rest) p.literal.variable ≡ Some p.literal.positive
  value_at fresh = go earlier fresh
    where
      go : (t : Trail) → value_on t p.literal.variable ≡ None
          → value_on (t ++ p ∷ rest) p.literal.variable ≡ Some p.literal.positive
      go [] none = value_here p rest p.literal.variable (eq-eqb p.literal.variable p.literal.variable refl)
      go (q ∷ t) none =
          ⊎_elim (λ h. absurd (false≢true (ap is_some (sym none ∙ value_here q t p.literal.variable h))))
          (λ f. value_past q (t ++ p ∷ rest) p.literal.variable f
          ∙ go t (sym (value_past q t p.literal.variable f) ∙ none))
          (cases_Bool (nat_eq q.literal.variable p.literal.variable))

  pub cause_at : value_on earlier p.literal.variable ≡ None
      → cause_on (earlier ++ p ∷ rest) p.literal.variable ≡ Some p.cause
  cause_at fresh = go earlier fresh
    where
      go : (t : Trail) → value_on t p.literal.variable ≡ None
          → cause_on (t ++ p ∷ rest) p.literal.variable ≡ Some p.cause
      go [] none = cause_here p rest p.literal.variable (eq-eqb p.literal.variable p.literal.variable refl)
      go (q ∷ t) none =
          ⊎_elim (λ h. absurd (false≢true (ap is_some (sym none ∙ value_here q t p.literal.variable h))))
          (λ f. cause_past q (t ++ p ∷ rest) p.literal.variable f
          ∙ go t (sym (value_past q t p.literal.variable f) ∙ none))
          (cases_Bool (nat_eq q.literal.variable p.literal.variable))

  pub place_at : value_on earlier p.literal.variable ≡ None
      → place_on (earlier ++ p ∷ rest) p.literal.variable ≡ length earlier
  place_at fresh = go earlier fresh
    where
      go : (t : Trail) → value_on t p.literal.variable ≡ None → place_on (t ++ p ∷ rest) p.literal.variable ≡ length t
      go [] none = place_here p rest p.literal.variable (eq-eqb p.literal.variable p.literal.variable refl)
      go (q ∷ t) none =
          ⊎_elim (λ h. absurd (false≢true (ap is_some (sym none ∙ value_here q t p.literal.variable h))))
          (λ f. place_past q (t ++ p ∷ rest) p.literal.variable f
          ∙ ap suc (go t (sym (value_past q t p.literal.variable f) ∙ none)))
          (cases_Bool (nat_eq q.literal.variable p.literal.variable))

opposite_signs : (pivot : Quant) (b p k : Bool) → same (same b p) (bad_of pivot) ≡ true
    → same (same b k) (bad_of pivot) ≡ false → not p ≡ k
opposite_signs Exists true true true e f = absurd (false≢true e)
opposite_signs Exists true true false e f = refl
opposite_signs Exists true false true e f = refl
opposite_signs Exists true false false e f = absurd (true≢false f)
opposite_signs Exists false true true e f = absurd (true≢false f)
opposite_signs Exists false true false e f = refl
opposite_signs Exists false false true e f = refl
opposite_signs Exists false false false e f = absurd (false≢true e)
opposite_signs Forall true true true e f = absurd (true≢false f)
opposite_signs Forall true true false e f = refl
opposite_signs Forall true false true e f = refl
opposite_signs Forall true false false e f = absurd (false≢true e)
opposite_signs Forall false true true e f = absurd (false≢true e)
opposite_signs Forall false true false e f = refl
opposite_signs Forall false false true e f = refl
opposite_signs Forall false false false e f = absurd (true≢false f)

cut_is_front : (before b : ℕ) (trail : Trail) → (back : Trail) × (cut_from before b trail ++ back ≡ trail)
cut_is_front before b [] = ([], refl)
cut_is_front before b (p ∷ rest) =
    let now = level_after before p in
    let r = cut_is_front now b rest in
    ⊎_elim
    (λ t. (
      r.0,
      ap (λ (c : Trail). c ++ r.0) (cond-true (nat_le now b) (p ∷ cut_from now b rest) [] t) ∙ ap
          (λ (c : Trail). p ∷ c) r.1,
    ))
    (λ f. (p ∷ rest, ap (λ (c : Trail). c ++ p ∷ rest) (cond-false (nat_le now b) (p ∷ cut_from now b rest) [] f)))
    (cases_Bool (nat_le now b))

bad_there : (q : Quant) (b : Bool) → same (same b (same b (bad_of q))) (bad_of q) ≡ true
bad_there Exists true = refl
bad_there Exists false = refl
bad_there Forall true = refl
bad_there Forall false = refl

good_there : (q : Quant) (b : Bool) → same (same b (not (same b (bad_of q)))) (bad_of q) ≡ false
good_there Exists true = refl
good_there Exists false = refl
good_there Forall true = refl
good_there Forall false = refl

pub none_have : (pivot : Quant) (scopes : List Scope) (d : State) (t : TrailState) → t.placed ≡ []
    → HaveReasons pivot scopes d t
none_have pivot scopes d t empty l id p bad cause =
    absurd (let g : None ≡ Some (Propagated id) = sym (ap (λ (r : Trail). cause_on r l.variable) empty) ∙ cause in
    false≢true (ap is_some g))

-- before a variable of the front
before_front : (front back : Trail) (x : ℕ) → is_some (value_on front x) ≡ true
    → before_on (front ++ back) x ≡ before_on front x
before_front [] back x known = absurd (false≢true known)
before_front (p ∷ front) back x known =
    ⊎_elim
    (λ t. cond-true (nat_eq p.literal.variable x) [] (p ∷ before_on (front ++ back) x) t
    ∙ sym (cond-true (nat_eq p.literal.variable x) [] (p ∷ before_on front x) t))
    (λ f. cond-false (nat_eq p.literal.variable x) [] (p ∷ before_on (front ++ back) x) f
    ∙ (ap (λ (r : Trail). p ∷ r) (before_front front back x (ap is_some (sym (value_past p front x f)) ∙ known))
    ∙ sym (cond-false (nat_eq p.literal.variable x) [] (p ∷ before_on front x) f)))
    (cases_Bool (nat_eq p.literal.variable x))

-- before a new one
before_new : (earlier : Trail) (p : Placed) (rest : Trail) → value_on earlier p.literal.variable ≡ None
    → before_on (earlier ++ p ∷ rest) p.literal.variable ≡ earlier
before_new [] p rest fresh = cond-true (nat_eq p.literal.variable p.literal.variable) []
    (p ∷ before_on rest p.literal.variable) (eq-eqb p.literal.variable p.literal.variable refl)
before_new (q ∷ earlier) p rest fresh =
    ⊎_elim
    (λ t. absurd (false≢true (ap is_some (sym fresh ∙ value_here q earlier p.literal.variable t))))
    (λ f. cond-false (nat_eq q.literal.variable p.literal.variable) []
    (q ∷ before_on (earlier ++ p ∷ rest) p.literal.variable) f ∙ ap
    (λ (r : Trail). q ∷ r) (before_new earlier p rest (sym (value_past q earlier p.literal.variable f) ∙ fresh)))
    (cases_Bool (nat_eq q.literal.variable p.literal.variable))

get_take : (bs : List Bool) (n i : ℕ) → i < n → get_or (take n bs) i false ≡ get_or bs i false
get_take bs zero i below = absurd (omega arith)
get_take [] (suc n) i below = refl
get_take (b ∷ bs) (suc n) zero below = refl
get_take (b ∷ bs) (suc n) (suc i) below = get_take bs n i (omega arith)

get_push : (bs : List Bool) (i : ℕ) → get_or (bs ++ false ∷ []) i false ≡ get_or bs i false
get_push [] zero = refl
get_push [] (suc i) = refl
get_push (b ∷ bs) zero = refl
get_push (b ∷ bs) (suc i) = get_push bs i

past_off : (bs : List Bool) (i : ℕ) → length bs ≤ i → get_or bs i false ≡ false
past_off [] i above = refl
past_off (b ∷ bs) zero above = absurd (let more : length (b ∷ bs) ≡ suc (length bs) = refl in omega arith)
past_off (b ∷ bs) (suc i) above = past_off bs i (let more : length (b ∷ bs) ≡ suc (length bs) = refl in omega arith)

-- a cut
front_have : (pivot : Quant) (scopes : List Scope) (d : State) (t u : TrailState) (back : Trail)
    → u.placed ++ back ≡ t.placed → u.marks ≡ take (length u.placed) t.marks → HaveReasons pivot scopes d t
    → HaveReasons pivot scopes d u
front_have pivot scopes d t u back whole marks have l id p bad cause =
    let known = bad_assigned pivot (value_on u.placed l.variable) l bad in
    let value : value_on t.placed l.variable ≡ value_on u.placed l.variable = ap
    (λ (r : Trail). value_on r l.variable) (sym whole) ∙ value_front u.placed back l.variable known in
    let caused : cause_on t.placed l.variable ≡ cause_on u.placed l.variable = ap
    (λ (r : Trail). cause_on r l.variable) (sym whole) ∙ cause_front u.placed back l.variable known in
    let is = have l id p (ap (λ o. is_bad_if pivot o l) value ∙ bad) (caused ∙ cause) in
    let before : before_on t.placed l.variable ≡ before_on u.placed l.variable = ap
    (λ (r : Trail). before_on r l.variable) (sym whole) ∙ before_front u.placed back l.variable known in
    let both = place_front u.placed back l.variable known in
    let place : place_on t.placed l.variable ≡ place_on u.placed l.variable = ap
    (λ (r : Trail). place_on r l.variable) (sym whole) ∙ both.0 in
    let mark : is_marked u l.variable ≡ is_marked t l.variable = ap
    (λ (bs : List Bool). get_or bs (place_on u.placed l.variable) false) marks
    ∙ (get_take t.marks (length u.placed) (place_on u.placed l.variable) both.1 ∙ ap
    (λ n. get_or t.marks n false) (sym place)) in
    record {
      step = is.step;
      unit = subst (λ (r : Trail). IsUnitIn pivot scopes (value_on r) (row_of d id) (negation l)) before is.unit;
      clean = λ m. clean_cut pivot u.placed back (negation l) (row_of d id) known (subst
          (λ (r : Trail). IsCleanBut pivot r (negation l) (row_of d id)) (sym whole) (is.clean (sym mark ∙ m)));
    }

pub cut_have : (pivot : Quant) (scopes : List Scope) (d : State) (t : TrailState) (b : ℕ)
    → HaveReasons pivot scopes d t → HaveReasons pivot scopes d (undone_to b t)
cut_have pivot scopes d t b have =
    ⊎_elim
    (λ (high : b < last_level t.placed).
    let parts = cut_is_front 0 b t.placed in
    subst (HaveReasons pivot scopes d) (sym (undone_high b t high))
    (front_have pivot scopes d t _ parts.0 parts.1 refl have))
    (λ (low : last_level t.placed ≤ b). subst (HaveReasons pivot scopes d) (sym (undone_low b t low)) have)
    (cases_lt b (last_level t.placed))

-- one more literal
pub assigned_have : (pivot : Quant) (scopes : List Scope) (d : State) (t : TrailState) (k : Literal) (c : Cause)
    → length t.marks ≡ length t.placed → value_on t.placed k.variable ≡ None
    → ((id : ℕ) → c ≡ Propagated id → IsTrue (is_pivot pivot scopes k) → HasOwn pivot scopes d t.placed k id)
    → HaveReasons pivot scopes d t → HaveReasons pivot scopes d (with_literal scopes t k c)
assigned_have pivot scopes d t k c long fresh own have l id pivot_type bad cause =
    let p : Placed = record { literal = k; cause = c } in
    let u = with_literal scopes t k c in
    ⊎_elim
    (λ s.
    let e = eqb-true k.variable l.variable s in
    let caused : Some c ≡ Some (Propagated id) = sym (cause_at t.placed p [] fresh)
    ∙ (ap (cause_on u.placed) e ∙ cause) in
    let is : c ≡ Propagated id = cc in
    let has = own id is (ap (λ x. is_of (quantifier_of scopes x) pivot) e ∙ pivot_type) in
    let value : value_on u.placed l.variable ≡ Some k.positive = ap (value_on u.placed) (sym e)
    ∙ value_at t.placed p [] fresh in
    let bad_at : is_bad_at pivot k.positive l ≡ true = ap (λ o. is_bad_if pivot o l) (sym value) ∙ bad in
    let sign : not l.positive ≡ has.kept.positive =
    opposite_signs pivot k.positive l.positive has.kept.positive bad_at has.good in
    let same_literal : has.kept ≡ negation l = ap₂
    (λ (x : ℕ) (b : Bool). record { variable = x; positive = b }) (has.over ∙ e) (sym sign) in
    let before : before_on u.placed l.variable ≡ t.placed = ap (before_on u.placed) (sym e)
    ∙ before_new t.placed p [] fresh in
    let place : place_on u.placed l.variable ≡ length t.placed = ap (place_on u.placed) (sym e)
    ∙ place_at t.placed p [] fresh in
    let off : is_marked u l.variable ≡ false = ap (λ n. get_or u.marks n false) place
    ∙ (get_push t.marks (length t.placed) ∙ past_off t.marks (length t.placed) (omega arith)) in
    record {
      step = has.step;
      unit = subst (λ (r : Trail). IsUnitIn pivot scopes (value_on r) (row_of d id) (negation l)) (sym before) (subst
          (λ (m : Literal). IsUnitIn pivot scopes (value_on t.placed) (row_of d id) m) same_literal has.unit);
      clean = λ m. absurd (true≢false (sym m ∙ off));
    })
    (λ f.
    let value = value_other t.placed p l.variable f in
    let old_bad : is_bad_now pivot (value_on t.placed) l ≡ true = ap (λ o. is_bad_if pivot o l) (sym value) ∙ bad in
    let known = bad_assigned pivot (value_on t.placed l.variable) l old_bad in
    let is = have l id pivot_type old_bad (sym (cause_other t.placed p l.variable f) ∙ cause) in
    let place = (place_front t.placed (p ∷ []) l.variable known).0 in
    let mark : is_marked u l.variable ≡ is_marked t l.variable = ap (λ n. get_or u.marks n false) place
    ∙ get_push t.marks (place_on t.placed l.variable) in
    record {
      step = is.step;
      unit = subst (λ (r : Trail). IsUnitIn pivot scopes (value_on r) (row_of d id) (negation l))
          (sym (before_front t.placed (p ∷ []) l.variable known)) is.unit;
      clean = λ m. clean_grows pivot t.placed (p ∷ []) (negation l) (row_of d id) known (is.clean (sym mark ∙ m));
    })
    (cases_Bool (nat_eq k.variable l.variable))

-- each reason was unit
module _ (scopes : List Scope) (d : State) (t : TrailState) (clauses : HaveReasons Exists scopes d t)
    (cubes : HaveReasons Forall scopes d t) where
  abbrev whole : Trail
  whole = t.placed

  of_side : (q : Quant) → HaveReasons q scopes d t
  of_side Exists = clauses
  of_side Forall = cubes

  unit_reason : (earlier : Trail) (p : Placed) (rest : Trail) → earlier ++ p ∷ rest ≡ whole
      → Contains (all_variables scopes) p.literal.variable → value_on earlier p.literal.variable ≡ None → (id : ℕ)
      → p.cause ≡ Propagated id → IsUnitReason scopes (steps_of d) earlier p.literal id
  unit_reason earlier p rest is known fresh id caused = let x = p.literal.variable in
      let some = some_from (quantifier_of scopes x) (has_quantifier scopes x known) in
      let q = some.0 in
      let l : Literal = record { variable = x; positive = same p.literal.positive (bad_of q) } in
      let value : value_on whole x ≡ Some p.literal.positive = ap (λ (t : Trail). value_on t x) (sym is)
      ∙ value_at earlier p rest fresh in
      let place : place_on whole x ≡ length earlier = ap (λ (t : Trail). place_on t x) (sym is)
      ∙ place_at earlier p rest fresh in
      let cause : cause_on whole x ≡ Some (Propagated id) = ap (λ (t : Trail). cause_on t x) (sym is)
      ∙ (cause_at earlier p rest fresh ∙ ap Some caused) in
      let bad : is_bad_now q (value_on whole) l ≡ true = ap (λ o. is_bad_if q o l) value
      ∙ bad_there q p.literal.positive in
      let pivot : is_pivot q scopes l ≡ true = same_from (quantifier_of scopes x) q some.1 in
      let reason = of_side q l id pivot bad cause in
      record {
        step = record { id = id; side = q; row = row_of d id; why = why_at d id };
        stands = subst (λ (s : Quant). Contains (steps_of d)
            (record { id = id; side = s; row = row_of d id; why = why_at d id })) reason.step.of_side
            (listed_told d id reason.step.step);
        is = refl;
        literal = negation l;
        over = refl;
        good = good_there q p.literal.positive;
        unit = subst (λ (r : Trail). IsUnitIn q scopes (value_on r) (row_of d id) (negation l)) (ap
            (λ (r : Trail). before_on r x) (sym is) ∙ before_new earlier p rest fresh) reason.unit;
      }

  reason_by : (earlier : Trail) (p : Placed) (rest : Trail) → earlier ++ p ∷ rest ≡ whole
      → Contains (all_variables scopes) p.literal.variable → value_on earlier p.literal.variable ≡ None
      → (cause : Cause) → p.cause ≡ cause → HasReason scopes (steps_of d) earlier p.literal cause
  reason_by earlier p rest is known fresh Assumed caused = tt
  reason_by earlier p rest is known fresh Decided caused = tt
  reason_by earlier p rest is known fresh (Propagated id) caused = unit_reason earlier p rest is known fresh id caused

  pub units_after : (earlier rest : Trail) → earlier ++ rest ≡ whole → IsOrderedAfter scopes earlier rest
      → HaveReasonsAfter scopes (steps_of d) earlier rest
  units_after earlier [] is ordered = tt
  units_after earlier (p ∷ rest) is ordered = (
    reason_by earlier p rest is ordered.0 ordered.1 p.cause refl,
    units_after (earlier ++ p ∷ []) rest (append_assoc earlier (p ∷ []) rest ∙ is) ordered.3,
  )

-- a unit row may be cleaned

pub may_be_cleaned : (pivot : Quant) (scopes : List Scope) (trail : Trail) (kept : Literal) (row : Row)
    → IsUnitIn pivot scopes (value_on trail) row kept → MayBeCleaned pivot scopes trail (Some kept) row
may_be_cleaned pivot scopes trail kept row unit =
    let x = kept.variable in
    let none : value_on trail x ≡ None = none_is (value_on trail x) unit.open_yet in
    let past = place_none trail x none in
    let same : before_on trail x ≡ trail = before_take trail x ∙ take_all (place_on trail x) trail (omega arith) in
    subst (λ (t : Trail). IsUnitIn pivot scopes (value_on t) row kept) (sym same) unit
  where
    none_is : (o : Option Bool) → is_none o ≡ true → o ≡ None
    none_is None e = refl
    none_is (Some b) e = absurd (false≢true e)
