-- What stood when a frame was pushed names nothing that came later.
use Rattle.std.proofs.Common.{◌≡◌, ℕ, ◌<◌, ◌⊎◌, ◌||◌, Bool, true, false, not, List, [], ◌∷◌, ◌++◌, Option, Some, None, IsTrue, refl, sym, ap, ◌∙◌, subst, inl, inr, ⊎_elim, arith}
use Rattle.std.specs.Prelude.{Contains, ◌==◌, if◌then◌else◌, is_none, is_some}
use Rattle.std.specs.List.{AllByRecursion}
use Rattle.std.proofs.lemmas.Bool.{cases_Bool, eqb-true, or_cases, or_left, or_right, true≢false}
use Rattle.std.proofs.lemmas.List.{append-nil}
use Rattle.prefix.specs.Literal.{Literal}
use Rattle.prefix.specs.Scopes.{Scope, all_variables, is_among, level_of, without_variable}
use Rattle.prefix.proofs.RemovalLemmas.{removal_keeps_order}
use Rattle.prefix.proofs.ScopeLemmas.{is_among-append}
use Rattle.calculus.specs.Derivations.{Extends}
use Rattle.calculus.specs.DerivationTheorems.{PrefixesGrow}
use Rattle.calculus.specs.Rows.{IsRow, Row}
use Rattle.calculus.proofs.Levels.{has_level, level_in_prefix}
use Rattle.calculus.proofs.Lists.{any_at, any_from}
use Rattle.derive.specs.Dropping.{NoneOutsideBelow, is_outside, mentions}
use Rattle.derive.specs.State.{IsLegalFor, Note, State, is_finish, is_live, may_be_antecedent, next_id, note_at, row_of, why_in}
use Rattle.clean.proofs.Keeping.{step_row}
use Rattle.frames.specs.Leaving.{leaving}
use Rattle.frames.specs.State.{Frame, depth, leaves_in, popped, pushed, top_variables, with_leaving, with_row, with_variable, without_variables}
use Rattle.frames.proofs.Leaving.{leaving_last, leaving_more, leaving_pushed, leaving_row, level-without_variables, top_is}
use Rattle.frames.proofs.Starts.{all_but_last}
use Rattle.search.specs.Finishes.{HasNoFinish}
use Rattle.search.specs.Moves.{KeepsOlder}
use Rattle.versions.specs.declared.version.Version.{Version}
use Rattle.engine.specs.Marks.{AreMarked, HaveMarks, NoneLateBelow, is_late}

-- where no more variables are late, none is named still
late_none : (fs gs : List Frame) (old new : List Scope) (from : ℕ) (d : State)
    → ((x : ℕ) → is_late gs new x ≡ true → is_late fs old x ≡ true) → NoneLateBelow fs old from d
    → NoneLateBelow gs new from d
late_none fs gs old new from d more none id low live =
    ⊎_elim
    (λ t.
    let l = any_at (λ (k : Literal). is_late gs new k.variable) (row_of d id) t in
    absurd (true≢false (sym (any_from (λ (k : Literal). is_late fs old k.variable) (row_of d id) l.0 l.1
    (more l.0.variable l.2)) ∙ none id low live)))
    (λ f. f)
    (cases_Bool (mentions (is_late gs new) (row_of d id)))

late_by : (vs ws : List ℕ) (old new : List Scope) (x : ℕ) → (is_among x ws ≡ true → is_among x vs ≡ true)
    → (is_outside new x ≡ true → is_outside old x ≡ true) → (is_among x ws || is_outside new x) ≡ true
    → (is_among x vs || is_outside old x) ≡ true
late_by vs ws old new x leaves more h =
    ⊎_elim (λ t. or_left (is_among x vs) (is_outside old x) (leaves t))
    (λ t. or_right (is_among x vs) (is_outside old x) (more t))
    (or_cases (is_among x ws) (is_outside new x) h)

-- a derivation that keeps what is older

have_older : (fs : List Frame) (ms : List ℕ) (scopes : List Scope) (d e : State) → KeepsOlder d e
    → HaveMarks fs ms scopes d → HaveMarks fs ms scopes e
have_older [] [] scopes d e older are = tt
have_older [] (m ∷ ms) scopes d e older are = are
have_older (f ∷ fs) [] scopes d e older are = are
have_older (f ∷ fs) (m ∷ ms) scopes d e older are = (
  (let longer = older.longer in let low = are.0 in omega arith),
  (λ id low live.
      let given : id < next_id d = (let most = are.0 in omega arith) in
      ap (mentions (is_late (f ∷ fs) scopes)) (older.row id given live)
      ∙ are.1 id low (ap is_some (sym (older.note id given live)) ∙ live)),
  have_older fs ms scopes d e older are.2,
)

pub marked_older : (frames : List Frame) (ms : List ℕ) (scopes : List Scope) (d e : State) → KeepsOlder d e
    → AreMarked frames ms scopes d → AreMarked frames ms scopes e
marked_older [] ms scopes d e older are = are
marked_older (f ∷ fs) ms scopes d e older are = have_older fs ms scopes d e older are

-- a larger prefix

have_scopes : (fs : List Frame) (ms : List ℕ) (old new : List Scope) (d : State)
    → ((x : ℕ) → is_outside new x ≡ true → is_outside old x ≡ true) → HaveMarks fs ms old d → HaveMarks fs ms new d
have_scopes [] [] old new d more are = tt
have_scopes [] (m ∷ ms) old new d more are = are
have_scopes (f ∷ fs) [] old new d more are = are
have_scopes (f ∷ fs) (m ∷ ms) old new d more are = (
  are.0,
  late_none (f ∷ fs) (f ∷ fs) old new m d
      (λ x h. late_by (leaving (f ∷ fs)) (leaving (f ∷ fs)) old new x (λ t. t) (more x) h) are.1,
  have_scopes fs ms old new d more are.2,
)

pub marked_scopes : (frames : List Frame) (ms : List ℕ) (old new : List Scope) (d : State)
    → ((x : ℕ) → is_outside new x ≡ true → is_outside old x ≡ true) → AreMarked frames ms old d
    → AreMarked frames ms new d
marked_scopes [] ms old new d more are = are
marked_scopes (f ∷ fs) ms old new d more are = have_scopes fs ms old new d more are

-- a variable that leaves with the top frame

among_more : (x v : ℕ) (vs : List ℕ) (old : List Scope) → is_outside old v ≡ true → is_among x (vs ++ v ∷ []) ≡ true
    → (is_among x vs || is_outside old x) ≡ true
among_more x v vs old out h =
    ⊎_elim (λ t. or_left (is_among x vs) (is_outside old x) t)
    (λ t. or_right (is_among x vs) (is_outside old x)
    (subst (λ y. is_outside old y ≡ true)
    (⊎_elim (λ e. eqb-true v x e) (λ none. absurd (true≢false (sym none))) (or_cases (v == x) false t)) out))
    (or_cases (is_among x vs) (is_among x (v ∷ [])) (sym (is_among-append x vs (v ∷ [])) ∙ h))

late_more : (g : Frame) (rest : List Frame) (v : ℕ) (old new : List Scope) → is_outside old v ≡ true
    → ((x : ℕ) → is_outside new x ≡ true → is_outside old x ≡ true) → (x : ℕ)
    → is_late (with_leaving v (g ∷ rest)) new x ≡ true → is_late (g ∷ rest) old x ≡ true
late_more g rest v old new out more x h =
    ⊎_elim
    (λ t. among_more x v (leaving (g ∷ rest)) old out (subst (λ vs. is_among x vs ≡ true) (leaving_more v g rest) t))
    (λ t. or_right (is_among x (leaving (g ∷ rest))) (is_outside old x) (more x t))
    (or_cases (is_among x (leaving (with_leaving v (g ∷ rest)))) (is_outside new x) h)

have_leaving : (g : Frame) (rest : List Frame) (ms : List ℕ) (v : ℕ) (old new : List Scope) (d : State)
    → is_outside old v ≡ true → ((x : ℕ) → is_outside new x ≡ true → is_outside old x ≡ true)
    → HaveMarks (g ∷ rest) ms old d → HaveMarks (with_leaving v (g ∷ rest)) ms new d
have_leaving g rest [] v old new d out more are = absurd are
have_leaving g [] (m ∷ ms) v old new d out more are = (
  are.0,
  late_none (g ∷ []) (with_leaving v (g ∷ [])) old new m d (late_more g [] v old new out more) are.1,
  have_scopes [] ms old new d more are.2,
)
have_leaving g (h ∷ rest) (m ∷ ms) v old new d out more are = (
  are.0,
  late_none (g ∷ h ∷ rest) (with_leaving v (g ∷ h ∷ rest)) old new m d (late_more g (h ∷ rest) v old new out more)
      are.1,
  have_leaving h rest ms v old new d out more are.2,
)

pub marked_variable : (version : Version) (frames : List Frame) (ms : List ℕ) (v : ℕ) (old new : List Scope) (d : State)
    → is_outside old v ≡ true → ((x : ℕ) → is_outside new x ≡ true → is_outside old x ≡ true)
    → AreMarked frames ms old d → AreMarked (with_variable version v frames) ms new d
marked_variable version [] ms v old new d out more are =
    by (leaves_in version (depth []))
  where
    by : (b : Bool) → AreMarked (if b then with_leaving v [] else []) ms new d
    by b = absurd are
marked_variable version (f ∷ fs) ms v old new d out more are = by (leaves_in version (depth (f ∷ fs))) fs are
  where
    by : (b : Bool) (gs : List Frame) → HaveMarks gs ms old d
        → AreMarked (if b then with_leaving v (f ∷ gs) else f ∷ gs) ms new d
    by false gs is = have_scopes gs ms old new d more is
    by true [] is = have_scopes [] ms old new d more is
    by true (g ∷ rest) is = have_leaving g rest ms v old new d out more is

-- a row more

have_row : (row : Row) (fs : List Frame) (ms : List ℕ) (scopes : List Scope) (d : State) → HaveMarks fs ms scopes d
    → HaveMarks (with_row row fs) ms scopes d
have_row row [] ms scopes d are = are
have_row row (f ∷ []) [] scopes d are = are
have_row row (f ∷ []) (m ∷ ms) scopes d are = (are.0, are.1, are.2)
have_row row (f ∷ g ∷ rest) [] scopes d are = are
have_row row (f ∷ g ∷ rest) (m ∷ ms) scopes d are = (
  are.0,
  late_none (f ∷ g ∷ rest) (with_row row (f ∷ g ∷ rest)) scopes scopes m d
      (λ x h. subst (λ vs. (is_among x vs || is_outside scopes x) ≡ true) (leaving_row row (f ∷ g ∷ rest)) h) are.1,
  have_row row (g ∷ rest) ms scopes d are.2,
)

pub marked_row : (row : Row) (frames : List Frame) (ms : List ℕ) (scopes : List Scope) (d : State)
    → AreMarked frames ms scopes d → AreMarked (with_row row frames) ms scopes d
marked_row row [] ms scopes d are = are
marked_row row (f ∷ []) ms scopes d are = are
marked_row row (f ∷ g ∷ rest) ms scopes d are = have_row row (g ∷ rest) ms scopes d are

-- a frame more, with the id that comes next as its mark

have_pushed : (fs : List Frame) (ms : List ℕ) (scopes : List Scope) (d : State)
    → ((id : ℕ) → IsTrue (is_live d id) → mentions (is_outside scopes) (row_of d id) ≡ false)
    → HaveMarks fs ms scopes d → HaveMarks (pushed fs) (ms ++ next_id d ∷ []) scopes d
have_pushed [] [] scopes d inside are = ((omega arith), (λ id low live. inside id live), tt)
have_pushed [] (m ∷ ms) scopes d inside are = absurd are
have_pushed (f ∷ fs) [] scopes d inside are = absurd are
have_pushed (f ∷ fs) (m ∷ ms) scopes d inside are = (
  are.0,
  late_none (f ∷ fs) (pushed (f ∷ fs)) scopes scopes m d
      (λ x h. subst (λ vs. (is_among x vs || is_outside scopes x) ≡ true) (leaving_pushed (f ∷ fs)) h) are.1,
  have_pushed fs ms scopes d inside are.2,
)

pub marked_pushed : (frames : List Frame) (ms : List ℕ) (scopes : List Scope) (d : State)
    → ((id : ℕ) → IsTrue (is_live d id) → mentions (is_outside scopes) (row_of d id) ≡ false)
    → AreMarked frames ms scopes d → AreMarked (pushed frames) (ms ++ next_id d ∷ []) scopes d
marked_pushed [] ms scopes d inside are = absurd are
marked_pushed (f ∷ fs) ms scopes d inside are = have_pushed fs ms scopes d inside are

-- a frame less

no_frame : (ms : List ℕ) (m : ℕ) (scopes : List Scope) (d : State) → HaveMarks [] (ms ++ m ∷ []) scopes d → ⊥
no_frame [] m scopes d are = are
no_frame (n ∷ ms) m scopes d are = are

no_mark : (fs : List Frame) (t : Frame) (scopes : List Scope) (d : State) → HaveMarks (fs ++ t ∷ []) [] scopes d → ⊥
no_mark [] t scopes d are = are
no_mark (f ∷ fs) t scopes d are = are

-- what is outside then was so before, or left
left_or_outside : (vs : List ℕ) (scopes : List Scope) (x : ℕ) → is_outside (without_variables vs scopes) x ≡ true
    → (is_among x vs || is_outside scopes x) ≡ true
left_or_outside vs scopes x h = by (is_among x vs) (ap is_none (sym (level-without_variables vs scopes x)) ∙ h)
  where
    by : (b : Bool) → is_none (if b then None else level_of scopes x) ≡ true → (b || is_outside scopes x) ≡ true
    by true e = refl
    by false e = e

late_below : (f : Frame) (fs : List Frame) (t : Frame) (scopes : List Scope) (x : ℕ)
    → is_late (f ∷ fs) (without_variables t.variables scopes) x ≡ true → is_late ((f ∷ fs) ++ t ∷ []) scopes x ≡ true
late_below f fs t scopes x h =
    let vs = leaving (f ∷ fs) in
    let all : is_among x (leaving ((f ∷ fs) ++ t ∷ [])) ≡ (is_among x vs || is_among x t.variables) =
    ap (is_among x) (leaving_last (f ∷ fs) t) ∙ is_among-append x vs t.variables in
    let out = is_outside scopes x in
    subst (λ b. (b || out) ≡ true) (sym all)
    (⊎_elim
    (λ a. or_left (is_among x vs || is_among x t.variables) out (or_left (is_among x vs) (is_among x t.variables) a))
    (λ o. ⊎_elim
    (λ a. or_left (is_among x vs || is_among x t.variables) out (or_right (is_among x vs) (is_among x t.variables) a))
    (λ a. or_right (is_among x vs || is_among x t.variables) out a)
    (or_cases (is_among x t.variables) out (left_or_outside t.variables scopes x o)))
    (or_cases (is_among x vs) (is_outside (without_variables t.variables scopes) x) h))

have_popped : (fs : List Frame) (t : Frame) (ms : List ℕ) (m : ℕ) (scopes : List Scope) (d : State)
    → HaveMarks (fs ++ t ∷ []) (ms ++ m ∷ []) scopes d
    → NoneLateBelow (t ∷ []) scopes m d × HaveMarks fs ms (without_variables t.variables scopes) d
have_popped [] t [] m scopes d are = (are.1, tt)
have_popped [] t (n ∷ ms) m scopes d are = absurd (no_frame ms m scopes d are.2)
have_popped (f ∷ fs) t [] m scopes d are = absurd (no_mark fs t scopes d are.2)
have_popped (f ∷ fs) t (n ∷ ms) m scopes d are =
    let rest = have_popped fs t ms m scopes d are.2 in (
      rest.0,
      (
        are.0,
        late_none ((f ∷ fs) ++ t ∷ []) (f ∷ fs) scopes (without_variables t.variables scopes) n d
            (late_below f fs t scopes) are.1,
        rest.1,
      ),
    )

last_of : (f : Frame) (fs : List Frame)
    → (fs ≡ []) ⊎ ((gs : List Frame) × (t : Frame) × (fs ≡ gs ++ t ∷ []))
last_of f [] = inl refl
last_of f (g ∷ fs) = inr (⊎_elim
    (λ e. ([], g, ap (λ hs. g ∷ hs) e))
    (λ l. (g ∷ l.0, l.1, ap (λ hs. g ∷ hs) l.2))
    (last_of g fs))

-- what is under an id below the mark of the top frame names nothing outside the prefix that is left
pub marked_popped : (frames : List Frame) (ms : List ℕ) (m : ℕ) (scopes : List Scope) (d : State)
    → AreMarked frames (ms ++ m ∷ []) scopes d
    → NoneOutsideBelow (without_variables (top_variables frames) scopes) m d
    × AreMarked (popped frames) ms (without_variables (top_variables frames) scopes) d
marked_popped [] ms m scopes d are = absurd are
marked_popped (f ∷ fs) ms m scopes d are = by (last_of f fs)
  where
    of_last : (gs : List Frame) (t : Frame) → HaveMarks (gs ++ t ∷ []) (ms ++ m ∷ []) scopes d
        → NoneOutsideBelow (without_variables t.variables scopes) m d
        × AreMarked (f ∷ gs) ms (without_variables t.variables scopes) d
    of_last gs t is =
        let split = have_popped gs t ms m scopes d is in (
          (λ id low live.
              ⊎_elim
              (λ out.
              let l = any_at (λ (k : Literal). is_outside (without_variables t.variables scopes) k.variable)
              (row_of d id)
              out in
              absurd (true≢false
              (sym (any_from (λ (k : Literal). is_late (t ∷ []) scopes k.variable) (row_of d id) l.0 l.1
              (subst (λ vs. (is_among l.0.variable vs || is_outside scopes l.0.variable) ≡ true)
              (sym (append-nil t.variables)) (left_or_outside t.variables scopes l.0.variable l.2)))
              ∙ split.0 id low live)))
              (λ none. none)
              (cases_Bool (mentions (is_outside (without_variables t.variables scopes)) (row_of d id)))),
          split.1,
        )

    by : (fs ≡ []) ⊎ ((gs : List Frame) × (t : Frame) × (fs ≡ gs ++ t ∷ []))
        → NoneOutsideBelow (without_variables (top_variables (f ∷ fs)) scopes) m d
        × AreMarked (popped (f ∷ fs)) ms (without_variables (top_variables (f ∷ fs)) scopes) d
    by (inl e) = absurd (no_frame ms m scopes d (subst (λ hs. HaveMarks hs (ms ++ m ∷ []) scopes d) e are))
    by (inr l) =
        let top : top_variables (f ∷ fs) ≡ l.1.variables =
        ap (λ hs. top_variables (f ∷ hs)) l.2 ∙ top_is (f ∷ l.0) l.1 in
        let rest : popped (f ∷ fs) ≡ f ∷ l.0 = ap (λ hs. popped (f ∷ hs)) l.2 ∙ all_but_last (f ∷ l.0) l.1 in
        let done = of_last l.0 l.1 (subst (λ hs. HaveMarks hs (ms ++ m ∷ []) scopes d) l.2 are) in
        rw (top, rest) done

-- what is in a prefix

outside_none : (scopes : List Scope) (x : ℕ) → Contains (all_variables scopes) x → is_outside scopes x ≡ true → ⊥
outside_none scopes x there out = by (level_of scopes x) (has_level scopes x there) out
  where
    by : (o : Option ℕ) → is_some o ≡ true → is_none o ≡ true → ⊥
    by None some none = true≢false (sym some)
    by (Some n) some none = true≢false (sym none)

-- what isn't in a larger prefix isn't in a smaller one
pub outside_smaller : (old new : List Scope) → Extends old new → (x : ℕ) → is_outside new x ≡ true
    → is_outside old x ≡ true
outside_smaller old new extends x out = by (level_of old x) refl
  where
    by : (o : Option ℕ) → level_of old x ≡ o → is_none (level_of old x) ≡ true
    by None e = ap is_none e
    by (Some n) e = absurd (outside_none new x (extends.has x (level_in_prefix old x n e)) out)

-- a row names nothing outside its prefix
pub row_inside : (scopes : List Scope) (row : Row) → IsRow scopes row → mentions (is_outside scopes) row ≡ false
row_inside scopes row is =
    ⊎_elim
    (λ t.
    let l = any_at (λ (k : Literal). is_outside scopes k.variable) row t in
    absurd (outside_none scopes l.0.variable (is.over_prefix l.0 l.1) l.2))
    (λ f. f)
    (cases_Bool (mentions (is_outside scopes) row))

pub rows_inside : (scopes : List Scope) (rows : List Row) → AllByRecursion (IsRow scopes) rows
    → AllByRecursion (λ (row : Row). mentions (is_outside scopes) row ≡ false) rows
rows_inside scopes [] all = tt
rows_inside scopes (row ∷ rows) all = (row_inside scopes row all.0, rows_inside scopes rows all.1)

no_finish : (o : Option Note) → is_some o ≡ true → (IsTrue (is_finish (why_in o)) → ⊥) → may_be_antecedent o ≡ true
no_finish None live none = absurd (true≢false (sym live))
no_finish (Some note) live none =
    ⊎_elim (λ t. absurd (none t)) (λ f. ap not f) (cases_Bool (is_finish note.why))

-- nor does a derivation without a finish
pub steps_inside : (scopes : List Scope) (d : State) → IsLegalFor scopes d → HasNoFinish d → (id : ℕ)
    → IsTrue (is_live d id) → mentions (is_outside scopes) (row_of d id) ≡ false
steps_inside scopes d legal none id live =
    row_inside scopes (row_of d id) (step_row scopes d id legal (no_finish (note_at d id) live (none id)))

-- the prefix without some variables
pub fewer_extend : (vs : List ℕ) (scopes : List Scope) → PrefixesGrow → Extends (without_variables vs scopes) scopes
fewer_extend [] scopes grow = grow.itself scopes
fewer_extend (v ∷ vs) scopes grow =
    grow.follows (without_variable v (without_variables vs scopes)) (without_variables vs scopes) scopes
    (grow.inserted (without_variable v (without_variables vs scopes)) (without_variables vs scopes)
    (removal_keeps_order (without_variables vs scopes) v))
    (fewer_extend vs scopes grow)
