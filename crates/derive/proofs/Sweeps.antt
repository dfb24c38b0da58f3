-- What a sweep leaves.
use Rattle.std.proofs.Common.{◌≡◌, ◌≢◌, ℕ, zero, suc, ◌+◌, ◌<◌, ◌≤◌, ◌⊎◌, Bool, true, false, not, List, [], ◌∷◌, length, replicate, take, set, get_or, Contains, Option, Some, None, is_some, IsTrue, nat_eq, sym, refl, ap, subst, ◌∙◌, inl, inr, ⊎_elim, arith}
use Rattle.std.specs.Prelude.{◌&&◌, ◌||◌}
use Rattle.std.proofs.lemmas.Bool.{cases_Bool, cases_eq, cases_lt, true≢false, false≢true, or_left, or_right, or_cases, eqb-true, eq-eqb}
use Rattle.std.proofs.lemmas.List.{get_or-set_same, get_or-set_other, get_or_past, take_more, take_all}
use Rattle.std.proofs.lemmas.List.Elements.{Contains-get_or, Contains-append_left, Contains-push, Contains-push_cases}
use Rattle.calculus.proofs.Lists.{contains_nil}
use Rattle.prefix.specs.declared.quant.Quant.{Quant}
use Rattle.prefix.specs.declared.quant.Quant.TheVariants.{Exists, Forall}
use Rattle.prefix.specs.Scopes.{Scope}
use Rattle.rows.specs.Arena.{Arena}
use Rattle.calculus.specs.Derivations.{Why, RestsOn, rests_on}
use Rattle.derive.specs.declared.step.Step.{Step}
use Rattle.derive.specs.declared.step.Step.TheVariants.{Reduced, Finished, Resolved}
use Rattle.derive.specs.Told.{told, why_of}
use Rattle.calculus.specs.Derivations.Why.{Given, ReducedFrom, ResolvedFrom, FinishedFrom}
use Rattle.derive.specs.State.{Note, Notes, State, SameStep, note_in, note_at, is_live, clauses_of, IsLegalFor}
use Rattle.derive.specs.Antecedents.{AreSupported}
use Rattle.derive.specs.Dropping.{Falls, Drops}
use Rattle.derive.specs.Dropping.Falls.{root, rests}
use Rattle.derive.specs.Missing.{misses_antecedent, falls_now, falls_with}
use Rattle.derive.specs.Sweeping.{AreClosed, AreMarked, MarksNamed, MarksUnder, Stays, Sweeps, goes, is_input_clause, is_marked, is_unmarked, rests_in}
use Rattle.derive.specs.Sweeping.Stays.{clause, named, under}
use Rattle.derive.proofs.Falling.{Passed, misses_at, none_some, some_is}
use Rattle.derive.proofs.Drops.{legal_drops, clauses_same}

and_true : (a b : Bool) → a && b ≡ true → (a ≡ true) × (b ≡ true)
and_true true b e = (refl, e)
and_true false b e = absurd (false≢true e)

and_both : (a b : Bool) → a ≡ true → b ≡ true → a && b ≡ true
and_both a b e f = rw (e, f) refl

or_none : (a b : Bool) → a ≡ false → b ≡ false → (a || b) ≡ false
or_none a b e f = rw (e, f) refl

not_true : (b : Bool) → not b ≡ true → b ≡ false
not_true true e = absurd (false≢true e)
not_true false e = refl

not_false : (b : Bool) → b ≡ false → not b ≡ true
not_false b e = rw e refl

-- a step has one note
pub same_note : (o : Option Note) (a b : Note) → o ≡ Some a → o ≡ Some b → a ≡ b
same_note o a b e f = let g : Some a ≡ Some b = sym e ∙ f in cc

-- an input clause rests on nothing
clause_rests : (side : Quant) (why : Why) (on : ℕ) → is_input_clause side why ≡ true → RestsOn why on → ⊥
clause_rests Exists Given on e r = r
clause_rests Exists (ReducedFrom a) on e r = false≢true e
clause_rests Exists (ResolvedFrom a b x) on e r = false≢true e
clause_rests Exists (FinishedFrom a) on e r = false≢true e
clause_rests Forall why on e r = false≢true e

-- a mark that is put

mark_here : (marks : List Bool) (id : ℕ) → id < length marks → is_marked (set marks id true) id ≡ true
mark_here marks id within = get_or-set_same marks id true false within

mark_other : (marks : List Bool) (id i : ℕ) → i ≢ id → is_marked (set marks id true) i ≡ is_marked marks i
mark_other marks id i differs = get_or-set_other marks id i true false differs

mark_stays : (marks : List Bool) (id i : ℕ) → id < length marks → is_marked marks i ≡ true
    → is_marked (set marks id true) i ≡ true
mark_stays marks id i within m =
    elim (cases_eq i id) [
      | inl same ↦ ap (is_marked (set marks id true)) same ∙ mark_here marks id within
      | inr differs ↦ mark_other marks id i differs ∙ m
    ]

mark_only : (marks : List Bool) (id i : ℕ) → is_marked (set marks id true) i ≡ true → (is_marked marks i ≡ true)
    ⊎ (id ≡ i)
mark_only marks id i m =
    elim (cases_eq i id) [
      | inl same ↦ inr (sym same)
      | inr differs ↦ inl (sym (mark_other marks id i differs) ∙ m)
    ]

-- named steps

pub named_none : (keep : List ℕ) (marks : List Bool) → MarksNamed (take 0 keep) marks marks
named_none keep marks = record { stays = λ i m. m; names = λ i c. absurd (contains_nil i c); only = λ i m. inl m }

pub named_more : (keep : List ℕ) (old marks : List Bool) (n : ℕ) → n < length keep → get_or keep n 0 < length marks
    → MarksNamed (take n keep) old marks → MarksNamed (take (n + 1) keep) old (set marks (get_or keep n 0) true)
named_more keep old marks n low within m =
    let id : ℕ = get_or keep n 0 in
    let P : List ℕ → Type 0 = λ ks. MarksNamed ks old (set marks (get_or keep n 0) true) in
    subst P (sym (take_more keep n 0 low))
    (record {
      stays = λ i h. mark_stays marks (get_or keep n 0) i within (m.stays i h);
      names = λ i c. ⊎_elim (λ d. mark_stays marks (get_or keep n 0) i within (m.names i d))
          (λ e. rw (← e) (mark_here marks (get_or keep n 0) within))
          (Contains-push_cases (take n keep) (get_or keep n 0) i c);
      only = λ i h.
          ⊎_elim
          (λ f. ⊎_elim (λ g. inl g) (λ c. inr (Contains-append_left (take n keep) (get_or keep n 0 ∷ []) i c))
          (m.only i f))
          (λ e. inr (rw (← e) (Contains-push (take n keep) (get_or keep n 0))))
          (mark_only marks (get_or keep n 0) i h);
    })

pub named_within : (keep : List ℕ) (n count : ℕ) → ((id : ℕ) → Contains keep id → id < count) → n < length keep
    → get_or keep n 0 < count
named_within keep n count given low = given (get_or keep n 0) (Contains-get_or keep n 0 low)

pub named_all : (keep : List ℕ) (old marks : List Bool) (n : ℕ) → length keep ≤ n → MarksNamed (take n keep) old marks
    → MarksNamed keep old marks
named_all keep old marks n all m = rw (take_all n keep all) at m

-- what a marked step rests on

rests_true : (why : Why) (id : ℕ) → RestsOn why id → rests_on why id ≡ true
rests_true Given id r = absurd r
rests_true (ReducedFrom a) id r = eq-eqb a id r
rests_true (ResolvedFrom a b x) id r = ⊎_elim (λ s. or_left (nat_eq a id) (nat_eq b id) (eq-eqb a id s))
    (λ s. or_right (nat_eq a id) (nat_eq b id) (eq-eqb b id s)) r
rests_true (FinishedFrom a) id r = eq-eqb a id r

rests_from : (why : Why) (id : ℕ) → rests_on why id ≡ true → RestsOn why id
rests_from Given id e = absurd (false≢true e)
rests_from (ReducedFrom a) id e = eqb-true a id e
rests_from (ResolvedFrom a b x) id e = ⊎_elim (λ s. inl (eqb-true a id s)) (λ s. inr (eqb-true b id s))
    (or_cases (nat_eq a id) (nat_eq b id) e)
rests_from (FinishedFrom a) id e = eqb-true a id e

rests_some : (o : Option Note) (i : ℕ) → rests_in o i ≡ true → (note : Note) × (o ≡ Some note) × RestsOn note.why i
rests_some None i e = absurd (false≢true e)
rests_some (Some note) i e = (note, refl, rests_from note.why i e)

pub under_from : (notes : Notes) (id : ℕ) (old new : List Bool)
    → ((x : ℕ) → is_marked new x ≡ (is_marked old x || (is_marked old id && rests_in (note_in notes id) x)))
    → MarksUnder notes id old new
under_from notes id old new value =
    record {
      stays = λ i h. value i ∙ or_left (is_marked old i) (is_marked old id && rests_in (note_in notes id) i) h;
      under = λ on note m there r.
          value on
          ∙ or_right (is_marked old on) (is_marked old id && rests_in (note_in notes id) on)
          (and_both (is_marked old id) (rests_in (note_in notes id) on) m
          (ap (λ o. rests_in o on) there ∙ rests_true note.why on r));
      only = λ i h.
          ⊎_elim inl
          (λ both. let p = and_true (is_marked old id) (rests_in (note_in notes id) i) both in
          inr (p.0, rests_some (note_in notes id) i p.1))
          (or_cases (is_marked old i) (is_marked old id && rests_in (note_in notes id) i) (sym (value i) ∙ h));
    }

pub antecedent_given : (notes : Notes) (marks : List Bool) (id on : ℕ) (note : Note) → AreSupported notes
    → note_in notes id ≡ Some note → id < length notes → length notes ≤ length marks → RestsOn note.why on
    → on < length marks
antecedent_given notes marks id on note supported there given room r = let e : on < id =
    ((supported id note there).antecedents on r).earlier in omega arith

pub live_given : (notes : Notes) (id : ℕ) → is_some (note_in notes id) ≡ true → id < length notes
live_given notes id live =
    elim (cases_lt id (length notes)) [
      | inl h ↦ h
      | inr h ↦ absurd (false≢true (sym (ap is_some (get_or_past notes id None h)) ∙ live))
    ]

-- all marks

pub marked_first : (keep : List ℕ) (notes : Notes) (old marks : List Bool) (from : ℕ) → length notes ≤ from
    → ((i : ℕ) → is_marked old i ≡ false) → MarksNamed keep old marks → AreMarked keep notes marks from
marked_first keep notes old marks from past none m =
    record {
      sound = λ i h. ⊎_elim (λ f. absurd (false≢true (sym (none i) ∙ f))) (λ c. named i c) (m.only i h);
      names = m.names;
      closed = λ i on note low h there r. absurd
          (none_some (note_in notes i) note (get_or_past notes i None (omega arith)) there);
    }

pub marked_more : (keep : List ℕ) (notes : Notes) (old marks : List Bool) (id from : ℕ) → AreSupported notes
    → from ≡ id + 1 → AreMarked keep notes old from → MarksUnder notes id old marks → AreMarked keep notes marks id
marked_more keep notes old marks id from supported next m u =
    record {
      sound = λ i h. ⊎_elim (λ f. m.sound i f) (λ p. let q = p.1 in under id i q.0 q.1 q.2 (m.sound id p.0))
          (u.only i h);
      names = λ i c. u.stays i (m.names i c);
      closed = λ i on note low h there r.
          let old_mark = was i low h in
          elim (cases_eq i id) [
            | inl same ↦ u.under on note (rw same at old_mark) (rw same at there) r
            | inr differs ↦ u.stays on (m.closed i on note (omega arith) old_mark there r)
          ];
    }
  where
    was : (i : ℕ) → id ≤ i → is_marked marks i ≡ true → is_marked old i ≡ true
    was i low h =
        ⊎_elim (λ f. f)
        (λ p. let q = p.1 in let e : i < id = ((supported id q.0 q.1).antecedents i q.2).earlier in
        absurd (omega arith))
        (u.only i h)

-- down over ids under which no step is live
pub marked_skip : (keep : List ℕ) (notes : Notes) (marks : List Bool) (from to : ℕ)
    → ((i : ℕ) → to ≤ i → i < from → note_in notes i ≡ None) → AreMarked keep notes marks from
    → AreMarked keep notes marks to
marked_skip keep notes marks from to none m =
    record {
      sound = m.sound;
      names = m.names;
      closed = λ i on note low h there r.
          elim (cases_lt i from) [
            | inl below ↦ absurd (none_some (note_in notes i) note (none i low below) there)
            | inr above ↦ m.closed i on note above h there r
          ];
    }

-- a step stays exactly where it is marked or an input clause
pub stays_marked : (keep : List ℕ) (notes : Notes) (marks : List Bool) → AreMarked keep notes marks 0 → (i : ℕ)
    → Stays keep notes i → (note : Note) → note_in notes i ≡ Some note → is_unmarked marks i note ≡ true → ⊥
stays_marked keep notes marks m i s note there u =
    let p = and_true (not (is_input_clause note.side note.why)) (not (is_marked marks i)) u in
    ⊎_elim
    (λ f. false≢true (sym (not_true (is_marked marks i) p.1) ∙ f))
    (λ g. let e = same_note (note_in notes i) g.0 note g.1 there in
    true≢false (sym (rw e at g.2) ∙ not_true (is_input_clause note.side note.why) p.0))
    (how i s)
  where
    how : (i : ℕ) → Stays keep notes i → (is_marked marks i ≡ true)
        ⊎ ((n : Note) × (note_in notes i ≡ Some n) × (is_input_clause n.side n.why ≡ true))
    how i (clause j n at c) = inr (n, at, c)
    how i (named j c) = inl (m.names j c)
    how i (under j on n at r s) =
        ⊎_elim
        (λ f. inl (m.closed j on n (omega arith) f at r))
        (λ g. let e = same_note (note_in notes j) g.0 n g.1 at in absurd (clause_rests n.side n.why on (rw e at g.2) r))
        (how j s)

pub marked_stays : (keep : List ℕ) (notes : Notes) (marks : List Bool) → AreMarked keep notes marks 0
    → (i : ℕ) (note : Note) → note_in notes i ≡ Some note → is_unmarked marks i note ≡ false → Stays keep notes i
marked_stays keep notes marks m i note there u =
    ⊎_elim
    (λ c. clause i note there c)
    (λ c. ⊎_elim
    (λ f. m.sound i f)
    (λ f. absurd
    (true≢false
    (sym (and_both (not (is_input_clause note.side note.why)) (not (is_marked marks i))
    (not_false (is_input_clause note.side note.why) c) (not_false (is_marked marks i) f)) ∙ u)))
    (cases_Bool (is_marked marks i)))
    (cases_Bool (is_input_clause note.side note.why))

-- what falls with the unmarked steps is unmarked
pub falls_unmarked : (notes : Notes) (marks : List Bool) → AreClosed notes marks 0 → (i : ℕ)
    → Falls (is_unmarked marks) notes i → (note : Note) → note_in notes i ≡ Some note → is_unmarked marks i note ≡ true
falls_unmarked notes marks closed i (root j n at r) note there = rw (same_note (note_in notes i) n note at there) at r
falls_unmarked notes marks closed i (rests j on n at r falls) note there =
    let r2 = rw (same_note (note_in notes i) n note at there) at r in
    and_both (not (is_input_clause note.side note.why)) (not (is_marked marks i))
    (⊎_elim (λ c. absurd (clause_rests note.side note.why on c r2))
    (λ c. not_false (is_input_clause note.side note.why) c) (cases_Bool (is_input_clause note.side note.why)))
    (⊎_elim (λ f. absurd (below f r2)) (λ f. not_false (is_marked marks i) f) (cases_Bool (is_marked marks i)))
  where
    below : is_marked marks i ≡ true → RestsOn note.why on → ⊥
    below f r2 = let h = closed i on note (omega arith) f there r2 in over on falls h
      where
        over : (k : ℕ) → Falls (is_unmarked marks) notes k → is_marked marks k ≡ true → ⊥
        over k (root j m at r) h =
            false≢true
            (sym (not_true (is_marked marks k) (and_true (not (is_input_clause m.side m.why)) (not (is_marked marks k))
            r).1) ∙ h)
        over k (rests j o m at r f) h = over o f (closed k o m (omega arith) h at r)

-- a pass that drops what isn't marked

pub falls_goes : (notes : Notes) (marks : List Bool) (id : ℕ) → goes marks id (note_in notes id) ≡ true
    → falls_now (is_unmarked marks) notes id ≡ true
falls_goes notes marks id e = by (note_in notes id) e
  where
    by : (o : Option Note) → goes marks id o ≡ true → falls_with (is_unmarked marks) notes id o ≡ true
    by None e = absurd (false≢true e)
    by (Some note) e = or_left (is_unmarked marks id note) (misses_antecedent notes note.why) e

pub falls_stays : (old notes : Notes) (old_rows rows : Arena) (marks : List Bool) (id : ℕ) → AreSupported old
    → AreClosed old marks 0 → Passed (is_unmarked marks) old notes old_rows rows id
    → goes marks id (note_in notes id) ≡ false → falls_now (is_unmarked marks) notes id ≡ false
falls_stays old notes old_rows rows marks id supported closed passed e = by (note_in notes id)
    (sym (passed.rest id (omega arith))) e
  where
    by : (o : Option Note) → note_in old id ≡ o → goes marks id o ≡ false → falls_with (is_unmarked marks) notes id
        o ≡ false
    by None there e = refl
    by (Some note) there e = ⊎_elim
        (λ m. absurd (missing (misses_at notes note.why m)))
        (λ m. or_none (is_unmarked marks id note) (misses_antecedent notes note.why) e m)
        (cases_Bool (misses_antecedent notes note.why))
      where
        missing : ((on : ℕ) × RestsOn note.why on × (note_in notes on ≡ None)) → ⊥
        missing p =
            let g = (supported id note there).antecedents p.0 p.1 in
            let low : p.0 < id = g.earlier in
            ⊎_elim
            (λ f. true≢false (sym (falls_unmarked old marks closed id (rests id p.0 note there p.1 f.0) note there)
            ∙ e))
            (λ k. none_some (note_in notes p.0) g.under p.2 (k.1 ∙ g.there))
            (passed.done p.0 low)

-- the whole sweep

module _ (keep : List ℕ) (old new : State) (marks : List Bool) (supported : AreSupported old.notes)
    (live : (id : ℕ) → Contains keep id → IsTrue (is_live old id)) (m : AreMarked keep old.notes marks 0)
    (drops : Drops (is_unmarked marks) old new) where
  stays_live : (i : ℕ) → Stays keep old.notes i → is_some (note_in old.notes i) ≡ true
  stays_live i (clause j n at c) = ap is_some at
  stays_live i (named j c) = live j c
  stays_live i (under j on n at r s) = ap is_some ((supported j n at).antecedents on r).there

  pub swept : Sweeps keep old new
  swept =
      record {
        has_rows = drops.has_rows;
        same_next = drops.exactly.same_next;
        exactly = λ id. by id (note_at old id) refl;
        rows = drops.exactly.rows;
        others = drops.others;
        left = drops.left;
      }
    where
      by : (id : ℕ) (o : Option Note) → note_at old id ≡ o
          → (Stays keep old.notes id × (note_at new id ≡ note_at old id))
          ⊎ ((Stays keep old.notes id → ⊥) × (note_at new id ≡ None))
      by id None there =
          inr (
            (λ s. none_some (note_at old id) (some_is (note_at old id) (stays_live id s)).0 there
                (some_is (note_at old id) (stays_live id s)).1),
            ⊎_elim (λ p. p.1) (λ p. p.1 ∙ there) (drops.exactly.steps id),
          )
      by id (Some note) there =
          ⊎_elim
          (λ p. inr (
            (λ s. stays_marked keep old.notes marks m id s note there
                (falls_unmarked old.notes marks m.closed id p.0 note there)),
            p.1,
          ))
          (λ p. inl (
            marked_stays keep old.notes marks m id note there
                (⊎_elim (λ u. absurd (p.0 (root id note there u))) (λ u. u) (cases_Bool (is_unmarked marks id note))),
            p.1,
          ))
          (drops.exactly.steps id)

pub swept_clauses : (old new : State) (marks : List Bool) → Drops (is_unmarked marks) old new
    → clauses_of new ≡ clauses_of old
swept_clauses old new marks drops = clauses_same (is_unmarked marks) old new drops (λ c. refl)

pub swept_legal : (old new : State) (marks : List Bool) → Drops (is_unmarked marks) old new → (scopes : List Scope)
    → IsLegalFor scopes old → IsLegalFor scopes new
swept_legal old new marks drops scopes legal = legal_drops (is_unmarked marks) old new drops scopes legal

pub unmarked_all : (n i : ℕ) → is_marked (replicate n false) i ≡ false
unmarked_all zero i = refl
unmarked_all (suc n) zero = refl
unmarked_all (suc n) (suc i) = unmarked_all n i

pub marked_named : (keep : List ℕ) (notes : Notes) (old marks : List Bool) (n : ℕ) → old ≡ replicate n false
    → MarksNamed keep old marks → AreMarked keep notes marks (length notes)
marked_named keep notes old marks n none m = marked_first keep notes old marks (length notes) (omega arith)
    (λ i. ap (λ (ms : List Bool). is_marked ms i) none ∙ unmarked_all n i) m

-- a named step stays as it was
pub swept_kept : (keep : List ℕ) (old new : State) → ((id : ℕ) → Contains keep id → IsTrue (is_live old id))
    → Sweeps keep old new → (id : ℕ) → Contains keep id → SameStep old new id
swept_kept keep old new live sweeps id c =
    sweeps.others id
    (⊎_elim (λ p. ap is_some p.1 ∙ live id c) (λ p. absurd (p.0 (named id c))) (sweeps.exactly id))

-- what steps rest on, as they are told

pub resolved_rests : (step : Step) (why : Why) (a b pivot : ℕ) → why_of step ≡ why → step ≡ Resolved a b pivot
    → RestsOn why a × RestsOn why b
resolved_rests step why a b pivot is at =
    let e : why ≡ ResolvedFrom a b pivot = sym is ∙ ap why_of at in
    let P : Why → Type 0 = λ w. RestsOn w a × RestsOn w b in
    subst P (sym e) (inl refl, inr refl)

pub reduced_rests : (step : Step) (why : Why) (a : ℕ) → why_of step ≡ why → step ≡ Reduced a → RestsOn why a
reduced_rests step why a is at =
    let e : why ≡ ReducedFrom a = sym is ∙ ap why_of at in
    let P : Why → Type 0 = λ w. RestsOn w a in
    subst P (sym e) refl

pub finished_rests : (step : Step) (why : Why) (a : ℕ) → why_of step ≡ why → step ≡ Finished a → RestsOn why a
finished_rests step why a is at =
    let e : why ≡ FinishedFrom a = sym is ∙ ap why_of at in
    let P : Why → Type 0 = λ w. RestsOn w a in
    subst P (sym e) refl

-- why a step stands is told of it
pub why_told : (side : Quant) (why : Why) → why_of (told side why) ≡ why
why_told Exists Given = refl
why_told Forall Given = refl
why_told Exists (ReducedFrom a) = refl
why_told Forall (ReducedFrom a) = refl
why_told Exists (ResolvedFrom a b pivot) = refl
why_told Forall (ResolvedFrom a b pivot) = refl
why_told Exists (FinishedFrom a) = refl
why_told Forall (FinishedFrom a) = refl
