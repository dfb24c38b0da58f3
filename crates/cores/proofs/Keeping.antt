-- Groups that are tried one after the other.
use Rattle.std.proofs.Common.{◌≡◌, ℕ, zero, suc, ◌+◌, ◌≤◌, Bool, true, false, List, [], ◌∷◌, ◌++◌, length, map, drop, Contains, refl, sym, ap, ◌∙◌, subst, ⊎_elim, append_assoc}
use Rattle.std.specs.Prelude.{if◌then◌else◌}
use Rattle.std.proofs.lemmas.List.{append-nil, drop_all, map-append}
use Rattle.prefix.specs.Literal.{Literal}
use Rattle.prefix.specs.Scopes.{Scope}
use Rattle.truth.specs.Truth.{truth_under}
use Rattle.calculus.specs.Rows.{Row}
use Rattle.calculus.proofs.Lists.{contains_cons, contains_head, contains_nil, contains_tail}
use Rattle.steps.specs.Counter.{Counter}
use Rattle.derive.specs.State.{State}
use Rattle.search.specs.Moves.{IsMatrix}
use Rattle.search.specs.Stops.{IsStop}
use Rattle.search.specs.declared.outcome.SolveStop.{SolveStop}
use Rattle.search.specs.declared.outcome.SolveStop.TheVariants.{Spent, NoMemory}
use Rattle.cores.specs.Cores.{Group, core_from, core_groups, core_numbers, grouped_in, truth_with}
use Rattle.cores.specs.Trials.{IsSpentOn, IsStopOn, IsTrialStop, new_counter}
use Rattle.cores.proofs.Minimal.{contains_either, grouped_append}

-- what is kept of the groups before a place, with the other clauses, and what is still to be tried
pub record Tried (assumptions : List Literal) (scopes : List Scope) (others : List Row) (groups : List Group)
    (place : ℕ) (kept : List Row) (numbers : List ℕ) : Type 0 where
  pub some : List Group
  pub kept_is : kept ≡ others ++ grouped_in some
  pub numbers_are : numbers ≡ map (λ (g : Group). g.number) some
  pub goes : core_from assumptions scopes others some (drop place groups)
      ≡ core_groups assumptions scopes others groups
  pub among : (g : Group) → Contains some g → Contains groups g

-- the budget was spent in a search of these clauses
pub stops_on : (restarts budget : ℕ) (scopes : List Scope) (clauses : List Row) (assumptions : List Literal) (d : State)
    (now : Counter) (stop : SolveStop) → IsMatrix d clauses → now.budget ≡ budget
    → IsStop restarts scopes d assumptions (new_counter budget) now stop
    → IsStopOn restarts budget scopes clauses assumptions stop
stops_on restarts budget scopes clauses assumptions d now (Spent stopped) matrix whole h =
    record { derivation = d; matrix = matrix; now = now; whole = whole; spent = h }
stops_on restarts budget scopes clauses assumptions d now NoMemory matrix whole h = h

behind_among : (gs : List Group) (n : ℕ) (g : Group) → Contains (drop n gs) g → Contains gs g
behind_among gs zero g i = i
behind_among [] (suc n) g i = i
behind_among (f ∷ gs) (suc n) g i = contains_tail f gs g (behind_among gs n g i)

module _ (assumptions : List Literal) (scopes : List Scope) (others : List Row) (groups : List Group) where
  pub none_tried : Tried assumptions scopes others groups 0 others []
  none_tried = record {
    some = [];
    kept_is = sym (append-nil others);
    numbers_are = refl;
    goes = refl;
    among = λ g i. absurd (contains_nil g i);
  }

  pub all_tried : (place : ℕ) (kept : List Row) (numbers : List ℕ) → length groups ≤ place
      → Tried assumptions scopes others groups place kept numbers
      → numbers ≡ core_numbers assumptions scopes others groups
  all_tried place kept numbers end t =
      t.numbers_are
      ∙ ap (map (λ (g : Group). g.number))
      (ap (core_from assumptions scopes others t.some) (sym (drop_all place groups end)) ∙ t.goes)

  module _ (place : ℕ) (kept : List Row) (numbers : List ℕ)
      (t : Tried assumptions scopes others groups place kept numbers) where
    -- the clauses of a trial
    clauses_are : kept ++ grouped_in (drop (place + 1) groups)
        ≡ others ++ grouped_in (t.some ++ drop (place + 1) groups)
    clauses_are =
        ap (λ r. r ++ grouped_in (drop (place + 1) groups)) t.kept_is
        ∙ append_assoc others (grouped_in t.some) (grouped_in (drop (place + 1) groups))
        ∙ ap (λ r. others ++ r) (sym (grouped_append t.some (drop (place + 1) groups)))

    found : (b : Bool)
        → truth_under assumptions scopes (kept ++ grouped_in (drop (place + 1) groups)) ≡ b
        → truth_with assumptions scopes others (t.some ++ drop (place + 1) groups) ≡ b
    found b e = ap (truth_under assumptions scopes) (sym clauses_are) ∙ e

    goes_on : (g : Group) (b : Bool) → drop place groups ≡ g ∷ drop (place + 1) groups
        → truth_with assumptions scopes others (t.some ++ drop (place + 1) groups) ≡ b
        → core_from assumptions scopes others (if b then t.some ++ g ∷ [] else t.some) (drop (place + 1) groups)
        ≡ core_groups assumptions scopes others groups
    goes_on g b here e =
        ap (λ x. core_from assumptions scopes others (if x then t.some ++ g ∷ [] else t.some)
        (drop (place + 1) groups)) (sym e)
        ∙ ap (core_from assumptions scopes others t.some) (sym here)
        ∙ t.goes

    pub not_needed : (g : Group) → drop place groups ≡ g ∷ drop (place + 1) groups
        → truth_under assumptions scopes (kept ++ grouped_in (drop (place + 1) groups)) ≡ false
        → Tried assumptions scopes others groups (place + 1) kept numbers
    not_needed g here e = record {
      some = t.some;
      kept_is = t.kept_is;
      numbers_are = t.numbers_are;
      goes = goes_on g false here (found false e);
      among = t.among;
    }

    pub needed : (g : Group) → drop place groups ≡ g ∷ drop (place + 1) groups
        → truth_under assumptions scopes (kept ++ grouped_in (drop (place + 1) groups)) ≡ true
        → Tried assumptions scopes others groups (place + 1) (kept ++ g.clauses) (numbers ++ g.number ∷ [])
    needed g here e = record {
      some = t.some ++ g ∷ [];
      kept_is =
          ap (λ r. r ++ g.clauses) t.kept_is
          ∙ append_assoc others (grouped_in t.some) g.clauses
          ∙ ap (λ r. others ++ r)
          (ap (λ r. grouped_in t.some ++ r) (sym (append-nil g.clauses)) ∙ sym (grouped_append t.some (g ∷ [])));
      numbers_are =
          ap (λ (ns : List ℕ). ns ++ g.number ∷ []) t.numbers_are
          ∙ sym (map-append (λ (f : Group). f.number) t.some (g ∷ []));
      goes = goes_on g true here (found true e);
      among =
          λ f i. ⊎_elim (t.among f)
          (λ j. ⊎_elim
          (λ (e : g ≡ f). subst (λ x. Contains groups x) e
          (behind_among groups place g
          (subst (λ gs. Contains gs g) (sym here) (contains_head g (drop (place + 1) groups)))))
          (λ n. absurd (contains_nil f n))
          (contains_cons g [] f j))
          (contains_either t.some (g ∷ []) f i);
    }

    pub stops : (restarts budget : ℕ) (stop : SolveStop)
        → IsStopOn restarts budget scopes (kept ++ grouped_in (drop (place + 1) groups)) assumptions stop
        → IsTrialStop restarts budget scopes others groups assumptions stop
    stops restarts budget (Spent stopped) h = record {
      some = t.some ++ drop (place + 1) groups;
      among =
          λ g i. ⊎_elim (t.among g) (behind_among groups (place + 1) g)
          (contains_either t.some (drop (place + 1) groups) g i);
      on = subst (λ r. IsSpentOn restarts budget scopes r assumptions stopped) clauses_are h;
    }
    stops restarts budget NoMemory h = h
