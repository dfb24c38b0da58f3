-- Worked values of questions of a verdict.
use Rattle.std.proofs.Common.{◌≡◌, ◌<◌, ◌∙◌, ℕ, true, false, List, [], ◌∷◌, length, codes, Some, is_none, refl, sym, ap, ⊎_elim, inr, arith}
use Rattle.std.specs.Fmt.{digits}
use Rattle.std.proofs.lemmas.Bool.{true≢false}
use Rattle.trail.specs.State.{Account}
use Rattle.frames.specs.Fold.{Given}
use Rattle.session.specs.Replies.{GivesUpCore, TellsCore, core_text}
use Rattle.session.specs.Worked.{lost, negative}
use Rattle.session.specs.WorkedAsks.{WorkedQuestions, gone, refuted_by_group, spent_at, unknown_with}
use Rattle.solve.specs.Outputs.{Output, says}
use Rattle.solve.specs.Standing.{Standing}
use Rattle.solve.specs.Terms.{terms_of}

-- a verdict that has gone isn't there
not_gone : (s : Standing) (given : Given) → s.script.verdict ≡ Some given → gone s ≡ s → ⊥
not_gone s given there is =
    true≢false (ap (λ (t : Standing). is_none t.script.verdict) is ∙ ap is_none there)

-- 1 was assumed to be false
abbrev negated : Given
negated = record { truth = true; assumptions = record { variable = 1; positive = false } ∷ [] }

-- a text and an entry aren't said alone
no_entry_said : (text : List ℕ) (o : Output) → length o.stops ≡ 1 → o ≡ says text → ⊥
no_entry_said text o one is = let n : length o.stops ≡ 0 = ap (λ (x : Output). length x.stops) is in omega arith

-- an output that tells of no search is no `UNKNOWN`
unknown_tells : (o : Output) (stopped : Account) → length o.stops ≡ 0 → o ≡ unknown_with (stopped ∷ []) → ⊥
unknown_tells o stopped none is = let n : length o.stops ≡ 1 = ap (λ (x : Output). length x.stops) is in omega arith

-- a text of another length isn't said
other_length : (o : Output) (text : List ℕ) (n : ℕ) → length o.text ≡ n → o ≡ says text → length text ≡ n
other_length o text n long is = sym (ap (λ (x : Output). length x.text) is) ∙ long

pub questions : WorkedQuestions
unfolding digits
questions = record {
  value = record { text = codes "value -1\n"; told = refl; says_text = refl; same = refl };
  other_value = λ after h. (
      let n : length h.text ≡ 9 = ap (λ (t : List ℕ). length t) h.told in
      let m : length h.text ≡ 8 = other_length (says (codes "value 1\n")) h.text 8 refl h.says_text in omega arith);
  value_alone = λ h. not_gone negative negated refl h.same;
  relevant = record { text = codes "relevant 0\n"; told = refl; says_text = refl; same = refl };
  other_relevant = λ after h. (
      let n : length h.text ≡ 11 = ap (λ (t : List ℕ). length t) h.told in
      let m : length h.text ≡ 14 = other_length (says (codes "relevant -1 0\n")) h.text 14 refl h.says_text in
      omega arith);
  relevant_alone = λ h. not_gone negative negated refl h.same;
  no_trace = λ after h. (
      let n : length h.text ≡ 0 = other_length (says []) h.text 0 refl h.says_text in
      let m = ap (λ (t : List ℕ). length t) h.told.text_of_core in omega arith);
  trace_alone = λ out h. not_gone negative negated refl h.same;
  no_circuit = λ after h. (
      let n : length h.text ≡ 0 = other_length (says []) h.text 0 refl h.says_text in
      let m = ap (λ (t : List ℕ). length t) h.told.denotes.lines in omega arith);
  circuit_alone = λ out h. not_gone negative negated refl h.same;
  other_core = λ after h. ⊎_elim
      (λ (t : TellsCore refuted_by_group (says (codes "core 0\n")) after). (
      let n : 7 ≡ 9 = ap (λ (o : Output). length o.text) t.told.0 in omega arith))
      (λ (g : GivesUpCore (terms_of 0 0 512) refuted_by_group (says (codes "core 0\n")) after).
      unknown_tells (says (codes "core 0\n")) g.stopped refl g.says_unknown) h;
  core_alone = λ out h. ⊎_elim
      (λ (t : TellsCore refuted_by_group out (gone refuted_by_group)).
      not_gone refuted_by_group (record { truth = false; assumptions = [] }) refl t.same)
      (λ (g : GivesUpCore (terms_of 0 0 512) refuted_by_group out (gone refuted_by_group)).
      not_gone refuted_by_group (record { truth = false; assumptions = [] }) refl g.same) h;
  no_core = λ text after h. ⊎_elim
      (λ (t : TellsCore lost (says text) after). true≢false t.told.1.refuted)
      (λ (g : GivesUpCore (terms_of 0 0 512) lost (says text) after).
      unknown_tells (says text) g.stopped refl g.says_unknown) h;
  unknown = inr (record {
    stopped = spent_at 0;
    short = omega arith;
    stop = record { budget = refl; vars = refl; few = omega arith; restarts = omega arith };
    says_unknown = refl;
    same = refl;
  });
  no_entry = λ after h. ⊎_elim
      (λ (t : TellsCore refuted_by_group (unknown_with []) after). (
      let n : 8 ≡ 9 = ap (λ (o : Output). length o.text) t.told.0 in omega arith))
      (λ (g : GivesUpCore (terms_of 0 0 512) refuted_by_group (unknown_with []) after).
      unknown_tells (unknown_with []) g.stopped refl g.says_unknown) h;
  other_budget = λ after h. ⊎_elim
      (λ (t : TellsCore refuted_by_group (unknown_with (spent_at 1 ∷ [])) after).
      no_entry_said (core_text (1 ∷ [])) (unknown_with (spent_at 1 ∷ [])) refl t.told.0)
      (λ (g : GivesUpCore (terms_of 0 0 512) refuted_by_group (unknown_with (spent_at 1 ∷ [])) after). (
      let e : spent_at 1 ∷ [] ≡ g.stopped ∷ [] = ap (λ (o : Output). o.stops) g.says_unknown in
      let f : spent_at 1 ≡ g.stopped = cc in
      let n : 1 ≡ 0 = ap (λ (a : Account). a.budget) f ∙ g.stop.budget in omega arith)) h;
  other_text = λ after h. ⊎_elim
      (λ (t : TellsCore refuted_by_group (record { text = []; stops = spent_at 0 ∷ [] }) after).
      no_entry_said (core_text (1 ∷ [])) (record { text = []; stops = spent_at 0 ∷ [] }) refl t.told.0)
      (λ (g : GivesUpCore (terms_of 0 0 512) refuted_by_group (record { text = []; stops = spent_at 0 ∷ [] }) after). (
      let n : 0 ≡ 8 = ap (λ (o : Output). length o.text) g.says_unknown in omega arith)) h;
  enough = λ after h. ⊎_elim
      (λ (t : TellsCore refuted_by_group (unknown_with (spent_at 16 ∷ [])) after).
      no_entry_said (core_text (1 ∷ [])) (unknown_with (spent_at 16 ∷ [])) refl t.told.0)
      (λ (g : GivesUpCore (terms_of 16 0 512) refuted_by_group (unknown_with (spent_at 16 ∷ [])) after). (
      let n : 16 < 16 = g.short in omega arith)) h;
}
