-- Worked values of steps.
use Rattle.std.proofs.Common.{◌≡◌, ◌∙◌, ◌≤◌, ◌+◌, ◌-◌, ℕ, List, [], ◌∷◌, length, codes, None, Some, is_none, refl, sym, ap, ⊎_elim, arith}
use Rattle.std.specs.Prelude.{slice_index_or}
use Rattle.std.specs.Fmt.{digits}
use Rattle.std.proofs.lemmas.Bool.{true≢false}
use Rattle.trail.specs.State.{Account}
use Rattle.ports.specs.Shelf.{HasRoom, Shelf}
use Rattle.ports.specs.Writing.{Wrote}
use Rattle.calculus.specs.Derivations.{Inference}
use Rattle.prefix.specs.Literal.{Literal}
use Rattle.frames.specs.Commands.{Push as PushFrame, formula_after}
use Rattle.frames.specs.Fold.{new_script, state_of}
use Rattle.frames.specs.State.{OpenFormula, empty_formula}
use Rattle.engine.specs.State.{VerdictState, new_engine}
use Rattle.session.specs.declared.reply.Reply.TheVariants.{Refused, Silent}
use Rattle.session.specs.WorkedOutcomes.{WorkedOutcomes, its_verdict, sink, with_bytes}
use Rattle.session.proofs.ScriptValues.{head_of_front, head_or}
use Rattle.solve.specs.Decisions.{Decides, GivesUp}
use Rattle.solve.specs.Holding.{Holds}
use Rattle.solve.specs.Outputs.{Output}
use Rattle.solve.specs.Standing.{Standing, start}
use Rattle.solve.specs.Terms.{terms_of}
use Rattle.solve.specs.Worked.{at_thirty_six}

-- an engine that counted nothing holds a formula without a verdict
unsolved : (f : OpenFormula) → Holds (terms_of 0 0 512) (record new_engine { formula = f })
    (record start { script = record new_script { formula = f } })
unsolved f = record {
  formula = refl;
  verdict = refl;
  proof = λ v is. absurd (let no : None ≡ Some v = is in cc);
  values = λ v is. absurd (let no : None ≡ Some v = is in cc);
  clauses = omega arith;
  solves = refl;
  budgets = omega arith;
  restarts = refl;
  most_restarts = omega arith;
  kept = refl;
  variables = omega arith;
}

-- a text on the empty sink
wrote : (text : List ℕ) → Wrote (λ (d : Shelf). Some d.bytes) (λ (d : Shelf). Some d.flushed)
    (λ (d : Shelf). d.calls.failed) HasRoom sink (with_bytes text sink) text
wrote text = record {
  appended = refl;
  kept = refl;
  no_fault = refl;
  room = λ n within has.
      let few : 0 + n ≤ 11 = has.1 in
      (refl, let g : length text + (n - length text) ≤ 11 = omega (arith, within, few) in g);
}

room : HasRoom sink 11
room = (refl, let all : 0 + 11 ≤ 11 = omega arith in all)

abbrev first_budget : List Account → ℕ
first_budget [] = 0
first_budget (a ∷ rest) = a.budget

frames_of : OpenFormula → ℕ
frames_of f = length f.frames

pub outcomes : WorkedOutcomes
unfolding digits frames_of
outcomes = record {
  pushed = (
    [],
    record start { script = state_of (PushFrame ∷ []) },
    record { silent = refl; state = refl },
    refl,
    wrote [],
    unsolved (formula_after empty_formula PushFrame),
  );
  refused = (
    codes "refused 40\n",
    start,
    (refl, refl),
    refl,
    wrote (codes "refused 40\n"),
    unsolved empty_formula,
  );
  not_refused = λ e h. absurd (let no : Refused 2 ≡ Silent = h.3 in cc);
  not_silent = λ e h. absurd (let no : Silent ≡ Refused 40 = h.3 in cc);
  other_text = λ e h. absurd (let n : 49 ≡ 48 = ap (λ (text : List ℕ). slice_index_or text 9 0)
      (h.4.appended ∙ ap (λ (o : Output). o.text) h.2.0) in omega (arith, n));
  no_text = λ e h. absurd (let n : 0 ≡ 11 = ap (λ (text : List ℕ). length text)
      (h.4.appended ∙ ap (λ (o : Output). o.text) h.2.0) in omega (arith, n));
  other_search = λ e h. ⊎_elim
      (λ (d : Decides start (record { text = h.0; stops = at_thirty_six ∷ [] }) h.1). absurd (
      let n : 1 ≡ 0 = ap (λ (o : Output). length o.stops) d.says_truth in omega (arith, n)))
      (λ (g : GivesUp (terms_of 0 0 512) start (record { text = h.0; stops = at_thirty_six ∷ [] }) h.1). absurd (
      let n : 36 ≡ 0 = ap (λ (o : Output). first_budget o.stops) g.says_unknown ∙ g.stop.budget in
      omega (arith, n))) h.2;
  at_fault = λ e h. absurd (let n : 1 ≡ 0 = h.4.no_fault in omega (arith, n));
  flushed = λ e h. absurd (let n : 1 ≡ 0 = ap (λ (text : List ℕ). length text) h.4.kept in omega (arith, n));
  less_room = λ e h. absurd (
      let none : length h.0 ≡ 0 = ap (λ (o : Output). length o.text) h.2.silent in
      let within : length h.0 ≤ 11 = omega (arith, none) in
      let few : 0 + (11 - length h.0) ≤ 3 = (h.4.room 11 within room).1 in omega (arith, none, few));
  not_pushed = λ h. absurd (let n : 2 ≡ 1 =
      ap (λ (s : Standing). frames_of s.script.formula) (sym h.2.state) ∙ ap frames_of h.5.formula in omega (arith, n));
  not_kept = λ h. absurd (let n : 1 ≡ 2 =
      ap (λ (s : Standing). frames_of s.script.formula) (sym h.2.1) ∙ ap frames_of h.5.formula in omega (arith, n));
  front = (
    codes "refused 40\n",
    start,
    (refl, refl),
    record {
      front = record { count = 3; within = omega arith; appended = refl };
      kept = refl;
      later = let up : 0 ≤ 1 = omega arith in up;
      rose = let up : 1 ≤ 1 = omega arith in up;
      no_room = λ n within has. absurd (
          let many : 11 ≤ n = within in
          let few : 0 + n ≤ 3 = has.1 in omega (arith, many, few));
    },
    unsolved empty_formula,
  );
  no_front = λ e h. absurd (let n : 83 ≡ 114 = ap head_or h.3.front.appended
      ∙ head_of_front h.3.front.count h.0 (ap (λ (o : Output). head_or o.text) h.2.0) in omega (arith, n));
  no_fault = λ e h. absurd (let n : 1 ≤ 0 = h.3.rose in omega (arith, n));
  told = λ e h. absurd (let n : 1 ≡ 0 = ap (λ (o : Output). length o.stops) h.2.0 in omega (arith, n));
  front_not_kept = λ h. absurd (let n : 1 ≡ 2 =
      ap (λ (s : Standing). frames_of s.script.formula) (sym h.2.1) ∙ ap frames_of h.4.formula in omega (arith, n));
  with_room = λ e h.
      let long : length h.0 ≡ 11 = ap (λ (o : Output). length o.text) h.2.0 in
      let within : length h.0 ≤ 11 = omega (arith, long) in
      h.3.no_room 11 within room;
  want = (wrote [], unsolved empty_formula, refl);
  written = λ e h. absurd (let n : 1 ≡ 0 = ap (λ (text : List ℕ). length text) h.0.appended in omega (arith, n));
  others = (
    λ h. absurd (let n : 1 ≡ 2 = ap frames_of h.1.formula in omega (arith, n)),
    (
      λ h. absurd (true≢false (ap is_none h.1.verdict)),
      (
        λ h. absurd (let n : 1 ≡ 0 = h.1.restarts in omega (arith, n)),
        (
          λ h. absurd (let n : 16 ≡ 512 = h.1.kept in omega (arith, n)),
          (
            λ h. absurd (let n : 1 ≤ 0 = h.1.clauses in omega (arith, n)),
            (
              λ h. absurd (let n : 1 ≡ 0 = h.1.solves in omega (arith, n)),
              (
                λ h. absurd (let n : 1 ≤ 0 = h.1.budgets in omega (arith, n)),
                (
                  λ h. absurd (let n : 1 ≤ 0 = h.1.most_restarts in omega (arith, n)),
                  (λ h. absurd (let n : 1 ≤ 0 = h.1.variables in omega (arith, n)), tt),
                ),
              ),
            ),
          ),
        ),
      ),
    ),
  );
  want_of_refused = λ e h. absurd (true≢false (sym (ap is_none h.2)));
  want_of_asked = (
    wrote [],
    record {
      formula = refl;
      verdict = refl;
      proof = λ v is.
          let there : Some its_verdict ≡ Some v = is in
          let same : its_verdict ≡ v = cc in ap (λ (w : VerdictState). w.proof) same;
      values = λ v is. refl;
      clauses = omega arith;
      solves = refl;
      budgets = omega arith;
      restarts = refl;
      most_restarts = omega arith;
      kept = refl;
      variables = omega arith;
    },
    refl,
  );
  other_proof = λ h. absurd (let n : 1 ≡ 0 = ap (λ (steps : List Inference). length steps)
      (h.1.proof (record its_verdict { proof = [] }) refl) in omega (arith, n));
  other_values = λ h. absurd (let n : 1 ≡ 0 = ap (λ (lits : List Literal). length lits)
      (h.1.values its_verdict refl) in omega (arith, n));
  want_of_solve = (
    wrote [],
    record {
      formula = refl;
      verdict = refl;
      proof = λ v is. absurd (let no : None ≡ Some v = is in cc);
      values = λ v is. absurd (let no : None ≡ Some v = is in cc);
      clauses = omega arith;
      solves = refl;
      budgets = omega arith;
      restarts = refl;
      most_restarts = omega arith;
      kept = refl;
      variables = omega arith;
    },
    refl,
  );
  uncounted = λ h. absurd (let n : 0 ≡ 1 = h.1.solves in omega (arith, n));
  verdict_kept = λ h. absurd (true≢false (ap is_none h.1.verdict));
}
