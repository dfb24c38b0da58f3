-- Worked values of what changes lead to, and of questions.
use Rattle.std.proofs.Common.{◌≡◌, ◌++◌, ◌∙◌, ℕ, Bool, true, false, not, pos, negsuc, List, [], ◌∷◌, length, None, refl, sym, ap, subst, ⊎_elim, arith}
use Rattle.std.proofs.lemmas.Bool.{true≢false, false≢true}
use Rattle.prefix.specs.declared.quant.Quant.TheVariants.{Exists, Forall}
use Rattle.versions.specs.declared.version.Version.TheVariants.{Three}
use Rattle.trail.specs.State.{Account}
use Rattle.frames.specs.Commands.{Activate as ActivateGroup, AddClause, AddScope, AddVariable, Assume as AssumeLiteral, CloseGroup as CloseFrames, Command as FrameCommand, Deactivate as DeactivateGroup, OpenGroup as OpenFrames, Pop as PopFrame, Push as PushFrame}
use Rattle.frames.specs.Fold.{state_after}
use Rattle.qscript.specs.declared.command.Command.{Command}
use Rattle.qscript.specs.declared.command.Command.TheVariants.{Activate, Assume, Clause, CloseGroup, Deactivate, OpenGroup, Pop, Push, Scope, Solve, Var}
use Rattle.session.specs.Replies.{Changes, IsReply, Leads, joined}
use Rattle.session.specs.WorkedAsks.{Says, WorkedChanges}
use Rattle.solve.specs.Decisions.{Decides, GivesUp, truth_of}
use Rattle.solve.specs.Outputs.{Output, says, verdict_text}
use Rattle.solve.specs.Standing.{Standing, start_of}
use Rattle.solve.specs.Terms.{Terms, terms_of}

-- each verdict has a line of its own
lines_differ : (b c : Bool) → b ≡ c → verdict_text (not b) ≡ verdict_text c ++ [] → ⊥
lines_differ true true e t = absurd (let n : 6 ≡ 4 = ap (λ (x : List ℕ). length x) t in omega (arith, n))
lines_differ false false e t = absurd (let n : 4 ≡ 6 = ap (λ (x : List ℕ). length x) t in omega (arith, n))
lines_differ true false e t = absurd (true≢false e)
lines_differ false true e t = absurd (false≢true e)

-- what is said alone tells of no search
says_none : (text : List ℕ) (out : Output) (stopped : Account) → says text ≡ out → out.stops ≡ stopped ∷ [] → ⊥
says_none text out stopped is told =
    absurd (let n : 0 ≡ 1 = ap (λ (o : Output). length o.stops) is ∙ ap (λ (s : List Account). length s) told in
    omega (arith, n))

-- a change of the formula, as a script gives it and as frames see it
abbrev Change : Type 0
Change = Command × FrameCommand

abbrev commands_of : List Change → List Command
commands_of [] = []
commands_of (c ∷ cs) = c.0 ∷ commands_of cs

abbrev changed : Standing → List Change → Standing
changed s [] = s
changed s (c ∷ cs) = changed (record s { script = state_after s.script c.1 }) cs

module _ (terms : Terms) where
  -- these are accepted one after the other, as changes
  abbrev AreChanges : Standing → List Change → Type 0
  AreChanges s [] = Unit {0}
  AreChanges s (c ∷ cs) =
      ((out : Output) (next : Standing) → IsReply terms s c.0 out next → Changes s c.1 out next)
      × AreChanges (record s { script = state_after s.script c.1 }) cs

  -- a change is silent, and what comes behind it is replied to in what it leads to
  quiet : (s : Standing) (c : Change)
      → ((out : Output) (next : Standing) → IsReply terms s c.0 out next → Changes s c.1 out next)
      → (commands : List Command) (out : Output) (after : Standing) → Leads terms s (c.0 ∷ commands) out after
      → Leads terms (record s { script = state_after s.script c.1 }) commands out after
  quiet s c is commands out after (first, rest, next, parts, reply, behind) =
      let change = is first next reply in
      let same : out ≡ rest = parts ∙ ap (λ o. joined o rest) change.silent in
      subst (λ o. Leads terms (record s { script = state_after s.script c.1 }) commands o after) (sym same)
      (subst (λ t. Leads terms t commands rest after) change.state behind)

  all_quiet : (s : Standing) (cs : List Change) → AreChanges s cs → (out : Output) (after : Standing)
      → Leads terms s (commands_of cs ++ Solve ∷ []) out after → Leads terms (changed s cs) (Solve ∷ []) out after
  all_quiet s [] none out after leads = leads
  all_quiet s (c ∷ cs) (is, more) out after leads =
      all_quiet (record s { script = state_after s.script c.1 }) cs more out after
      (quiet s c is (commands_of cs ++ Solve ∷ []) out after leads)

  -- a solve tells no other verdict than the truth
  solve_tells : (s : Standing) (b : Bool) → truth_of s.script.formula ≡ b → (after : Standing)
      → Leads terms s (Solve ∷ []) (says (verdict_text (not b))) after → ⊥
  solve_tells s b truth after (first, rest, next, parts, reply, behind) =
      let whole : says (verdict_text (not b)) ≡ joined first (says []) = parts ∙ ap (joined first) behind.0 in
      ⊎_elim
      (λ (d : Decides s first next). lines_differ b d.truth (sym truth ∙ d.right)
      (ap (λ (o : Output). o.text) (whole ∙ ap (λ o. joined o (says [])) d.says_truth)))
      (λ (g : GivesUp terms s first next). says_none (verdict_text (not b)) (joined first (says [])) g.stopped whole
      (ap (λ (o : Output). o.stops) (ap (λ o. joined o (says [])) g.says_unknown)))
      reply

-- after such changes of a script with groups
differs : (cs : List Change) → AreChanges (terms_of 0 0 512) (start_of Three) cs → (b : Bool)
    → truth_of (changed (start_of Three) cs).script.formula ≡ b → Says (commands_of cs) (not b) → ⊥
differs cs are b truth (after, leads) =
    solve_tells (terms_of 0 0 512) (changed (start_of Three) cs) b truth after
    (all_quiet (terms_of 0 0 512) (start_of Three) cs are (says (verdict_text (not b))) after leads)

-- the changes of the worked values
abbrev one_pairs : List Change
one_pairs = (Scope Exists None, AddScope Exists None) ∷ (Var 1 1, AddVariable 1 1)
    ∷ (Clause (pos 1 ∷ []), AddClause (pos 1 ∷ [])) ∷ []

abbrev group_pairs : List Change → List Change
group_pairs rest = (OpenGroup 1, OpenFrames 1) ∷ (Clause [], AddClause []) ∷ (CloseGroup, CloseFrames) ∷ rest

pub changes : WorkedChanges
changes = record {
  silent = record { silent = refl; state = refl };
  not_silent = λ after h. (let n : 4 ≡ 0 = ap (λ (o : Output). length o.text) h.silent in omega arith);
  no_entry = λ after h. (let n : 1 ≡ 0 = ap (λ (o : Output). length o.stops) h.silent in omega arith);
  existential = differs one_pairs (λ o n r. r, (λ o n r. r, (λ o n r. r, tt))) true refl;
  universal = differs
      ((Scope Forall None, AddScope Forall None) ∷ (Var 1 1, AddVariable 1 1)
      ∷ (Clause (pos 1 ∷ []), AddClause (pos 1 ∷ [])) ∷ [])
      (λ o n r. r, (λ o n r. r, (λ o n r. r, tt))) false refl;
  assumed = differs (one_pairs ++ (Assume (negsuc 0), AssumeLiteral (negsuc 0)) ∷ [])
      (λ o n r. r, (λ o n r. r, (λ o n r. r, (λ o n r. r, tt)))) false refl;
  pushed = differs ((Push, PushFrame) ∷ (Clause [], AddClause []) ∷ [])
      (λ o n r. r, (λ o n r. r, tt)) false refl;
  popped = differs ((Push, PushFrame) ∷ (Clause [], AddClause []) ∷ (Pop, PopFrame) ∷ [])
      (λ o n r. r, (λ o n r. r, (λ o n r. r, tt))) true refl;
  active = differs (group_pairs []) (λ o n r. r, (λ o n r. r, (λ o n r. r, tt))) false refl;
  inactive = differs (group_pairs ((Deactivate 1, DeactivateGroup 1) ∷ []))
      (λ o n r. r, (λ o n r. r, (λ o n r. r, (λ o n r. r, tt)))) true refl;
  active_again = differs (group_pairs ((Deactivate 1, DeactivateGroup 1) ∷ (Activate 1, ActivateGroup 1) ∷ []))
      (λ o n r. r, (λ o n r. r, (λ o n r. r, (λ o n r. r, (λ o n r. r, tt))))) false refl;
}
