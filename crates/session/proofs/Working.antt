-- Worked values of replies.
use Rattle.std.proofs.Common.{◌≡◌, ◌++◌, [], ◌∷◌, codes, Some, refl, ap, ◌∙◌, inl}
use Rattle.qscript.specs.declared.command.Command.TheVariants.{Clause, Pop, Solve}
use Rattle.qscript.specs.Reads.{done, refused}
use Rattle.versions.specs.declared.version.Version.TheVariants.{One}
use Rattle.qscript.proofs.Outcomes.{computed_reading, one_reading}
use Rattle.solve.specs.Worked.{contradiction, refuted}
use Rattle.solve.specs.declared.ending.Ending.TheVariants.{Done, Refused}
use Rattle.session.specs.Replies.{AllowedReplies, Leads, refused_text}
use Rattle.solve.specs.Outputs.{Output, says}
use Rattle.session.specs.Scripts.{IsScriptEnding}
use Rattle.solve.specs.Standing.{Standing, start}
use Rattle.solve.specs.Terms.{terms_of}
use Rattle.solve.proofs.OneStep.{refutes}

pub no_silence : AllowedReplies (terms_of 0 0 512) (Pop ∷ []) (says []) → ⊥
no_silence h = at h.0 h.1
  where
    at : (after : Standing) → Leads (terms_of 0 0 512) start (Pop ∷ []) (says []) after → ⊥
    at after l = absurd (let t : [] ≡ refused_text 40 ++ l.1.text =
        ap (λ (o : Output). o.text) l.3 ∙ ap (λ (o : Output). o.text ++ l.1.text) l.4.0 in cc)

pub empty_script : IsScriptEnding (codes "p qscript 1\n") (Done 0)
empty_script = (refl, [], (Some One, computed_reading (codes "p qscript 1\n")))

pub empty_ends : IsScriptEnding (codes "p qscript 1\n") (Refused 30 1) → ⊥
empty_ends r = absurd (let same : done ≡ refused 30 1 =
    (one_reading (codes "p qscript 1\n") (Some One) r.1.0 [] r.0 done (refused 30 1)
    (computed_reading (codes "p qscript 1\n")) r.1.1).2
    in cc)

pub one_row : AllowedReplies (terms_of 0 0 512) (Clause [] ∷ Solve ∷ []) (says (codes "UNSAT\n"))
one_row = (
  refuted,
  (
    says [],
    says (codes "UNSAT\n"),
    record start { script = contradiction.script },
    refl,
    record { silent = refl; state = refl },
    (
      says (codes "UNSAT\n"),
      says [],
      refuted,
      refl,
      inl (refutes start.witness),
      (refl, refl),
    ),
  ),
)
