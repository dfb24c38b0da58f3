use Rattle.std.proofs.Common.{◌≡◌, true, false, List, [], ◌∷◌, ◌++◌, Some, refl, sym, ap, ◌∙◌, arith}
use Rattle.prefix.specs.Literal.{Literal}
use Rattle.calculus.specs.Derivations.{Inference}
use Rattle.calculus.specs.Rows.{Row}
use Rattle.calculus.specs.Worked.{plus, refutation}
use Rattle.engine.specs.State.{VerdictState}
use Rattle.engine.specs.WorkedAsks.{verdict_with}
use Rattle.engine.proofs.worked.worked_proofs.Goals as goal

-- the row of the last inference
abbrev last_of : List Inference → Row
last_of [] = []
last_of (s ∷ []) = s.row
last_of (s ∷ t ∷ rest) = last_of (t ∷ rest)

last_append : (front : List Inference) (last : Inference) → last_of (front ++ last ∷ []) ≡ last.row
last_append [] last = refl
last_append (s ∷ []) last = refl
last_append (s ∷ t ∷ rest) last = last_append (t ∷ rest) last

none_there : (front : List Inference) (last : Inference) → [] ≡ front ++ last ∷ [] → ⊥
none_there [] last e = cc
none_there (s ∷ front) last e = cc

the_one : (v w : VerdictState) → Some v ≡ Some w → v ≡ w
the_one v w e = (let f : Some v ≡ Some w = e in cc)

not_false : true ≡ false → ⊥
not_false e = cc

not_nothing : (l : Literal) → l ∷ [] ≡ [] → ⊥
not_nothing l e = cc

pub returns : goal.returns
returns c =
    let p = c.worked_refutation.ensures.proof in
    let ends : p.last.row ≡ [] = sym (ap last_of p.parts ∙ last_append p.front p.last) in
    record {
      with_proof = record {
        state = verdict_with false [] refutation [];
        there = refl;
        same_truth = refl;
        same_end = refl;
        same_assumptions = refl;
        proof = p;
        last_row = ends;
      };
      other_truth = λ h. not_false (ap (λ (v : VerdictState). v.truth) (the_one _ h.state h.there) ∙ h.same_truth);
      other_end = λ h. let e : 0 ≡ 4 = ap (λ (v : VerdictState). v.end) (the_one _ h.state h.there) ∙ h.same_end in
          omega (arith, e);
      other_assumptions = λ h. not_nothing (plus 2)
          (ap (λ (v : VerdictState). v.assumptions) (the_one _ h.state h.there) ∙ h.same_assumptions);
      other_row = λ h.
          let same = the_one (verdict_with false [] refutation (plus 1 ∷ [])) h.state h.there in
          let steps : refutation ≡ h.state.proof = ap (λ (v : VerdictState). v.proof) same in
          let row : plus 1 ∷ [] ≡ h.state.row = ap (λ (v : VerdictState). v.row) same in
          not_nothing (plus 1)
          (row ∙ sym h.last_row
          ∙ sym (ap last_of (steps ∙ h.proof.parts) ∙ last_append h.proof.front h.proof.last));
      without_proof = λ h.
          none_there h.proof.front h.proof.last
          (ap (λ (v : VerdictState). v.proof) (the_one (verdict_with false [] [] []) h.state h.there) ∙ h.proof.parts);
    }
