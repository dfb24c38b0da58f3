use Rattle.std.proofs.Common.{◌≢◌, ◌≤◌, ◌<◌, List, ℕ, [], ◌∷◌, refl, arith}
use Rattle.std.proofs.lemmas.Bool.{false≢true}
use Rattle.prefix.specs.declared.quant.Quant.TheVariants.{Exists, Forall}
use Rattle.qdimacs.specs.Worked.{smallest}
use Rattle.qdimacs_out.specs.Worked.{nothing}
use Rattle.qdimacs_out.specs.Writable.{IsWritable}
use Rattle.qdimacs_out.proofs.worked.worked_forms.Goals as goal

some : (v : ℕ) (vs : List ℕ) → v ∷ vs ≢ []
some v vs = λ e. cc

exists_first : Exists ≢ Forall
exists_first = λ e. cc

forall_first : Forall ≢ Exists
forall_first = λ e. cc

smallest_is : IsWritable smallest
smallest_is = record {
  turns = (exists_first, (forall_first, tt));
  filled = (some 1 [], (some 2 [], (some 3 [], tt)));
  ascending = ((tt, tt), ((tt, tt), ((tt, tt), tt)));
  distinct = (refl, (refl, (refl, tt)));
  declared = ((omega arith, omega arith), ((omega arith, omega arith), ((omega arith, omega arith), tt)));
  rows = (
    (((omega arith, (omega arith, tt)), ((omega arith, tt), (tt, tt))), (refl, (refl, (refl, tt)))),
    tt,
  );
  fewer = omega arith;
  vars_few = omega arith;
  scopes_few = omega arith;
  clauses_few = omega arith;
  literals_few = omega arith;
}

nothing_is : IsWritable nothing
nothing_is = record {
  turns = tt;
  filled = tt;
  ascending = tt;
  distinct = tt;
  declared = tt;
  rows = tt;
  fewer = omega arith;
  vars_few = omega arith;
  scopes_few = omega arith;
  clauses_few = omega arith;
  literals_few = omega arith;
}

pub returns : goal.returns
returns c = record {
  of_smallest = smallest_is;
  of_nothing = nothing_is;
  of_neighbours = λ w. w.turns.0 refl;
  of_hollow = λ w. w.filled.1.0 refl;
  of_falling = λ w. let up : 3 < 2 = w.ascending.0.0.0 in omega arith;
  of_falling_clause = λ w. let up : 2 < 1 = w.rows.0.0.0.0 in omega arith;
  of_free_variable = λ w. false≢true w.rows.0.1.1.0;
  of_undeclared = λ w. let high : 3 ≤ 2 = w.declared.1.1.0.1 in omega arith;
  of_too_many = λ w. let few : 1 ≤ 0 = w.fewer in omega arith;
}
