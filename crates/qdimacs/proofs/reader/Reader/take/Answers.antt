use Rattle.std.proofs.Common.{◌≤◌, ◌<◌, subst, arith}
use Rattle.std.proofs.lemmas.List.Elements.{All-from_recursion}
use Rattle.qdimacs.specs.Represents.{Stands}
use Rattle.clauses.specs.Codes.{codes_of}
use Rattle.qdimacs.specs.declared.reader.Stage.TheVariants.{InClause}
use Rattle.qdimacs.proofs.Keeping.{codes_low}
use Rattle.qdimacs.proofs.reader.Reader.take.Goals as goal

pub take_in_clause-requires-clause-marked : goal.take_in_clause-requires-clause-marked
take_in_clause-requires-clause-marked c =
    let r = c.args.self.now in
    let st : Stands InClause r c.requires.front = subst (λ s. Stands s r c.requires.front) c.in-InClause.is
    c.requires.represents in
    let k = st.5 in
    record {
      vars = k.vars_few;
      count = k.count_few;
      ended = omega (arith, k.of_clauses.ended, st.4);
      declared_len = k.of_sets.marked;
      occur_len = k.of_clauses.marked;
      codes = rw k.of_clauses.begun (All-from_recursion (λ c. (2 ≤ c) × (c < 2097154)) (codes_of st.2)
          (codes_low r.vars st.2 k.vars_few k.of_clauses.low));
    }
