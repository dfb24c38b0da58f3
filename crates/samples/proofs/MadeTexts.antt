-- Made formulas have the form in which they are written, and short texts.
use Rattle.std.proofs.Common.{◌≢◌, ℕ, zero, suc, ◌+◌, ◌-◌, ◌*◌, ◌/◌, ◌≤◌, ◌<◌, [], length, sym, ap, subst, arith}
use Rattle.std.specs.List.{AllByRecursion, range_with_len}
use Rattle.std.proofs.lemmas.List.FromFn.{length-map-range_with_len, length-range_with_len}
use Rattle.prefix.specs.declared.quant.Quant.TheVariants.{Exists, Forall}
use Rattle.generate.specs.Draws.{start_of}
use Rattle.generate.specs.Made.{clause_at, made}
use Rattle.generate.proofs.Forming.{clauses_long, made_formed, prefix_is, variables_are}
use Rattle.generate.proofs.Ranges.{range_within}
use Rattle.qdimacs.specs.Reads.{Reads}
use Rattle.qdimacs.specs.Rules.{parsed}
use Rattle.qdimacs.proofs.Lists.{all_kept}
use Rattle.qdimacs_out.specs.Texts.{formula_text}
use Rattle.qdimacs_out.specs.Theorems.{IsShort}
use Rattle.qdimacs_out.specs.Writable.{IsWritable}
use Rattle.qdimacs_out.proofs.Lengths.{text_long}
use Rattle.qdimacs_out.proofs.ReadBack.{written_read}

exists_first : Exists ≢ Forall
exists_first e = cc

forall_first : Forall ≢ Exists
forall_first e = cc

range_some : (a n : ℕ) → 0 < n → range_with_len a n ≢ []
range_some a zero h = absurd (omega arith)
range_some a (suc n) h = λ e. cc

module _ (seed v m : ℕ) (low : 3 ≤ v) (high : v ≤ 32000) (few : m ≤ 1000000) where
  made_writable : IsWritable (made seed v m)
  made_writable =
      let formed = made_formed seed v m low high few in
      let prefix = prefix_is v low high in
      record {
        turns = (exists_first, (forall_first, tt));
        filled = (
          range_some 1 (v / 3) (omega arith),
          (
            range_some (v / 3 + 1) (v / 3) (omega arith),
            (range_some (2 * (v / 3) + 1) (v - 2 * (v / 3)) (omega arith), tt),
          ),
        );
        ascending = prefix.ascending;
        distinct = prefix.distinct;
        declared = subst (AllByRecursion (λ u. (1 ≤ u) × (u ≤ v))) (sym (variables_are v))
            (all_kept (λ u. (1 ≤ u) × (u < v + 1)) (λ u. (1 ≤ u) × (u ≤ v)) (range_with_len 1 v)
            (λ u h. (h.0, omega (arith, h.1))) (range_within 1 (v + 1) 1 v (omega arith) (omega arith)));
        rows = formed.rows;
        fewer = omega (arith, length-map-range_with_len (clause_at (start_of seed) v) 0 m);
        vars_few = omega arith;
        scopes_few = omega arith;
        clauses_few = omega arith;
        literals_few = formed.amount;
      }

  made_short : IsShort (made seed v m)
  made_short = omega (
    arith,
    text_long (made seed v m) made_writable,
    ap length
        (variables_are v),
    length-range_with_len 1 v,
    length-map-range_with_len (clause_at (start_of seed) v) 0 m,
    clauses_long (start_of seed) v (range_with_len 0 m),
    length-range_with_len 0 m,
  )

  pub made_read : Reads (formula_text (made seed v m)) (parsed (made seed v m))
  made_read = written_read (made seed v m) made_writable
      (length-map-range_with_len (clause_at (start_of seed) v) 0 m) made_short
