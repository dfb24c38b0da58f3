use Rattle.std.proofs.Common.{◌≡◌, ℕ, ◌&&◌, false, not, nat_lt}
use Rattle.std.specs.Prelude.{slice_index_or}
use Rattle.prefix.specs.Scopes.{is_among, AreDistinct}
use Rattle.qdimacs.proofs.reader.free_of.Given as goal

-- the free ones so far are put, each once
abbrev pub invariant-loop-v : goal.invariant-loop-v
invariant-loop-v l = record {
  distinct : AreDistinct l.free.items;
  those : (v : ℕ) → is_among v l.free.items ≡
      (nat_lt v l.v && (slice_index_or l.occur v false && not (slice_index_or l.declared v false)));
}
