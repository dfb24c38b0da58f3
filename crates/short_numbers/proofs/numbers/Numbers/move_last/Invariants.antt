use Rattle.std.proofs.Common.{◌≡◌, ◌≤◌, length, vec_capacity}
use Rattle.short_numbers.specs.Kept.{numbers_of}
use Rattle.short_numbers.proofs.Moving.{so_far}
use Rattle.short_numbers.proofs.numbers.Numbers.move_last.Given as goal

abbrev pub invariant-loop-k : goal.invariant-loop-k
invariant-loop-k l = record {
  items : numbers_of l.self-inside.shorts.items l.self-inside.longs.items ≡ so_far l.fn.self.items l.to l.count l.k;
  size : length l.self-inside.shorts.items ≡ length l.initial.self-inside.shorts.items;
  room : length l.self-inside.shorts.items ≤ vec_capacity l.self-inside.longs;
  shorts : vec_capacity l.self-inside.shorts ≡ vec_capacity l.initial.self-inside.shorts;
  longs : vec_capacity l.initial.self-inside.longs ≤ vec_capacity l.self-inside.longs;
}
