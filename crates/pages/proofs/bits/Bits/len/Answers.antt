use Rattle.std.proofs.Common.{length, ap, sym, ◌∙◌}
use Rattle.pages.proofs.Flags.{length_bits}
use Rattle.pages.proofs.bits.Bits.len.Goals as goal

pub returns : goal.returns
returns c = sym (length_bits c.self.inside.words.items c.self.inside.len) ∙ ap length c.self.view_is
