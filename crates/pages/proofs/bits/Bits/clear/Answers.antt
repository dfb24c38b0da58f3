use Rattle.std.proofs.Common.{ℕ, List, false, length, replicate, vec_len, ap, sym, ◌∙◌, arith}
use Rattle.pages.specs.Words.{bits_of}
use Rattle.pages.proofs.Flags.{bits_clear, length_bits, words_clear}
use Rattle.pages.proofs.bits.Bits.clear.Goals as goal

pub returns : goal.returns
returns c = ap (λ (ws : List ℕ). bits_of ws c.self.inside.len) (c.fill.ensures.items (λ y e. e))
    ∙ (bits_clear (vec_len c.self.inside.words) c.self.inside.len
    ∙ ap (λ (n : ℕ). replicate n false) (sym (length_bits c.self.inside.words.items c.self.inside.len)
    ∙ ap length c.self.view_is))

pub invariant_of-self : goal.invariant_of-self
invariant_of-self c =
    let o = c.self.inside.words.ok.0 in
    let r = c.self.invariant.room in
    rw (c.fill.ensures.items (λ y e. e)) (words_clear (vec_len c.self.inside.words) c.self.inside.len (omega arith))
