use Rattle.std.proofs.Common.{◌≡◌, ℕ, ◌<◌, ◌/◌, ◌%◌, false, length, get_or, nat_eq, ap, sym, ◌∙◌, arith}
use Rattle.std.specs.Int.{bit_at}
use Rattle.std.proofs.lemmas.Nat.Bits.{shr_and_one}
use Rattle.pages.specs.Words.{bits_of}
use Rattle.pages.proofs.Flags.{bits_at, is_word, length_bits}
use Rattle.pages.proofs.bits.Bits.get.Goals as goal

pub index-requires : goal.index-requires
index-requires c =
    let r = c.self.invariant.room in
    let o = c.self.inside.words.ok.0 in
    let l : length (bits_of c.self.inside.words.items c.self.inside.len) ≡ length c.args.self.now =
    ap length c.self.view_is in
    let n = length_bits c.self.inside.words.items c.self.inside.len in
    omega (arith, c.requires)

pub returns : goal.returns
returns c =
    let words = c.self.inside.words.items in
    let len = c.self.inside.len in
    let o = c.self.inside.words.ok.0 in
    let r = c.self.invariant.room in
    let l : length (bits_of words len) ≡ length c.args.self.now = ap length c.self.view_is in
    let n = length_bits words len in
    let low : c.args.at < len = omega (arith, c.requires) in
    let is = is_word words (c.args.at / 64) c.index.result.now (omega arith) c.index.ensures in
    ap (λ (b : ℕ). nat_eq b 1) (shr_and_one c.index.result.now (c.args.at % 64))
    ∙ (ap (λ (w : ℕ). nat_eq (bit_at w (c.args.at % 64)) 1) is
    ∙ (sym (bits_at words len c.args.at false low) ∙ ap (λ xs. get_or xs c.args.at false) c.self.view_is))
