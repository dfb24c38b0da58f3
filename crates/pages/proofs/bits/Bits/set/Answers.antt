use Rattle.std.proofs.Common.{◌≡◌, ℕ, ◌*◌, ◌<◌, ◌/◌, ◌%◌, ◌^◌, true, length, set, ap, ◌∙◌, arith}
use Rattle.std.specs.Int.RustNames.{bit_or}
use Rattle.pages.specs.Words.{bits_of}
use Rattle.pages.proofs.Flags.{bits_set, is_word, length_bits, words_set}
use Rattle.pages.proofs.bits.Bits.set.Goals as goal

pub index_mut-requires : goal.index_mut-requires
index_mut-requires c =
    let r = c.self.invariant.room in
    let o = c.self.inside.words.ok.0 in
    let l : length (bits_of c.self.inside.words.items c.self.inside.len) ≡ length c.args.self.now =
    ap length c.self.view_is in
    let n = length_bits c.self.inside.words.items c.self.inside.len in
    omega (arith, c.requires)

pub invariant_of-self : goal.invariant_of-self
invariant_of-self c =
    let words = c.self.inside.words.items in
    let len = c.self.inside.len in
    let o = c.self.inside.words.ok.0 in
    let r = c.self.invariant.room in
    let l : length (bits_of words len) ≡ length c.args.self.now = ap length c.self.view_is in
    let n = length_bits words len in
    let low : c.args.at < len = omega (arith, c.requires) in
    let is = is_word words (c.args.at / 64) c.index_mut.result.now (omega arith) c.index_mut.ensures.value in
    rw is (words_set words c.args.at (omega arith) len c.self.invariant low)

pub returns : goal.returns
returns c =
    let words = c.self.inside.words.items in
    let len = c.self.inside.len in
    let o = c.self.inside.words.ok.0 in
    let r = c.self.invariant.room in
    let l : length (bits_of words len) ≡ length c.args.self.now = ap length c.self.view_is in
    let n = length_bits words len in
    let low : c.args.at < len = omega (arith, c.requires) in
    let is = is_word words (c.args.at / 64) c.index_mut.result.now (omega arith) c.index_mut.ensures.value in
    ap (λ (w : ℕ). bits_of (set words (c.args.at / 64) (bit_or w (1 * 2 ^ (c.args.at % 64) % 2 ^ 64))) len) is
    ∙ (bits_set words c.args.at (omega arith) len low ∙ ap (λ xs. set xs c.args.at true) c.self.view_is)
