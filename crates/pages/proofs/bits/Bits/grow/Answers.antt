use Rattle.std.proofs.Common.{◌≡◌, ℕ, ◌-◌, ◌++◌, List, Bool, false, length, replicate, vec_len, ap, ap₂, sym, ◌∙◌, append-nil, arith}
use Rattle.std.proofs.lemmas.List.{take_all}
use Rattle.pages.specs.Words.{bits_of}
use Rattle.pages.proofs.Flags.{bits_more, length_bits, words_more}
use Rattle.pages.proofs.bits.Bits.grow.Goals as goal

pub returns-then-count-self-clause-ok : goal.returns-then-count-self-clause-ok
returns-then-count-self-clause-ok c =
    let l : length (bits_of c.self.inside.words.items c.self.inside.len) ≡ length c.args.self.now =
    ap length c.self.view_is in
    let n = length_bits c.self.inside.words.items c.self.inside.len in
    let t = c.if-count-self.true in
    let none : c.args.count - length c.args.self.now ≡ 0 = omega arith in
    sym (ap (λ (k : ℕ). c.args.self.now ++ replicate k false) none ∙ append-nil c.args.self.now)

pub invariant_of-self-2 : goal.invariant_of-self-2
invariant_of-self-2 c =
    let words = c.self.inside.words.items in
    let o = c.self.inside.words.ok.0 in
    let m = c.max.ensures in
    let k = c.len.ensures in
    let f = c.if-count-self.false in
    let more = c.max.result - vec_len c.self.inside.words in
    let items : c.resize.new.self.items ≡ words ++ replicate more 0 = c.in_ok-resize.ensures.items
    ∙ ap (λ (ws : List ℕ). ws ++ replicate more 0) (take_all c.max.result words (omega arith)) in
    rw items (words_more words c.self.inside.len more c.args.count c.self.invariant (omega arith) (omega arith))

pub returns-clause-ok : goal.returns-clause-ok
returns-clause-ok c =
    let words = c.self.inside.words.items in
    let len = c.self.inside.len in
    let o = c.self.inside.words.ok.0 in
    let l : length (bits_of words len) ≡ length c.args.self.now = ap length c.self.view_is in
    let n = length_bits words len in
    let m = c.max.ensures in
    let k = c.len.ensures in
    let more = c.max.result - vec_len c.self.inside.words in
    let items : c.resize.new.self.items ≡ words ++ replicate more 0 = c.in_ok-resize.ensures.items
    ∙ ap (λ (ws : List ℕ). ws ++ replicate more 0) (take_all c.max.result words (omega arith)) in
    ap (λ (ws : List ℕ). bits_of ws c.args.count) items
    ∙ (bits_more words len more c.args.count c.self.invariant (let f = c.if-count-self.false in omega arith)
    ∙ ap₂ (λ (xs : List Bool) (j : ℕ). xs ++ replicate (c.args.count - j) false) c.self.view_is (sym n ∙ l))
