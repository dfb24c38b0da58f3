use Rattle.std.proofs.Common.{◌≡◌, ℕ, List, [], ◌∷◌, ◌++◌, length, take, arith, length-take, ◌∙◌, sym, ap}
use Rattle.std.proofs.lemmas.List.{take-append-le}
use Rattle.std.proofs.Math.Seq.{take-length}
use Rattle.lexer.proofs.text.ShortText.push.Goals as goal

-- a full text stays
full : (n : ℕ) (xs : List ℕ) (b : ℕ) → length xs ≡ n → xs ≡ take n (xs ++ b ∷ [])
full n xs b h = sym (take-append-le n xs (b ∷ []) (omega arith) ∙ ap (λ k. take k xs) (sym h) ∙ take-length xs)

pub returns-else-self-lt16 : goal.returns-else-self-lt16
returns-else-self-lt16 c = full 16 c.args.self.now c.args.b
    (omega (arith, ap length c.self.view_is, length-take {A = ℕ}))
