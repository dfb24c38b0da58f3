-- Lines of two words and more.
use Rattle.std.proofs.Common.{◌≡◌, ℕ, List, [], ◌∷◌, ◌++◌, sym, ap, ◌∙◌, append_assoc}
use Rattle.std.specs.List.{join_with_byte}
use Rattle.blocks.specs.Lines.{Line, line_text, spaced}

-- the first word, and the line of the others
pub next_word : (w v : List ℕ) (ws : Line) → line_text (w ∷ v ∷ ws) ≡ w ++ 32 ∷ line_text (v ∷ ws)
next_word w v ws = append_assoc w (32 ∷ join_with_byte 32 (v ∷ ws)) (10 ∷ [])

-- six words
pub six_words : (a b c d e f : List ℕ) → line_text (a ∷ b ∷ c ∷ d ∷ e ∷ f ∷ [])
    ≡ a ++ 32 ∷ (b ++ 32 ∷ (c ++ 32 ∷ (d ++ 32 ∷ (e ++ 32 ∷ (f ++ 10 ∷ [])))))
six_words a b c d e f =
    next_word a b (c ∷ d ∷ e ∷ f ∷ [])
    ∙ ap (λ t. a ++ 32 ∷ t) (next_word b c (d ∷ e ∷ f ∷ [])
    ∙ ap (λ t. b ++ 32 ∷ t) (next_word c d (e ∷ f ∷ [])
    ∙ ap (λ t. c ++ 32 ∷ t) (next_word d e (f ∷ [])
    ∙ ap (λ t. d ++ 32 ∷ t) (next_word e f []))))

on : (front w rest : List ℕ) → (front ++ (w ++ 32 ∷ [])) ++ rest ≡ front ++ (w ++ 32 ∷ rest)
on front w rest = append_assoc front (w ++ 32 ∷ []) rest ∙ ap (λ t. front ++ t) (append_assoc w (32 ∷ []) rest)

-- six words that are put one behind the other, each with what ends it
pub six_in_turn : (a b c d e f : List ℕ) (la lb lc ld le lf : List ℕ)
    → la ≡ spaced a → lb ≡ la ++ spaced b → lc ≡ lb ++ spaced c → ld ≡ lc ++ spaced d → le ≡ ld ++ spaced e
    → lf ≡ le ++ (f ++ 10 ∷ []) → lf ≡ line_text (a ∷ b ∷ c ∷ d ∷ e ∷ f ∷ [])
six_in_turn a b c d e f la lb lc ld le lf ha hb hc hd he hf =
    let f' : List ℕ = f ++ 10 ∷ [] in
    hf ∙ ap (λ t. t ++ f') he ∙ on ld e f'
    ∙ ap (λ t. t ++ (e ++ 32 ∷ f')) hd ∙ on lc d (e ++ 32 ∷ f')
    ∙ ap (λ t. t ++ (d ++ 32 ∷ (e ++ 32 ∷ f'))) hc ∙ on lb c (d ++ 32 ∷ (e ++ 32 ∷ f'))
    ∙ ap (λ t. t ++ (c ++ 32 ∷ (d ++ 32 ∷ (e ++ 32 ∷ f')))) hb ∙ on la b (c ++ 32 ∷ (d ++ 32 ∷ (e ++ 32 ∷ f')))
    ∙ ap (λ t. t ++ (b ++ 32 ∷ (c ++ 32 ∷ (d ++ 32 ∷ (e ++ 32 ∷ f'))))) ha
    ∙ append_assoc a (32 ∷ []) (b ++ 32 ∷ (c ++ 32 ∷ (d ++ 32 ∷ (e ++ 32 ∷ f'))))
    ∙ sym (six_words a b c d e f)
