-- The text of a formula is made of its pieces.
use Rattle.std.proofs.Common.{◌≡◌, ℕ, List, [], ◌∷◌, ◌++◌, map, refl, sym, ap, ap₂, ◌∙◌, append_assoc}
use Rattle.std.specs.Prelude.{codes}
use Rattle.std.specs.Fmt.{decimal}
use Rattle.std.specs.List.{flat_map, join_with_byte}
use Rattle.std.proofs.lemmas.List.Concat.{flat_map-append}
use Rattle.prefix.specs.declared.quant.Quant.{Quant}
use Rattle.prefix.specs.Literal.{Literal}
use Rattle.truth.specs.declared.formula.Formula.{Formula}
use Rattle.qdimacs_out.specs.Pieces.{clause_pieces, clause_text, closing, scope_pieces, scope_text}
use Rattle.blocks.specs.Lines.{Line, line_text, spaced, text_of}
use Rattle.qdimacs_out.specs.Texts.{clause_line, ended, formula_text, header_line, literal_word, quantifier_word, scope_line}

-- a line that 0 ends, in pieces
one_more : (w joined pieces : List ℕ) → joined ++ 10 ∷ [] ≡ pieces ++ closing
    → (w ++ (32 ∷ joined)) ++ 10 ∷ [] ≡ (spaced w ++ pieces) ++ closing
one_more w joined pieces e =
    append_assoc w (32 ∷ joined) (10 ∷ [])
    ∙ ap (λ t. w ++ (32 ∷ t)) e
    ∙ sym (append_assoc w (32 ∷ []) (pieces ++ closing))
    ∙ sym (append_assoc (spaced w) pieces closing)

ended_text : (words : Line) → line_text (ended words) ≡ flat_map spaced words ++ closing
ended_text [] = refl
ended_text (w ∷ []) = one_more w (codes "0") [] refl
ended_text (w ∷ v ∷ ws) = one_more w (join_with_byte 32 (ended (v ∷ ws))) (flat_map spaced (v ∷ ws))
    (ended_text (v ∷ ws))

flat_mapped : {X : Type 0} (f : List ℕ → List ℕ) (g : X → List ℕ) (xs : List X)
    → flat_map f (map g xs) ≡ flat_map (λ x. f (g x)) xs
flat_mapped f g [] = refl
flat_mapped f g (x ∷ xs) = ap (λ t. f (g x) ++ t) (flat_mapped f g xs)

pub scope_is : (q : Quant) (vs : List ℕ) → scope_text (record { quantifier = q; variables = vs }) ≡ scope_pieces q vs
scope_is q vs =
    ended_text (quantifier_word q ∷ map decimal vs)
    ∙ append_assoc (spaced (quantifier_word q)) (flat_map spaced (map decimal vs)) closing
    ∙ ap (λ t. spaced (quantifier_word q) ++ (t ++ closing)) (flat_mapped spaced decimal vs)

pub clause_is : (clause : List Literal) → clause_text clause ≡ clause_pieces clause
clause_is clause = ended_text (map literal_word clause)
    ∙ ap (λ t. t ++ closing) (flat_mapped spaced literal_word clause)

texts_of : {X : Type 0} (line : X → Line) (xs : List X) → text_of (map line xs) ≡ flat_map (λ x. line_text (line x)) xs
texts_of line [] = refl
texts_of line (x ∷ xs) = ap (λ t. line_text (line x) ++ t) (texts_of line xs)

pub text_is : (f : Formula) → formula_text f ≡ line_text (header_line f.declared_vars f.declared_clauses)
    ++ (flat_map scope_text f.prefix ++ flat_map clause_text f.clauses)
text_is f =
    ap (λ t. line_text (header_line f.declared_vars f.declared_clauses) ++ t)
    (flat_map-append line_text (map scope_line f.prefix) (map clause_line f.clauses)
    ∙ ap₂ (λ s c. s ++ c) (texts_of scope_line f.prefix) (texts_of clause_line f.clauses))
