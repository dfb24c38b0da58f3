-- What one more variable, literal or clause makes of what has been read.
use Rattle.std.proofs.Common.{◌≡◌, ◌≢◌, ℕ, suc, ◌<◌, ◌≤◌, ℤ, pos, negsuc, nat_abs, true, false, List, [], ◌∷◌, ◌++◌, length, map, refl, sym, ap, ◌∙◌, arith, length-append}
use Rattle.std.specs.Prelude.{flat_map}
use Rattle.std.proofs.lemmas.List.{map-append, append_assoc, append-nil}
use Rattle.std.proofs.lemmas.Grind.{flat_map-append}
use Rattle.std.proofs.lemmas.Bool.{eqb-true}
use Rattle.lexer.specs.declared.token.Word.TheVariants.{Num}
use Rattle.prefix.specs.declared.quant.Quant.{Quant}
use Rattle.qdimacs.specs.Formula.{QuantSet, merged, join, declared, literals_of}
use Rattle.qdimacs.specs.Rules.{Header}
use Rattle.truth.specs.Limits.{max_vars, max_clauses, max_scopes, max_literals}
use Rattle.reading.specs.Words.{is_zero, quant_word}
use Rattle.qdimacs.specs.Reads.{AreAllowed, whole_words, header_words, set_words, clause_words, variable_words}
use Rattle.qdimacs.proofs.Lists.{all_more, distinct_more}
use Rattle.prefix.specs.Scopes.{is_among}

pub zero_is : (n : ℤ) → is_zero n ≡ true → n ≡ pos 0
zero_is (pos n) h = ap pos (eqb-true n 0 h)
zero_is (negsuc n) h = absurd (let e : suc n ≡ 0 = eqb-true (suc n) 0 h in omega (arith, e))

pub flat_more : {X A : Type 0} (f : X → List A) (xs : List X) (x : X) → flat_map f (xs ++ x ∷ []) ≡ flat_map f xs ++ f x
flat_more f xs x = flat_map-append f xs (x ∷ []) ∙ ap (λ r. flat_map f xs ++ r) (append-nil (f x))

-- words

pub words_set_more : (h : Header) (sets : List QuantSet) (q : Quant) (vs : List ℕ) (v : ℕ)
    → whole_words h sets [] ++ quant_word q ∷ variable_words (vs ++ v ∷ []) ≡
    (whole_words h sets [] ++ quant_word q ∷ variable_words vs) ++ Num (pos v) ∷ []
words_set_more h sets q vs v =
    ap (λ r. whole_words h sets [] ++ quant_word q ∷ r) (map-append (λ v. Num (pos v)) vs (v ∷ []))
    ∙ sym (append_assoc (whole_words h sets []) (quant_word q ∷ variable_words vs) (Num (pos v) ∷ []))

pub words_set_end : (h : Header) (sets : List QuantSet) (q : Quant) (vs : List ℕ) → whole_words h (sets ++ (q, vs) ∷ [])
    [] ≡ (whole_words h sets [] ++ quant_word q ∷ variable_words vs) ++ Num (pos 0) ∷ []
words_set_end h sets q vs =
    append-nil (header_words h.vars h.count ++ flat_map set_words (sets ++ (q, vs) ∷ []))
    ∙ ap (λ r. header_words h.vars h.count ++ r) (flat_more set_words sets (q, vs))
    ∙ sym (append_assoc (header_words h.vars h.count) (flat_map set_words sets) (set_words (q, vs)))
    ∙ ap (λ r. r ++ set_words (q, vs)) (sym (append-nil (header_words h.vars h.count ++ flat_map set_words sets)))
    ∙ sym (append_assoc (whole_words h sets []) (quant_word q ∷ variable_words vs) (Num (pos 0) ∷ []))

pub words_clause_more : (h : Header) (sets : List QuantSet) (clauses : List (List ℤ)) (ls : List ℤ) (n : ℤ)
    → whole_words h sets clauses ++ map Num (ls ++ n ∷ []) ≡ (whole_words h sets clauses ++ map Num ls) ++ Num n ∷ []
words_clause_more h sets clauses ls n =
    ap (λ r. whole_words h sets clauses ++ r) (map-append Num ls (n ∷ []))
    ∙ sym (append_assoc (whole_words h sets clauses) (map Num ls) (Num n ∷ []))

pub words_clause_end : (h : Header) (sets : List QuantSet) (clauses : List (List ℤ)) (ls : List ℤ) → whole_words h sets
    (clauses ++ ls ∷ []) ≡ (whole_words h sets clauses ++ map Num ls) ++ Num (pos 0) ∷ []
words_clause_end h sets clauses ls =
    ap (λ r. (header_words h.vars h.count ++ flat_map set_words sets) ++ r) (flat_more clause_words clauses ls)
    ∙ sym (append_assoc (header_words h.vars h.count ++ flat_map set_words sets) (flat_map clause_words clauses)
    (clause_words ls))
    ∙ sym (append_assoc (whole_words h sets clauses) (map Num ls) (Num (pos 0) ∷ []))

-- what is allowed

pub declared_more : (sets : List QuantSet) (q : Quant) (vs : List ℕ) → declared (sets ++ (q, vs) ∷ []) ≡ declared
    sets ++ vs
declared_more sets q vs = flat_more (λ (set : QuantSet). set.1) sets (q, vs)

pub declared_variable : (sets : List QuantSet) (q : Quant) (vs : List ℕ) (v : ℕ)
    → declared (sets ++ (q, vs ++ v ∷ []) ∷ []) ≡ declared (sets ++ (q, vs) ∷ []) ++ v ∷ []
declared_variable sets q vs v =
    declared_more sets q (vs ++ v ∷ []) ∙ sym (append_assoc (declared sets) vs (v ∷ [])) ∙ ap (λ r. r ++ v ∷ [])
    (sym (declared_more sets q vs))

pub literals_more : (clauses : List (List ℤ)) (ls : List ℤ) → literals_of (clauses ++ ls ∷ []) ≡ literals_of
    clauses ++ ls
literals_more clauses ls = flat_more (λ (c : List ℤ). c) clauses ls

-- an empty set changes nothing
pub merged_empty : (sets : List QuantSet) (q : Quant) → merged (sets ++ (q, []) ∷ []) ≡ merged sets
merged_empty [] q = refl
merged_empty (s ∷ sets) q = ap (join s.0 s.1) (merged_empty sets q)

pub nonempty : {X : Type 0} (xs : List X) (x : X) → xs ++ x ∷ [] ≢ []
nonempty [] x e = cc
nonempty (y ∷ ys) x e = cc

pub set_begins : (h : Header) (sets : List QuantSet) (q : Quant) → (h.vars ≤ max_vars) × (h.count ≤ max_clauses)
    → AreAllowed h sets [] → AreAllowed h (sets ++ (q, []) ∷ []) []
set_begins h sets q le a = record {
  limits = le;
  variables = rw (declared_more sets q [], append-nil) a.variables;
  distinct = rw (declared_more sets q [], append-nil) a.distinct;
  scopes = rw (merged_empty sets q) a.scopes;
  count = a.count;
  literals = a.literals;
  amount = a.amount;
}

pub set_grows : (h : Header) (sets : List QuantSet) (q : Quant) (vs : List ℕ) (v : ℕ)
    → AreAllowed h (sets ++ (q, vs) ∷ []) []
    → 0 < v → v ≤ h.vars → is_among v (declared sets ++ vs) ≡ false → length (merged (sets ++ (q, vs ++ v ∷ []) ∷ [])) ≤
    max_scopes
    → AreAllowed h (sets ++ (q, vs ++ v ∷ []) ∷ []) []
set_grows h sets q vs v a low high fresh room = record {
  limits = a.limits;
  variables = rw (declared_variable sets q vs v)
      (all_more (λ v. (0 < v) × (v ≤ h.vars)) (declared (sets ++ (q, vs) ∷ [])) v a.variables (low, high));
  distinct = rw (declared_variable sets q vs v) (distinct_more (declared (sets ++ (q, vs) ∷ [])) v a.distinct
      (rw (declared_more sets q vs) fresh));
  scopes = room;
  count = a.count;
  literals = a.literals;
  amount = a.amount;
}

-- a clause without literals
pub clause_begins : (h : Header) (sets : List QuantSet) (clauses : List (List ℤ)) → (h.vars ≤ max_vars)
    × (h.count ≤ max_clauses) → AreAllowed h sets clauses → length clauses ≢ h.count → AreAllowed h sets
    (clauses ++ [] ∷ [])
clause_begins h sets clauses le a more = record {
  limits = le;
  variables = a.variables;
  distinct = a.distinct;
  scopes = a.scopes;
  count = let c : length clauses ≤ h.count = a.count in omega (arith, length-append clauses ([] ∷ []), more);
  literals = rw (literals_more clauses [], append-nil) a.literals;
  amount = rw (literals_more clauses [], append-nil) a.amount;
}

pub clause_grows : (h : Header) (sets : List QuantSet) (clauses : List (List ℤ)) (ls : List ℤ) (n : ℤ)
    → AreAllowed h sets (clauses ++ ls ∷ [])
    → 0 < nat_abs n → nat_abs n ≤ h.vars → length (literals_of clauses ++ ls) < max_literals → AreAllowed h sets
    (clauses ++ (ls ++ n ∷ []) ∷ [])
clause_grows h sets clauses ls n a low high room =
    let same : literals_of (clauses ++ (ls ++ n ∷ []) ∷ []) ≡ literals_of (clauses ++ ls ∷ []) ++ n ∷ [] =
    literals_more clauses (ls ++ n ∷ []) ∙ sym (append_assoc (literals_of clauses) ls (n ∷ []))
    ∙ ap (λ r. r ++ n ∷ []) (sym (literals_more clauses ls)) in
    record {
      limits = a.limits;
      variables = a.variables;
      distinct = a.distinct;
      scopes = a.scopes;
      count = let c : length (clauses ++ ls ∷ []) ≤ h.count = a.count in
          omega (arith, length-append clauses (ls ∷ []), length-append clauses ((ls ++ n ∷ []) ∷ []), c);
      literals = rw same (all_more (λ l. (0 < nat_abs l) × (nat_abs l ≤ h.vars)) (literals_of (clauses ++ ls ∷ [])) n
          a.literals (low, high));
      amount = rw same
          (omega (
            arith,
            length-append (literals_of (clauses ++ ls ∷ [])) (n ∷ []),
            ap length (literals_more clauses ls),
            room,
          ));
    }
