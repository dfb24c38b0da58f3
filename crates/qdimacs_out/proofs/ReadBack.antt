-- A formula in the form in which it is written is read from its text.
use Rattle.std.proofs.Common.{◌≡◌, ◌≢◌, inl, inr, ℕ, ◌+◌, ◌^◌, ◌≤◌, ◌<◌, ℤ, pos, nat_abs, Bool, true, false, not, List, [], ◌∷◌, ◌++◌, length, map, take, drop, Some, refl, sym, ap, ap₂, subst, ◌∙◌, arith, append_assoc, length-append}
use Rattle.std.specs.Prelude.{codes, flat_map, if◌then◌else◌, nat_lt}
use Rattle.std.specs.List.{AllByRecursion, AllZip}
use Rattle.std.specs.Fmt.{decimal}
use Rattle.std.proofs.lemmas.Bool.{le-ltb, lt-ltb}
use Rattle.std.proofs.lemmas.List.{length-map, map-append}
use Rattle.std.proofs.lemmas.List.Concat.{flat_map-append}
use Rattle.lexer.specs.declared.token.Token.{Token}
use Rattle.lexer.specs.declared.token.Word.{Word}
use Rattle.lexer.specs.declared.token.Word.TheVariants.{Num}
use Rattle.lexer.specs.Words.{max_bytes, the_end}
use Rattle.prefix.specs.declared.quant.Quant.{Quant}
use Rattle.prefix.specs.declared.quant.Quant.TheVariants.{Exists, Forall}
use Rattle.prefix.specs.Literal.{Literal, signed_number}
use Rattle.prefix.specs.Scopes.{AreDistinct, Scope, all_variables, is_among}
use Rattle.truth.specs.declared.formula.Formula.{Formula}
use Rattle.truth.specs.Formed.{IsClauseOver}
use Rattle.qdimacs.specs.Formula.{QuantSet, declared as declared_in, formula_of, free, in_order, join, literals_of, merged, occurring, scopes_of}
use Rattle.qdimacs.specs.Reads.{AreAllowed, IsAllowed, Reads, Spells as SpellsFront, clause_words, header_words, line_of, set_words, variable_words, whole_words, words_of}
use Rattle.reading.specs.Words.{quant_word}
use Rattle.qdimacs.specs.Rules.{Front, Header, Outcome, between, end_rules, first_of, headed, limit, parsed, refused, whole_rules}
use Rattle.qdimacs.proofs.Lists.{all_joined, all_kept, all_taken}
use Rattle.qdimacs.proofs.Codes.{number_abs}
use Rattle.truth.specs.Limits.{max_clauses, max_scopes, max_vars}
use Rattle.reading.specs.declared.refusal.Quantity.TheVariants.{Clauses, Scopes, Variables}
use Rattle.qdimacs_out.specs.Texts.{clause_line, formula_lines, formula_text, header_line, literal_word, quantifier_word, scope_line}
use Rattle.blocks.specs.Lines.{Line}
use Rattle.qdimacs_out.specs.Theorems.{IsShort}
use Rattle.qdimacs_out.specs.Writable.{IsWritable}
use Rattle.qdimacs_out.proofs.All.{all_flat, all_mapped, all_parts, at_among, flat_over, zip_joined, zip_mapped}
use Rattle.qdimacs_out.proofs.Items.{IsOpen, IsRow, text_items, token, tokens}
use Rattle.qdimacs_out.proofs.Merging.{declared_variables, merged_back, none_kept, ordered_back, set_of}
use Rattle.qdimacs_out.proofs.Rows.{IsRowOf, matrix_back, numbers}
use Rattle.qdimacs_out.proofs.Spelling.{Spells, a_spells, cnf_spells, decimal_spells, e_spells, p_spells, signed_begins, signed_spells, zero_spells}

-- the words of the lines

quantifier_spells : (q : Quant) → Spells (quantifier_word q) (quant_word q)
quantifier_spells Exists = e_spells
quantifier_spells Forall = a_spells

quantifier_opens : (q : Quant) (ws : Line) → IsOpen (quantifier_word q ∷ ws)
quantifier_opens Exists ws = refl
quantifier_opens Forall ws = refl

abbrev pub Fits : ℕ → Type 0
Fits v = v ≤ 1048576

scope_row : (s : Scope) → AllByRecursion Fits s.variables → IsRow (scope_line s) (set_words (set_of s))
scope_row s h = record {
  words = (
    quantifier_spells s.quantifier,
    zip_joined Spells (map decimal s.variables) (codes "0" ∷ []) (variable_words s.variables) (Num (pos 0) ∷ [])
        (zip_mapped Spells decimal (λ v. Num (pos v)) s.variables
        (all_kept Fits (λ v. Spells (decimal v) (Num (pos v))) s.variables
        (λ v low. decimal_spells v (omega (arith, low))) h))
        (zero_spells, tt),
  );
  begins = quantifier_opens s.quantifier (map decimal s.variables ++ codes "0" ∷ []);
}

abbrev pub LiteralFits : Literal → Type 0
LiteralFits l = nat_abs (signed_number l) ≤ 1048576

clause_opens : (c : List Literal) → AllByRecursion LiteralFits c → IsOpen (clause_line c)
clause_opens [] h = refl
clause_opens (l ∷ c) h = signed_begins (signed_number l) (omega (arith, h.0))

numbers_spell : (c : List Literal) → AllByRecursion LiteralFits c
    → AllZip Spells (map literal_word c) (map Num (numbers c))
numbers_spell [] h = tt
numbers_spell (l ∷ c) h = (signed_spells (signed_number l) (omega (arith, h.0)), numbers_spell c h.1)

clause_row : (c : List Literal) → AllByRecursion LiteralFits c → IsRow (clause_line c) (clause_words (numbers c))
clause_row c h = record {
  words = zip_joined Spells (map literal_word c) (codes "0" ∷ []) (map Num (numbers c)) (Num (pos 0) ∷ [])
      (numbers_spell c h) (zero_spells, tt);
  begins = clause_opens c h;
}

-- the words of tokens, and their lines

token_words : (n : ℕ) (xs : List Word) → map (λ (t : Token). t.word) (map (token n) xs) ≡ xs
token_words n [] = refl
token_words n (x ∷ xs) = ap (λ ys. x ∷ ys) (token_words n xs)

tokens_words : (n : ℕ) (xss : List (List Word)) → map (λ (t : Token). t.word) (tokens n xss) ≡ flat_map (λ xs. xs) xss
tokens_words n [] = refl
tokens_words n (xs ∷ xss) =
    map-append (λ (t : Token). t.word) (map (token n) xs) (tokens (n + 1) xss)
    ∙ ap₂ (λ a b. a ++ b) (token_words n xs) (tokens_words (n + 1) xss)

flat_same : {X : Type 0} (f : X → List Word) (xs : List X) → flat_map (λ ys. ys) (map f xs) ≡ flat_map f xs
flat_same f [] = refl
flat_same f (x ∷ xs) = ap (λ ys. f x ++ ys) (flat_same f xs)

line_off : (k n : ℕ) (xs : List Word) → k < n → AllByRecursion (λ (t : Token). t.line ≢ k) (map (token n) xs)
line_off k n [] h = tt
line_off k n (x ∷ xs) h = ((λ e. omega (arith, h, e)), line_off k n xs h)

lines_off : (k n : ℕ) (xss : List (List Word)) → k < n → AllByRecursion (λ (t : Token). t.line ≢ k) (tokens n xss)
lines_off k n [] h = tt
lines_off k n (xs ∷ xss) h = all_joined (λ (t : Token). t.line ≢ k) (map (token n) xs) (tokens (n + 1) xss)
    (line_off k n xs h) (lines_off k (n + 1) xss (omega arith))

-- what has been read behind whole sets and clauses
abbrev front_of : Header → List QuantSet → List (List ℤ) → Front
front_of h [] [] = headed h
front_of h [] (c ∷ cs) = between h [] (c ∷ cs)
front_of h (s ∷ ss) cs = between h (s ∷ ss) cs

front_words : (h : Header) (sets : List QuantSet) (clauses : List (List ℤ))
    → words_of (front_of h sets clauses) ≡ whole_words h sets clauses
front_words h [] [] = refl
front_words h [] (c ∷ cs) = refl
front_words h (s ∷ ss) cs = refl

front_line : (h : Header) (sets : List QuantSet) (clauses : List (List ℤ)) → line_of (front_of h sets clauses) ≡ h.line
front_line h [] [] = refl
front_line h [] (c ∷ cs) = refl
front_line h (s ∷ ss) cs = refl

front_allowed : (h : Header) (sets : List QuantSet) (clauses : List (List ℤ)) → AreAllowed h sets clauses
    → IsAllowed (front_of h sets clauses)
front_allowed h [] [] a = tt
front_allowed h [] (c ∷ cs) a = (inr (λ e. let none : c ∷ cs ≡ [] = e in cc), a)
front_allowed h (s ∷ ss) cs a = (inl (λ e. let none : s ∷ ss ≡ [] = e in cc), a)

none_of_two : (a b : Bool) (o p : Outcome) (rest : List (Bool × Outcome)) → a ≡ false → b ≡ false
    → first_of ((a, o) ∷ (b, p) ∷ rest) ≡ first_of rest
none_of_two a b o p rest e f =
    ap (λ t. if t then Some o else if b then Some p else first_of rest) e
    ∙ ap (λ t. if t then Some p else first_of rest) f

front_end : (h : Header) (sets : List QuantSet) (clauses : List (List ℤ)) (line : ℕ) → h.vars ≤ max_vars
    → h.count ≤ max_clauses
    → first_of (end_rules (front_of h sets clauses) line) ≡ first_of (whole_rules h sets clauses line)
front_end h [] [] line few short =
    none_of_two (nat_lt max_vars h.vars) (nat_lt max_clauses h.count) (limit Variables h.line) (limit Clauses h.line)
    (whole_rules h [] [] line) (le-ltb max_vars h.vars few) (le-ltb max_clauses h.count short)
front_end h [] (c ∷ cs) line few short = refl
front_end h (s ∷ ss) cs line few short = refl

flat_length : (cs : List (List Literal)) → length (literals_of (map numbers cs)) ≡ length (flat_map (λ c. c) cs)
flat_length [] = refl
flat_length (c ∷ cs) = omega (
  arith,
  flat_length cs,
  length-append (numbers c) (literals_of (map numbers cs)),
  length-append c (flat_map (λ d. d) cs),
  length-map c signed_number,
)

abbrev scope_words : Scope → List Word
scope_words s = set_words (set_of s)

abbrev row_words : List Literal → List Word
row_words c = clause_words (numbers c)

-- the words of the lines of a formula
abbrev formula_words : Formula → List (List Word)
formula_words f = header_words f.declared_vars f.declared_clauses ∷
    (map scope_words f.prefix ++ map row_words f.clauses)

module _ (f : Formula) (w : IsWritable f) where
  abbrev sets : List QuantSet
  sets = map set_of f.prefix

  abbrev clauses : List (List ℤ)
  clauses = map numbers f.clauses

  abbrev header : Header
  header = record { vars = f.declared_vars; count = f.declared_clauses; line = 1 }

  -- a literal over a declared variable of the prefix
  abbrev IsKnown : Literal → Type 0
  IsKnown l = (1 ≤ l.variable) × (l.variable ≤ f.declared_vars) × (is_among l.variable (all_variables f.prefix) ≡ true)

  row_known : (c : List Literal) → IsClauseOver f.prefix c → AllByRecursion IsKnown c
  row_known c h = all_kept (λ (l : Literal). is_among l.variable (all_variables f.prefix) ≡ true) IsKnown c
      (λ l there.
      let range = at_among (λ v. (1 ≤ v) × (v ≤ f.declared_vars)) l.variable
      (all_variables f.prefix) w.declared there in
      (range.0, range.1, there)) h.1

  rows_known : AllByRecursion (AllByRecursion IsKnown) f.clauses
  rows_known = all_kept (IsClauseOver f.prefix) (AllByRecursion IsKnown) f.clauses row_known w.rows

  rows_are : AllByRecursion IsRowOf f.clauses
  rows_are = all_kept (IsClauseOver f.prefix) IsRowOf f.clauses
      (λ c h. (h.0, all_kept IsKnown (λ (l : Literal). 1 ≤ l.variable) c (λ l k. k.0) (row_known c h))) w.rows

  -- what holds of each known variable holds of each number
  each_number : (P : ℕ → Type 0) → ((l : Literal) → IsKnown l → P l.variable)
      → AllByRecursion (λ z. P (nat_abs z)) (literals_of clauses)
  each_number P g =
      all_flat (λ z. P (nat_abs z)) (λ c. c) clauses
      (all_mapped (AllByRecursion (λ z. P (nat_abs z))) numbers f.clauses
      (all_kept (AllByRecursion IsKnown) (λ c. AllByRecursion (λ z. P (nat_abs z)) (numbers c)) f.clauses
      (λ c h. all_mapped (λ z. P (nat_abs z)) signed_number c
      (all_kept IsKnown (λ l. P (nat_abs (signed_number l))) c (λ l k. subst P (sym (number_abs l k.0)) (g l k)) h))
      rows_known))

  -- the lines have these words

  header_row : IsRow (header_line f.declared_vars f.declared_clauses) (header_words f.declared_vars f.declared_clauses)
  header_row =
      let vars : f.declared_vars ≤ 1048576 = w.vars_few in
      let count : f.declared_clauses ≤ 2 ^ 24 = w.clauses_few in
      record {
        words = (
          p_spells,
          (
            cnf_spells,
            (
              decimal_spells f.declared_vars (omega (arith, vars)),
              (decimal_spells f.declared_clauses (omega (arith, count)), tt),
            ),
          ),
        );
        begins = refl;
      }

  pub scopes_fit : AllByRecursion (λ s. AllByRecursion Fits s.variables) f.prefix
  scopes_fit =
      let vars : f.declared_vars ≤ 1048576 = w.vars_few in
      all_parts Fits (λ (s : Scope). s.variables) f.prefix
      (all_kept (λ v. (1 ≤ v) × (v ≤ f.declared_vars)) Fits (all_variables f.prefix)
      (λ v k. omega (arith, k.1, vars)) w.declared)

  pub literals_fit : AllByRecursion (AllByRecursion LiteralFits) f.clauses
  literals_fit =
      let vars : f.declared_vars ≤ 1048576 = w.vars_few in
      all_kept (AllByRecursion IsKnown) (AllByRecursion LiteralFits) f.clauses
      (λ c h. all_kept IsKnown LiteralFits c (λ l k. omega (arith, number_abs l k.0, k.1, vars)) h) rows_known

  scope_rows : AllByRecursion (λ s. IsRow (scope_line s) (scope_words s)) f.prefix
  scope_rows = all_kept (λ (s : Scope). AllByRecursion Fits s.variables)
      (λ s. IsRow (scope_line s) (scope_words s)) f.prefix
      scope_row scopes_fit

  clause_rows : AllByRecursion (λ c. IsRow (clause_line c) (row_words c)) f.clauses
  clause_rows = all_kept (AllByRecursion LiteralFits) (λ c. IsRow (clause_line c) (row_words c)) f.clauses clause_row
      literals_fit

  line_rows : AllZip IsRow (formula_lines f) (formula_words f)
  line_rows = (
    header_row,
    zip_joined IsRow (map scope_line f.prefix) (map clause_line f.clauses) (map scope_words f.prefix)
        (map row_words f.clauses)
        (zip_mapped IsRow scope_line scope_words f.prefix scope_rows)
        (zip_mapped IsRow clause_line row_words f.clauses clause_rows),
  )

  -- the formula of the sets and clauses

  no_free : free sets clauses ≡ []
  no_free = none_kept (λ v. not (is_among v (declared_in sets))) (occurring clauses)
      (all_mapped (λ v. not (is_among v (declared_in sets)) ≡ false) nat_abs (literals_of clauses)
      (each_number (λ v. not (is_among v (declared_in sets)) ≡ false)
      (λ l k. ap not (ap (is_among l.variable) (declared_variables f.prefix) ∙ k.2))))

  scopes_back : scopes_of sets clauses ≡ sets
  scopes_back = ap (λ vs. join Exists vs (merged sets)) no_free ∙ merged_back f.prefix w.filled w.turns

  formula_back : formula_of f.declared_vars f.declared_clauses sets clauses ≡ f
  formula_back =
      let Make : List Scope → List (List Literal) → Formula = λ p c. record {
        prefix = p;
        clauses = c;
        declared_vars = f.declared_vars;
        declared_clauses = f.declared_clauses;
      } in
      ap₂ Make (ap (map in_order) scopes_back ∙ ordered_back f.prefix w.ascending) (matrix_back f.clauses rows_are)

  allowed : AreAllowed header sets clauses
  allowed = record {
    limits = (w.vars_few, w.clauses_few);
    variables = subst (AllByRecursion (λ v. (0 < v) × (v ≤ f.declared_vars))) (sym (declared_variables f.prefix))
        (all_kept (λ v. (1 ≤ v) × (v ≤ f.declared_vars)) (λ v. (0 < v) × (v ≤ f.declared_vars))
        (all_variables f.prefix)
        (λ v k. (omega (arith, k.0), k.1)) w.declared);
    distinct = subst AreDistinct (sym (declared_variables f.prefix)) w.distinct;
    scopes = rw (merged_back f.prefix w.filled w.turns, length-map f.prefix set_of) w.scopes_few;
    count = rw (length-map f.clauses numbers) w.fewer;
    literals = each_number (λ v. (0 < v) × (v ≤ f.declared_vars)) (λ l k. (omega (arith, k.0), k.1));
    amount = rw (flat_length f.clauses) w.literals_few;
  }

  abbrev front : Front
  front = front_of header sets clauses

  all_words : flat_map (λ xs. xs) (formula_words f) ≡ whole_words header sets clauses
  all_words =
      ap (λ ws. header_words f.declared_vars f.declared_clauses ++ ws)
      (flat_map-append (λ xs. xs) (map scope_words f.prefix) (map row_words f.clauses)
      ∙ ap₂ (λ a b. a ++ b) (flat_same scope_words f.prefix ∙ sym (flat_over set_words set_of f.prefix))
      (flat_same row_words f.clauses ∙ sym (flat_over clause_words numbers f.clauses)))
      ∙ sym (append_assoc (header_words f.declared_vars f.declared_clauses) (flat_map set_words sets)
      (flat_map clause_words clauses))

  spelled : SpellsFront front (tokens 1 (formula_words f))
  spelled = record {
    words = tokens_words 1 (formula_words f) ∙ all_words ∙ sym (front_words header sets clauses);
    on_line = subst (λ k. AllByRecursion (λ (t : Token). t.line ≡ k) (take 4 (tokens 1 (formula_words f))))
        (sym (front_line header sets clauses)) (refl, (refl, (refl, (refl, tt))));
    off_line = subst (λ k. AllByRecursion (λ (t : Token). t.line ≢ k) (take 1 (drop 4 (tokens 1 (formula_words f)))))
        (sym (front_line header sets clauses))
        (all_taken (λ (t : Token). t.line ≢ 1) 1 (tokens 2 (map scope_words f.prefix ++ map row_words f.clauses))
        (lines_off 1 2 (map scope_words f.prefix ++ map row_words f.clauses) (omega arith)));
  }

  -- the text is what its end decides
  text_reads : (o : Outcome) → IsShort f → first_of (whole_rules header sets clauses (1 + length (formula_lines f)))
      ≡ Some o
      → Reads (formula_text f) o
  text_reads o short end = record {
    front = front;
    read = tokens 1 (formula_words f);
    next = the_end (1 + length (formula_lines f));
    rest = [];
    whole = text_items max_bytes (formula_lines f) (formula_words f) line_rows short;
    spelled = spelled;
    allowed = front_allowed header sets clauses allowed;
    decides = front_end header sets clauses (1 + length (formula_lines f)) w.vars_few w.clauses_few ∙ end;
  }

  -- with all the clauses that it declares it is the formula
  pub written_read : length f.clauses ≡ f.declared_clauses → IsShort f → Reads (formula_text f) (parsed f)
  written_read all short =
      let line : ℕ = 1 + length (formula_lines f) in
      text_reads (parsed f) short
      (none_of_two (nat_lt (length clauses) f.declared_clauses) (nat_lt max_scopes (length (scopes_of sets clauses)))
      (refused 16 line) (limit Scopes line)
      ((true, parsed (formula_of f.declared_vars f.declared_clauses sets clauses)) ∷ [])
      (le-ltb (length clauses) f.declared_clauses (omega (arith, all, length-map f.clauses numbers)))
      (le-ltb max_scopes (length (scopes_of sets clauses))
      (rw (scopes_back, length-map f.prefix set_of) w.scopes_few))
      ∙ ap (λ g. Some (parsed g)) formula_back)

  last_line : 1 + length (formula_lines f) ≡ length f.prefix + length f.clauses + 2
  last_line = omega (
    arith,
    length-append (map scope_line f.prefix)
        (map clause_line f.clauses),
    length-map f.prefix scope_line,
    length-map f.clauses clause_line,
  )

  -- with fewer it is refused
  pub fewer_refused : length f.clauses < f.declared_clauses → IsShort f
      → Reads (formula_text f) (refused 16 (length f.prefix + length f.clauses + 2))
  fewer_refused less short =
      text_reads (refused 16 (length f.prefix + length f.clauses + 2)) short
      (ap (λ t. if t then Some (refused 16 (1 + length (formula_lines f))) else first_of
      ((nat_lt max_scopes (length (scopes_of sets clauses)), limit Scopes (1 + length (formula_lines f)))
      ∷ (true, parsed (formula_of f.declared_vars f.declared_clauses sets clauses)) ∷ []))
      (lt-ltb (length clauses) f.declared_clauses (omega (arith, less, length-map f.clauses numbers)))
      ∙ ap (λ n. Some (refused 16 n)) last_line)
