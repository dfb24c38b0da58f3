-- The computation goes through what is written.
use Rattle.std.proofs.Common.{◌≡◌, ℕ, ◌<◌, ◌≤◌, ℤ, nat_abs, Bool, true, false, ◌||◌, List, [], ◌∷◌, ◌++◌, length, map, None, refl, sym, ap, subst, ◌∙◌, arith}
use Rattle.std.specs.Prelude.{◌==◌, nat_lt}
use Rattle.std.proofs.lemmas.Bool.{ne_eqb, le-ltb}
use Rattle.std.proofs.lemmas.List.{map-append, append_assoc, append-nil}
use Rattle.lexer.specs.declared.token.Token.{Token}
use Rattle.lexer.specs.Words.{Item, word}
use Rattle.prefix.specs.declared.quant.Quant.{Quant}
use Rattle.prefix.specs.Scopes.{is_among, AreDistinct}
use Rattle.qdimacs.specs.Formula.{QuantSet, merged}
use Rattle.qdimacs.proofs.Grown.{merged_empty}
use Rattle.qcir_reader.specs.declared.sign.Stage.{Stage}
use Rattle.qcir_reader.specs.declared.sign.Sign.{Sign}
use Rattle.qcir_reader.specs.Grammar.{sign_of}
use Rattle.qcir_reader.specs.Rules.{Outcome, Front, first_of, word_rules, is_no_name, max_name}
use Rattle.qcir_reader.specs.Run.{noted, moved, decided, outcome_from}
use Rattle.qcir_reader.specs.Reads.{IsName}
use Rattle.qdimacs.proofs.Shorter.{merged_less}

-- the signs of tokens
abbrev pub signs : List Token → List Sign
signs ts = map (λ (t : Token). sign_of t.word) ts

-- Words with these signs go from one stage and front to another.
abbrev pub Runs : Stage → Front → List Sign → Stage → Front → Type 0
Runs stage f xs next g = (ts : List Token) → signs ts ≡ xs → (is : List Item) → outcome_from stage f
    (map word ts ++ is) ≡ outcome_from next g is

pub runs_none : (stage : Stage) (f : Front) → Runs stage f [] stage f
runs_none stage f [] e is = refl
runs_none stage f (t ∷ ts) e is = cc

-- one word
pub step : (stage : Stage) (f : Front) (t : Token) (s : Sign) (is : List Item) → sign_of t.word ≡ s
    → first_of (word_rules stage f s t.line) ≡ None
    → outcome_from stage f (word t ∷ is) ≡ outcome_from (moved stage s) (noted stage f s t.line) is
step stage f t s is e h =
    ap (λ x. decided (first_of (word_rules stage f x t.line))
    (outcome_from (moved stage x) (noted stage f x t.line) is)) e
    ∙ ap (λ v. decided v (outcome_from (moved stage s) (noted stage f s t.line) is)) h

pub runs_one : (stage : Stage) (f : Front) (s : Sign) (next : Stage) (g : Front)
    → ((line : ℕ) → first_of (word_rules stage f s line) ≡ None) → moved stage s ≡ next
    → ((line : ℕ) → noted stage f s line ≡ g)
    → Runs stage f (s ∷ []) next g
runs_one stage f s next g none to same [] e is = cc
runs_one stage f s next g none to same (t ∷ []) e is =
    let first : sign_of t.word ≡ s = cc in
    step stage f t s is first (none t.line) ∙ ap (λ x. outcome_from x (noted stage f s t.line) is) to
    ∙ ap (λ x. outcome_from next x is) (same t.line)
runs_one stage f s next g none to same (t ∷ u ∷ ts) e is = cc

-- words in two parts
pub record Parts (ts : List Token) (xs ys : List Sign) : Type 0 where
  pub first : List Token
  pub second : List Token
  pub whole : ts ≡ first ++ second
  pub front : signs first ≡ xs
  pub back : signs second ≡ ys

pub parted : (xs ys : List Sign) (ts : List Token) → signs ts ≡ xs ++ ys → Parts ts xs ys
parted [] ys ts e = record { first = []; second = ts; whole = refl; front = refl; back = e }
parted (x ∷ xs) ys [] e = cc
parted (x ∷ xs) ys (t ∷ ts) e =
    let rest : Parts ts xs ys = parted xs ys ts (let r : signs ts ≡ xs ++ ys = cc in r) in
    let head : sign_of t.word ≡ x = cc in
    record {
      first = t ∷ rest.first;
      second = rest.second;
      whole = ap (λ r. t ∷ r) rest.whole;
      front = ap (λ r. sign_of t.word ∷ r) rest.front ∙ ap (λ s. s ∷ xs) head;
      back = rest.back;
    }

pub join_items : (a b : List Token) (is : List Item) → map word (a ++ b) ++ is ≡ map word a ++ (map word b ++ is)
join_items a b is = ap (λ r. r ++ is) (map-append word a b) ∙ append_assoc (map word a) (map word b) is

pub runs_on : (stage mid next : Stage) (f g h : Front) (xs ys : List Sign) → Runs stage f xs mid g
    → Runs mid g ys next h → Runs stage f (xs ++ ys) next h
runs_on stage mid next f g h xs ys one two ts e is =
    let p : Parts ts xs ys = parted xs ys ts e in
    ap (λ r. outcome_from stage f (map word r ++ is)) p.whole
    ∙ ap (outcome_from stage f) (join_items p.first p.second is)
    ∙ one p.first p.front (map word p.second ++ is)
    ∙ two p.second p.back is

pub runs_as : (stage next : Stage) (f g : Front) (xs ys : List Sign) → xs ≡ ys → Runs stage f xs next g
    → Runs stage f ys next g
runs_as stage next f g xs ys e r = subst (λ x. Runs stage f x next g) e r

pub runs_to : (stage next : Stage) (f g h : Front) (xs : List Sign) → g ≡ h → Runs stage f xs next g
    → Runs stage f xs next h
runs_to stage next f g h xs e r = subst (λ x. Runs stage f xs next x) e r

-- rules that don't refuse
pub none_with : (t : Bool) (o : Outcome) (rules : List (Bool × Outcome)) → t ≡ false → first_of rules ≡ None
    → first_of ((t, o) ∷ rules) ≡ None
none_with true o rules e h = cc
none_with false o rules e h = h

both_false : (a b : Bool) → a ≡ false → b ≡ false → (a || b) ≡ false
both_false true b h k = cc
both_false false b h k = k

pub name_is : (n : ℤ) → IsName (nat_abs n) → is_no_name n ≡ false
name_is n h =
    let low : 0 < nat_abs n = h.0 in
    both_false (nat_abs n == 0) (nat_lt max_name (nat_abs n)) (ne_eqb (nat_abs n) 0 (λ e. omega (arith, low, e)))
    (le-ltb max_name (nat_abs n) h.1)

-- fronts of lists
or_first : (a b : Bool) → (a || b) ≡ false → a ≡ false
or_first true b h = cc
or_first false b h = refl

among_by : (t : Bool) (xs ys : List ℕ) (v x : ℕ) → (x == v) ≡ t
    → (is_among v (xs ++ ys) ≡ false → is_among v xs ≡ false) → (t || is_among v (xs ++ ys)) ≡ false
    → (x == v || is_among v xs) ≡ false
among_by true xs ys v x e rest h = cc
among_by false xs ys v x e rest h = ap (λ t. t || is_among v xs) e ∙ rest h

among_front : (v : ℕ) (xs ys : List ℕ) → is_among v (xs ++ ys) ≡ false → is_among v xs ≡ false
among_front v [] ys h = refl
among_front v (x ∷ xs) ys h = among_by (x == v) xs ys v x refl (among_front v xs ys) h

pub distinct_front : (xs ys : List ℕ) → AreDistinct (xs ++ ys) → AreDistinct xs
distinct_front [] ys d = tt
distinct_front (x ∷ xs) ys d = (among_front x xs ys d.0, distinct_front xs ys d.1)

pub merged_vars : (sets : List QuantSet) (q : Quant) (us vs : List ℕ) → length (merged (sets ++ (q, us) ∷ [])) ≤ length
    (merged (sets ++ (q, us ++ vs) ∷ []))
merged_vars sets q us [] = subst (λ x. length (merged (sets ++ (q, us) ∷ [])) ≤ length (merged (sets ++ (q, x) ∷ [])))
    (sym (append-nil us)) (omega arith)
merged_vars sets q us (v ∷ vs) =
    let one : length (merged (sets ++ (q, us) ∷ [])) ≤ length (merged (sets ++ (q, us ++ v ∷ []) ∷ [])) =
    merged_less sets q us v in
    let more : length (merged (sets ++ (q, us ++ v ∷ []) ∷ [])) ≤ length (merged (sets ++ (q, us ++ v ∷ vs) ∷ [])) =
    subst (λ x. length (merged (sets ++ (q, us ++ v ∷ []) ∷ [])) ≤ length (merged (sets ++ (q, x) ∷ [])))
    (append_assoc us (v ∷ []) vs) (merged_vars sets q (us ++ v ∷ []) vs) in
    omega (arith, one, more)

pub merged_sets : (xs ys : List QuantSet) → length (merged xs) ≤ length (merged (xs ++ ys))
merged_sets xs [] = subst (λ x. length (merged xs) ≤ length (merged x)) (sym (append-nil xs)) (omega arith)
merged_sets xs (y ∷ ys) =
    let one : length (merged xs) ≤ length (merged (xs ++ y ∷ [])) = subst (λ n. n ≤ length (merged (xs ++ y ∷ [])))
    (ap length (merged_empty xs y.0)) (merged_vars xs y.0 [] y.1) in
    let more : length (merged (xs ++ y ∷ [])) ≤ length (merged (xs ++ y ∷ ys)) =
    subst (λ x. length (merged (xs ++ y ∷ [])) ≤ length (merged x)) (append_assoc xs (y ∷ []) ys)
    (merged_sets (xs ++ y ∷ []) ys) in
    omega (arith, one, more)
