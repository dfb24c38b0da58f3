-- The circuit's literals of the formula's variables have their values.
use Rattle.std.proofs.Common.{◌≡◌, ℕ, ⊎_elim, Bool, true, false, List, [], ◌∷◌, ◌++◌, map, Contains, Option, Some, None, refl, sym, ap, ap₂, ◌∙◌, nat_eq}
use Rattle.std.specs.List.{list_all}
use Rattle.std.proofs.lemmas.Bool.{cond-true, cond-false, cases_Bool, and_parts, and_from, eqb-true, eqb-false}
use Rattle.std.proofs.lemmas.List.Folds.{list_all-append, list_all-map}
use Rattle.prefix.specs.Literal.{Literal}
use Rattle.truth.specs.Matrix.{same, literal_true, clause_true, matrix_true}
use Rattle.truth.specs.Truth.{assumed_value}
use Rattle.calculus.specs.Rows.{Assignment, Row}
use Rattle.calculus.specs.Plays.{total}
use Rattle.calculus.proofs.Lists.{contains_cons, contains_nil, contains_head, contains_tail, any_same}
use Rattle.calculus.proofs.Merging.{beq_true}
use Rattle.certcheck.specs.Check.{Named, number_in, number_when, number_of, numbered, given_of, given}
use Rattle.certcheck.proofs.Numbers.{number_true, when_true, holds, all_hold}
use Rattle.certcheck.proofs.Rows.{any_map}

-- each literal has the value of its variable
abbrev pub AreFaithful : Assignment → Assignment → List Named → Type 0
AreFaithful σ v ns = (n : Named) → Contains ns n → number_true σ n.number ≡ v n.variable

-- each variable of the clauses is named
abbrev pub IsNamed : List Named → ℕ → Type 0
IsNamed ns x = Contains (map (λ (n : Named). n.variable) ns) x

pub same_from : (a b : Bool) → a ≡ b → same a b ≡ true
same_from true true e = refl
same_from true false e = sym e
same_from false true e = e
same_from false false e = refl

number_in_true : (σ v : Assignment) (ns : List Named) (x : ℕ) → AreFaithful σ v ns → IsNamed ns x
    → number_true σ (number_in ns x) ≡ v x
number_in_true σ v [] x faithful i = absurd (contains_nil x i)
number_in_true σ v (n ∷ ns) x faithful i =
    ⊎_elim
    (λ t.
    ap (number_true σ) (cond-true (nat_eq n.variable x) n.number (number_in ns x) t)
    ∙ faithful n (contains_head n ns) ∙ ap v (eqb-true n.variable x t))
    (λ f.
    ap (number_true σ) (cond-false (nat_eq n.variable x) n.number (number_in ns x) f)
    ∙ number_in_true σ v ns x (λ m j. faithful m (contains_tail n ns m j))
    (⊎_elim (λ e. absurd (eqb-false n.variable x f e)) (λ j. j)
    (contains_cons n.variable (map (λ (m : Named). m.variable) ns) x i)))
    (cases_Bool (nat_eq n.variable x))

pub number_of_true : (σ v : Assignment) (ns : List Named) (l : Literal) → AreFaithful σ v ns → IsNamed ns l.variable
    → number_true σ (number_of ns l) ≡ literal_true (total v) l
number_of_true σ v ns l faithful i =
    when_true σ l.positive (number_in ns l.variable)
    ∙ ap (λ b. same b l.positive) (number_in_true σ v ns l.variable faithful i)

numbered_clause : (σ v : Assignment) (ns : List Named) (clause : Row) → AreFaithful σ v ns
    → ((l : Literal) → Contains clause l → IsNamed ns l.variable)
    → holds σ (map (number_of ns) clause) ≡ clause_true (total v) clause
numbered_clause σ v ns clause faithful inside =
    any_map (number_true σ) (number_of ns) clause
    ∙ any_same (λ l. number_true σ (number_of ns l)) (literal_true (total v)) clause
    (λ l i. number_of_true σ v ns l faithful (inside l i))

-- the clauses over the circuit are true where the formula's are
pub numbered_are : (σ v : Assignment) (ns : List Named) (clauses : List Row) → AreFaithful σ v ns
    → ((c : Row) (l : Literal) → Contains clauses c → Contains c l → IsNamed ns l.variable)
    → map (holds σ) (numbered ns clauses) ≡ map (clause_true (total v)) clauses
numbered_are σ v ns [] faithful inside = refl
numbered_are σ v ns (c ∷ cs) faithful inside =
    ap₂ (λ b rest. b ∷ rest) (numbered_clause σ v ns c faithful (λ l i. inside c l (contains_head c cs) i))
    (numbered_are σ v ns cs faithful (λ d l i j. inside d l (contains_tail c cs d i) j))

pub numbered_hold : (σ v : Assignment) (ns : List Named) (clauses : List Row) → AreFaithful σ v ns
    → ((c : Row) (l : Literal) → Contains clauses c → Contains c l → IsNamed ns l.variable)
    → all_hold σ (numbered ns clauses) ≡ matrix_true (total v) clauses
numbered_hold σ v ns clauses faithful inside =
    sym (list_all-map (λ b. b) (holds σ) (numbered ns clauses))
    ∙ ap (list_all (λ b. b)) (numbered_are σ v ns clauses faithful inside)
    ∙ list_all-map (λ b. b) (clause_true (total v)) clauses

-- assumed values

of_gives : (σ : Assignment) (n : ℕ) (o : Option Bool) (b : Bool) → list_all (number_true σ) (given_of n o) ≡ true
    → o ≡ Some b → number_true σ n ≡ b
of_gives σ n None b h e = cc
of_gives σ n (Some c) b h e =
    let first : number_true σ (number_when c n) ≡ true = (and_parts (number_true σ (number_when c n)) true h).0 in
    let equal : c ≡ b = cc in
    beq_true (number_true σ n) c (sym (when_true σ c n) ∙ first) ∙ equal

of_from : (σ : Assignment) (n : ℕ) (o : Option Bool) → ((b : Bool) → o ≡ Some b → number_true σ n ≡ b)
    → list_all (number_true σ) (given_of n o) ≡ true
of_from σ n None h = refl
of_from σ n (Some c) h = and_from (number_true σ (number_when c n)) true
    (when_true σ c n ∙ same_from (number_true σ n) c (h c refl)) refl

pub given_gives : (σ v : Assignment) (assumptions : List Literal) (ns : List Named) → AreFaithful σ v ns
    → list_all (number_true σ) (given assumptions ns) ≡ true → (n : Named) → Contains ns n → (b : Bool)
    → assumed_value assumptions n.variable ≡ Some b → v n.variable ≡ b
given_gives σ v assumptions [] faithful h n i b e = absurd (contains_nil n i)
given_gives σ v assumptions (m ∷ ns) faithful h n i b e =
    let parts = and_parts (list_all (number_true σ) (given_of m.number (assumed_value assumptions m.variable)))
    (list_all (number_true σ) (given assumptions ns))
    (sym (list_all-append (number_true σ) (given_of m.number (assumed_value assumptions m.variable))
    (given assumptions ns)) ∙ h) in
    ⊎_elim
    (λ (same : m ≡ n).
    ap (λ (k : Named). v k.variable) (sym same) ∙ sym (faithful m (contains_head m ns))
    ∙ of_gives σ m.number (assumed_value assumptions m.variable) b parts.0
    (ap (λ (k : Named). assumed_value assumptions k.variable) same ∙ e))
    (λ j. given_gives σ v assumptions ns (λ k l. faithful k (contains_tail m ns k l)) parts.1 n j b e)
    (contains_cons m ns n i)

pub given_from : (σ v : Assignment) (assumptions : List Literal) (ns : List Named) → AreFaithful σ v ns
    → ((n : Named) → Contains ns n → (b : Bool) → assumed_value assumptions n.variable ≡ Some b → v n.variable ≡ b)
    → list_all (number_true σ) (given assumptions ns) ≡ true
given_from σ v assumptions [] faithful h = refl
given_from σ v assumptions (m ∷ ns) faithful h =
    list_all-append (number_true σ) (given_of m.number (assumed_value assumptions m.variable)) (given assumptions ns)
    ∙ and_from _ _
    (of_from σ m.number (assumed_value assumptions m.variable)
    (λ b e. faithful m (contains_head m ns) ∙ h m (contains_head m ns) b e))
    (given_from σ v assumptions ns (λ k l. faithful k (contains_tail m ns k l)) (λ k l. h k (contains_tail m ns k l)))

-- two assignments that agree on the literals agree on what is given
pub given_agree : (σ τ : Assignment) (assumptions : List Literal) (ns : List Named)
    → ((n : Named) → Contains ns n → number_true σ n.number ≡ number_true τ n.number)
    → map (number_true σ) (given assumptions ns) ≡ map (number_true τ) (given assumptions ns)
given_agree σ τ assumptions [] agree = refl
given_agree σ τ assumptions (m ∷ ns) agree =
    joined_agree (assumed_value assumptions m.variable)
    (given_agree σ τ assumptions ns (λ n i. agree n (contains_tail m ns n i)))
  where
    joined_agree : (o : Option Bool) → map (number_true σ) (given assumptions ns) ≡ map (number_true τ)
        (given assumptions ns)
        → map (number_true σ) (given_of m.number o ++ given assumptions ns) ≡ map (number_true τ)
        (given_of m.number o ++ given assumptions ns)
    joined_agree None rest = rest
    joined_agree (Some b) rest =
        ap₂ (λ a r. a ∷ r)
        (when_true σ b m.number ∙ ap (λ t. same t b) (agree m (contains_head m ns))
        ∙ sym (when_true τ b m.number)) rest
