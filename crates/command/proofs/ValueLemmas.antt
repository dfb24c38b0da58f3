-- The values that `clap` found for a command, as the code reads them.
use Rattle.std.proofs.Common.{◌≡◌, ◌∙◌, ◌<◌, ◌≤◌, ◌^◌, ℕ, List, [], Option, Some, None, IfSome, IfNone, false, codes, decimal, unwrap_or, sym, ap, subst, arith}
use Rattle.std.specs.Option.{option_map_or}
use Rattle.std.specs.Str.{bytes_eq}
use Rattle.clap.specs.Words.{Row, Text, first_value, found_of, rows_of}
use Rattle.clap.specs.declared.ArgMatches.{ArgMatches}
use Rattle.clap.proofs.WalkLemmas.{first_value-rows}
use Rattle.command.specs.Account.{AreFlagsOf, AreInput, AreValues, HasNoHyphen, IsNumberAt, IsSet, is_set}
use Rattle.command.specs.Forms.{name_in, verb_word, word_of}
use Rattle.command.specs.Forms.Setting.{the_keep, the_restarts}
use Rattle.command.specs.declared.command.Command.{Command}
use Rattle.command.specs.declared.command.Command.TheVariants.{Demo, Gen, Read}
use Rattle.command.specs.declared.command.Verb.{Verb}

pub if_none : {X : Type 0} (o : Option X) (P : Type 0) → P → IfNone o P
if_none None P p = p
if_none (Some x) P p = tt

module _ (m : ArgMatches) (n k l : ℕ) (given : Option Text) where
  abbrev budget_found : Option Text
  budget_found = first_value (found_of m) (codes "budget")

  abbrev name_found : Option Text
  name_found = first_value (found_of m) (codes "name")

  abbrev Found : Type 0
  Found = AreInput (rows_of (found_of m)) n k l given

  pub no_budget : None ≡ budget_found → Found → ⊥
  no_budget is v = let bad = is ∙ first_value-rows (found_of m) (codes "budget") ∙ v.0.0 in absurd cc

  pub other_budget : (t : Text) → Some t ≡ budget_found → ((k : ℕ) → k < 2 ^ 64 → t ≡ decimal k → ⊥) → Found → ⊥
  other_budget t is none v =
      let small : n < 2 ^ 64 = omega (arith, v.0.1.1) in
      none n small (ap (λ o. unwrap_or o []) (is ∙ first_value-rows (found_of m) (codes "budget") ∙ v.0.0))

  pub other_restarts : ((j : ℕ) → IsSet the_restarts (rows_of (found_of m)) j → ⊥) → Found → ⊥
  other_restarts none v = none k v.1

  pub other_kept : ((j : ℕ) → IsSet the_keep (rows_of (found_of m)) j → ⊥) → Found → ⊥
  other_kept none v = none l v.2

  pub other_name : (o : Option Text) → o ≡ name_found → (HasNoHyphen o → ⊥) → Found → ⊥
  other_name o is bad v =
      let same = sym v.3 ∙ sym (first_value-rows (found_of m) (codes "name")) ∙ sym is in
      bad (subst HasNoHyphen same v.4)

  pub values : (t : Text) → n < 2 ^ 64 → Some t ≡ budget_found → t ≡ decimal n
      → IsSet the_restarts (rows_of (found_of m)) k → IsSet the_keep (rows_of (found_of m)) l → given ≡ name_found
      → HasNoHyphen given → Found
  values t small budget_at text restarts kept name_at fine = (
    (
      sym (first_value-rows (found_of m) (codes "budget")) ∙ sym budget_at ∙ ap (λ x. Some x) text,
      (omega arith, omega (arith, small)),
    ),
    restarts,
    kept,
    sym (first_value-rows (found_of m) (codes "name")) ∙ sym name_at,
    fine,
  )

-- whether the flag of this name is given
pub set_is : (m : ArgMatches) (name : Text) (o : Option Text) → o ≡ first_value (found_of m) name
    → option_map_or (λ text. bytes_eq text (codes "true")) o false ≡ is_set name (rows_of (found_of m))
set_is m name o e = ap (λ p. option_map_or (λ text. bytes_eq text (codes "true")) p false)
    (e ∙ first_value-rows (found_of m) name)

-- ---- a number of a command

module _ (m : ArgMatches) (id : Text) (least most : ℕ) where
  abbrev number_found : Option Text
  number_found = first_value (found_of m) id

  abbrev FoundAt : ℕ → Type 0
  FoundAt n = IsNumberAt id least most (rows_of (found_of m)) n

  pub no_number : None ≡ number_found → (n : ℕ) → FoundAt n → ⊥
  no_number is n v = let bad = is ∙ first_value-rows (found_of m) id ∙ v.0 in absurd cc

  module _ (t : Text) (is : Some t ≡ number_found) where
    pub number_is : (o : Option ℕ) → IfSome o (λ n. (t ≡ decimal n) × (least ≤ n) × (n ≤ most)) → IfSome o FoundAt
    number_is None h = tt
    number_is (Some n) h = (sym (first_value-rows (found_of m) id) ∙ sym is ∙ ap Some h.0, (h.1, h.2))

    pub other_number : (o : Option ℕ) → IfNone o ((n : ℕ) → least ≤ n → n ≤ most → t ≡ decimal n → ⊥)
        → IfNone o ((n : ℕ) → FoundAt n → ⊥)
    other_number (Some n) none = tt
    other_number None none = λ n v.
        none n v.1.0 v.1.1 (ap (λ o. unwrap_or o []) (is ∙ first_value-rows (found_of m) id ∙ v.0))

-- ---- a command of another word

module _ (rows : List Row) (word : Text) where
  abbrev IsNoCommand : Type 0
  IsNoCommand = (c : Command) → word_of c ≡ word → AreValues rows c → ⊥

  -- without an input there is a command of numbers at most
  pub no_input : (word ≡ codes "gen" → ⊥) → (word ≡ codes "demo" → ⊥)
      → ((n k l : ℕ) (g : Option Text) → AreInput rows n k l g → ⊥) → IsNoCommand
  no_input gen demo none (Read verb i) e v = none i.budget i.restarts i.kept (name_in i) v.0
  no_input gen demo none (Gen s v k) e h = gen (sym e)
  no_input gen demo none (Demo s k) e h = demo (sym e)

  -- nor where the word is none that reads one, with its flags
  pub no_verb : (word ≡ codes "gen" → ⊥) → (word ≡ codes "demo" → ⊥)
      → ((v : Verb) → verb_word v ≡ word → AreFlagsOf rows v → ⊥) → IsNoCommand
  no_verb gen demo none (Read verb i) e v = none verb e v.1
  no_verb gen demo none (Gen s v k) e h = gen (sym e)
  no_verb gen demo none (Demo s k) e h = demo (sym e)
