-- The words of a command of numbers, and `clap`'s account of them.
use Rattle.std.proofs.Common.{◌≡◌, ◌∙◌, ◌<◌, ◌^◌, ℕ, true, false, List, [], ◌∷◌, map, Option, Some, codes, decimal, unwrap_or, refl, sym, ap, ap₂, subst, arith}
use Rattle.std.specs.List.{flat_map}
use Rattle.clap.specs.Kinds.{or_else}
use Rattle.clap.specs.Words.{Row, Rule, Text, first_of}
use Rattle.clap.specs.Simple.{filled, with_index}
use Rattle.clap.specs.Takes.{value_passes}
use Rattle.clap.specs.Walk.{nothing_held, rows_after}
use Rattle.clap.specs.Faults.{defaults_fault, level_fault}
use Rattle.command.specs.Account.{AreDemo, AreGen, demo_app, gen_app, number_rule}
use Rattle.command.specs.Forms.{Flag, IsBetween, Part, Setting, spelled}
use Rattle.command.specs.Forms.Flag.{the_qdo, the_qcir, the_binary, the_trim, the_decide}
use Rattle.command.specs.Forms.Setting.{the_budget, the_keep, the_restarts}
use Rattle.command.specs.Forms.Part.{setting_part, joined_part, flag_part, name_part}
use Rattle.command.proofs.DecimalWords.{decimal_passes, decimal_word}
use Rattle.command.proofs.Turns.{IsPlainWord, leaf, no_kinds, rules_of}
use Rattle.command.proofs.WordKinds.{KnowsFlag, KnowsSetting, long_refused}
use Rattle.command.proofs.PartWalk.{AreRules, AreTaken, LacksDashes, end_fault, fault_of_parts, parts_of_words, rows_of_parts, used_rows, uses_fault, uses_of}

-- the number at a place
abbrev number : ℕ → Text → ℕ → ℕ → Rule
number i id least most = with_index i (filled (number_rule id least most))

abbrev seed : Rule
seed = number 1 (codes "SEED") 0 4294967295

abbrev pub gen_places : List Rule
gen_places = seed ∷ number 2 (codes "VARS") 3 32000 ∷ number 3 (codes "CLAUSES") 0 1000000 ∷ []

abbrev pub demo_places : List Rule
demo_places = seed ∷ number 2 (codes "COUNT") 1 10000 ∷ []

abbrev pub gen_rules : List Rule
gen_rules = rules_of gen_app

abbrev pub demo_rules : List Rule
demo_rules = rules_of demo_app

-- neither has an option
gen_settings : (s : Setting) → KnowsSetting s gen_rules → ⊥
gen_settings the_budget h = let bad = h.0 in absurd cc
gen_settings the_restarts h = let bad = h.0 in absurd cc
gen_settings the_keep h = let bad = h.0 in absurd cc

demo_settings : (s : Setting) → KnowsSetting s demo_rules → ⊥
demo_settings the_budget h = let bad = h.0 in absurd cc
demo_settings the_restarts h = let bad = h.0 in absurd cc
demo_settings the_keep h = let bad = h.0 in absurd cc

gen_flags : (f : Flag) → KnowsFlag f gen_rules → ⊥
gen_flags the_qdo bad = absurd cc
gen_flags the_qcir bad = absurd cc
gen_flags the_binary bad = absurd cc
gen_flags the_trim bad = absurd cc
gen_flags the_decide bad = absurd cc

demo_flags : (f : Flag) → KnowsFlag f demo_rules → ⊥
demo_flags the_qdo bad = absurd cc
demo_flags the_qcir bad = absurd cc
demo_flags the_binary bad = absurd cc
demo_flags the_trim bad = absurd cc
demo_flags the_decide bad = absurd cc

gen_are : AreRules gen_rules gen_places
gen_are = record {
  help_alone = λ x. refl;
  long = λ n. long_refused refl;
  left = (
    refl,
    record { found = refl; one_use = refl; one_value = refl; no_trail = refl },
    refl,
    (
      refl,
      record { found = refl; one_use = refl; one_value = refl; no_trail = refl },
      refl,
      (refl, record { found = refl; one_use = refl; one_value = refl; no_trail = refl }, refl, refl),
    ),
  );
}

demo_are : AreRules demo_rules demo_places
demo_are = record {
  help_alone = λ x. refl;
  long = λ n. long_refused refl;
  left = (
    refl,
    record { found = refl; one_use = refl; one_value = refl; no_trail = refl },
    refl,
    (refl, record { found = refl; one_use = refl; one_value = refl; no_trail = refl }, refl, refl),
  );
}

-- ---- the parts are words

-- the words are those of parts, each of which is a word
record AreWords (c left : List Rule) (ps : List Part) : Type 0 where
  pub words : List Text
  pub parts_are : ps ≡ map name_part words

module _ (c : List Rule) (no_setting : (s : Setting) → KnowsSetting s c → ⊥)
    (no_flag : (f : Flag) → KnowsFlag f c → ⊥) where
  are_words : (left : List Rule) (ps : List Part) → AreTaken c left ps → AreWords c left ps
  are_words left [] taken = record { words = []; parts_are = refl }
  are_words left (setting_part s t ∷ ps) taken = absurd (no_setting s taken.0.0)
  are_words left (joined_part s t ∷ ps) taken = absurd (no_setting s taken.0)
  are_words left (flag_part f ∷ ps) taken = absurd (no_flag f taken.0)
  are_words [] (name_part w ∷ ps) taken = absurd taken.0
  are_words (a ∷ left) (name_part w ∷ ps) taken =
      let rest = are_words left ps taken.1 in
      record { words = w ∷ rest.words; parts_are = ap (λ l. name_part w ∷ l) rest.parts_are }

spelled_words : (ws : List Text) → flat_map spelled (map name_part ws) ≡ ws
spelled_words [] = refl
spelled_words (w ∷ ws) = ap (λ l. w ∷ l) (spelled_words ws)

-- words that don't fail, as a list of words that are taken
record AreTakenWords (c places : List Rule) (args : List Text) : Type 0 where
  pub words : List Text
  pub words_are : args ≡ words
  pub taken : AreTaken c places (map name_part words)
  pub passes : uses_fault [] (uses_of places (map name_part words)) ≡ []
  pub ends : end_fault c (used_rows [] (uses_of places (map name_part words))) ≡ []

module _ (c places : List Rule) (r : AreRules c places) (no_setting : (s : Setting) → KnowsSetting s c → ⊥)
    (no_flag : (f : Flag) → KnowsFlag f c → ⊥) where
  taken_words : (args : List Text) → LacksDashes args → level_fault (leaf c) [] nothing_held args false [] ≡ []
      → AreTakenWords c places args
  taken_words args d e =
      let p = parts_of_words c places r args d e in
      let w = are_words c no_setting no_flag places p.parts p.taken in
      let taken = subst (AreTaken c places) w.parts_are p.taken in
      let words_are = p.words_are ∙ ap (flat_map spelled) w.parts_are in
      let faults = sym (fault_of_parts c places r (map name_part w.words) taken)
      ∙ ap (λ ws. level_fault (leaf c) [] nothing_held ws false []) (sym words_are) ∙ e in
      let both = no_kinds (uses_fault [] (uses_of places (map name_part w.words))) _ faults in
      record {
        words = w.words;
        words_are = words_are ∙ spelled_words w.words;
        taken = taken;
        passes = both.0;
        ends = both.1;
      }

-- a number that `clap` takes
module _ (i : ℕ) (id : Text) (least most : ℕ) (top : most < 2 ^ 64) (n : ℕ) (between : IsBetween least most n) where
  passes : value_passes (number i id least most) (decimal n) ≡ true
  passes = decimal_passes least most n top between

  plain : IsPlainWord (decimal n)
  plain = decimal_word n (omega (arith, top, between.1))

text_is : (o : Option Text) (t u : Text) → o ≡ Some t → o ≡ Some u → t ≡ u
text_is o t u a b = ap (λ p. unwrap_or p []) (sym a ∙ b)

-- ---- `gen SEED VARS CLAUSES`

gen_rows : (a b d : Text) → AreTaken gen_rules gen_places (map name_part (a ∷ b ∷ d ∷ []))
    → rows_after gen_rules [] (a ∷ b ∷ d ∷ [])
    ≡ used_rows [] (uses_of gen_places (map name_part (a ∷ b ∷ d ∷ [])))
gen_rows a b d taken = rows_of_parts gen_rules gen_places gen_are (map name_part (a ∷ b ∷ d ∷ [])) taken

gen_form : (ws : List Text) → AreTaken gen_rules gen_places (map name_part ws)
    → end_fault gen_rules (used_rows [] (uses_of gen_places (map name_part ws))) ≡ [] → (s v k : ℕ)
    → AreGen (rows_after gen_rules [] ws) s v k → ws ≡ decimal s ∷ decimal v ∷ decimal k ∷ []
unfolding defaults_fault
gen_form [] taken e s v k r = absurd cc
gen_form (a ∷ []) taken e s v k r = absurd cc
gen_form (a ∷ b ∷ []) taken e s v k r = absurd cc
gen_form (a ∷ b ∷ d ∷ []) taken e s v k r =
    let rows = gen_rows a b d taken in
    let first = text_is _ a (decimal s) (ap (first_of (codes "SEED")) rows) r.0.0 in
    let second = text_is _ b (decimal v) (ap (first_of (codes "VARS")) rows) r.1.0 in
    let third = text_is _ d (decimal k) (ap (first_of (codes "CLAUSES")) rows) r.2.0 in
    λ j. first j ∷ second j ∷ third j ∷ []
gen_form (a ∷ b ∷ d ∷ x ∷ ws) taken e s v k r = absurd taken.1.1.1.0

-- what `clap` finds has the form
pub gen_in_form : (args : List Text) → LacksDashes args → level_fault
    (leaf gen_rules) [] nothing_held args false [] ≡ []
    → (s v k : ℕ) → AreGen (rows_after gen_rules [] args) s v k → args ≡ decimal s ∷ decimal v ∷ decimal k ∷ []
gen_in_form args d e s v k r =
    let w = taken_words gen_rules gen_places gen_are gen_settings gen_flags args d e in
    let rows = subst (λ ws. AreGen (rows_after gen_rules [] ws) s v k) w.words_are r in
    w.words_are ∙ gen_form w.words w.taken w.ends s v k rows

-- and what has the form is found
pub record AreFound (c : List Rule) (args : List Text) (P : List Row → Type 0) : Type 0 where
  pub passes : level_fault (leaf c) [] nothing_held args false [] ≡ []
  pub values : P (rows_after c [] args)
  pub lacks : LacksDashes args

pub gen_found : (s v k : ℕ) → IsBetween 0 4294967295 s → IsBetween 3 32000 v → IsBetween 0 1000000 k
    → AreFound gen_rules (decimal s ∷ decimal v ∷ decimal k ∷ []) (λ rows. AreGen rows s v k)
unfolding defaults_fault
gen_found s v k hs hv hk =
    let ps = plain 1 (codes "SEED") 0 4294967295 (omega arith) s hs in
    let pv = plain 2 (codes "VARS") 3 32000 (omega arith) v hv in
    let pk = plain 3 (codes "CLAUSES") 0 1000000 (omega arith) k hk in
    let parts = map name_part (decimal s ∷ decimal v ∷ decimal k ∷ []) in
    let taken : AreTaken gen_rules gen_places parts = (ps, (pv, (pk, tt))) in
    let rows = gen_rows (decimal s) (decimal v) (decimal k) taken in
    let uses : uses_fault [] (uses_of gen_places parts) ≡ [] =
    rw (
      passes 1 (codes "SEED") 0 4294967295 (omega arith) s hs,
      passes 2 (codes "VARS") 3 32000 (omega arith) v hv,
      passes 3 (codes "CLAUSES") 0 1000000 (omega arith) k hk,
    ) refl in
    record {
      passes = fault_of_parts gen_rules gen_places gen_are parts taken ∙ ap₂ or_else uses refl;
      values = subst (λ l. AreGen l s v k) (sym rows) ((refl, hs), (refl, hv), (refl, hk));
      lacks = (ps.dashes, (pv.dashes, (pk.dashes, tt)));
    }

-- ---- `demo SEED COUNT`

demo_rows : (a b : Text) → AreTaken demo_rules demo_places (map name_part (a ∷ b ∷ []))
    → rows_after demo_rules [] (a ∷ b ∷ []) ≡ used_rows [] (uses_of demo_places (map name_part (a ∷ b ∷ [])))
demo_rows a b taken = rows_of_parts demo_rules demo_places demo_are (map name_part (a ∷ b ∷ [])) taken

demo_form : (ws : List Text) → AreTaken demo_rules demo_places (map name_part ws)
    → end_fault demo_rules (used_rows [] (uses_of demo_places (map name_part ws))) ≡ [] → (s k : ℕ)
    → AreDemo (rows_after demo_rules [] ws) s k → ws ≡ decimal s ∷ decimal k ∷ []
unfolding defaults_fault
demo_form [] taken e s k r = absurd cc
demo_form (a ∷ []) taken e s k r = absurd cc
demo_form (a ∷ b ∷ []) taken e s k r =
    let rows = demo_rows a b taken in
    let first = text_is _ a (decimal s) (ap (first_of (codes "SEED")) rows) r.0.0 in
    let second = text_is _ b (decimal k) (ap (first_of (codes "COUNT")) rows) r.1.0 in
    λ j. first j ∷ second j ∷ []
demo_form (a ∷ b ∷ x ∷ ws) taken e s k r = absurd taken.1.1.0

pub demo_in_form : (args : List Text) → LacksDashes args → level_fault
    (leaf demo_rules) [] nothing_held args false [] ≡ []
    → (s k : ℕ) → AreDemo (rows_after demo_rules [] args) s k → args ≡ decimal s ∷ decimal k ∷ []
demo_in_form args d e s k r =
    let w = taken_words demo_rules demo_places demo_are demo_settings demo_flags args d e in
    let rows = subst (λ ws. AreDemo (rows_after demo_rules [] ws) s k) w.words_are r in
    w.words_are ∙ demo_form w.words w.taken w.ends s k rows

pub demo_found : (s k : ℕ) → IsBetween 0 4294967295 s → IsBetween 1 10000 k
    → AreFound demo_rules (decimal s ∷ decimal k ∷ []) (λ rows. AreDemo rows s k)
unfolding defaults_fault
demo_found s k hs hk =
    let ps = plain 1 (codes "SEED") 0 4294967295 (omega arith) s hs in
    let pk = plain 2 (codes "COUNT") 1 10000 (omega arith) k hk in
    let parts = map name_part (decimal s ∷ decimal k ∷ []) in
    let taken : AreTaken demo_rules demo_places parts = (ps, (pk, tt)) in
    let rows = demo_rows (decimal s) (decimal k) taken in
    let uses : uses_fault [] (uses_of demo_places parts) ≡ [] =
    rw (
      passes 1 (codes "SEED") 0 4294967295 (omega arith) s hs,
      passes 2 (codes "COUNT") 1 10000
          (omega arith) k hk,
    ) refl in
    record {
      passes = fault_of_parts demo_rules demo_places demo_are parts taken ∙ ap₂ or_else uses refl;
      values = subst (λ l. AreDemo l s k) (sym rows) ((refl, hs), (refl, hk));
      lacks = (ps.dashes, (pk.dashes, tt));
    }
