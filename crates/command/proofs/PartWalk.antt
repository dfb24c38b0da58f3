-- What `clap` makes of the words of the parts behind the word of a command.
use Rattle.std.proofs.Common.{◌≡◌, ◌≢◌, ◌∙◌, ◌++◌, ◌&&◌, ℕ, suc, Bool, cond, true, false, List, [], ◌∷◌, drop, Option, Some, None, fold, refl, sym, ap, ap₂}
use Rattle.std.specs.Prelude.{⊤}
use Rattle.std.specs.List.{flat_map}
use Rattle.clap.specs.Lexer.{long_of}
use Rattle.clap.specs.Words.{Row, Rule, Kinds}
use Rattle.clap.specs.Kinds.{or_else}
use Rattle.clap.specs.Walk.{Held, Step, Text, Waiting, Walk, idle, option, positional, after_step, arg_by_id, arg_by_index, arg_by_long, long_word, next, is_multiple, is_pending, next_position, nothing_held, plain_word, pushed, rows_after, settled, settled_rows, subcommand_met, takes_several, to_positional, used, value, walked, with_default, word_met}
use Rattle.clap.specs.Faults.{check_fault, defaults_fault, level_fault, long_fault, settle_fault, step_fault, turn_fault, use_fault, walk_fault, word_fault}
use Rattle.clap.proofs.WalkLemmas.{walked_is}
use Rattle.command.specs.Forms.{Flag, Part, Setting, flag_name, setting_name, spelled}
use Rattle.command.specs.Forms.Part.{setting_part, joined_part, flag_part, name_part}
use Rattle.command.specs.Forms.Setting.{the_budget, the_keep, the_restarts}
use Rattle.command.proofs.Turns.{IsPlainWord, Pending, as_setting, at, first_of_three, for_setting, held, leaf, no_value_yet, no_kinds, nothing_after, plain_fault, plain_met}
use Rattle.command.proofs.Spelled.{flag_long, flag_not_dashes, flag_spelled, flag_word, joined_long, joined_not_dashes, joined_spelled, joined_word, option_long, option_not_dashes, option_spelled, option_word}
use Rattle.command.proofs.WordKinds.{IsNotDashes, IsRefused, Kind, KnowsFlag, KnowsHelpAlone, KnowsSetting, Long, flag, is_flag, is_plain, is_refused, is_setting, kind_of_word, long_fault_is, long_met_is, sets, setting}

pub no_subcommand : (waiting : Waiting) (w : Text) → subcommand_met [] waiting w ≡ None
no_subcommand idle w = refl
no_subcommand (option id) w = refl
no_subcommand positional w = refl

module _ (c : List Rule) where
  -- what fails from a state on, up to the last use
  abbrev pub fate : Walk → List Text → Kinds
  fate w words =
      or_else (walk_fault (leaf c) [] w words) (settle_fault c false (fold (walked c []) w words).held)

  -- the rows after the last use
  abbrev pub last_rows : Walk → List Text → List Row
  last_rows w words =
      settled_rows c (fold (walked c []) w words).held.pending (fold (walked c []) w words).held.rows

  -- the words lead from one state to another, and fail so on their way
  pub record Leads (w : Walk) (words : List Text) (faults : Kinds) (v : Walk) (rest : List Text) : Type 0 where
    pub fate_is : fate w words ≡ or_else faults (fate v rest)
    pub rows_are : last_rows w words ≡ last_rows v rest

  failing : (w v : Walk) (words rest : List Text) (a b : Kinds) → Leads w words a v rest → a ≡ b
      → Leads w words b v rest
  failing w v words rest a b l is =
      record { fate_is = l.fate_is ∙ ap (λ k. or_else k (fate v rest)) is; rows_are = l.rows_are }

  module _ (waiting : Waiting) (rows : List Row) (pending : Pending) (position : ℕ) (x : Text) (rest : List Text) where
    abbrev here : Walk
    here = at waiting rows pending position

    abbrev settling : Kinds
    settling = settle_fault c false (held rows pending)

    abbrev settled_here : List Row
    settled_here = settled_rows c pending rows

    -- one word
    turn : (h : Held) (st : Step) → word_met c [] false waiting position x (held rows pending) ≡ (h, st)
        → Leads here (x ∷ rest)
        (or_else (word_fault (leaf c) [] false waiting x (held rows pending)) (step_fault (leaf c) position h st))
        (after_step c x here h st) rest
    unfolding walk_fault
    turn h st met =
        let is = walked_is c [] here x h st (sym met) in
        let first = word_fault (leaf c) [] false waiting x (held rows pending) in
        let faults = ap (λ (m : Held × Step). or_else first (step_fault (leaf c) position m.0 m.1)) met in
        record {
          fate_is = first_of_three (turn_fault (leaf c) [] here x) _ _
              ∙ ap₂ or_else faults (ap (λ v. fate v rest) (sym is));
          rows_are = ap (λ v. last_rows v rest) (sym is);
        }

    refused : IsRefused (leaf c) [] x → fate here (x ∷ rest) ≢ []
    unfolding walk_fault
    refused bad e =
        let walk = (no_kinds (walk_fault (leaf c) [] here (x ∷ rest)) _ e).0 in
        let first = (no_kinds (turn_fault (leaf c) [] here x) _ walk).0 in
        bad waiting rows pending (no_subcommand waiting x) (no_kinds _ _ first).0

    module _ (dashes : IsNotDashes x) where
      abbrev unmet : subcommand_met [] waiting x ≡ None
      unmet = no_subcommand waiting x

      -- a flag
      by_long : (name : Text) (v : Option Text) → long_of x ≡ Some (name, v) → (h : Held) (st : Step)
          → long_word c waiting x name v (held rows pending) ≡ (h, st) → (faults : Kinds)
          → or_else (long_fault c false (arg_by_long c name) v (held rows pending)) (step_fault (leaf c) position h st)
          ≡ faults → Leads here (x ∷ rest) faults (after_step c x here h st) rest
      by_long name v l h st met faults are =
          let fault = long_fault_is (leaf c) [] waiting x unmet dashes rows pending name v l in
          let t = turn h st (long_met_is (leaf c) [] waiting x unmet dashes rows pending position name v l ∙ met) in
          failing _ _ _ _ _ faults t (ap (λ k. or_else k (step_fault (leaf c) position h st)) fault ∙ are)

      -- `--OPTION`
      by_option : (s : Setting) → KnowsSetting s c → long_of x ≡ Some (setting_name s, None)
          → Leads here (x ∷ rest) settling (at (for_setting s) settled_here (no_value_yet s) position) rest
      by_option s knows l =
          by_long (setting_name s) None l (held settled_here (no_value_yet s)) (next (for_setting s))
          (rw knows.0 refl) settling (rw knows.0 (nothing_after settling))

      -- `--OPTION=t`
      by_setting : (s : Setting) → KnowsSetting s c → (t : Text) → long_of x ≡ Some (setting_name s, Some t)
          → Leads here (x ∷ rest) (or_else settling (use_fault false (setting s) (t ∷ []) settled_here))
          (at idle (used (setting s) (t ∷ []) settled_here) None position) rest
      by_setting s knows t l =
          by_long (setting_name s) (Some t) l (held (used (setting s) (t ∷ []) settled_here) None) (next idle)
          (rw knows.0 refl) _ (rw knows.0 (nothing_after _))

      -- `--FLAG`
      by_flag : (f : Flag) → KnowsFlag f c → long_of x ≡ Some (flag_name f, None)
          → Leads here (x ∷ rest) (or_else settling (use_fault false (flag f) [] settled_here))
          (at idle (used (flag f) [] settled_here) None position) rest
      by_flag f knows l =
          by_long (flag_name f) None l (held (used (flag f) [] settled_here) None) (next idle) (rw knows refl) _
          (rw knows (nothing_after _))

  -- the option that waits takes the value
  value_met : (s : Setting) → KnowsSetting s c → (rows : List Row) (x : Text)
      → plain_word c (for_setting s) x (held rows (no_value_yet s)) ≡ (held rows (as_setting s x), next idle)
  value_met the_budget knows rows x = rw knows.1 refl
  value_met the_restarts knows rows x = rw knows.1 refl
  value_met the_keep knows rows x = rw knows.1 refl

  -- a value that an option waits for
  by_value : (s : Setting) → KnowsSetting s c → (rows : List Row) (position : ℕ) (x : Text) (rest : List Text)
      → IsPlainWord x → Leads (at (for_setting s) rows (no_value_yet s) position) (x ∷ rest) []
      (at idle rows (as_setting s x) position) rest
  by_value s knows rows position x rest plain =
      let met = plain_met (leaf c) [] (for_setting s) x refl rows (no_value_yet s) position plain in
      let t = turn (for_setting s) rows (no_value_yet s) position x rest (held rows (as_setting s x)) (next idle)
      (met ∙ value_met s knows rows x) in
      let none = plain_fault (leaf c) [] (for_setting s) x refl rows (no_value_yet s) plain in
      failing _ _ _ _ _ [] t (ap (λ k. or_else k []) none)

  -- ---- words that go to a place

  -- an argument with one value, told by its place
  pub record IsPlace (a : Rule) : Type 0 where
    pub found : arg_by_id c a.id ≡ Some a
    pub one_use : is_multiple a ≡ false
    pub one_value : takes_several a ≡ false
    pub no_trail : a.trailing_var_arg ≡ false

  -- from this place on, these arguments are left
  abbrev pub AreLeft : ℕ → List Rule → Type 0
  AreLeft i [] = arg_by_index c i ≡ None
  AreLeft i (a ∷ left) = (arg_by_index c i ≡ Some a) × IsPlace a × (next_position a i ≡ suc i) × AreLeft (suc i) left

  abbrev as_value : Rule → Text → Pending
  as_value a x = Some (a.id, x ∷ [])

  settled_alone : (b d : Bool) (h k : Held) → d ≡ false → cond (b && d) h k ≡ k
  settled_alone true d h k e = rw e refl
  settled_alone false d h k e = refl

  no_fault_alone : (b d : Bool) (k : Kinds) → d ≡ false → cond (b && d) [] k ≡ k
  no_fault_alone true d k e = rw e refl
  no_fault_alone false d k e = refl

  module _ (rows : List Row) (pending : Pending) (i : ℕ) (x : Text) (rest : List Text) (plain : IsPlainWord x) where
    abbrev plain_turn : Kinds
    plain_turn = step_fault (leaf c) i (held rows pending) value

    to_place : Leads (at idle rows pending i) (x ∷ rest) plain_turn
        (after_step c x (at idle rows pending i) (held rows pending) value) rest
    to_place =
        let t = turn idle rows pending i x rest (held rows pending) value
        (plain_met (leaf c) [] idle x refl rows pending i plain) in
        let none = plain_fault (leaf c) [] idle x refl rows pending plain in
        failing _ _ _ _ _ plain_turn t (ap (λ k. or_else k plain_turn) none)

    -- no argument is left
    stray : AreLeft i [] → fate (at idle rows pending i) (x ∷ rest) ≢ []
    stray none e =
        let fault : plain_turn ≡ [] = (no_kinds plain_turn _ (sym to_place.fate_is ∙ e)).0 in
        let bad = rw none at fault in
        absurd cc

    by_place : (a : Rule) (left : List Rule) → AreLeft i (a ∷ left)
        → Leads (at idle rows pending i) (x ∷ rest) (settle_fault c false (held rows pending))
        (at idle (settled_rows c pending rows) (as_value a x) (suc i)) rest
    by_place a left at_place =
        let is = at_place.1 in
        let h = held rows pending in
        let fault : plain_turn ≡ settle_fault c false h =
        rw at_place.0 (no_fault_alone (is_pending a pending) (takes_several a) (settle_fault c false h) is.one_value) in
        let found = settled_alone (is_pending a pending) (takes_several a) h (settled c h) is.one_value in
        let same : ◌≡◌ {A = Walk} (to_positional c (Some a) x (at idle rows pending i) h)
        (at idle (settled_rows c pending rows) (as_value a x) (suc i)) = λ j. record {
          held = pushed a.id x (found j);
          waiting = cond (is.one_use j) positional idle;
          position = at_place.2 j;
          is_trailing = is.no_trail j;
          stopped = None;
        } in
        let there = ap (λ o. to_positional c o x (at idle rows pending i) h) at_place.0 ∙ same in
        record {
          fate_is = to_place.fate_is ∙ ap₂ or_else fault (ap (λ v. fate v rest) there);
          rows_are = to_place.rows_are ∙ ap (λ v. last_rows v rest) there;
        }

-- ---- the uses of arguments

-- an argument and its values
abbrev pub Use : Type 0
Use = Rule × List Text

-- the use that a part makes, where these places are left
abbrev pub use_of : List Rule → Part → List Use
use_of left (setting_part s t) = (setting s, t ∷ []) ∷ []
use_of left (joined_part s t) = (setting s, t ∷ []) ∷ []
use_of left (flag_part f) = (flag f, []) ∷ []
use_of [] (name_part w) = []
use_of (a ∷ left) (name_part w) = (a, w ∷ []) ∷ []

abbrev pub left_after : List Rule → Part → List Rule
left_after left (name_part w) = drop 1 left
left_after left _ = left

abbrev pub uses_of : List Rule → List Part → List Use
uses_of left [] = []
uses_of left (p ∷ ps) = use_of left p ++ uses_of (left_after left p) ps

-- what fails in uses, and the rows after them
abbrev pub uses_fault : List Row → List Use → Kinds
uses_fault rows [] = []
uses_fault rows (u ∷ us) = or_else (use_fault false u.0 u.1 rows) (uses_fault (used u.0 u.1 rows) us)

abbrev pub used_rows : List Row → List Use → List Row
used_rows rows [] = rows
used_rows rows (u ∷ us) = used_rows (used u.0 u.1 rows) us

module _ (c : List Rule) where
  -- `clap` takes the part for what it is, where these places are left
  abbrev pub IsTaken : List Rule → Part → Type 0
  IsTaken left (setting_part s t) = KnowsSetting s c × IsPlainWord t
  IsTaken left (joined_part s t) = KnowsSetting s c
  IsTaken left (flag_part f) = KnowsFlag f c
  IsTaken [] (name_part w) = ⊥
  IsTaken (a ∷ left) (name_part w) = IsPlainWord w

  abbrev pub AreTaken : List Rule → List Part → Type 0
  AreTaken left [] = ⊤
  AreTaken left (p ∷ ps) = IsTaken left p × AreTaken (left_after left p) ps

  -- the words are those of parts that are taken, where these places are left
  pub record ArePartsOf (left : List Rule) (words : List Text) : Type 0 where
    pub parts : List Part
    pub taken : AreTaken left parts
    pub words_are : words ≡ flat_map spelled parts

  -- what a parse of the words comes to, from a state on
  record ComesTo (w : Walk) (words : List Text) (faults : Kinds) (rows : List Row) : Type 0 where
    pub fate_is : fate c w words ≡ faults
    pub rows_are : last_rows c w words ≡ rows

  then : (w v : Walk) (words rest : List Text) (a b d : Kinds) (rows : List Row) → Leads c w words a v rest
      → ComesTo v rest b rows → or_else a b ≡ d → ComesTo w words d rows
  then w v words rest a b d rows l e is = record {
    fate_is = l.fate_is ∙ ap (or_else a) e.fate_is ∙ is;
    rows_are = l.rows_are ∙ e.rows_are;
  }

  follow : (ps : List Part) (rows : List Row) (pending : Pending) (i : ℕ) (left : List Rule) → AreLeft c i left
      → AreTaken left ps → ComesTo (at idle rows pending i) (flat_map spelled ps)
      (or_else (settle_fault c false (held rows pending)) (uses_fault (settled_rows c pending rows) (uses_of left ps)))
      (used_rows (settled_rows c pending rows) (uses_of left ps))
  unfolding walk_fault
  follow [] rows pending i left at_place taken =
      record { fate_is = sym (nothing_after (settle_fault c false (held rows pending))); rows_are = refl }
  follow (setting_part s t ∷ ps) rows pending i left at_place taken =
      let settled_here = settled_rows c pending rows in
      let rest = flat_map spelled ps in
      let knows = taken.0.0 in
      let ih = rw knows.1 at (follow ps settled_here (as_setting s t) i left at_place taken.1) in
      let first = by_option c idle rows pending i (option_word s) (t ∷ rest) (option_not_dashes s) s knows
      (option_long s) in
      then _ _ _ _ _ _ _ _ first (then _ _ _ _ _ _ _ _ (by_value c s knows settled_here i t rest taken.0.1) ih refl)
      refl
  follow (joined_part s t ∷ ps) rows pending i left at_place taken =
      let settled_here = settled_rows c pending rows in
      let ih = follow ps (used (setting s) (t ∷ []) settled_here) None i left at_place taken.1 in
      let value = by_setting c idle rows pending i (joined_word s t) (flat_map spelled ps) (joined_not_dashes s t) s
      taken.0 t (joined_long s t) in
      then _ _ _ _ _ _ _ _ value ih (first_of_three (settle_fault c false (held rows pending)) _ _)
  follow (flag_part f ∷ ps) rows pending i left at_place taken =
      let settled_here = settled_rows c pending rows in
      let ih = follow ps (used (flag f) [] settled_here) None i left at_place taken.1 in
      let first = by_flag c idle rows pending i (flag_word f) (flat_map spelled ps) (flag_not_dashes f) f taken.0
      (flag_long f) in
      then _ _ _ _ _ _ _ _ first ih (first_of_three (settle_fault c false (held rows pending)) _ _)
  follow (name_part w ∷ ps) rows pending i [] at_place taken = absurd taken.0
  follow (name_part w ∷ ps) rows pending i (a ∷ left) at_place taken =
      let settled_here = settled_rows c pending rows in
      let ih = rw at_place.1.found at (follow ps settled_here (as_value c a w) (suc i) left at_place.3 taken.1) in
      let place = by_place c rows pending i w (flat_map spelled ps) taken.0 a left at_place in
      then _ _ _ _ _ _ _ _ place ih refl

-- ---- from the words to the parts

-- no word is `--`
abbrev pub LacksDashes : List Text → Type 0
LacksDashes [] = ⊤
LacksDashes (x ∷ xs) = IsNotDashes x × LacksDashes xs

module _ (c : List Rule) (help_alone : KnowsHelpAlone c) (long : (name : Text) → Long c name) where
  -- the words begin with a value
  record BeginWithValue (s : Setting) (left : List Rule) (words : List Text) : Type 0 where
    pub knows : KnowsSetting s c
    pub word : Text
    pub rest : List Text
    pub all : words ≡ word ∷ rest
    pub plain : IsPlainWord word
    pub others : ArePartsOf c left rest

  -- an option waits for its value, or none does
  abbrev Waits : Option Setting → Type 0
  Waits (Some s) = KnowsSetting s c
  Waits None = ⊤

  abbrev state : Option Setting → List Row → Pending → ℕ → Walk
  state (Some s) rows pending i = at (for_setting s) rows (no_value_yet s) i
  state None rows pending i = at idle rows pending i

  abbrev AreReadFrom : Option Setting → List Rule → List Text → Type 0
  AreReadFrom (Some s) left words = BeginWithValue s left words
  AreReadFrom None left words = ArePartsOf c left words

  -- the words pass from the state on
  abbrev Pass : Option Setting → ℕ → List Rule → List Text → Type 0
  Pass b i left words = (rows : List Row) (pending : Pending) → AreLeft c i left → Waits b
      → fate c (state b rows pending i) words ≡ [] → AreReadFrom b left words

  no_value : (s : Setting) (rows : List Row) → KnowsSetting s c
      → settle_fault c false (held rows (no_value_yet s)) ≢ []
  no_value s rows knows e = let bad = rw knows.1 at e in absurd cc

  -- a word that an option waits for
  waited : (w : Setting) (x : Text) (xs : List Text) (dashes : IsNotDashes x) → Kind c x
      → ((i : ℕ) (left : List Rule) → Pass None i left xs) → (i : ℕ) (left : List Rule)
      → Pass (Some w) i left (x ∷ xs)
  waited w x xs dashes (is_plain plain) ih i left rows pending at_place knows e =
      let next = sym (by_value c w knows rows i x xs plain).fate_is ∙ e in
      record {
        knows = knows;
        word = x;
        rest = xs;
        all = refl;
        plain = plain;
        others = ih i left rows (as_setting w x) at_place tt next;
      }
  waited w x xs dashes (is_setting s k l) ih i left rows pending at_place knows e =
      let f = by_option c (for_setting w) rows (no_value_yet w) i x xs dashes s k l in
      absurd (no_value w rows knows (no_kinds _ _ (sym f.fate_is ∙ e)).0)
  waited w x xs dashes (sets s k t l) ih i left rows pending at_place knows e =
      let f = by_setting c (for_setting w) rows (no_value_yet w) i x xs dashes s k t l in
      absurd (no_value w rows knows (no_kinds _ _ (no_kinds _ _ (sym f.fate_is ∙ e)).0).0)
  waited w x xs dashes (is_flag g k l) ih i left rows pending at_place knows e =
      let f = by_flag c (for_setting w) rows (no_value_yet w) i x xs dashes g k l in
      absurd (no_value w rows knows (no_kinds _ _ (no_kinds _ _ (sym f.fate_is ∙ e)).0).0)
  waited w x xs dashes (is_refused bad) ih i left rows pending at_place knows e =
      absurd (refused c (for_setting w) rows (no_value_yet w) i x xs bad e)

  -- a word that nothing waits for
  unwaited : (x : Text) (xs : List Text) (dashes : IsNotDashes x) → Kind c x
      → ((b : Option Setting) (i : ℕ) (left : List Rule) → Pass b i left xs)
      → (i : ℕ) (left : List Rule) → Pass None i left (x ∷ xs)
  unwaited x xs dashes (is_plain plain) ih i [] rows pending at_place _ e =
      absurd (stray c rows pending i x xs plain at_place e)
  unwaited x xs dashes (is_plain plain) ih i (a ∷ left) rows pending at_place _ e =
      let s = by_place c rows pending i x xs plain a left at_place in
      let next = ih None (suc i) left _ _ at_place.3 tt (no_kinds _ _ (sym s.fate_is ∙ e)).1 in
      record {
        parts = name_part x ∷ next.parts;
        taken = (plain, next.taken);
        words_are = ap (λ ws. x ∷ ws) next.words_are;
      }
  unwaited x xs dashes (is_setting s knows l) ih i left rows pending at_place _ e =
      let f = by_option c idle rows pending i x xs dashes s knows l in
      let next = ih (Some s) i left _ None at_place knows (no_kinds _ _ (sym f.fate_is ∙ e)).1 in
      let tail = next.all ∙ ap (λ ws. next.word ∷ ws) next.others.words_are in
      record {
        parts = setting_part s next.word ∷ next.others.parts;
        taken = ((knows, next.plain), next.others.taken);
        words_are = λ j. option_spelled s x l j ∷ tail j;
      }
  unwaited x xs dashes (sets s knows t l) ih i left rows pending at_place _ e =
      let f = by_setting c idle rows pending i x xs dashes s knows t l in
      let next = ih None i left _ None at_place tt (no_kinds _ _ (sym f.fate_is ∙ e)).1 in
      record {
        parts = joined_part s t ∷ next.parts;
        taken = (knows, next.taken);
        words_are = λ j. joined_spelled s x t l j ∷ next.words_are j;
      }
  unwaited x xs dashes (is_flag f knows l) ih i left rows pending at_place _ e =
      let s = by_flag c idle rows pending i x xs dashes f knows l in
      let next = ih None i left _ None at_place tt (no_kinds _ _ (sym s.fate_is ∙ e)).1 in
      record {
        parts = flag_part f ∷ next.parts;
        taken = (knows, next.taken);
        words_are = λ j. flag_spelled f x l j ∷ next.words_are j;
      }
  unwaited x xs dashes (is_refused bad) ih i left rows pending at_place _ e =
      absurd (refused c idle rows pending i x xs bad e)

  no_words : (b : Option Setting) (i : ℕ) (left : List Rule) → Pass b i left []
  unfolding walk_fault
  no_words (Some s) i left rows pending at_place knows e = absurd (no_value s rows knows e)
  no_words None i left rows pending at_place _ e = record { parts = []; taken = tt; words_are = refl }

  read_from : (words : List Text) → LacksDashes words → (b : Option Setting) (i : ℕ) (left : List Rule)
      → Pass b i left words
  read_from [] d b = no_words b
  read_from (x ∷ xs) d (Some s) =
      waited s x xs d.0 (kind_of_word c help_alone long x d.0) (read_from xs d.1 None)
  read_from (x ∷ xs) d None =
      unwaited x xs d.0 (kind_of_word c help_alone long x d.0) (read_from xs d.1)

-- ---- a whole command

-- the rules of a command, with these places
pub record AreRules (c : List Rule) (places : List Rule) : Type 0 where
  pub help_alone : KnowsHelpAlone c
  pub long : (name : Text) → Long c name
  pub left : AreLeft c 1 places

-- what fails behind the last word
abbrev pub end_fault : List Rule → List Row → Kinds
end_fault c rows = or_else (defaults_fault rows c) (check_fault (leaf c) (fold with_default rows c) false)

abbrev start : Walk
start = at idle [] None 1

module _ (c places : List Rule) (r : AreRules c places) where
  level_is : (words : List Text)
      → level_fault (leaf c) [] nothing_held words false [] ≡ or_else (fate c start words) (end_fault c
      (last_rows c start words))
  level_is words = sym (first_of_three (walk_fault (leaf c) [] start words) _ _)

  -- what `clap` finds in the words of parts
  pub rows_of_parts : (parts : List Part) → AreTaken c places parts
      → rows_after c [] (flat_map spelled parts) ≡ fold with_default (used_rows [] (uses_of places parts)) c
  rows_of_parts parts taken =
      ap (λ rows. fold with_default rows c) (follow c parts [] None 1 places r.left taken).rows_are

  -- how it fails
  pub fault_of_parts : (parts : List Part) → AreTaken c places parts
      → level_fault (leaf c) [] nothing_held (flat_map spelled parts) false []
      ≡ or_else (uses_fault [] (uses_of places parts)) (end_fault c (used_rows [] (uses_of places parts)))
  fault_of_parts parts taken =
      let f = follow c parts [] None 1 places r.left taken in
      level_is (flat_map spelled parts) ∙ ap₂ or_else f.fate_is (ap (end_fault c) f.rows_are)

  -- words that don't fail are those of parts
  pub parts_of_words : (words : List Text) → LacksDashes words
      → level_fault (leaf c) [] nothing_held words false [] ≡ [] → ArePartsOf c places words
  parts_of_words words d e =
      let passes = (no_kinds (fate c start words) _ (sym (level_is words) ∙ e)).0 in
      read_from c r.help_alone r.long words d None 1 places [] None r.left tt passes
