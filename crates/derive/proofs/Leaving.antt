-- Steps that name variables outside a prefix, and prefixes from which variables left.
use Rattle.std.proofs.Common.{◌≡◌, ℕ, ◌<◌, ◌≤◌, Bool, true, false, List, Contains, Option, Some, None, is_none, is_some, sym, refl, ap, subst, ◌∙◌, ⊎_elim, arith}
use Rattle.std.proofs.lemmas.Bool.{cases_Bool, cases_lt, true≢false}
use Rattle.prefix.specs.declared.quant.Quant.{Quant}
use Rattle.prefix.specs.Literal.{Literal}
use Rattle.prefix.specs.Scopes.{Scope, all_variables, level_of}
use Rattle.rows.specs.Arena.{Arena, literals_at}
use Rattle.calculus.specs.Rows.{Row, variables_in}
use Rattle.calculus.specs.Derivations.{AgreeOn, Extends}
use Rattle.calculus.proofs.Lists.{any_from}
use Rattle.calculus.proofs.Levels.{level_in_prefix}
use Rattle.derive.specs.State.{Note, Notes, State, arena_of, is_live, note_in, row_of, side_in}
use Rattle.derive.specs.Antecedents.{AreSupported}
use Rattle.derive.specs.Dropping.{Falls, NoneOutsideBelow, StepTest, is_outside, mentions, names}
use Rattle.derive.specs.Dropping.Falls.{rests, root}
use Rattle.derive.specs.Theorems.{IsNamed}
use Rattle.derive.proofs.Drops.{map_at}

-- rows with the same literals name the same variables
pub names_same : (test : ℕ → Bool) (old_rows rows : Arena) (id : ℕ) (note : Note)
    → literals_at rows id ≡ literals_at old_rows id → names test rows id note ≡ names test old_rows id note
names_same test old_rows rows id note e = ap (mentions test) e

-- a root with which a step falls: of its side, and no later
pub record FallsWith (is_root : StepTest) (notes : Notes) (id : ℕ) : Type 0 where
  pub at : ℕ
  pub note : Note
  pub there : note_in notes at ≡ Some note
  pub is : is_root at note ≡ true
  pub no_later : at ≤ id
  pub one_side : note.side ≡ side_in (note_in notes id)

pub falls_with_root : (is_root : StepTest) (notes : Notes) → AreSupported notes → (id : ℕ) → Falls is_root notes id
    → FallsWith is_root notes id
falls_with_root is_root notes supported id (root j note there r) =
    record {
      at = id;
      note = note;
      there = there;
      is = r;
      no_later = omega arith;
      one_side = sym (ap side_in there);
    }
falls_with_root is_root notes supported id (rests j on note there r falls) =
    let g = (supported id note there).antecedents on r in
    let h = falls_with_root is_root notes supported on falls in
    record {
      at = h.at;
      note = h.note;
      there = h.there;
      is = h.is;
      no_later = let before = g.earlier in let within = h.no_later in omega arith;
      one_side = h.one_side ∙ (ap side_in g.there ∙ (g.one_side ∙ sym (ap side_in there)));
    }

-- where none of a side from an id on is a root before another id, and none at all below the first, what falls of the
-- side comes no earlier than the other
pub falls_no_earlier : (test : ℕ → Bool) (rows : Arena) (notes : Notes) (side : Quant) (from first : ℕ)
    → AreSupported notes
    → ((id : ℕ) (note : Note) → note_in notes id ≡ Some note → id < from → names test rows id note ≡ false)
    → ((id : ℕ) (note : Note) → note_in notes id ≡ Some note → from ≤ id → id < first → note.side ≡ side
    → names test rows id note ≡ false)
    → (id : ℕ) → Falls (names test rows) notes id → side_in (note_in notes id) ≡ side → first ≤ id
falls_no_earlier test rows notes side from first supported below none id falls of_side =
    ⊎_elim
    (λ (low : id < first).
    let f = falls_with_root (names test rows) notes supported id falls in
    let near = f.no_later in
    ⊎_elim
    (λ (under : f.at < from). absurd (true≢false (sym f.is ∙ below f.at f.note f.there under)))
    (λ (over : from ≤ f.at).
    absurd (true≢false (sym f.is ∙ none f.at f.note f.there over (omega arith) (f.one_side ∙ of_side))))
    (cases_lt f.at from))
    (λ (high : first ≤ id). high)
    (cases_lt id first)

-- none below, by the notes
pub none_noted : (scopes : List Scope) (from : ℕ) (d : State) (notes : Notes) (rows : Arena) → notes ≡ d.notes
    → arena_of d ≡ rows → NoneOutsideBelow scopes from d → (id : ℕ) (note : Note) → note_in notes id ≡ Some note
    → id < from → names (is_outside scopes) rows id note ≡ false
none_noted scopes from d notes rows same here below id note there low =
    subst (λ (a : Arena). mentions (is_outside scopes) (literals_at a id) ≡ false) here
    (below id low (ap is_some (ap (λ (ns : Notes). note_in ns id) (sym same) ∙ there)))

-- what a row names that names nothing outside a prefix is in it
level_there : (scopes : List Scope) (x : ℕ) (o : Option ℕ) → level_of scopes x ≡ o → is_none o ≡ false
    → Contains (all_variables scopes) x
level_there scopes x None e h = absurd (true≢false h)
level_there scopes x (Some n) e h = level_in_prefix scopes x n e

pub inside : (scopes : List Scope) (row : Row) (x : ℕ) → mentions (is_outside scopes) row ≡ false
    → Contains (variables_in row) x → Contains (all_variables scopes) x
inside scopes row x none at =
    let l = map_at (λ (k : Literal). k.variable) row x at in
    level_there scopes x (level_of scopes x) refl
    (⊎_elim
    (λ out. absurd (true≢false (sym (any_from (λ (k : Literal). is_outside scopes k.variable) row l.0 l.1
    (ap (is_outside scopes) l.2 ∙ out)) ∙ none)))
    (λ is. is)
    (cases_Bool (is_outside scopes x)))

pub named_inside : (scopes : List Scope) (d : State)
    → ((id : ℕ) → is_live d id ≡ true → mentions (is_outside scopes) (row_of d id) ≡ false) → (x : ℕ) → IsNamed d x
    → Contains (all_variables scopes) x
named_inside scopes d none x named = inside scopes (row_of d named.0) x (none named.0 named.1) named.2

-- a prefix agrees with a larger one on its own variables
pub agree_smaller : (old new : List Scope) → Extends new old → AgreeOn old new (Contains (all_variables new))
agree_smaller old new extends = record {
  has = λ x at. at;
  quantifiers = λ x at. sym (extends.quantifiers x at);
  depths = λ x y at to. sym (extends.depths x y at to);
}

-- and so on what the live steps name, where they name nothing else
pub agree_named : (old new : List Scope) (d : State) → Extends new old
    → ((id : ℕ) → is_live d id ≡ true → mentions (is_outside new) (row_of d id) ≡ false) → AgreeOn old new (IsNamed d)
agree_named old new d extends none =
    let agree = agree_smaller old new extends in
    record {
      has = λ x h. named_inside new d none x h;
      quantifiers = λ x h. agree.quantifiers x (named_inside new d none x h);
      depths = λ x y h k. agree.depths x y (named_inside new d none x h) (named_inside new d none y k);
    }
