-- Words that begin a line are those of a draft, and the other way round.
use Rattle.std.proofs.Common.{◌≡◌, ◌≢◌, ◌⊎◌, inl, inr, ⊎_elim, ℕ, suc, ℤ, pos, negsuc, Bool, true, false, List, [], ◌∷◌, ◌++◌, map, Option, None, Some, refl, sym, ap, subst, ◌∙◌, arith}
use Rattle.std.specs.Prelude.{codes, option_map, nat_abs, if◌then◌else◌, ◌==◌, ◌||◌, not}
use Rattle.std.specs.List.{AllByRecursion}
use Rattle.std.specs.Str.{bytes_eq}
use Rattle.std.proofs.lemmas.List.{map-append, append-nil, append_assoc}
use Rattle.std.proofs.lemmas.Bool.{eqb-true, ne_eqb}
use Rattle.std.proofs.lemmas.Slice.Eq.{bytes_eq-Decides}
use Rattle.lexer.specs.declared.token.Word.{Word}
use Rattle.lexer.specs.declared.token.Word.TheVariants.{Num, Text, Other}
use Rattle.prefix.specs.declared.quant.Quant.{Quant}
use Rattle.prefix.specs.declared.quant.Quant.TheVariants.{Exists, Forall}
use Rattle.reading.specs.Words.{is_text, quant_of, is_zero, quant_word}
use Rattle.versions.specs.declared.version.Version.{Version}
use Rattle.versions.specs.declared.version.Version.TheVariants.{One, Two, Three}
use Rattle.qscript.specs.declared.command.Command.{Command}
use Rattle.qscript.specs.declared.command.Command.TheVariants.{Scope as ScopeCommand, Var as VarCommand, Clause as ClauseCommand, Push, Pop, Assume as AssumeCommand, Solve, Value as ValueCommand, Relevant, Trace, Cert, OpenGroup, CloseGroup, Activate as ActivateCommand, Deactivate as DeactivateCommand, GroupCore}
use Rattle.qscript.specs.declared.draft.Line.{Line}
use Rattle.qscript.specs.declared.draft.Line.TheVariants.{Header, Command as Orders}
use Rattle.qscript.specs.declared.draft.Draft.{Draft}
use Rattle.qscript.specs.declared.draft.Draft.TheVariants.{Problem, Format, Scope, ScopeOf, Var, VarOf, Clause, Assume, Value, Open, Activate, Deactivate, Whole}
use Rattle.qscript.specs.Lines.{number, version_number, has_groups, is_of_groups, spelling, clause_words, literals_in, AreLiterals, IsExpected}
use Rattle.qscript.specs.Reads.{IsFront, IsWhole, misfit}
use Rattle.qscript.specs.Run.{entry, singles, openings, group_singles, group_openings, among, or_else, keyword, begun, natural, version_of, after, whole, misfit_of}

-- the words of a draft
abbrev pub words_of : Draft → List Word
words_of Problem = Text (codes "p") ∷ []
words_of Format = Text (codes "p") ∷ Text (codes "qscript") ∷ []
words_of Scope = Text (codes "scope") ∷ []
words_of (ScopeOf q) = Text (codes "scope") ∷ quant_word q ∷ []
words_of Var = Text (codes "var") ∷ []
words_of (VarOf v) = Text (codes "var") ∷ number v ∷ []
words_of (Clause ls) = Text (codes "clause") ∷ map Num ls
words_of Assume = Text (codes "assume") ∷ []
words_of Value = Text (codes "value") ∷ []
words_of Open = Text (codes "open") ∷ []
words_of Activate = Text (codes "activate") ∷ []
words_of Deactivate = Text (codes "deactivate") ∷ []
words_of (Whole l) = spelling l

-- behind a header, and behind one of a version with groups
abbrev pub Headed : Option Version → Type 0
Headed h = (v : Version) × (h ≡ Some v)

abbrev pub Grouped : Option Version → Type 0
Grouped h = (v : Version) × (h ≡ Some v) × (has_groups v ≡ true)

-- a draft of what is expected
abbrev pub Sound : Option Version → Draft → Type 0
Sound h Problem = h ≡ None
Sound h Format = h ≡ None
Sound h Scope = Headed h
Sound h (ScopeOf q) = Headed h
Sound h Var = Headed h
Sound h (VarOf v) = Headed h
Sound h (Clause ls) = Headed h × AreLiterals ls
Sound h Assume = Headed h
Sound h Value = Headed h
Sound h Open = Grouped h
Sound h Activate = Grouped h
Sound h Deactivate = Grouped h
Sound h (Whole l) = IsExpected h l

abbrev pub Spells : Option Version → Draft → List Word → Type 0
Spells h d ws = (words_of d ≡ ws) × Sound h d

-- what tests tell
chosen : {A : Type 0} (b : Bool) (x y : A) → (if b then Some x else None) ≡ Some y → (b ≡ true) × (x ≡ y)
chosen true x y e = (refl, cc)
chosen false x y e = cc

unchosen : {A : Type 0} (b : Bool) (x y : A) → (if b then None else Some x) ≡ Some y → (b ≡ false) × (x ≡ y)
unchosen true x y e = cc
unchosen false x y e = (refl, cc)

mapped : {A B : Type 0} (f : A → B) (o : Option A) (y : B) → option_map f o ≡ Some y → (x : A) × (o ≡ Some x)
    × (f x ≡ y)
mapped f None y e = cc
mapped f (Some x) y e = (x, refl, cc)

either : {A : Type 0} (a b : Option A) (x : A) → or_else a b ≡ Some x → (a ≡ Some x) ⊎ (b ≡ Some x)
either None b x e = inr e
either (Some y) b x e = inl e

text_is : (t : List ℕ) (w : Word) → is_text t w ≡ true → w ≡ Text t
text_is t (Text bytes) h = ap Text ((bytes_eq-Decides bytes t).0 h)
text_is t (Num n) h = cc
text_is t Other h = cc

version_is : (w : Word) (v : Version) → version_of w ≡ Some v → w ≡ number (version_number v)
version_is (Num (pos n)) v e = by (n == 1) (n == 2) (n == 3) refl refl refl e
  where
    by : (b c d : Bool) → (n == 1) ≡ b → (n == 2) ≡ c → (n == 3) ≡ d
        → (if b then Some One else if c then Some Two else if d then Some Three else None) ≡ Some v
        → number n ≡ number (version_number v)
    by true c d e1 e2 e3 e = let same : One ≡ v = cc in ap number (eqb-true n 1 e1)
        ∙ ap (λ v. number (version_number v)) same
    by false true d e1 e2 e3 e = let same : Two ≡ v = cc in ap number (eqb-true n 2 e2)
        ∙ ap (λ v. number (version_number v)) same
    by false false true e1 e2 e3 e = let same : Three ≡ v = cc in ap number (eqb-true n 3 e3)
        ∙ ap (λ v. number (version_number v)) same
    by false false false e1 e2 e3 e = cc
version_is (Num (negsuc n)) v e = cc
version_is (Text t) v e = cc
version_is Other v e = cc

quant_is : (w : Word) (q : Quant) → quant_of w ≡ Some q → w ≡ quant_word q
quant_is w q e = by (is_text (codes "e") w) (is_text (codes "a") w) refl refl e
  where
    by : (b c : Bool) → is_text (codes "e") w ≡ b → is_text (codes "a") w ≡ c
        → (if b then Some Exists else if c then Some Forall else None) ≡ Some q → w ≡ quant_word q
    by true c e1 e2 e = let same : Exists ≡ q = cc in text_is (codes "e") w e1 ∙ ap quant_word same
    by false true e1 e2 e = let same : Forall ≡ q = cc in text_is (codes "a") w e2 ∙ ap quant_word same
    by false false e1 e2 e = cc

natural_is : (w : Word) (n : ℕ) → natural w ≡ Some n → w ≡ number n
natural_is (Num (pos m)) n e = let same : m ≡ n = cc in ap number same
natural_is (Num (negsuc m)) n e = cc
natural_is (Text t) n e = cc
natural_is Other n e = cc

zero_is : (n : ℤ) → is_zero n ≡ true → n ≡ pos 0
zero_is (pos n) h = ap pos (eqb-true n 0 h)
zero_is (negsuc n) h = absurd (let e : suc n ≡ 0 = eqb-true (suc n) 0 h in omega (arith, e))

nonzero_is : (n : ℤ) → is_zero n ≡ false → n ≢ pos 0
nonzero_is n h = λ e. absurd (let z : is_zero n ≡ true = ap is_zero e in cc)

abs_zero : (n : ℤ) → nat_abs n ≡ 0 → n ≡ pos 0
abs_zero (pos n) e = ap pos e
abs_zero (negsuc n) e = absurd (omega (arith, e))

pub is_nonzero : (n : ℤ) → n ≢ pos 0 → is_zero n ≡ false
is_nonzero n h = ne_eqb (nat_abs n) 0 (λ e. h (abs_zero n e))

-- a command of every version, and one of groups
of_any : (h : Option Version) (c : Command) → is_of_groups c ≡ false → Headed h → AreLiterals (literals_in c)
    → IsExpected h (Orders c)
of_any h c any s a = subst (λ h. IsExpected h (Orders c)) (sym s.1) (ap (λ b. not b || has_groups s.0) any, a)

of_group : (h : Option Version) (c : Command) → is_of_groups c ≡ true → literals_in c ≡ [] → Grouped h
    → IsExpected h (Orders c)
of_group h c group none s = subst (λ h. IsExpected h (Orders c)) (sym s.1)
    (ap (λ b. not b || has_groups s.0) group ∙ s.2, subst AreLiterals (sym none) tt)

all_more : (ls : List ℤ) (l : ℤ) → AreLiterals ls → l ≢ pos 0 → AreLiterals (ls ++ l ∷ [])
all_more [] l a h = (h, tt)
all_more (x ∷ ls) l a h = (a.0, all_more ls l a.1 h)

-- a draft with one more word
along : (h : Option Version) (x d : Draft) (ws : List Word) → x ≡ d → Spells h x ws → Spells h d ws
along h x d ws e s = subst (λ d. Spells h d ws) e s

clause_more : (h : Option Version) (ls : List ℤ) (n : ℤ) (d : Draft) (b : Bool) → is_zero n ≡ b → Headed h
    × AreLiterals ls → (if b then Whole (Orders (ClauseCommand ls)) else Clause (ls ++ n ∷ [])) ≡ d
    → Spells h d (words_of (Clause ls) ++ Num n ∷ [])
clause_more h ls n d true z s e = along h _ d _ e (rw (zero_is n z) (refl, of_any h (ClauseCommand ls) refl s.0 s.1))
clause_more h ls n d false z s e = along h _ d _ e (
  ap (λ ws. Text (codes "clause") ∷ ws) (map-append Num ls (n ∷ [])),
  (s.0, all_more ls n s.1 (nonzero_is n z)),
)

some_is : {A : Type 0} (x y : A) → Some x ≡ Some y → x ≡ y
some_is x y e = cc

-- one more word, told in two ways
behind : (h : Option Version) (x d : Draft) (v w : Word) → w ≡ v → Spells h x (words_of d ++ v ∷ [])
    → Spells h x (words_of d ++ w ∷ [])
behind h x d v w e s = subst (λ w. Spells h x (words_of d ++ w ∷ [])) (sym e) s

pub after_word : (h : Option Version) (d more : Draft) (w : Word) → Sound h d → after d w ≡ Some more
    → Spells h more (words_of d ++ w ∷ [])
after_word h Problem more w s e =
    let c = chosen (is_text (codes "qscript") w) Format more e in along h Format more _ c.1
    (behind h Format Problem _ w (text_is (codes "qscript") w c.0) (refl, s))
after_word h Format more w s e =
    let m = mapped (λ v. Whole (Header v)) (version_of w) more e in
    along h (Whole (Header m.0)) more _ m.2 (behind h (Whole (Header m.0)) Format _ w (version_is w m.0 m.1)
    (refl, subst (λ h. IsExpected h (Header m.0)) (sym s) tt))
after_word h Scope more w s e =
    let m = mapped ScopeOf (quant_of w) more e in along h (ScopeOf m.0) more _ m.2
    (behind h (ScopeOf m.0) Scope _ w (quant_is w m.0 m.1) (refl, s))
after_word h (ScopeOf q) more w s e =
    let m = mapped (λ n. Whole (Orders (ScopeCommand q (Some n)))) (natural w) more e in
    along h (Whole (Orders (ScopeCommand q (Some m.0)))) more _ m.2
    (behind h (Whole (Orders (ScopeCommand q (Some m.0)))) (ScopeOf q) _ w (natural_is w m.0 m.1)
    (refl, of_any h (ScopeCommand q (Some m.0)) refl s tt))
after_word h Var more w s e =
    let m = mapped VarOf (natural w) more e in along h (VarOf m.0) more _ m.2
    (behind h (VarOf m.0) Var _ w (natural_is w m.0 m.1) (refl, s))
after_word h (VarOf v) more w s e =
    let m = mapped (λ s. Whole (Orders (VarCommand v s))) (natural w) more e in
    along h (Whole (Orders (VarCommand v m.0))) more _ m.2
    (behind h (Whole (Orders (VarCommand v m.0))) (VarOf v) _ w (natural_is w m.0 m.1)
    (refl, of_any h (VarCommand v m.0) refl s tt))
after_word h (Clause ls) more (Num n) s e = clause_more h ls n more (is_zero n) refl s (some_is _ more e)
after_word h (Clause ls) more (Text t) s e = cc
after_word h (Clause ls) more Other s e = cc
after_word h Assume more (Num n) s e =
    let c = unchosen (is_zero n) (Whole (Orders (AssumeCommand n))) more e in
    along h (Whole (Orders (AssumeCommand n))) more _ c.1
    (refl, of_any h (AssumeCommand n) refl s (nonzero_is n c.0, tt))
after_word h Assume more (Text t) s e = cc
after_word h Assume more Other s e = cc
after_word h Value more w s e =
    let m = mapped (λ v. Whole (Orders (ValueCommand v))) (natural w) more e in
    along h (Whole (Orders (ValueCommand m.0))) more _ m.2
    (behind h (Whole (Orders (ValueCommand m.0))) Value _ w (natural_is w m.0 m.1)
    (refl, of_any h (ValueCommand m.0) refl s tt))
after_word h Open more w s e =
    let m = mapped (λ g. Whole (Orders (OpenGroup g))) (natural w) more e in
    along h (Whole (Orders (OpenGroup m.0))) more _ m.2
    (behind h (Whole (Orders (OpenGroup m.0))) Open _ w (natural_is w m.0 m.1)
    (refl, of_group h (OpenGroup m.0) refl refl s))
after_word h Activate more w s e =
    let m = mapped (λ g. Whole (Orders (ActivateCommand g))) (natural w) more e in
    along h (Whole (Orders (ActivateCommand m.0))) more _ m.2
    (behind h (Whole (Orders (ActivateCommand m.0))) Activate _ w (natural_is w m.0 m.1)
    (refl, of_group h (ActivateCommand m.0) refl refl s))
after_word h Deactivate more w s e =
    let m = mapped (λ g. Whole (Orders (DeactivateCommand g))) (natural w) more e in
    along h (Whole (Orders (DeactivateCommand m.0))) more _ m.2
    (behind h (Whole (Orders (DeactivateCommand m.0))) Deactivate _ w (natural_is w m.0 m.1)
    (refl, of_group h (DeactivateCommand m.0) refl refl s))
after_word h (Whole l) more w s e = cc

-- the entry that is found
entry_first : {A : Type 0} (P : List ℕ × A → Type 0) (k t : List ℕ) (y x : A) (rest : Option A) (b : Bool)
    → bytes_eq t k ≡ b → P (k, y) → (rest ≡ Some x → P (t, x)) → (if b then Some y else rest) ≡ Some x → P (t, x)
entry_first P k t y x rest true eq p later e = let same : y ≡ x = cc in subst (λ y. P (t, y)) same
    (subst (λ k. P (k, y)) (sym ((bytes_eq-Decides t k).0 eq)) p)
entry_first P k t y x rest false eq p later e = later e

entry_is : {A : Type 0} (P : List ℕ × A → Type 0) (es : List (List ℕ × A)) (t : List ℕ) (x : A) → AllByRecursion P es
    → entry es t ≡ Some x → P (t, x)
entry_is P [] t x all e = cc
entry_is P (f ∷ es) t x all e = entry_first P f.0 t f.1 x (entry es t) (bytes_eq t f.0) refl all.0
    (λ g. entry_is P es t x all.1 g) e

-- a text among these lists begins what is expected, where their entries do
among_is : (h : Option Version) (more : List (List ℕ × Draft)) (one : List (List ℕ × Command)) (t : List ℕ) (d : Draft)
    → AllByRecursion (λ (k : List ℕ × Draft). Spells h k.1 (Text k.0 ∷ [])) more
    → AllByRecursion (λ (k : List ℕ × Command). Spells h (Whole (Orders k.1)) (Text k.0 ∷ [])) one
    → among more one t ≡ Some d → Spells h d (Text t ∷ [])
among_is h more one t d all each e = ⊎_elim
    (λ f. entry_is (λ (k : List ℕ × Draft). Spells h k.1 (Text k.0 ∷ [])) more t d all f)
    (λ f. let m = mapped (λ c. Whole (Orders c)) (entry one t) d f in
    along h (Whole (Orders m.0)) d _ m.2
    (entry_is (λ (k : List ℕ × Command). Spells h (Whole (Orders k.1)) (Text k.0 ∷ [])) one t m.0 each m.1))
    (either (entry more t) (option_map (λ c. Whole (Orders c)) (entry one t)) d e)

any_is : (v : Version) (t : List ℕ) (d : Draft) → among openings singles t ≡ Some d → Spells (Some v) d (Text t ∷ [])
any_is v t d e = among_is (Some v) openings singles t d
    ((refl, h), ((refl, h), ((refl, (h, tt)), ((refl, h), ((refl, h), tt))))) (
      (refl, (refl, tt)),
      (
        (refl, (refl, tt)),
        ((refl, (refl, tt)), ((refl, (refl, tt)), ((refl, (refl, tt)), ((refl, (refl, tt)), tt)))),
      ),
    ) e
  where
    h : Headed (Some v)
    h = (v, refl)

group_is : (v : Version) (t : List ℕ) (d : Draft) → has_groups v ≡ true → among group_openings group_singles t ≡ Some d
    → Spells (Some v) d (Text t ∷ [])
group_is v t d has e = among_is (Some v) group_openings group_singles t d
    ((refl, g), ((refl, g), ((refl, g), tt))) ((refl, (has, tt)), ((refl, (has, tt)), tt)) e
  where
    g : Grouped (Some v)
    g = (v, refl, has)

keyword_is : (v : Version) (t : List ℕ) (d : Draft) → keyword v t ≡ Some d → Spells (Some v) d (Text t ∷ [])
keyword_is v t d e = ⊎_elim (any_is v t d) (by (has_groups v) refl)
    (either (among openings singles t) (if has_groups v then among group_openings group_singles t else None) d e)
  where
    by : (b : Bool) → has_groups v ≡ b → (if b then among group_openings group_singles t else None) ≡ Some d
        → Spells (Some v) d (Text t ∷ [])
    by true has f = group_is v t d has f
    by false has f = cc

pub begun_word : (h : Option Version) (w : Word) (d : Draft) → begun h w ≡ Some d → Spells h d (w ∷ [])
begun_word None w d e = let c = chosen (is_text (codes "p") w) Problem d e in along None Problem d _ c.1
    (rw (text_is (codes "p") w c.0) (refl, refl))
begun_word (Some v) (Text t) d e = keyword_is v t d e
begun_word (Some v) (Num n) d e = cc
begun_word (Some v) Other d e = cc

pub whole_words : (h : Option Version) (d : Draft) (l : Line) → Sound h d → whole d ≡ Some l → (spelling l ≡ words_of d)
    × IsExpected h l
whole_words h (ScopeOf q) l s e = let same : Orders (ScopeCommand q None) ≡ l = cc in
    subst (λ l. (spelling l ≡ words_of (ScopeOf q)) × IsExpected h l) same
    (refl, of_any h (ScopeCommand q None) refl s tt)
whole_words h (Whole x) l s e = let same : x ≡ l = cc in subst (λ l. (spelling l ≡ spelling x) × IsExpected h l) same
    (refl, s)
whole_words h Problem l s e = cc
whole_words h Format l s e = cc
whole_words h Scope l s e = cc
whole_words h Var l s e = cc
whole_words h (VarOf v) l s e = cc
whole_words h (Clause ls) l s e = cc
whole_words h Assume l s e = cc
whole_words h Value l s e = cc
whole_words h Open l s e = cc
whole_words h Activate l s e = cc
whole_words h Deactivate l s e = cc

-- the draft of words
abbrev pub follows : Option Draft → List Word → Option Draft
follows None ws = None
follows (Some d) [] = Some d
follows (Some d) (w ∷ ws) = follows (after d w) ws

abbrev pub runs : Option Version → List Word → Option Draft
runs h [] = None
runs h (w ∷ ws) = follows (begun h w) ws

pub follows_front : (o : Option Draft) (xs ys : List Word) (d : Draft) → follows o (xs ++ ys) ≡ Some d → (f : Draft)
    × (follows o xs ≡ Some f)
follows_front None xs ys d e = cc
follows_front (Some x) [] ys d e = (x, refl)
follows_front (Some x) (w ∷ xs) ys d e = follows_front (after x w) xs ys d e

follows_none : (o : Option Draft) → follows o [] ≡ o
follows_none None = refl
follows_none (Some d) = refl

pub follows_more : (o : Option Draft) (xs : List Word) (w : Word) (d : Draft) → follows o xs ≡ Some d
    → follows o (xs ++ w ∷ []) ≡ after d w
follows_more None xs w d e = cc
follows_more (Some x) [] w d e = let same : x ≡ d = cc in ap (λ x. follows (after x w) []) same
    ∙ follows_none (after d w)
follows_more (Some x) (v ∷ xs) w d e = follows_more (after x v) xs w d e

clause_runs : (front ls all : List ℤ) → AreLiterals ls → front ++ ls ≡ all → follows (Some (Clause front))
    (clause_words ls) ≡ Some (Whole (Orders (ClauseCommand all)))
clause_runs front [] all a e = ap (λ ls. Some (Whole (Orders (ClauseCommand ls)))) (sym (append-nil front) ∙ e)
clause_runs front (l ∷ ls) all a e =
    ap (λ b. follows (Some (if b then Whole (Orders (ClauseCommand front)) else Clause (front ++ l ∷ [])))
    (clause_words ls)) (is_nonzero l a.0)
    ∙ clause_runs (front ++ l ∷ []) ls all a.1 (append_assoc front (l ∷ []) ls ∙ e)

-- what is read behind a first word of groups, where the version has these
opened : {A : Type 0} (run : Bool → A) (v : Version) {x : A} → has_groups v ≡ true → run true ≡ x
    → run (has_groups v) ≡ x
opened run v has e = ap run has ∙ e

-- the words of a line give a draft of this line
pub spelled_runs : (h : Option Version) (l : Line) → IsExpected h l → (d : Draft) × (runs h (spelling l) ≡ Some d)
    × (whole d ≡ Some l)
spelled_runs None (Header One) x = (Whole (Header One), refl, refl)
spelled_runs None (Header Two) x = (Whole (Header Two), refl, refl)
spelled_runs None (Header Three) x = (Whole (Header Three), refl, refl)
spelled_runs None (Orders c) x = absurd x
spelled_runs (Some v) (Header w) x = absurd x
spelled_runs (Some v) (Orders (ScopeCommand Exists None)) x = (ScopeOf Exists, refl, refl)
spelled_runs (Some v) (Orders (ScopeCommand Forall None)) x = (ScopeOf Forall, refl, refl)
spelled_runs (Some v) (Orders (ScopeCommand Exists (Some n))) x =
    (Whole (Orders (ScopeCommand Exists (Some n))), refl, refl)
spelled_runs (Some v) (Orders (ScopeCommand Forall (Some n))) x =
    (Whole (Orders (ScopeCommand Forall (Some n))), refl, refl)
spelled_runs (Some v) (Orders (VarCommand w s)) x = (Whole (Orders (VarCommand w s)), refl, refl)
spelled_runs (Some v) (Orders (ClauseCommand ls)) x = (
  Whole (Orders (ClauseCommand ls)),
  clause_runs [] ls ls x.1 refl,
  refl,
)
spelled_runs (Some v) (Orders Push) x = (Whole (Orders Push), refl, refl)
spelled_runs (Some v) (Orders Pop) x = (Whole (Orders Pop), refl, refl)
spelled_runs (Some v) (Orders (AssumeCommand l)) x = (
  Whole (Orders (AssumeCommand l)),
  ap (λ b. follows (if b then None else Some (Whole (Orders (AssumeCommand l)))) []) (is_nonzero l x.1.0),
  refl,
)
spelled_runs (Some v) (Orders Solve) x = (Whole (Orders Solve), refl, refl)
spelled_runs (Some v) (Orders (ValueCommand w)) x = (Whole (Orders (ValueCommand w)), refl, refl)
spelled_runs (Some v) (Orders Relevant) x = (Whole (Orders Relevant), refl, refl)
spelled_runs (Some v) (Orders Trace) x = (Whole (Orders Trace), refl, refl)
spelled_runs (Some v) (Orders Cert) x = (Whole (Orders Cert), refl, refl)
spelled_runs (Some v) (Orders (OpenGroup g)) x = (
  Whole (Orders (OpenGroup g)),
  opened (λ b. follows (if b then among group_openings group_singles (codes "open") else None) (number g ∷ [])) v x.0
      refl,
  refl,
)
spelled_runs (Some v) (Orders CloseGroup) x = (
  Whole (Orders CloseGroup),
  opened (λ b. follows (if b then among group_openings group_singles (codes "close") else None) []) v x.0 refl,
  refl,
)
spelled_runs (Some v) (Orders (ActivateCommand g)) x = (
  Whole (Orders (ActivateCommand g)),
  opened (λ b. follows (if b then among group_openings group_singles (codes "activate") else None) (number g ∷ [])) v
      x.0 refl,
  refl,
)
spelled_runs (Some v) (Orders (DeactivateCommand g)) x = (
  Whole (Orders (DeactivateCommand g)),
  opened (λ b. follows (if b then among group_openings group_singles (codes "deactivate") else None) (number g ∷ []))
      v x.0 refl,
  refl,
)
spelled_runs (Some v) (Orders GroupCore) x = (
  Whole (Orders GroupCore),
  opened (λ b. follows (if b then among group_openings group_singles (codes "core") else None) []) v x.0 refl,
  refl,
)

-- a draft can be finished
front_of : (h : Option Version) (d : Draft) → Sound h d → IsFront h (words_of d)
front_of h Problem s = record {
  line = Header One;
  more = Text (codes "qscript") ∷ number 1 ∷ [];
  expected = rw s tt;
  spelled = refl;
}
front_of h Format s = record { line = Header One; more = number 1 ∷ []; expected = rw s tt; spelled = refl }
front_of h Scope s = record {
  line = Orders (ScopeCommand Exists None);
  more = quant_word Exists ∷ [];
  expected =
      of_any h (ScopeCommand Exists None) refl s tt;
  spelled = refl;
}
front_of h (ScopeOf q) s = record {
  line = Orders (ScopeCommand q None);
  more = [];
  expected =
      of_any h (ScopeCommand q None) refl s tt;
  spelled = refl;
}
front_of h Var s = record {
  line = Orders (VarCommand 0 0);
  more = number 0 ∷ number 0 ∷ [];
  expected =
      of_any h (VarCommand 0 0) refl s tt;
  spelled = refl;
}
front_of h (VarOf v) s = record {
  line = Orders (VarCommand v 0);
  more = number 0 ∷ [];
  expected =
      of_any h (VarCommand v 0) refl s tt;
  spelled = refl;
}
front_of h (Clause ls) s = record {
  line = Orders (ClauseCommand ls);
  more = number 0 ∷ [];
  expected =
      of_any h (ClauseCommand ls) refl s.0 s.1;
  spelled = refl;
}
front_of h Assume s = record {
  line = Orders (AssumeCommand (pos 1));
  more = number 1 ∷ [];
  expected =
      of_any h (AssumeCommand (pos 1)) refl s ((λ e. cc), tt);
  spelled = refl;
}
front_of h Value s = record {
  line = Orders (ValueCommand 0);
  more = number 0 ∷ [];
  expected = of_any h (ValueCommand 0)
      refl s tt;
  spelled = refl;
}
front_of h Open s = record {
  line = Orders (OpenGroup 0);
  more = number 0 ∷ [];
  expected = of_group h (OpenGroup 0) refl
      refl s;
  spelled = refl;
}
front_of h Activate s = record {
  line = Orders (ActivateCommand 0);
  more = number 0 ∷ [];
  expected =
      of_group h (ActivateCommand 0) refl refl s;
  spelled = refl;
}
front_of h Deactivate s = record {
  line = Orders (DeactivateCommand 0);
  more = number 0 ∷ [];
  expected =
      of_group h (DeactivateCommand 0) refl refl s;
  spelled = refl;
}
front_of h (Whole l) s = record { line = l; more = []; expected = s; spelled = sym (append-nil (spelling l)) }

pub no_word : (h : Option Version) → IsFront h []
no_word (Some v) = record { line = Orders Push; more = Text (codes "push") ∷ []; expected = (refl, tt); spelled = refl }
no_word None = record { line = Header One; more = spelling (Header One); expected = tt; spelled = refl }

follows_step : (h : Option Version) (d : Draft) (w : Word) (ws : List Word) (e : Draft) (o : Option Draft) → Sound h d
    → after d w ≡ o → ((m : Draft) → Sound h m → follows (Some m) ws ≡ Some e → Spells h e (words_of m ++ ws))
    → follows o ws ≡ Some e → Spells h e (words_of d ++ w ∷ ws)
follows_step h d w ws e None s a later f = cc
follows_step h d w ws e (Some m) s a later f =
    let one : Spells h m (words_of d ++ w ∷ []) = after_word h d m w s a in
    let all : Spells h e (words_of m ++ ws) = later m one.1 f in
    (all.0 ∙ ap (λ r. r ++ ws) one.0 ∙ append_assoc (words_of d) (w ∷ []) ws, all.1)

follows_spells : (h : Option Version) (d : Draft) (ws : List Word) (e : Draft) → Sound h d
    → follows (Some d) ws ≡ Some e → Spells h e (words_of d ++ ws)
follows_spells h d [] e s f = along h d e _ (some_is d e f) (sym (append-nil (words_of d)), s)
follows_spells h d (w ∷ ws) e s f = follows_step h d w ws e (after d w) s refl (λ m t g. follows_spells h m ws e t g) f

pub runs_spells : (h : Option Version) (ws : List Word) (d : Draft) → runs h ws ≡ Some d → Spells h d ws
runs_spells h [] d e = cc
runs_spells h (w ∷ ws) d e = by (begun h w) refl e
  where
    by : (o : Option Draft) → begun h w ≡ o → follows o ws ≡ Some d → Spells h d (w ∷ ws)
    by None b f = cc
    by (Some m) b f =
        let one : Spells h m (w ∷ []) = begun_word h w m b in
        let all : Spells h d (words_of m ++ ws) = follows_spells h m ws d one.1 f in
        (all.0 ∙ ap (λ r. r ++ ws) one.0, all.1)

-- words that have a draft are the front of a line
pub runs_front : (h : Option Version) (ws : List Word) (d : Draft) → runs h ws ≡ Some d → IsFront h ws
runs_front h ws d e = let s : Spells h d ws = runs_spells h ws d e in subst (λ ws. IsFront h ws) s.0 (front_of h d s.1)

-- the front of a line has a draft
pub front_runs : (h : Option Version) (w : Word) (ws : List Word) → IsFront h (w ∷ ws) → (d : Draft)
    × (runs h (w ∷ ws) ≡ Some d)
front_runs h w ws f =
    let r : (d : Draft) × (runs h (spelling f.line) ≡ Some d) × (whole d ≡ Some f.line) =
    spelled_runs h f.line f.expected in
    follows_front (begun h w) ws f.more r.0 (sym (ap (runs h) f.spelled) ∙ r.1)

-- words that are a line have a draft of it
pub whole_runs : (h : Option Version) (ws : List Word) (d : Draft) → runs h ws ≡ Some d → IsWhole h ws → (l : Line)
    × (whole d ≡ Some l)
whole_runs h ws d e w =
    let r : (d : Draft) × (runs h (spelling w.0) ≡ Some d) × (whole d ≡ Some w.0) = spelled_runs h w.0 w.1 in
    let same : r.0 ≡ d = some_is r.0 d (sym r.1 ∙ ap (runs h) w.2 ∙ e) in
    (w.0, subst (λ d. whole d ≡ Some w.0) same r.2)

behind_first : (h : Option Version) (w : Word) (ws : List Word) (v : Version) → h ≡ Some v → 32 ≡ misfit h (w ∷ ws)
behind_first h w ws v e = sym (ap (λ h. misfit h (w ∷ ws)) e)

pub misfit_is : (h : Option Version) (w : Word) (ws : List Word) (d : Draft) → Sound h d → misfit_of d ≡ misfit h
    (w ∷ ws)
misfit_is h w ws Problem s = rw s refl
misfit_is h w ws Format s = rw s refl
misfit_is h w ws Scope s = behind_first h w ws s.0 s.1
misfit_is h w ws (ScopeOf q) s = behind_first h w ws s.0 s.1
misfit_is h w ws Var s = behind_first h w ws s.0 s.1
misfit_is h w ws (VarOf v) s = behind_first h w ws s.0 s.1
misfit_is h w ws (Clause ls) s = behind_first h w ws s.0.0 s.0.1
misfit_is h w ws Assume s = behind_first h w ws s.0 s.1
misfit_is h w ws Value s = behind_first h w ws s.0 s.1
misfit_is h w ws Open s = behind_first h w ws s.0 s.1
misfit_is h w ws Activate s = behind_first h w ws s.0 s.1
misfit_is h w ws Deactivate s = behind_first h w ws s.0 s.1
misfit_is (Some v) w ws (Whole (Header x)) s = absurd s
misfit_is (Some v) w ws (Whole (Orders c)) s = refl
misfit_is None w ws (Whole (Header x)) s = refl
misfit_is None w ws (Whole (Orders c)) s = absurd s
