-- Assumptions, one after the other.
use Rattle.std.proofs.Common.{Bool, false, append-nil, append_assoc, replicate, Result, Ok, Err, ◌≡◌, ◌≢◌, ℕ, zero, suc, ◌+◌, ◌<◌, ◌≤◌, true, List, [], ◌∷◌, ◌++◌, length, map, take, get_or, Contains, None, refl, sym, ap, ◌∙◌, ⊎_elim, arith, nat_eq}
use Rattle.std.proofs.lemmas.Bool.{eq-eqb, ne_eqb, or_left, or_right, true≢false}
use Rattle.std.proofs.lemmas.List.{length-take-le, take_more, length_push, map-append}
use Rattle.prefix.specs.Literal.{Literal}
use Rattle.prefix.specs.Scopes.{Scope, is_among, AreDistinct}
use Rattle.steps.specs.Counter.{Counter, after, left}
use Rattle.calculus.specs.Rows.{depth_of, variables_in}
use Rattle.calculus.specs.Search.{Placed, Trail, value_on}
use Rattle.calculus.specs.Search.Cause.{Assumed}
use Rattle.calculus.proofs.Lists.{contains_cons, contains_nil}
use Rattle.calculus.proofs.Trails.{value_past}
use Rattle.trail.specs.declared.allowed.Allowed.{Allowed}
use Rattle.trail.specs.declared.allowed.Allowed.TheVariants.{Anything, Nothing}
use Rattle.trail.proofs.Finishing.{with_length}
use Rattle.trail.specs.Open.{finished_after, finished_assumed, is_finished}
use Rattle.trail.specs.State.{TrailState, MayFollow, IsTrailFor, assumed, allowed_after, counted, given_up, unmarked, with_assumed, with_literal}
use Rattle.trail.specs.Finished.{emptied}
use Rattle.std.specs.Result.{OnErr}

-- some literals were assumed, with a step for each
pub record HasAssumed (scopes : List Scope) (old now : TrailState) (literals : List Literal) (first then : Counter)
    (i : ℕ) : Type 0 where
  pub trail : now ≡ with_assumed scopes old (take i literals)
  pub steps : then ≡ after first i
  pub few : i ≤ left first
  pub kept : IsTrailFor scopes now

among_at : (ls : List Literal) (i : ℕ) (l : Literal) → i < length ls → l ≡ get_or ls i l → is_among l.variable
    (variables_in ls) ≡ true
among_at [] i l below is = absurd (omega arith)
among_at (m ∷ ls) zero l below is = or_left (nat_eq m.variable l.variable) (is_among l.variable (variables_in ls))
    (eq-eqb m.variable l.variable (ap (λ (k : Literal). k.variable) (sym is)))
among_at (m ∷ ls) (suc i) l below is = or_right (nat_eq m.variable l.variable) (is_among l.variable (variables_in ls))
    (among_at ls i l (omega arith) is)

-- the next one's variable is unassigned
pub assumed_new : (ls : List Literal) (i : ℕ) (l : Literal) → AreDistinct (variables_in ls) → i < length ls
    → l ≡ get_or ls i l → value_on (map assumed (take i ls)) l.variable ≡ None
assumed_new [] i l distinct below is = absurd (omega arith)
assumed_new (m ∷ ls) zero l distinct below is = refl
assumed_new (m ∷ ls) (suc i) l distinct below is =
    let differs : m.variable ≡ l.variable → ⊥ = λ e. true≢false
    (sym (among_at ls i l (omega arith) is) ∙ (ap (λ x. is_among x (variables_in ls)) (sym e) ∙ distinct.0)) in
    value_past (assumed m) (map assumed (take i ls)) l.variable (ne_eqb m.variable l.variable differs)
    ∙ assumed_new ls i l distinct.1 (omega arith) is

pub all_assumed : (ls : List Literal) (p : Placed) → Contains (map assumed ls) p → p.cause ≡ Assumed
all_assumed [] p i = absurd (contains_nil p i)
all_assumed (l ∷ ls) p i = ⊎_elim (λ e. ap (λ (q : Placed). q.cause) (sym e)) (λ j. all_assumed ls p j)
    (contains_cons (assumed l) (map assumed ls) p i)

pub may_assume : (ls : List Literal) (allowed : Allowed) → MayFollow allowed Assumed
    → MayFollow (allowed_after ls allowed) Assumed
may_assume [] allowed h = h
may_assume (l ∷ ls) allowed h = tt

counted_more : (assigned more : ℕ) → counted (counted assigned more) 1 ≡ counted assigned (suc more)
counted_more assigned zero = refl
counted_more assigned (suc more) = omega arith

allowed_anything : (ls : List Literal) (l : Literal) (allowed : Allowed) → Anything ≡ allowed_after (ls ++ l ∷ [])
    allowed
allowed_anything [] l allowed = refl
allowed_anything (m ∷ ls) l allowed = refl

-- the scopes known to be all assigned, after one more
finished_more : (scopes : List Scope) (earlier : Trail) (ls : List Literal) (l : Literal) (finished : List Bool)
    → finished_assumed scopes earlier (ls ++ l ∷ []) finished ≡ finished_after scopes (earlier ++ map assumed ls) l
    Assumed (finished_assumed scopes earlier ls finished)
finished_more scopes earlier [] l finished = ap (λ t. finished_after scopes t l Assumed finished)
    (sym (append-nil earlier))
finished_more scopes earlier (m ∷ ls) l finished =
    let now : List Bool = finished_after scopes earlier m Assumed finished in
    let more : Trail = earlier ++ assumed m ∷ [] in
    finished_more scopes more ls l now
    ∙ ap (λ t. finished_after scopes t l Assumed (finished_assumed scopes more ls now))
    (append_assoc earlier (assumed m ∷ []) (map assumed ls))

pub assumed_length : (scopes : List Scope) (earlier : Trail) (ls : List Literal) (finished : List Bool)
    → length (finished_assumed scopes earlier ls finished) ≡ length finished
assumed_length scopes earlier [] finished = refl
assumed_length scopes earlier (l ∷ ls) finished =
    assumed_length scopes (earlier ++ assumed l ∷ []) ls (finished_after scopes earlier l Assumed finished)
    ∙ with_length (is_finished scopes (earlier ++ assumed l ∷ []) (depth_of scopes l.variable)) false
    (depth_of scopes l.variable) finished

-- one more assumption
pub assumed_more : (scopes : List Scope) (t : TrailState) (ls : List Literal) (l : Literal) → with_literal scopes
    (with_assumed scopes t ls) l Assumed ≡ with_assumed scopes t (ls ++ l ∷ [])
assumed_more scopes t ls l =
    let depth : Literal → ℕ = λ (m : Literal). depth_of scopes m.variable in
    let placed : map assumed ls ++ assumed l ∷ [] ≡ map assumed (ls ++ l ∷ []) = sym (map-append assumed ls (l ∷ [])) in
    let depths : map depth ls ++ depth l ∷ [] ≡ map depth (ls ++ l ∷ []) = sym (map-append depth ls (l ∷ [])) in
    let marks : map unmarked ls ++ false ∷ [] ≡ map unmarked (ls ++ l ∷ []) = sym (map-append unmarked ls (l ∷ [])) in
    let longer : suc (length ls) ≡ length (ls ++ l ∷ []) = (let h = length_push ls l in omega arith) in
    let number : counted (counted t.assigned (length ls)) 1 ≡ counted t.assigned (length (ls ++ l ∷ [])) =
    counted_more t.assigned (length ls) ∙ ap (counted t.assigned) longer in
    let finished = sym (finished_more scopes [] ls l t.finished) in
    let next = allowed_anything ls l t.allowed in
    λ i. record {
      placed = placed i;
      depths = depths i;
      marks = marks i;
      finished = finished i;
      assigned = number i;
      restarts = t.restarts;
      room = t.room;
      allowed = next i;
    }

pub assumed_next : (scopes : List Scope) (t : TrailState) (ls : List Literal) (i : ℕ) (l : Literal) → i < length ls
    → l ≡ get_or ls i l → with_literal scopes (with_assumed scopes t (take i ls)) l Assumed ≡ with_assumed scopes t
    (take (i + 1) ls)
assumed_next scopes t ls i l below is =
    assumed_more scopes t (take i ls) l ∙ ap (with_assumed scopes t)
    (ap (λ m. take i ls ++ m ∷ []) is ∙ sym (take_more ls i l below))

nothing : (bs : List Bool) → length bs ≡ 0 → bs ≡ []
nothing [] e = refl
nothing (b ∷ bs) e = absurd (let long : length (b ∷ bs) ≡ suc (length bs) = refl in omega arith)

-- none is assumed yet
pub assumed_none : (scopes : List Scope) (t : TrailState) → IsTrailFor scopes t → t.placed ≡ []
    → t ≡ with_assumed scopes t []
assumed_none scopes t kept empty =
    let none : t.depths ≡ [] = kept.numbered ∙ ap (map (λ (p : Placed). depth_of scopes p.literal.variable)) empty in
    let bare : t.marks ≡ [] = nothing t.marks (kept.marked ∙ ap length empty) in
    λ i. record {
      placed = empty i;
      depths = none i;
      marks = bare i;
      finished = t.finished;
      assigned = t.assigned;
      restarts = t.restarts;
      room = t.room;
      allowed = t.allowed;
    }

-- steps
pub after_none : (c : Counter) → c ≡ after c 0
after_none c = let same : c.spent ≡ c.spent + 0 = omega arith in λ i. record { spent = same i; budget = c.budget }

pub after_next : (c : Counter) (i : ℕ) → after (after c i) 1 ≡ after c (i + 1)
after_next c i = let same : c.spent + i + 1 ≡ c.spent + (i + 1) = omega arith in
    λ j. record { spent = same j; budget = c.budget }

pub few_next : (first then : Counter) (i : ℕ) → then ≡ after first i → then.spent ≤ then.budget
    → (then.spent ≡ then.budget → ⊥) → i + 1 ≤ left first
few_next first then i e within more =
    let spent : then.spent ≡ first.spent + i = ap (λ (c : Counter). c.spent) e in
    let budget : then.budget ≡ first.budget = ap (λ (c : Counter). c.budget) e in
    let differs : then.spent ≢ then.budget = more in
    omega arith

pub all_left : (first then : Counter) (i : ℕ) → then ≡ after first i → then.spent ≡ then.budget → i ≡ left first
all_left first then i e same =
    let spent : then.spent ≡ first.spent + i = ap (λ (c : Counter). c.spent) e in
    let budget : then.budget ≡ first.budget = ap (λ (c : Counter). c.budget) e in
    omega arith

-- assumptions that are given up
pub given_up_is : (scopes : List Scope) (t now : TrailState) (ls : List Literal) (left : ℕ) (placed : Trail)
    (depths : List ℕ) (marks finished : List Bool) (assigned restarts room : ℕ) → placed ≡ [] → depths ≡ [] → marks ≡ []
    → finished ≡ emptied now.finished → assigned ≡ now.assigned → restarts ≡ now.restarts → room ≡ now.room
    → now ≡ with_assumed scopes t (take left ls) → left < length ls
    → record {
      placed = placed;
      depths = depths;
      marks = marks;
      finished = finished;
      assigned = assigned;
      restarts =
          restarts;
      room = room;
      allowed = Nothing;
    } ≡ given_up t left
given_up_is scopes t now ls left placed depths marks finished assigned restarts room empty none unmarked known same
    rounds kept is fewer =
    let long : length now.finished ≡ length t.finished = ap (λ (u : TrailState). length u.finished) is
    ∙ assumed_length scopes [] (take left ls) t.finished in
    let gone : finished ≡ emptied t.finished = known ∙ ap (λ n. replicate n false) long in
    let taken : length (take left ls) ≡ left = length-take-le left ls (omega arith) in
    let count : assigned ≡ counted t.assigned left = same
    ∙ (ap (λ (u : TrailState). u.assigned) is ∙ ap (counted t.assigned) taken) in
    let anew : restarts ≡ t.restarts = rounds ∙ ap (λ (u : TrailState). u.restarts) is in
    let wide : room ≡ t.room = kept ∙ ap (λ (u : TrailState). u.room) is in
    λ i. record {
      placed = empty i;
      depths = none i;
      marks = unmarked i;
      finished = gone i;
      assigned = count i;
      restarts = anew i;
      room = wide i;
      allowed = Nothing;
    }

pub on_err_both : {T E P Q R : Type 0} (r : Result T E) → OnErr r P → OnErr r Q → (P → Q → R) → OnErr r R
on_err_both (Ok v) p q f = tt
on_err_both (Err e) p q f = f p q
