-- Tables of edges while they are filled.
use Rattle.std.proofs.Common.{◌≡◌, ℕ, suc, zero, ◌+◌, ◌-◌, ◌<◌, ◌≤◌, ◌==◌, ◌⊎◌, inl, inr, Bool, true, false, cond, List, [], ◌∷◌, ◌++◌, length, map, take, get_or, unwrap_or, Option, Some, None, is_some, Contains, refl, sym, ap, ap₂, ◌∙◌, ⊎_elim, arith, subst, ◌||◌, filter}
use Rattle.std.specs.Prelude.{slice_get}
use Rattle.std.specs.Option.{option_map}
use Rattle.std.proofs.lemmas.Bool.{cases_Bool, cond-true, cond-false, true≢false, false≢true, eqb-true, eq-eqb}
use Rattle.std.proofs.lemmas.List.{append-nil, get_or-map, take_more, map-append}
use Rattle.std.proofs.lemmas.Grind.{flat_map-append}
use Rattle.prefix.specs.declared.quant.Quant.TheVariants.{Exists}
use Rattle.std.specs.List.{All}
use Rattle.std.proofs.lemmas.List.Elements.{All-append, Contains-append_cases, Contains-get_or}
use Rattle.prefix.specs.declared.quant.Quant.{Quant}
use Rattle.prefix.specs.Literal.{Literal}
use Rattle.prefix.specs.Scopes.{Scope, all_variables, variables_at, is_among}
use Rattle.truth.specs.Truth.{assumed_value}
use Rattle.truth.proofs.OrderLemmas.{slice_get_in}
use Rattle.calculus.specs.Rows.{Row, Assignment}
use Rattle.calculus.proofs.Lists.{contains_head, contains_tail, contains_cons, contains_nil, among_at}
use Rattle.aig.specs.Circuits.{Circuit, value_of, IsEdge, Grows}
use Rattle.aig.specs.Strategies.{output_of, output_vars}
use Rattle.aig.specs.declared.edge.Edge.{Edge}
use Rattle.aig.specs.declared.edge.Node.TheVariants.{Constant}
use Rattle.aig.specs.declared.strategy.Output.{Output}
use Rattle.extract.specs.Removals.{Removed, first_bad, weight_of, weights_of}
use Rattle.extract.specs.Tables.{edge_of, Agrees, AreEdges, Covers, Keeps, IsInputEdge, IsAssumedEdge, IsRuledEdge, IsReady, CoversRemoved, removed_of, removals_at}
use Rattle.extract.specs.declared.index.Removal.{Removal}
use Rattle.extract.proofs.Rules.{grows_refl, grows_trans}

-- lists

pub contains_more : {X : Type 0} (xs : List X) (i : ℕ) (d x : X) → i < length xs → Contains (take (i + 1) xs) x
    → Contains (take i xs) x ⊎ (get_or xs i d ≡ x)
contains_more xs i d x below h =
    ⊎_elim inl (λ j. ⊎_elim inr (λ k. absurd (contains_nil x k)) (contains_cons (get_or xs i d) [] x j))
    (Contains-append_cases (take i xs) (get_or xs i d ∷ []) x (rw (take_more xs i d below) at h))

pub take_inside : {X : Type 0} (xs : List X) (i : ℕ) (x : X) → Contains (take i xs) x → Contains xs x
take_inside xs zero x h = absurd (contains_nil x h)
take_inside [] (suc i) x h = absurd (contains_nil x h)
take_inside (y ∷ xs) (suc i) x h =
    ⊎_elim (λ e. rw e (contains_head x xs)) (λ j. contains_tail y xs x (take_inside xs i x j))
    (contains_cons y (take i xs) x h)

-- one edge more

module _ (old new : List (Option Edge)) (v : ℕ) (e : Edge)
    (puts : (w : ℕ) → edge_of new w ≡ cond (v == w) (Some e) (edge_of old w)) where
  pub put_here : edge_of new v ≡ Some e
  put_here = puts v ∙ cond-true (v == v) (Some e) (edge_of old v) (eq-eqb v v refl)

  pub put_there : (x : ℕ) → (v == x) ≡ false → edge_of new x ≡ edge_of old x
  put_there x f = puts x ∙ cond-false (v == x) (Some e) (edge_of old x) f

  pub put_cases : (x : ℕ) (f : Edge) → edge_of new x ≡ Some f → ((v ≡ x) × (e ≡ f)) ⊎ (edge_of old x ≡ Some f)
  put_cases x f is =
      ⊎_elim (λ t. let g : Some e ≡ Some f = sym (cond-true (v == x) (Some e) (edge_of old x) t) ∙ sym (puts x)
      ∙ is in inl (eqb-true v x t, (cc)))
      (λ n. inr (sym (put_there x n) ∙ is))
      (cases_Bool (v == x))

  pub put_keeps : edge_of old v ≡ None → Keeps old new
  put_keeps none x f is =
      ⊎_elim (λ t. let z : v ≡ x = eqb-true v x t in let g : None ≡ Some f = sym none ∙ ap (edge_of old) z ∙ is in
      absurd (cc))
      (λ n. put_there x n ∙ is)
      (cases_Bool (v == x))

  pub put_covers : (x : ℕ) → is_some (edge_of old x) ≡ true → is_some (edge_of new x) ≡ true
  put_covers x is =
      ⊎_elim (λ t. ap is_some (puts x ∙ cond-true (v == x) (Some e) (edge_of old x) t))
      (λ n. ap is_some (put_there x n) ∙ is)
      (cases_Bool (v == x))

-- tables of inputs

pub record IsInputTable (circuit : Circuit) (inputs : List ℕ) (i : ℕ) (table : List (Option Edge)) : Type 0 where
  pub edges : (x : ℕ) (e : Edge) → edge_of table x ≡ Some e → IsInputEdge circuit inputs x e
  pub covers : Covers table (take i inputs)

pub empty_table : (x : ℕ) (e : Edge) → edge_of [] x ≡ Some e → ⊥
empty_table x e is = absurd (cc)

pub inputs_start : (circuit : Circuit) (inputs : List ℕ) → IsInputTable circuit inputs 0 []
inputs_start circuit inputs = record {
  edges = λ x e is. absurd (empty_table x e is);
  covers = λ x h. absurd (contains_nil x h);
}

pub inputs_more : (circuit : Circuit) (inputs : List ℕ) (i : ℕ) (old new : List (Option Edge)) (e : Edge)
    → i < length inputs → IsInputTable circuit inputs i old
    → ((w : ℕ) → edge_of new w ≡ cond (get_or inputs i 0 == w) (Some e) (edge_of old w))
    → ((values : List Bool) → value_of circuit values e ≡ get_or values i false) → IsEdge circuit e
    → IsInputTable circuit inputs (i + 1) new
inputs_more circuit inputs i old new e below before puts value stands = record {
  edges = λ x f is. ⊎_elim
      (λ p. rw (← p.0, ← p.1) (record {
        listed = Contains-get_or inputs i 0 below;
        stands = stands;
        value = λ given. value (map given inputs) ∙ get_or-map given inputs i 0 false below;
      }))
      (λ was. before.edges x f was)
      (put_cases old new (get_or inputs i 0) e puts x f is);
  covers = λ x h. ⊎_elim
      (λ j. put_covers old new (get_or inputs i 0) e puts x (before.covers x j))
      (λ z. ap (λ w. is_some (edge_of new w)) (sym z) ∙ ap is_some (put_here old new (get_or inputs i 0) e puts))
      (contains_more inputs i 0 x below h);
}

-- assumed variables

pub record IsAssumedTable (assumptions : List Literal) (i : ℕ) (first table : List (Option Edge)) : Type 0 where
  pub edges : (x : ℕ) (e : Edge) → edge_of table x ≡ Some e
      → (edge_of first x ≡ Some e) ⊎ ((edge_of first x ≡ None) × IsAssumedEdge assumptions x e)
  pub keeps : Keeps first table
  pub covers : (x : ℕ) (b : Bool) → assumed_value (take i assumptions) x ≡ Some b → is_some (edge_of table x) ≡ true

none_before : (first table : List (Option Edge)) (x : ℕ) → Keeps first table → edge_of table x ≡ None
    → (o : Option Edge) → edge_of first x ≡ o → o ≡ None
none_before first table x keeps none None is = refl
none_before first table x keeps none (Some e) is = let g : None ≡ Some e = sym none ∙ keeps x e is in absurd (cc)

pub not_there : (first table : List (Option Edge)) (x : ℕ) → Keeps first table → edge_of table x ≡ None
    → edge_of first x ≡ None
not_there first table x keeps none = none_before first table x keeps none (edge_of first x) refl

-- an assumed value with one assumption more
assumed_cases : (xs : List Literal) (l : Literal) (x : ℕ) (b : Bool) → assumed_value (xs ++ l ∷ []) x ≡ Some b
    → ((c : Bool) × (assumed_value xs x ≡ Some c)) ⊎ (l.variable ≡ x)
assumed_cases [] l x b is =
    ⊎_elim (λ t. inr (eqb-true l.variable x t))
    (λ f. let g : None ≡ Some b = sym (cond-false (l.variable == x) (Some l.positive) None f) ∙ is in absurd (cc))
    (cases_Bool (l.variable == x))
assumed_cases (m ∷ xs) l x b is =
    ⊎_elim
    (λ t. inl (m.positive, cond-true (m.variable == x) (Some m.positive) (assumed_value xs x) t))
    (λ f. ⊎_elim (λ r. inl (r.0, cond-false (m.variable == x) (Some m.positive) (assumed_value xs x) f ∙ r.1)) inr
    (assumed_cases xs l x b (sym (cond-false (m.variable == x) (Some m.positive) (assumed_value (xs ++ l ∷ []) x) f)
    ∙ is)))
    (cases_Bool (m.variable == x))

-- the first assumption over a variable gives its value
assumed_first : (xs : List Literal) (i : ℕ) (d : Literal) (x : ℕ) → i < length xs → assumed_value (take i xs) x ≡ None
    → (get_or xs i d).variable ≡ x → assumed_value xs x ≡ Some (get_or xs i d).positive
assumed_first [] i d x below none is = absurd (omega arith)
assumed_first (l ∷ xs) zero d x below none is =
    cond-true (l.variable == x) (Some l.positive) (assumed_value xs x) (eq-eqb l.variable x is)
assumed_first (l ∷ xs) (suc i) d x below none is =
    ⊎_elim
    (λ t. let g : Some l.positive ≡ None =
    sym (cond-true (l.variable == x) (Some l.positive) (assumed_value (take i xs) x) t) ∙ none in absurd (cc))
    (λ f. cond-false (l.variable == x) (Some l.positive) (assumed_value xs x) f
    ∙ assumed_first xs i d x (omega arith) (sym
    (cond-false (l.variable == x) (Some l.positive) (assumed_value (take i xs) x) f) ∙ none) is)
    (cases_Bool (l.variable == x))

pub assumed_start : (assumptions : List Literal) (first : List (Option Edge)) → IsAssumedTable assumptions 0 first first
assumed_start assumptions first = record {
  edges = λ x e is. inl is;
  keeps = λ x e is. is;
  covers = λ x b is. let g : None ≡ Some b = is in absurd (cc);
}

-- where the variable has an edge
pub assumed_skip : (assumptions : List Literal) (i : ℕ) (first table : List (Option Edge)) (d : Literal)
    → i < length assumptions → IsAssumedTable assumptions i first table
    → is_some (edge_of table (get_or assumptions i d).variable) ≡ true → IsAssumedTable assumptions (i + 1) first table
assumed_skip assumptions i first table d below before there = record {
  edges = before.edges;
  keeps = before.keeps;
  covers = λ x b is. ⊎_elim (λ r. before.covers x r.0 r.1) (λ e. ap (λ w. is_some (edge_of table w)) (sym e) ∙ there)
      (assumed_cases (take i assumptions) (get_or assumptions i d) x b
      (ap (λ xs. assumed_value xs x) (sym (take_more assumptions i d below)) ∙ is));
}

pub none_of : {A : Type 0} (o : Option A) → ((a : A) → o ≡ Some a → ⊥) → o ≡ None
none_of None h = refl
none_of (Some a) h = absurd (h a refl)

-- where it has none
pub assumed_more : (assumptions : List Literal) (i : ℕ) (first old new : List (Option Edge)) (d : Literal) (e : Edge)
    → i < length assumptions → IsAssumedTable assumptions i first old
    → edge_of old (get_or assumptions i d).variable ≡ None
    → ((w : ℕ) → edge_of new w ≡ cond ((get_or assumptions i d).variable == w) (Some e) (edge_of old w))
    → ((circuit : Circuit) (inputs : List Bool) → value_of circuit inputs e ≡ (get_or assumptions i d).positive)
    → ((circuit : Circuit) → IsEdge circuit e)
    → e ≡ record { node = Constant; negated = (get_or assumptions i d).positive }
    → IsAssumedTable assumptions (i + 1) first new
assumed_more assumptions i first old new d e below before none puts value stands edge =
    let l = get_or assumptions i d in
    let unassumed : assumed_value (take i assumptions) l.variable ≡ None =
    none_of (assumed_value (take i assumptions) l.variable)
    (λ b is. false≢true (sym (ap is_some none) ∙ before.covers l.variable b is)) in
    record {
      edges = λ x f is. ⊎_elim
          (λ p. inr (rw (← p.0, ← p.1) (
            not_there first old l.variable before.keeps none,
            record {
              positive = l.positive;
              assumed = assumed_first assumptions i d l.variable below unassumed refl;
              edge = edge;
              stands = stands;
              value = value;
            },
          )))
          (λ was. before.edges x f was)
          (put_cases old new l.variable e puts x f is);
      keeps = λ x f is. put_keeps old new l.variable e puts none x f (before.keeps x f is);
      covers = λ x b is. ⊎_elim (λ r. put_covers old new l.variable e puts x (before.covers x r.0 r.1))
          (λ z. ap (λ w. is_some (edge_of new w)) (sym z) ∙ ap is_some (put_here old new l.variable e puts))
          (assumed_cases (take i assumptions) l x b
          (ap (λ xs. assumed_value xs x) (sym (take_more assumptions i d below)) ∙ is));
    }

-- ruled variables

pub record IsRuledTable (pivot : Quant) (rows : List Row) (index : List (List Removal)) (vars : List ℕ) (i : ℕ)
    (first : List (Option Edge)) (start circuit : Circuit) (table : List (Option Edge)) : Type 0 where
  pub edges : (x : ℕ) (e : Edge) → edge_of table x ≡ Some e
      → (edge_of first x ≡ Some e) ⊎ ((edge_of first x ≡ None) × Contains vars x
      × IsRuledEdge pivot rows index circuit table x)
  pub keeps : Keeps first table
  pub covers : Covers table (take i vars)
  pub stand : AreEdges circuit table
  pub grows : Grows start circuit
  pub size : length circuit.gates ≤ length start.gates + weights_of (λ x. map (removed_of rows) (removals_at index x))
      (take i vars)

-- values that agree with more edges agree with fewer, in the circuit before
pub agrees_fewer : (old new : Circuit) (before table : List (Option Edge)) (inputs : List Bool) (values : Assignment)
    → Grows old new → AreEdges old before → Keeps before table → Agrees new inputs table values
    → Agrees old inputs before values
agrees_fewer old new before table inputs values grows are keeps agrees x e is = agrees x e (keeps x e is)
    ∙ grows.values inputs e (are x e is)

-- the turn of one variable
pub record IsTurn (pivot : Quant) (rows : List Row) (index : List (List Removal)) (v : ℕ) (old : Circuit)
    (before : List (Option Edge)) (new : Circuit) (table : List (Option Edge)) : Type 0 where
  pub edges : (x : ℕ) (e : Edge) → edge_of table x ≡ Some e
      → (edge_of before x ≡ Some e) ⊎ ((edge_of before x ≡ None) × (x ≡ v) × IsRuledEdge pivot rows index new table x)
  pub keeps : Keeps before table
  pub covers : is_some (edge_of table v) ≡ true
  pub stand : AreEdges new table
  pub grows : Grows old new
  pub size : length new.gates ≤ length old.gates + weight_of (map (removed_of rows) (removals_at index v))

weights_append : (f : ℕ → List Removed) (xs : List ℕ) (x : ℕ)
    → weights_of f (xs ++ x ∷ []) ≡ weights_of f xs + weight_of (f x)
weights_append f [] x = omega arith
weights_append f (y ∷ xs) x = let e = weights_append f xs x in omega arith

pub ruled_more : (pivot : Quant) (rows : List Row) (index : List (List Removal)) (vars : List ℕ) (i : ℕ)
    (first : List (Option Edge)) (start old new : Circuit) (before table : List (Option Edge)) → i < length vars
    → IsRuledTable pivot rows index vars i first start old before
    → IsTurn pivot rows index (get_or vars i 0) old before new table
    → IsRuledTable pivot rows index vars (i + 1) first start new table
ruled_more pivot rows index vars i first start old new before table below was turn = record {
  edges = λ x e is. ⊎_elim
      (λ b. ⊎_elim inl (λ r. inr (
        r.0,
        r.1,
        record {
          ruled = λ inputs values agrees. r.2.ruled inputs values
              (agrees_fewer old new before table inputs values turn.grows was.stand turn.keeps agrees);
        },
      )) (was.edges x e b))
      (λ r. inr (not_there first before x was.keeps r.0, rw r.1 (Contains-get_or vars i 0 below), r.2))
      (turn.edges x e is);
  keeps = λ x e is. turn.keeps x e (was.keeps x e is);
  covers = λ x h. ⊎_elim
      (λ j. kept x (was.covers x j))
      (λ z. ap (λ w. is_some (edge_of table w)) (sym z) ∙ turn.covers)
      (contains_more vars i 0 x below h);
  stand = turn.stand;
  grows = grows_trans start old new was.grows turn.grows;
  size =
      let f = λ (x : ℕ). map (removed_of rows) (removals_at index x) in
      let a : length old.gates ≤ length start.gates + weights_of f (take i vars) = was.size in
      let b : length new.gates ≤ length old.gates + weight_of (f (get_or vars i 0)) = turn.size in
      let e : weights_of f (take (i + 1) vars) ≡ weights_of f (take i vars) + weight_of (f (get_or vars i 0)) =
      ap (weights_of f) (take_more vars i 0 below) ∙ weights_append f (take i vars) (get_or vars i 0) in
      omega arith;
}
  where
    kept_of : (x : ℕ) (o : Option Edge) → edge_of before x ≡ o → is_some o ≡ true → is_some (edge_of table x) ≡ true
    kept_of x None is t = absurd (true≢false (sym t))
    kept_of x (Some e) is t = ap is_some (turn.keeps x e is)

    kept : (x : ℕ) → is_some (edge_of before x) ≡ true → is_some (edge_of table x) ≡ true
    kept x t = kept_of x (edge_of before x) refl t

pub ruled_start : (pivot : Quant) (rows : List Row) (index : List (List Removal)) (vars : List ℕ)
    (first : List (Option Edge)) (start : Circuit) → AreEdges start first
    → IsRuledTable pivot rows index vars 0 first start start first
ruled_start pivot rows index vars first start are = record {
  edges = λ x e is. inl is;
  keeps = λ x e is. is;
  covers = λ x h. absurd (contains_nil x h);
  stand = are;
  grows = grows_refl start;
  size = omega arith;
}

-- the edge of the turn's variable obeys the rule
pub turn_edges : (pivot : Quant) (rows : List Row) (index : List (List Removal)) (v : ℕ) (new : Circuit)
    (before table : List (Option Edge)) (e : Edge) → edge_of before v ≡ None
    → ((inputs : List Bool) (values : Assignment) → Agrees new inputs before values
    → value_of new inputs e ≡ unwrap_or (first_bad pivot values (map (removed_of rows) (removals_at index v))) false)
    → ((w : ℕ) → edge_of table w ≡ cond (v == w) (Some e) (edge_of before w))
    → (x : ℕ) (f : Edge) → edge_of table x ≡ Some f
    → (edge_of before x ≡ Some f) ⊎ ((edge_of before x ≡ None) × (x ≡ v) × IsRuledEdge pivot rows index new table x)
turn_edges pivot rows index v new before table e none value puts x f is =
    ⊎_elim
    (λ p. inr (rw (← p.0) (
      none,
      refl,
      record {
        ruled = λ inputs values agrees.
            agrees v e (put_here before table v e puts)
            ∙ value inputs values (λ y g was. agrees y g (put_keeps before table v e puts none y g was));
      },
    )))
    inl
    (put_cases before table v e puts x f is)

pub turn_stand : (circuit : Circuit) (before table : List (Option Edge)) (v : ℕ) (e : Edge) → AreEdges circuit before
    → IsEdge circuit e → ((w : ℕ) → edge_of table w ≡ cond (v == w) (Some e) (edge_of before w))
    → AreEdges circuit table
turn_stand circuit before table v e are stands puts x f is =
    ⊎_elim (λ p. rw (← p.1) stands) (λ was. are x f was) (put_cases before table v e puts x f is)

-- what the rule reads has an edge by now
pub ready_now : (pivot : Quant) (rows : List Row) (index : List (List Removal)) (vars : List ℕ) (i : ℕ)
    (first : List (Option Edge)) (start circuit : Circuit) (table : List (Option Edge)) → i < length vars
    → IsReady rows index vars first → IsRuledTable pivot rows index vars i first start circuit table
    → edge_of table (get_or vars i 0) ≡ None
    → CoversRemoved table (map (removed_of rows) (removals_at index (get_or vars i 0)))
ready_now pivot rows index vars i first start circuit table below ready was none r h l j =
    let p = from_map (removals_at index (get_or vars i 0)) h in
    ⊎_elim (λ t. kept l.variable t) (λ k. was.covers l.variable k)
    (ready i below (not_there first table (get_or vars i 0) was.keeps none) p.0 l p.1
    (subst (λ (q : Removed). Contains q.row l) (sym p.2) j))
  where
    from_map : (rs : List Removal) → Contains (map (removed_of rows) rs) r
        → (m : Removal) × Contains rs m × (removed_of rows m ≡ r)
    from_map [] h = absurd (contains_nil r h)
    from_map (m ∷ rs) h =
        ⊎_elim (λ e. (m, contains_head m rs, e))
        (λ k. let q = from_map rs k in (q.0, contains_tail m rs q.0 q.1, q.2))
        (contains_cons (removed_of rows m) (map (removed_of rows) rs) r h)

    kept_of : (x : ℕ) (o : Option Edge) → edge_of first x ≡ o → is_some o ≡ true → is_some (edge_of table x) ≡ true
    kept_of x None is t = absurd (true≢false (sym t))
    kept_of x (Some e) is t = ap is_some (was.keeps x e is)

    kept : (x : ℕ) → is_some (edge_of first x) ≡ true → is_some (edge_of table x) ≡ true
    kept x t = kept_of x (edge_of first x) refl t

-- outputs

pub record AreOutputs (winners : List ℕ) (i : ℕ) (table : List (Option Edge)) (outputs : List Output) : Type 0 where
  pub vars : output_vars outputs ≡ take i winners
  pub edges : (x : ℕ) → output_of outputs x ≡ cond (is_among x (take i winners)) (edge_of table x) None
  pub each : All (λ (o : Output). edge_of table o.var ≡ Some o.edge) outputs

-- the first of two edges that is there
abbrev or_else : Option Edge → Option Edge → Option Edge
or_else None second = second
or_else (Some e) second = Some e

output_append : (os : List Output) (o : Output) (x : ℕ)
    → output_of (os ++ o ∷ []) x ≡ or_else (output_of os x) (cond (o.var == x) (Some o.edge) None)
output_append [] o x = refl
output_append (p ∷ os) o x =
    ⊎_elim
    (λ t. cond-true (p.var == x) (Some p.edge) (output_of (os ++ o ∷ []) x) t
    ∙ sym (ap (λ q. or_else q (cond (o.var == x) (Some o.edge) None))
    (cond-true (p.var == x) (Some p.edge) (output_of os x) t)))
    (λ f. cond-false (p.var == x) (Some p.edge) (output_of (os ++ o ∷ []) x) f ∙ output_append os o x
    ∙ sym (ap (λ q. or_else q (cond (o.var == x) (Some o.edge) None))
    (cond-false (p.var == x) (Some p.edge) (output_of os x) f)))
    (cases_Bool (p.var == x))

among_append : (xs : List ℕ) (v x : ℕ) → is_among x (xs ++ v ∷ []) ≡ (is_among x xs || (v == x))
among_append [] v x = or_none (v == x)
  where
    or_none : (b : Bool) → (b || false) ≡ (false || b)
    or_none true = refl
    or_none false = refl
among_append (y ∷ xs) v x = ap (λ b. (y == x) || b) (among_append xs v x) ∙ assoc (y == x) (is_among x xs) (v == x)
  where
    assoc : (a b c : Bool) → (a || (b || c)) ≡ ((a || b) || c)
    assoc true b c = refl
    assoc false b c = refl

pub outputs_start : (winners : List ℕ) (table : List (Option Edge)) → AreOutputs winners 0 table []
outputs_start winners table =
    record { vars = refl; edges = λ x. refl; each = λ k d below. absurd (let none : k < 0 = below in omega arith) }

-- what holds of an element holds of each in the list of it alone
alone : {X : Type 0} (P : X → Type 0) (x : X) → P x → All P (x ∷ [])
alone P x holds zero d below = holds
alone P x holds (suc k) d below = absurd (let one : suc k < 1 = below in omega arith)

pub outputs_more : (winners : List ℕ) (i : ℕ) (table : List (Option Edge)) (outputs : List Output) (o : Output)
    → i < length winners → Covers table winners → AreOutputs winners i table outputs → o.var ≡ get_or winners i 0
    → edge_of table o.var ≡ Some o.edge → AreOutputs winners (i + 1) table (outputs ++ o ∷ [])
outputs_more winners i table outputs o below covers before var edge = record {
  vars = map-append (λ (p : Output). p.var) outputs (o ∷ []) ∙ ap₂ (λ xs (v : ℕ). xs ++ v ∷ []) before.vars var
      ∙ sym (take_more winners i 0 below);
  edges = λ x.
      let among : is_among x (take (i + 1) winners) ≡ (is_among x (take i winners) || (o.var == x)) =
      ap (is_among x) (take_more winners i 0 below) ∙ among_append (take i winners) (get_or winners i 0) x
      ∙ ap (λ (v : ℕ). is_among x (take i winners) || (v == x)) (sym var) in
      output_append outputs o x ∙ ap (λ q. or_else q (cond (o.var == x) (Some o.edge) None)) (before.edges x)
      ∙ joined x (is_among x (take i winners)) refl (o.var == x) refl
      ∙ sym (ap (λ b. cond b (edge_of table x) None) among);
  each = All-append (λ (p : Output). edge_of table p.var ≡ Some p.edge) outputs (o ∷ []) before.each
      (alone (λ (p : Output). edge_of table p.var ≡ Some p.edge) o edge);
}
  where
    first_stays : (o : Option Edge) (p : Option Edge) → is_some o ≡ true → or_else o p ≡ o
    first_stays None p t = absurd (false≢true t)
    first_stays (Some e) p t = refl

    joined : (x : ℕ) (a : Bool) → is_among x (take i winners) ≡ a → (b : Bool) → (o.var == x) ≡ b
        → or_else (cond a (edge_of table x) None) (cond b (Some o.edge) None) ≡ cond (a || b) (edge_of table x) None
    joined x true p b q =
        first_stays (edge_of table x) (cond b (Some o.edge) None)
        (covers x (take_inside winners i x (among_at (take i winners) x p)))
    joined x false p true q = sym (ap (edge_of table) (sym (eqb-true o.var x q)) ∙ edge)
    joined x false p false q = refl

-- scopes

pub variables_more : (scopes : List Scope) (s : ℕ) → s < length scopes
    → all_variables (take (s + 1) scopes) ≡ all_variables (take s scopes) ++ variables_at scopes (s + 1)
variables_more scopes s below =
    let d : Scope = record { quantifier = Exists; variables = [] } in
    let back : s + 1 - 1 ≡ s = omega arith in
    let here : variables_at scopes (s + 1) ≡ (get_or scopes s d).variables =
    ap (λ k. unwrap_or (option_map (λ (c : Scope). c.variables) (slice_get scopes k)) []) back
    ∙ ap (λ o. unwrap_or (option_map (λ (c : Scope). c.variables) o) []) (slice_get_in scopes s d below) in
    ap all_variables (take_more scopes s d below)
    ∙ flat_map-append (λ (c : Scope). c.variables) (take s scopes) (get_or scopes s d ∷ [])
    ∙ ap (λ ys. all_variables (take s scopes) ++ ys) (append-nil (get_or scopes s d).variables ∙ sym here)

-- the turns as the loops make them

pub assumed_step : (assumptions : List Literal) (i : ℕ) (first old new : List (Option Edge)) (l : Literal) (v u : ℕ)
    (b : Bool) (e : Edge) → i < length assumptions → IsAssumedTable assumptions i first old
    → l ≡ get_or assumptions i l → u ≡ l.variable → v ≡ l.variable → b ≡ l.positive
    → edge_of old u ≡ None → ((w : ℕ) → edge_of new w ≡ cond (v == w) (Some e) (edge_of old w))
    → ((circuit : Circuit) (inputs : List Bool) → value_of circuit inputs e ≡ b)
    → ((circuit : Circuit) → IsEdge circuit e) → e ≡ record { node = Constant; negated = b }
    → IsAssumedTable assumptions (i + 1) first new
assumed_step assumptions i first old new l v u b e below before is var_u var_v sign none puts value stands edge =
    let at_v : v ≡ (get_or assumptions i l).variable = var_v ∙ ap (λ (m : Literal). m.variable) is in
    let at_u : u ≡ (get_or assumptions i l).variable = var_u ∙ ap (λ (m : Literal). m.variable) is in
    let at_b : b ≡ (get_or assumptions i l).positive = sign ∙ ap (λ (m : Literal). m.positive) is in
    assumed_more assumptions i first old new l e below before (subst (λ x. edge_of old x ≡ None) at_u none)
    (subst (λ x. (w : ℕ) → edge_of new w ≡ cond (x == w) (Some e) (edge_of old w)) at_v puts)
    (λ c inputs. value c inputs ∙ at_b) stands
    (edge ∙ ap (λ (t : Bool). record { node = Constant; negated = t }) at_b)

pub assumed_pass : (assumptions : List Literal) (i : ℕ) (first table : List (Option Edge)) (l : Literal) (u : ℕ)
    → i < length assumptions → IsAssumedTable assumptions i first table → l ≡ get_or assumptions i l → u ≡ l.variable
    → is_some (edge_of table u) ≡ true → IsAssumedTable assumptions (i + 1) first table
assumed_pass assumptions i first table l u below before is var there =
    let at_u : u ≡ (get_or assumptions i l).variable = var ∙ ap (λ (m : Literal). m.variable) is in
    assumed_skip assumptions i first table l below before (subst (λ x. is_some (edge_of table x) ≡ true) at_u there)

pub inputs_step : (circuit : Circuit) (inputs : List ℕ) (i v : ℕ) (old new : List (Option Edge)) (e : Edge)
    → i < length inputs → IsInputTable circuit inputs i old → v ≡ get_or inputs i 0
    → ((w : ℕ) → edge_of new w ≡ cond (v == w) (Some e) (edge_of old w))
    → ((values : List Bool) → value_of circuit values e ≡ get_or values i false) → IsEdge circuit e
    → IsInputTable circuit inputs (i + 1) new
inputs_step circuit inputs i v old new e below before is puts value stands =
    inputs_more circuit inputs i old new e below before
    (subst (λ x. (w : ℕ) → edge_of new w ≡ cond (x == w) (Some e) (edge_of old w)) is puts) value stands

pub filter_take_short : {X : Type 0} (p : X → Bool) (i : ℕ) (xs : List X) → length (filter p (take i xs)) ≤ length xs
filter_take_short p zero xs = omega arith
filter_take_short p (suc i) [] = omega arith
filter_take_short p (suc i) (x ∷ xs) =
    let h = filter_take_short p i xs in
    ⊎_elim (λ t. rw (cond-true (p x) (x ∷ filter p (take i xs)) (filter p (take i xs)) t) (omega arith))
    (λ f. rw (cond-false (p x) (x ∷ filter p (take i xs)) (filter p (take i xs)) f) (omega arith))
    (cases_Bool (p x))
