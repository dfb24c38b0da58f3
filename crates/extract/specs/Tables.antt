-- Tables of edges by variable, and what their values say.
use Rattle.std.specs.Prelude.{◌≡◌, ◌≢◌, ℕ, ◌+◌, ◌==◌, ◌&&◌, not, ◌<◌, ◌⊎◌, Bool, false, is_some, List, [], map, filter, take, length, unwrap_or, slice_index_or, Contains, Option, Some, None, IsTrue}
use Rattle.prefix.specs.declared.quant.Quant.{Quant}
use Rattle.prefix.specs.Literal.{Literal}
use Rattle.prefix.specs.Scopes.{Scope, quantifier_of, all_variables}
use Rattle.calculus.specs.Derivations.{Inference}
use Rattle.calculus.specs.Plays.{first_forced}
use Rattle.truth.specs.Truth.{assumed_value}
use Rattle.calculus.specs.Rows.{Row, Assignment, bad_choice, is_bad_throughout}
use Rattle.aig.specs.Circuits.{Circuit, value_of, IsEdge}
use Rattle.aig.specs.declared.edge.Edge.{Edge}
use Rattle.aig.specs.declared.edge.Node.TheVariants.{Constant}
use Rattle.step_core.specs.Cores.{row_numbered}
use Rattle.extract.specs.Removals.{Removed, goes, first_bad}
use Rattle.step_core.specs.declared.listing.Line.{Line}
use Rattle.step_core.specs.declared.listing.CoreStep.{CoreStep}
use Rattle.step_core.specs.declared.listing.CoreStep.TheVariants.{Input, One, Two}
use Rattle.extract.specs.declared.index.Removal.{Removal}

-- the edge of a variable
abbrev pub edge_of : List (Option Edge) → ℕ → Option Edge
edge_of table x = slice_index_or table x None

-- values that give each variable of the table the value of its edge
abbrev pub Agrees : Circuit → List Bool → List (Option Edge) → Assignment → Type 0
Agrees circuit inputs table values = (x : ℕ) (e : Edge) → edge_of table x ≡ Some e →
    values x ≡ value_of circuit inputs e

-- each of these variables has an edge
abbrev pub Covers : List (Option Edge) → List ℕ → Type 0
Covers table xs = (x : ℕ) → Contains xs x → IsTrue (is_some (edge_of table x))

-- each variable of a row has an edge
abbrev pub CoversRow : List (Option Edge) → Row → Type 0
CoversRow table row = (l : Literal) → Contains row l → IsTrue (is_some (edge_of table l.variable))

-- each row of removals is covered
abbrev pub CoversRemoved : List (Option Edge) → List Removed → Type 0
CoversRemoved table rs = (r : Removed) → Contains rs r → CoversRow table r.row

-- the edges of a table stand
abbrev pub AreEdges : Circuit → List (Option Edge) → Type 0
AreEdges circuit table = (x : ℕ) (e : Edge) → edge_of table x ≡ Some e → IsEdge circuit e

-- what a removal in memory stands for
abbrev pub removed_of : List Row → Removal → Removed
removed_of rows r = record { row = slice_index_or rows r.step []; value = r.value }

-- the removals in memory of a variable's literals
abbrev pub removals_at : List (List Removal) → ℕ → List Removal
removals_at index x = slice_index_or index x []

-- those of a step that left this row of these literals
abbrev pub removals_here : Quant → ℕ → ℕ → Row → Row → List Removal
removals_here pivot x step row before = map (λ (l : Literal). record { step = step; value = bad_choice pivot l })
    (filter (goes x row) before)

abbrev pub removals_by : Quant → ℕ → ℕ → List Row → Row → CoreStep → List Removal
removals_by pivot x step rows row Input = []
removals_by pivot x step rows row (One k) = removals_here pivot x step row (row_numbered rows k)
removals_by pivot x step rows row (Two p n y) = []

-- those of a line at a place
abbrev pub removals_of_line : Quant → ℕ → ℕ → List Row → Line → List Removal
removals_of_line pivot x i rows line = removals_by pivot x i rows line.lits line.step

-- the edge of an input has its variable's value
pub record IsInputEdge (circuit : Circuit) (inputs : List ℕ) (x : ℕ) (e : Edge) : Type 0 where
  pub listed : Contains inputs x
  pub stands : IsEdge circuit e
  pub value : (given : Assignment) → value_of circuit (map given inputs) e ≡ given x

-- the edge of an assumed variable is its constant
pub record IsAssumedEdge (assumptions : List Literal) (x : ℕ) (e : Edge) : Type 0 where
  pub positive : Bool
  pub assumed : assumed_value assumptions x ≡ Some positive
  pub edge : e ≡ record { node = Constant; negated = positive }
  pub stands : (circuit : Circuit) → IsEdge circuit e
  pub value : (circuit : Circuit) (inputs : List Bool) → value_of circuit inputs e ≡ positive

-- the edge of a variable has the value of the first-falsified rule, whatever values the variables without edges have
pub record IsRuledEdge (pivot : Quant) (rows : List Row) (index : List (List Removal)) (circuit : Circuit) (table
    : List (Option Edge)) (x : ℕ) : Type 0 where
  pub ruled : (inputs : List Bool) (values : Assignment) → Agrees circuit inputs table values →
      values x ≡ unwrap_or (first_bad pivot values (map (removed_of rows) (removals_at index x))) false

-- a table with more edges
abbrev pub Keeps : List (Option Edge) → List (Option Edge) → Type 0
Keeps old new = (x : ℕ) (e : Edge) → edge_of old x ≡ Some e → edge_of new x ≡ Some e

-- what the rule reads for a variable without an edge has an edge, or stands before it
abbrev pub IsReady : List Row → List (List Removal) → List ℕ → List (Option Edge) → Type 0
IsReady rows index vars table = (i : ℕ) → i < length vars → edge_of table (slice_index_or vars i 0) ≡ None →
    (r : Removal) (l : Literal) → Contains (removals_at index (slice_index_or vars i 0)) r →
    Contains (removed_of rows r).row l
    → IsTrue (is_some (edge_of table l.variable)) ⊎ Contains (take i vars) l.variable

-- a table whose edges have the values of the play that follows a proof
pub record IsPlayTable (pivot : Quant) (scopes : List Scope) (assumptions : List Literal) (steps : List
    Inference) (inputs : List ℕ) (circuit : Circuit) (table : List (Option Edge)) : Type 0 where
  pub count : circuit.inputs ≡ length inputs
  pub stands : AreEdges circuit table
  pub covers : Covers table (all_variables scopes)
  pub inside : (x : ℕ) (e : Edge) → edge_of table x ≡ Some e → Contains (all_variables scopes) x
  pub losers : (x : ℕ) (e : Edge) → quantifier_of scopes x ≡ Some pivot → edge_of table x ≡ Some e →
      (given : Assignment) → value_of circuit (map given inputs) e ≡ given x
  pub given : (x : ℕ) (b : Bool) (e : Edge) → assumed_value assumptions x ≡ Some b →
      quantifier_of scopes x ≢ Some pivot → edge_of table x ≡ Some e → (values : List Bool) →
      value_of circuit values e ≡ b
  pub constants : (x : ℕ) (b : Bool) (e : Edge) → assumed_value assumptions x ≡ Some b →
      quantifier_of scopes x ≢ Some pivot → edge_of table x ≡ Some e →
      e ≡ record { node = Constant; negated = b }
  pub ruled : (x : ℕ) → Contains (all_variables scopes) x → quantifier_of scopes x ≢ Some pivot →
      assumed_value assumptions x ≡ None → (inputs : List Bool) (values : Assignment) →
      Agrees circuit inputs table values → values x ≡ unwrap_or (first_forced pivot values x steps) false

-- removals of the literals over a variable without the stamp of a step
abbrev pub unmarked : List ℕ → Quant → ℕ → ℕ → Row → List Removal
unmarked stamps pivot x step before = map (λ (l : Literal). record { step = step; value = bad_choice pivot l })
    (filter (λ (l : Literal). l.variable == x && not (slice_index_or stamps l.variable 0 == step + 1)) before)

-- edges kept for rows, by the places of their steps: each is true where its row is bad
pub record AreKept (pivot : Quant) (rows : List Row) (circuit : Circuit) (table kept : List (Option Edge)) : Type
    0 where
  pub stands : AreEdges circuit kept
  pub value : (i : ℕ) (e : Edge) → edge_of kept i ≡ Some e → (inputs : List Bool) (values : Assignment) →
      Agrees circuit inputs table values →
      value_of circuit inputs e ≡ is_bad_throughout pivot values (slice_index_or rows i [])
