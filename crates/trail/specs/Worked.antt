-- Worked values: trails over three variables, in one scope and in three.
use Rattle.std.specs.Prelude.{◌≡◌, ℕ, true, false, List, [], ◌∷◌, Some, None}
use Rattle.prefix.specs.Literal.{Literal}
use Rattle.prefix.specs.Scopes.{Scope}
use Rattle.prefix.specs.declared.quant.Quant.TheVariants.{Exists, Forall}
use Rattle.calculus.specs.Search.{cause_on, decision_level_on, decisions_on, place_on, value_on}
use Rattle.calculus.specs.Search.Cause.{Decided, Propagated}
use Rattle.calculus.specs.Weights.{trail_weight}
use Rattle.trail.specs.declared.allowed.Allowed.TheVariants.{Anything, NoDecision, Nothing}
use Rattle.trail.specs.State.{Outweighs, OutweighsWithOne, TrailState, cleared, given_up, is_marked, new_trail, restarted, undone_to, with_assumed, with_clean, with_literal, with_room}

-- a variable as a literal
abbrev pub plus : ℕ → Literal
plus x = record { variable = x; positive = true }

-- its negation
abbrev pub minus : ℕ → Literal
minus x = record { variable = x; positive = false }

-- e 1 2 3
abbrev pub three_variables : List Scope
three_variables = record { quantifier = Exists; variables = 1 ∷ 2 ∷ 3 ∷ [] } ∷ []

-- 1 is decided, and -2 propagated from step 7
abbrev pub decided_first : TrailState
decided_first =
    with_literal three_variables (with_literal three_variables new_trail (plus 1) Decided) (minus 2) (Propagated 7)

-- both are undone, and -1 is propagated from step 8
abbrev pub turned : TrailState
turned = with_literal three_variables (undone_to 0 decided_first) (minus 1) (Propagated 8)

-- all three variables are propagated
abbrev pub propagated : TrailState
propagated =
    let one = with_literal three_variables new_trail (plus 1) (Propagated 0) in
    let two = with_literal three_variables one (plus 2) (Propagated 1) in
    with_literal three_variables two (plus 3) (Propagated 2)

-- step 9 is the reason of the second literal, and clean
abbrev pub cleaned : TrailState
cleaned = with_clean decided_first 2 9

-- both are undone, and -2 is propagated from step 9
abbrev pub cleaned_before : TrailState
cleaned_before = with_literal three_variables (undone_to 0 cleaned) (minus 2) (Propagated 9)

-- e 1, a scope without variables, and e 3
abbrev pub with_empty_scope : List Scope
with_empty_scope =
    record { quantifier = Exists; variables = 1 ∷ [] }
    ∷ record { quantifier = Forall; variables = [] }
    ∷ record { quantifier = Exists; variables = 3 ∷ [] }
    ∷ []

-- room for three variables, and 1 propagated
abbrev pub first_filled : TrailState
first_filled = with_literal with_empty_scope (with_room new_trail 3) (plus 1) (Propagated 7)

-- then 3 is decided
abbrev pub all_filled : TrailState
all_filled = with_literal with_empty_scope first_filled (plus 3) Decided

-- the weight of a trail over three variables
abbrev pub weight_of : TrailState → ℕ
weight_of t = trail_weight 3 (decisions_on t.placed)

pub record WorkedTrails : Type 0 where
  pub value : value_on decided_first.placed 2 ≡ Some false
  pub place : place_on decided_first.placed 2 ≡ 1
  pub level : decision_level_on decided_first.placed 2 ≡ 1
  pub cause : cause_on decided_first.placed 2 ≡ Some (Propagated 7)
  pub unassigned : value_on decided_first.placed 3 ≡ None
  pub decision_counts_one : weight_of decided_first ≡ 5
  pub undone : (undone_to 0 decided_first).placed ≡ []
  pub turn_weighs_more : weight_of turned ≡ 8
  pub undone_ones_count : turned.assigned ≡ 3
  pub propagated_thrice : weight_of propagated ≡ 14
  pub unmarked_at_first : is_marked decided_first 2 ≡ false
  pub marked : is_marked cleaned 2 ≡ true
  pub first_stays_unmarked : is_marked cleaned 1 ≡ false
  pub clean_reason : cause_on cleaned.placed 2 ≡ Some (Propagated 9)
  pub first_cause_stays : cause_on cleaned.placed 1 ≡ Some Decided
  pub clean_value : value_on cleaned.placed 2 ≡ Some false
  pub room_is_of_open_scopes : (with_room new_trail 3).finished ≡ false ∷ false ∷ false ∷ []
  pub half_assigned_scope :
      (with_literal three_variables (with_room new_trail 3) (plus 1) Decided).finished ≡ false ∷ false ∷ false ∷ []
  pub filled_scope : first_filled.finished ≡ true ∷ false ∷ false ∷ []
  pub decision_passes_empty_scopes : all_filled.finished ≡ true ∷ true ∷ true ∷ []
  pub undone_scope_is_open : (undone_to 0 all_filled).finished ≡ true ∷ true ∷ false ∷ []
  pub scopes_past_the_room : (with_literal with_empty_scope new_trail (plus 1) Decided).finished ≡ []
  pub assumed_scope : (with_assumed with_empty_scope (with_room new_trail 1) (minus 1 ∷ [])).finished ≡ true ∷ []
  pub emptied : (cleared all_filled).finished ≡ false ∷ false ∷ false ∷ []
  pub mark_is_forgotten : is_marked cleaned_before 2 ≡ false
  pub restart_counts : (restarted decided_first).restarts ≡ 1
  pub restarts_add_up : (restarted (restarted decided_first)).restarts ≡ 2
  pub restart_undoes : (restarted decided_first).placed ≡ []
  pub restart_keeps_level_0 : (restarted propagated).placed ≡ propagated.placed
  pub restart_counts_no_assignment : (restarted turned).assigned ≡ 3
  pub no_decision_after_a_cut : (undone_to 0 decided_first).allowed ≡ NoDecision
  pub decision_after_a_restart : (restarted decided_first).allowed ≡ Anything
  pub nothing_after_giving_up : (restarted (given_up new_trail 1)).allowed ≡ Nothing
  pub cleared_begins_anew : (cleared (restarted decided_first)).restarts ≡ 0

-- 1 is decided, and nothing else
abbrev pub decided_alone : TrailState
decided_alone = with_literal three_variables new_trail (plus 1) Decided

pub record WorkedOutweighs : Type 0 where
  -- a trail outweighs its front; the front doesn't outweigh it, nor does it outweigh itself
  pub outweighs_front : Outweighs decided_first.placed decided_alone.placed
  pub front_is_lighter : Outweighs decided_alone.placed decided_first.placed → ⊥
  pub not_itself : Outweighs decided_first.placed decided_first.placed → ⊥
  -- an assignment in the place of a decision outweighs it with all behind it, where these fit into the variables, but
  -- not whatever their number
  pub in_the_place : OutweighsWithOne [] decided_first.placed
  pub not_whatever_number : Outweighs turned.placed decided_first.placed → ⊥
  -- not so a decision with an assignment behind it and one more
  pub not_behind_a_decision : OutweighsWithOne decided_first.placed turned.placed → ⊥
