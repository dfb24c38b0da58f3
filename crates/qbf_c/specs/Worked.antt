-- Worked values: codes, what a buffer holds, what a command's code says, and what a solve's does.
use Rattle.std.specs.Prelude.{◌≡◌, ℕ, Bool, true, false, List, [], ◌∷◌, Some, None, ⊤}
use Rattle.prefix.specs.declared.quant.Quant.TheVariants.{Exists, Forall}
use Rattle.versions.specs.declared.version.Version.TheVariants.{One, Two, Three}
use Rattle.trail.specs.State.{Account}
use Rattle.frames.specs.declared.refusal.FrameRefusal.TheVariants.{NoFrame, GroupFrame, NoMemory}
use Rattle.engine.specs.declared.refusal.AskRefusal.TheVariants.{NoVerdict, NotWinner}
use Rattle.engine.specs.declared.group_core.CoreRefusal.TheVariants.{NotUnsat, Spent}
use Rattle.engine.specs.State.{EngineState, new_engine}
use Rattle.qbf_c.specs.Buffers.{AreLeftOut, Fills, FillsInPlace, IsPut}
use Rattle.qbf_c.specs.Codes.{Did, DidInPlace, ask_code, ask_refusal_code, core_code, forall_number, place_for, quantifier_for, refusal_at, refusal_code, truth_code, verdict_code, version_for}
use Rattle.qbf_c.specs.Made.{Makes}
use Rattle.qbf_c.specs.Solved.{RanOut}

pub record WorkedCodes : Type 0 where
  -- a refusal's number; want of memory has a code of its own
  pub no_frame : refusal_code NoFrame ≡ 40
  pub group_frame : refusal_code GroupFrame ≡ 49
  pub memory : refusal_code NoMemory ≡ 60
  pub no_verdict : ask_code NoVerdict ≡ 50
  pub not_winner : ask_code NotWinner ≡ 52
  pub not_false : core_code NotUnsat ≡ 53
  pub spent : (account : Account) → core_code (Spent account) ≡ 63
  -- a new engine has no verdict
  pub unasked : ask_refusal_code new_engine ≡ Some 50
  pub unsolved : verdict_code new_engine.verdict ≡ 50
  pub yes : truth_code true ≡ 10
  pub no : truth_code false ≡ 20
  -- quantifiers, places and versions
  pub universal : quantifier_for true ≡ Forall
  pub existential : quantifier_for false ≡ Exists
  pub one : forall_number Forall ≡ 1
  pub zero : forall_number Exists ≡ 0
  pub last : place_for 0 ≡ None
  pub third : place_for 3 ≡ Some 3
  pub first_version : version_for 1 ≡ Some One
  pub second_version : version_for 2 ≡ Some Two
  pub third_version : version_for 3 ≡ Some Three
  pub no_version : version_for 0 ≡ None
  pub fourth_version : version_for 4 ≡ None
  -- of no scope there is none
  pub no_scope : refusal_at [] 1 ≡ Some 3

pub record WorkedBuffers : Type 0 where
  -- three values in a buffer of four, of three and of two
  pub room : IsPut {A = ℕ} (1 ∷ 2 ∷ 3 ∷ []) (7 ∷ 7 ∷ 7 ∷ 8 ∷ []) (1 ∷ 2 ∷ 3 ∷ 8 ∷ []) 3 0
  pub full : IsPut {A = ℕ} (1 ∷ 2 ∷ 3 ∷ []) (7 ∷ 7 ∷ 7 ∷ []) (1 ∷ 2 ∷ 3 ∷ []) 3 0
  pub short : IsPut {A = ℕ} (1 ∷ 2 ∷ 3 ∷ []) (7 ∷ 7 ∷ []) (7 ∷ 7 ∷ []) 3 62
  -- none is cut, none is short that suffices, the rest is as it was, and the count is told either way
  pub cut : IsPut {A = ℕ} (1 ∷ 2 ∷ 3 ∷ []) (7 ∷ 7 ∷ []) (1 ∷ 2 ∷ []) 3 62 → ⊥
  pub not_short : IsPut {A = ℕ} (1 ∷ 2 ∷ []) (7 ∷ 7 ∷ []) (7 ∷ 7 ∷ []) 2 62 → ⊥
  pub rest : IsPut {A = ℕ} (1 ∷ []) (7 ∷ 7 ∷ []) (1 ∷ 1 ∷ []) 1 0 → ⊥
  pub uncounted : IsPut {A = ℕ} (1 ∷ 2 ∷ 3 ∷ []) (7 ∷ 7 ∷ []) (7 ∷ 7 ∷ []) 0 62 → ⊥
  -- a refused call leaves the buffer and the count
  pub refused : Fills (Some 50) (λ (xs : List ℕ). xs ≡ []) (7 ∷ []) (7 ∷ []) 4 4 50
  pub wrote : Fills (Some 50) (λ (xs : List ℕ). xs ≡ []) (7 ∷ []) (1 ∷ []) 4 4 50 → ⊥
  pub counted : Fills (Some 50) (λ (xs : List ℕ). xs ≡ []) (7 ∷ []) (7 ∷ []) 4 0 50 → ⊥
  pub other_code : Fills (Some 50) (λ (xs : List ℕ). xs ≡ []) (7 ∷ []) (7 ∷ []) 4 4 51 → ⊥
  pub unrefused : Fills None (λ (xs : List ℕ). xs ≡ []) (7 ∷ []) (7 ∷ []) 4 4 50 → ⊥
  pub empty : AreLeftOut {A = ℕ} (7 ∷ []) (7 ∷ []) 4 4 61
  -- memory is wanting where it may
  pub wanting : Fills None (λ (xs : List ℕ). xs ≡ 1 ∷ []) (7 ∷ []) (7 ∷ []) 4 4 60
  pub in_place : FillsInPlace None (λ (xs : List ℕ). xs ≡ 1 ∷ []) (7 ∷ []) (1 ∷ []) 4 1 0
  pub in_place_short : FillsInPlace None (λ (xs : List ℕ). xs ≡ 1 ∷ []) [] [] 4 1 62
  pub in_place_refused : FillsInPlace (Some 50) (λ (xs : List ℕ). xs ≡ 1 ∷ []) (7 ∷ []) (7 ∷ []) 4 4 50
  pub never_wanting : FillsInPlace None (λ (xs : List ℕ). xs ≡ 1 ∷ []) (7 ∷ []) (7 ∷ []) 4 4 60 → ⊥
  pub other_values : FillsInPlace None (λ (xs : List ℕ). xs ≡ 1 ∷ []) (7 ∷ []) (2 ∷ []) 4 1 0 → ⊥
  pub in_place_wrote : FillsInPlace (Some 50) (λ (xs : List ℕ). xs ≡ 1 ∷ []) (7 ∷ []) (1 ∷ []) 4 4 50 → ⊥
  pub in_place_other_code : FillsInPlace (Some 50) (λ (xs : List ℕ). xs ≡ 1 ∷ []) (7 ∷ []) (7 ∷ []) 4 4 60 → ⊥

pub record WorkedCommands : Type 0 where
  -- done, refused, and wanting memory, where it may
  pub done : Did None ⊤ ⊥ 0
  pub refused : Did (Some NoFrame) ⊥ ⊤ 40
  pub wanting : Did None ⊥ ⊤ 60
  pub not_done : Did None ⊥ ⊤ 0 → ⊥
  pub undone : Did (Some NoFrame) ⊤ ⊥ 40 → ⊥
  pub unrefused : Did None ⊤ ⊤ 40 → ⊥
  pub in_place : DidInPlace None ⊤ ⊥ 0
  pub in_place_refused : DidInPlace (Some NoFrame) ⊥ ⊤ 40
  pub never_wanting : DidInPlace None ⊤ ⊤ 60 → ⊥
  -- an engine is made, or memory is wanting and the handle as it was
  pub made : Makes new_engine ⊥ true new_engine 0
  pub unmade : (live : Bool) (now : EngineState) → Makes new_engine ⊤ live now 60
  pub not_live : Makes new_engine ⊤ false new_engine 0 → ⊥
  pub other_code : (now : EngineState) → Makes new_engine ⊤ true now 61 → ⊥
  -- 0 isn't answered with steps left, nor with a budget that suffices for no variables
  pub left : (before : EngineState) → RanOut 9 before 8 → ⊥
  pub enough : RanOut 16 new_engine 16 → ⊥
