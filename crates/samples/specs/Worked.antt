-- Worked values: the first formulas from seed 0 on, their counts, and what is left on an output.
use Rattle.std.specs.Prelude.{◌≡◌, [], codes, true, Some}
use Rattle.generate.specs.Made.{made}
use Rattle.solve.specs.declared.ending.Ending.TheVariants.{Done, NoMemory, ReadFault, WriteFault}
use Rattle.samples.specs.Samples.{LeavesText, counts_lines, counts_text, false_ones, is_true, sample, true_ones}

pub record WorkedSamples : Type 0 where
  -- the numbers of variables and clauses go up, and begin anew after ten and after 37 formulas
  pub first : sample 0 0 ≡ made 0 3 1
  pub eleventh : sample 5 10 ≡ made 15 3 11
  pub last : sample 0 37 ≡ made 37 10 1
  -- the first two are true
  pub true_first : is_true 0 0 ≡ true
  pub two_true : true_ones 0 2 ≡ 2
  pub none_false : false_ones 0 2 ≡ 0
  pub text : counts_text 0 1 ≡ codes "formulas 1\nsat 1\nunsat 0\n"
  pub lines : counts_lines 12 7 5 ≡ codes "formulas 12\nsat 7\nunsat 5\n"
  -- all of a text, or a front of it
  pub whole : LeavesText (codes "ab") (Some []) (Some (codes "ab")) (Done 0)
  pub other_status : LeavesText (codes "ab") (Some []) (Some (codes "ab")) (Done 10) → ⊥
  pub part : LeavesText (codes "ab") (Some []) (Some (codes "a")) WriteFault
  pub not_kept : LeavesText (codes "ab") (Some []) (Some (codes "ab")) NoMemory → ⊥
  pub unread : LeavesText (codes "ab") (Some []) (Some []) ReadFault → ⊥
