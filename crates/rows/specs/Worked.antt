-- Worked values: slots of rows, and the spots of those that have a block.
use Rattle.std.specs.Prelude.{◌≡◌, [], ◌∷◌, None, Some}
use Rattle.rows.specs.Places.{len_of, slot_of, start_of}
use Rattle.rows.specs.Spots.{all_standing}

pub record WorkedSlots : Type 0 where
  -- 2563 is 10 times 256 and 3: a length of 10, and a start of 3 times 2^32 and the other number
  pub len : len_of 2563 ≡ 10
  pub start : start_of 7 2563 ≡ 12884901895
  -- the longest row, and the last start
  pub longest : len_of 4294967039 ≡ 16777214
  pub last : start_of 4294967295 4294967039 ≡ 1099511627775
  -- a row without a block, one with the block 9, and one that isn't live
  pub own : slot_of 7 2563 ≡ Some (record { start = 12884901895; len = 10; block = None })
  pub other : slot_of 9 4294967294 ≡ Some (record { start = 0; len = 0; block = Some 9 })
  pub not_live : slot_of 9 4294967295 ≡ None
  -- three rows by two spots: the one with the block 1 stands at the second of them
  pub standing : all_standing (record { low = 6; rest = 1282 } ∷ record { low = 8; rest = 3073 } ∷ [])
      (slot_of 7 2563 ∷ slot_of 1 4294967294 ∷ slot_of 1 4294967295 ∷ [])
      ≡ Some (record { start = 12884901895; len = 10; block = None })
      ∷ Some (record { start = 4294967304; len = 12; block = Some 1 }) ∷ None ∷ []
