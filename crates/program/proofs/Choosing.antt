-- The input that is chosen.
use Rattle.std.proofs.Common.{◌≡◌, Option, ap, ◌∙◌}
use Rattle.std.specs.Prelude.{Result, Ok, Err, OnOk, true, false, is_ok}
use Rattle.command.specs.Forms.{Text}

-- where a choice by this name ended well, what is left is what the name holds
pub chosen : {A E : Type 0} (r : Result A E) (content : Text → Option Text) (left : Option Text) (by name : Text)
    → is_ok r ≡ true → OnOk r (left ≡ content by) → by ≡ name → left ≡ content name
chosen (Ok x) content left by name good h same = h ∙ ap content same
chosen (Err e) content left by name good h same = absurd (let f : false ≡ true = good in cc)

-- what holds where a choice ends well
pub where_chosen : {A E : Type 0} (r : Result A E) (P : Type 0) → is_ok r ≡ true → OnOk r P → P
where_chosen (Ok x) P good h = h
where_chosen (Err e) P good h = absurd (let f : false ≡ true = good in cc)
