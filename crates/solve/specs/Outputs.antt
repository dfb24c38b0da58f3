-- What is written, and what is told of the searches that stopped.
use Rattle.std.specs.Prelude.{ℕ, true, false, Bool, if◌then◌else◌, List, ◌++◌, codes, []}
use Rattle.std.specs.Fmt.{decimal}
use Rattle.prefix.specs.Literal.{Literal}
use Rattle.trail.specs.State.{Account}

abbrev pub Text : Type 0
Text = List ℕ

-- what replies write, and what is told of the searches that stopped, one for each `UNKNOWN`
pub record Output : Type 0 where
  pub text : Text
  pub stops : List Account

-- a text alone
abbrev pub says : Text → Output
says text = record { text = text; stops = [] }

-- a literal as a number: that of its variable, with a minus sign for a negation
abbrev pub literal_number : Literal → Text
literal_number l = (if l.positive then [] else codes "-") ++ decimal l.variable

abbrev pub verdict_text : Bool → Text
verdict_text true = codes "SAT\n"
verdict_text false = codes "UNSAT\n"
