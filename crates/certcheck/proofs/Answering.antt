-- What an answer that is the formula says of it, and which answer it is.
use Rattle.std.proofs.Common.{◌≡◌, Bool, true, false, Option, Some, None, Result, Ok, Err, refl, sym, subst}
use Rattle.std.specs.Prelude.{nat_lt, if◌then◌else◌}
use Rattle.std.specs.Option.{option_map}
use Rattle.std.specs.Result.{IfOk}
use Rattle.std.specs.List.{AllByRecursion}
use Rattle.truth.specs.declared.formula.Formula.{Formula}
use Rattle.reading.specs.declared.refusal.Quantity.TheVariants.{Variables}
use Rattle.truth.specs.Formed.{IsClauseOver, IsFormed}
use Rattle.truth.specs.Limits.{max_vars}
use Rattle.builder.specs.declared.beyond.Beyond.{Beyond}
use Rattle.builder.specs.Building.{beyond_of}
use Rattle.builder.proofs.Finishing.{few_from}
use Rattle.certcheck.specs.declared.fault.CheckFault.{CheckFault}
use Rattle.certcheck.specs.declared.fault.CheckFault.TheVariants.{Limit, NoMemory}
use Rattle.certcheck.specs.Building.{IsAnswer, limit_of, quantity_of}

pub answer_has : (P : Formula → Type 0) (r : Result Formula CheckFault) (f : Formula) → IsAnswer r f → P f → IfOk r P
answer_has P (Ok g) f is h = subst P (sym is.0) h
answer_has P (Err (Limit quantity)) f is h = tt
answer_has P (Err NoMemory) f is h = tt

none_passed : (a : Bool) (o : Option Beyond) → (if a then Some Variables else option_map quantity_of o) ≡ None
    → o ≡ None
none_passed true o e = absurd (let f : Some Variables ≡ None = e in cc)
none_passed false None e = refl
none_passed false (Some limit) e = absurd (let f : Some (quantity_of limit) ≡ None = e in cc)

formed_of : (f : Formula) → AllByRecursion (IsClauseOver f.prefix) f.clauses → limit_of f ≡ None → IsFormed f
formed_of f rows none =
    let within = few_from f.clauses (none_passed (nat_lt max_vars f.declared_vars) (beyond_of f.clauses) none) in
    record { rows = rows; count = within.0; amount = within.1 }

pub answer_formed : (r : Result Formula CheckFault) (f : Formula) → IsAnswer r f
    → AllByRecursion (IsClauseOver f.prefix) f.clauses → IfOk r IsFormed
answer_formed (Ok g) f is rows = subst IsFormed (sym is.0) (formed_of f rows is.1)
answer_formed (Err (Limit quantity)) f is rows = tt
answer_formed (Err NoMemory) f is rows = tt
