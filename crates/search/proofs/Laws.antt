-- The laws of the layers below, as the proofs of this one take them.
use Rattle.std.proofs.Common.{refl}
use Rattle.calculus.specs.Derivations.{side_core}
use Rattle.calculus.specs.RowTheorems.{ReductionsKeepUnit, ReductionsStay, RowLaws, ValueLaws}
use Rattle.calculus.specs.VerdictTheorems.{EndRowsGiveProofs, ProofsDecide}
use Rattle.calculus.proofs.Ascending.{pairs_from}
use Rattle.calculus.proofs.Badness.{bad_clause, bad_cube, clean_clause, clean_cube, extended_true}
use Rattle.calculus.proofs.Cores.{core_gives}
use Rattle.calculus.proofs.Needed.{its_core}
use Rattle.calculus.proofs.Opposites.{bad_reduced, cube_bad, opposite, reduce_part, satisfied, unit_reduced}
use Rattle.calculus.proofs.RowLaws.{reduce_reads, reduce_row, reduce_twice, resolve_row, same_rows}
use Rattle.calculus.proofs.RowLemmas.{resolve_at}
use Rattle.calculus.proofs.Sound.{sound}
use Rattle.calculus.proofs.TrailLaws.{extended_bad}
use Rattle.calculus.proofs.Verdict.{proof_decides}
use Rattle.derive.specs.Theorems.{ClausesAreListed, GrowthLaws, PrefixesMayChange, PrefixesMayGrow, SameClausesServe, StepsAreListed}
use Rattle.derive.proofs.Drops.{restored}
use Rattle.derive.proofs.Growth.{grows_by_removal, grows_by_step, grows_cut, grows_itself, grows_twice}
use Rattle.derive.proofs.Legality.{grown, listed_as_told, listed_is_step, listed_told, moved, served}
use Rattle.derive.proofs.Listing.{listed_note, listed_row}
use Rattle.watch.specs.Laws.{AgreeingLaws, HoldingLaws, LookingLaws}
use Rattle.watch.specs.State.{looked}
use Rattle.watch.proofs.Moving.{attached_live}
use Rattle.watch.proofs.Stability.{agrees_added, agrees_attached, agrees_detached, agrees_freed, agrees_itself, agrees_linked, agrees_next, agrees_same, agrees_then, front_assigned, front_cleared, front_cut, front_grows, front_undone, holds_agrees, holds_begins, holds_grows, holds_moves, reserved_from}
use Rattle.step_core.specs.Theorems.{FinishesEndProofs}
use Rattle.step_core.proofs.Finishing.{finish_ends}

-- rows

pub row_laws : RowLaws
row_laws = record {
  same_rows = λ a b up down to from. same_rows a b (pairs_from a up) (pairs_from b down) to from;
  reduce_row = reduce_row;
  resolve_row = resolve_row;
  reduce_twice = reduce_twice;
  reduce_part = reduce_part;
  resolve_part = λ a b x l i. let r = resolve_at a b x l i in (r.1, r.0);
}

pub reductions_stay : ReductionsStay
reductions_stay = record {
  reduced = λ pivot old new row extends is_row. reduce_reads pivot old new row
      (λ l i. extends.quantifiers l.variable (is_row.over_prefix l i))
      (λ l m i j. extends.depths l.variable m.variable (is_row.over_prefix l i) (is_row.over_prefix m j));
  row = λ old new row extends is_row. record {
    ascending = is_row.ascending;
    over_prefix = λ l i. extends.has l.variable (is_row.over_prefix l i);
  };
}

pub reductions_keep_unit : ReductionsKeepUnit
reductions_keep_unit = record { bad = bad_reduced; unit = unit_reduced }

pub value_laws : ValueLaws
value_laws = record {
  extended_bad = extended_bad;
  extended_true = extended_true;
  bad_clause = bad_clause;
  bad_cube = bad_cube;
  clean_clause = clean_clause;
  clean_cube = clean_cube;
  total_bad = λ pivot values l. refl;
  true_in_cube = λ values l. cube_bad (values l.variable) l.positive l.variable;
  opposite = opposite;
  satisfied = satisfied;
}

-- derivations

pub growth_laws : GrowthLaws
growth_laws = record {
  itself = grows_itself;
  follows = grows_twice;
  adds = grows_by_step;
  removes = grows_by_removal;
  restores = λ before after cut grows cuts. restored before after cut grows.longer grows.others grows.given cuts.drops
      cuts.front;
  cuts = grows_cut;
}

pub clauses_are_listed : ClausesAreListed
clauses_are_listed = record { note = listed_note; row = listed_row }

pub steps_are_listed : StepsAreListed
steps_are_listed = record { listed = listed_told; stands = listed_is_step; told = listed_as_told }

pub prefixes_may_change : PrefixesMayChange
prefixes_may_change = moved

pub prefixes_may_grow : PrefixesMayGrow
prefixes_may_grow = grown

pub same_clauses_serve : SameClausesServe
same_clauses_serve = served

-- verdicts

pub end_rows_give_proofs : EndRowsGiveProofs
end_rows_give_proofs = record {
  core = λ pivot scopes clauses assumptions steps end d one stands core ends. core_gives pivot scopes clauses
      assumptions steps end d one stands core ends;
  step = λ scopes clauses assumptions steps end d stands ends.
      let r = its_core scopes clauses steps end d stands in
      core_gives end.side scopes clauses assumptions (side_core steps end) end r.legal (λ s i. (r.part s i).1)
      r.holds_end r.is_core ends;
}

pub proofs_decide : ProofsDecide
proofs_decide pivot scopes clauses assumptions steps distinct outer proof = proof_decides pivot scopes clauses
    assumptions steps distinct outer (sound pivot scopes clauses assumptions steps proof)

pub finishes_end_proofs : FinishesEndProofs
finishes_end_proofs = finish_ends

-- watches

pub holding_laws : HoldingLaws
holding_laws = record {
  begins = holds_begins;
  agrees = holds_agrees;
  grows = holds_grows;
  moves = holds_moves;
  undone = λ pivot scopes w arena len holds. holds;
  live = attached_live;
}

pub agreeing_laws : AgreeingLaws
agreeing_laws = record {
  itself = agrees_itself;
  then_ = agrees_then;
  same_rows = agrees_same;
  added = agrees_added;
  freed = agrees_freed;
  linked = agrees_linked;
  next_of_other = agrees_next;
  attach_of_other = agrees_attached;
  detach_of_other = agrees_detached;
}

pub looking_laws : LookingLaws
looking_laws = record {
  grows = λ w literals more front. front_grows (looked w) literals more front;
  cut = front_cut;
  assigned = front_assigned;
  undone = front_undone;
  cleared = front_cleared;
  reserved = reserved_from;
}
