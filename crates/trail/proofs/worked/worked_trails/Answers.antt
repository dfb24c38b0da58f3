use Rattle.std.proofs.Common.{refl}
use Rattle.calculus.specs.Weights.{trail_weight}
use Rattle.trail.proofs.worked.worked_trails.Goals as goal

pub returns : goal.returns
unfolding trail_weight
returns c =
    record {
      value = refl;
      place = refl;
      level = refl;
      cause = refl;
      unassigned = refl;
      decision_counts_one = refl;
      undone = refl;
      turn_weighs_more = refl;
      undone_ones_count = refl;
      propagated_thrice = refl;
      unmarked_at_first = refl;
      marked = refl;
      first_stays_unmarked = refl;
      clean_reason = refl;
      first_cause_stays = refl;
      clean_value = refl;
      room_is_of_open_scopes = refl;
      half_assigned_scope = refl;
      filled_scope = refl;
      decision_passes_empty_scopes = refl;
      undone_scope_is_open = refl;
      scopes_past_the_room = refl;
      assumed_scope = refl;
      emptied = refl;
      mark_is_forgotten = refl;
      restart_counts = refl;
      restarts_add_up = refl;
      restart_undoes = refl;
      restart_keeps_level_0 = refl;
      restart_counts_no_assignment = refl;
      no_decision_after_a_cut = refl;
      decision_after_a_restart = refl;
      nothing_after_giving_up = refl;
      cleared_begins_anew = refl;
    }
