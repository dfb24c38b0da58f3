use Rattle.std.proofs.Common.{refl, [], ◌∷◌, ◌++◌}
use Rattle.std.specs.Prelude.{codes}
use Rattle.qscript.specs.Worked.{text}
use Rattle.qscript.proofs.Outcomes.{only_reading}
use Rattle.qscript.proofs.worked.worked_scripts.Goals as goal

pub returns : goal.returns
returns c = record {
  scripts = record {
    frames = refl;
    asks = refl;
    header_alone = refl;
    any_number = refl;
    comments = refl;
    long_word_is_no_comment = refl;
    number_is_no_command = refl;
    commands_before_stay = refl;
    clause_without_zero = refl;
    clause_cut_by_the_end = refl;
    two_zeros = refl;
    zero_inside = refl;
    push_takes_nothing = refl;
    no_quantifier = refl;
    negative_variable = refl;
    zero_is_no_literal = refl;
    one_number_too_many = refl;
    one_number_too_few = refl;
    minus_zero = refl;
    number_range = refl;
    bad_comment = refl;
    line_before_bad_byte = refl;
    command_before_bad_byte = refl;
    word_before_bad_byte = refl;
    bad_byte_in_the_line = refl;
    limit_behind_a_line = refl;
    limit_in_a_line = refl;
    limit_in_the_header = refl;
    groups = refl;
    groups_beside_others = refl;
    no_group_in_the_first = refl;
    no_core_in_the_second = refl;
    open_wants_a_group = refl;
    one_group = refl;
    negative_group = refl;
    group_in_letters = refl;
    close_takes_nothing = refl;
    core_takes_nothing = refl;
    limit_before_the_header = refl;
  };
  headers = record {
    first_version = only_reading (text (codes "p qscript 1/solve/"));
    second_version = only_reading (text (codes "p qscript 2/solve/"));
    first_alone = only_reading (text (codes "p qscript 1"));
    third_version = only_reading (text (codes "p qscript 3/open 7/core/"));
    second_alone = only_reading (text (codes "c 1// p  qscript 02"));
    malformed_behind = only_reading (text (codes "p qscript 2/jump/"));
    second_header = only_reading (text (codes "p qscript 2/p qscript 1/"));
    fourth_version = only_reading (text (codes "p qscript 4/"));
    ninth_version = only_reading (text (codes "p qscript 9/"));
    version_of_none = only_reading (text (codes "p qscript 0/"));
    negative_version = only_reading (text (codes "p qscript -1/"));
    no_version = only_reading (text (codes "p qscript"));
    header_goes_on = only_reading (text (codes "p qscript 1 1/"));
    both_versions = only_reading (text (codes "p qscript 1 2/"));
    header_over_lines = only_reading (text (codes "p qscript/2/"));
    other_format = only_reading (text (codes "/p cnf 2 1/"));
    no_text = only_reading (text []);
    no_word = only_reading (text (codes "c/ /"));
    command_first = only_reading (text (codes "solve/p qscript 1/"));
    bad_byte_in_the_header = only_reading (text (codes "p qscript 2 " ++ 139 ∷ []));
    bad_byte_behind_a_word = only_reading (text (codes "p qscript 4 " ++ 139 ∷ []));
    number_range_in_the_header = only_reading (text (codes "p qscript 9223372036854775808/"));
  };
}
