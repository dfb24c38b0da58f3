use Rattle.std.proofs.Common.{◌≡◌, ◌≤◌, List, [], ◌∷◌, length, codes, None, Some, refl, ap, subst, arith, ⊎_elim}
use Rattle.qscript.specs.declared.command.Command.{Command}
use Rattle.qscript.specs.declared.command.Command.TheVariants.{Pop, Push}
use Rattle.qscript.specs.Reads.{done, limit, refused}
use Rattle.solve.specs.declared.ending.Ending.TheVariants.{Done, Limit, NoMemory, ReadFault, Refused, WriteFault}
use Rattle.versions.specs.declared.version.Version.TheVariants.{One, Two}
use Rattle.reading.specs.declared.refusal.Quantity.TheVariants.{Bytes}
use Rattle.qscript.proofs.Outcomes.{computed_reading, one_reading}
use Rattle.session.specs.Replies.{Leads}
use Rattle.solve.specs.Outputs.{says}
use Rattle.solve.specs.Standing.{start}
use Rattle.solve.specs.Terms.{terms_of}
use Rattle.solve.specs.Worked.{at_thirty_six}
use Rattle.session.specs.WorkedScripts.{one_refusal, sat_line, two_pops, two_refusals}
use Rattle.session.proofs.ScriptValues.{at_start, both_read, first_ones, first_version, front_head, leads_one, leads_two, none_told, read_length, reply_length, some_reply, too_short, whole_length}
use Rattle.session.proofs.worked.worked_scripts.Goals as goal

pub returns : goal.returns
returns c = record {
  malformed = ([], (Some One, computed_reading sat_line));
  malformed_done = λ h. absurd (let no : refused 31 2 ≡ done =
      (one_reading sat_line (Some One) h.2.0 [] h.1 (refused 31 2) done (computed_reading sat_line) h.2.1).2 in cc);
  other_status = λ h. absurd (let no : 10 ≡ 0 = h.0 in omega (arith, no));
  no_limit = λ h. absurd (let no : done ≡ limit 4 =
      (one_reading two_pops (Some One) h.2.0 (Pop ∷ Pop ∷ []) h.1 done (limit 4) both_read h.2.1).2 in cc);
  of_bytes = λ text quantity line h. h.0;
  of_no_check = λ text quantity h. h;
  none_first = (Pop ∷ Pop ∷ [], done, both_read);
  one_first = (Pop ∷ [], done, both_read);
  both_first = ([], done, both_read);
  other_first = λ h. ⊎_elim (λ e. absurd (let f : Push ∷ [] ≡ [] = e in cc))
      (⊎_elim (λ e. absurd (let f : Push ∷ [] ≡ Pop ∷ [] = e in let g : Push ≡ Pop = cc in cc))
      (λ e. absurd (let n : 1 ≡ 2 = ap (λ (cs : List Command). length cs) e in omega (arith, n))))
      (first_ones (Some One) (Push ∷ []) h);
  too_many = λ h. ⊎_elim
      (λ e. absurd (let n : 3 ≡ 0 = ap (λ (cs : List Command). length cs) e in omega (arith, n)))
      (⊎_elim (λ e. absurd (let n : 3 ≡ 1 = ap (λ (cs : List Command). length cs) e in omega (arith, n)))
      (λ e. absurd (let n : 3 ≡ 2 = ap (λ (cs : List Command). length cs) e in omega (arith, n))))
      (first_ones (Some One) (Pop ∷ Pop ∷ Pop ∷ []) h);
  other_version = λ h. absurd (let f : Some Two ≡ Some One = first_version (Some Two) [] h in
      let g : Two ≡ One = cc in cc);
  no_version = λ h. absurd (let f : None ≡ Some One = first_version None [] h in cc);
  second_version = ([], done, computed_reading (codes "p qscript 2\npop\n"));
  both = record {
    version = Some One;
    commands = Pop ∷ Pop ∷ [];
    out = says two_refusals;
    after = start;
    allowed = leads_two (terms_of 0 0 512);
    first = ([], done, both_read);
    all = λ read. (done, both_read);
    front = record { count = 22; within = omega arith; appended = refl };
    whole = λ sound. refl;
    told = refl;
    ends = tt;
  };
  one_alone = λ h. absurd (let n : 11 ≡ 22 = read_length (terms_of 0 0 512) one_refusal [] (Done 0) h tt
      (λ e. absurd (let f : Done 0 ≡ WriteFault = e in cc)) in omega (arith, n));
  one_alone_refused = λ h. absurd (let n : 11 ≡ 22 = read_length (terms_of 0 0 512) one_refusal [] (Refused 31 4) h tt
      (λ e. absurd (let f : Refused 31 4 ≡ WriteFault = e in cc)) in omega (arith, n));
  one_alone_limit = λ h. absurd (let n : 11 ≡ 22 = read_length (terms_of 0 0 512) one_refusal [] (Limit Bytes 4) h tt
      (λ e. absurd (let f : Limit Bytes 4 ≡ WriteFault = e in cc)) in omega (arith, n));
  ends_checked = λ h. h.ends;
  one = record {
    version = Some One;
    commands = Pop ∷ [];
    out = says one_refusal;
    after = start;
    allowed = leads_one (terms_of 0 0 512);
    first = (Pop ∷ [], done, both_read);
    all = λ read. absurd read;
    front = record { count = 11; within = omega arith; appended = refl };
    whole = λ sound. refl;
    told = refl;
    ends = tt;
  };
  none_read = record {
    version = Some One;
    commands = [];
    out = says [];
    after = start;
    allowed = (refl, refl);
    first = (Pop ∷ Pop ∷ [], done, both_read);
    all = λ read. absurd read;
    front = record { count = 0; within = omega arith; appended = refl };
    whole = λ sound. refl;
    told = refl;
    ends = tt;
  };
  part = λ h. too_short 3 (whole_length (terms_of 0 0 512) (codes "ref") [] NoMemory h
      (λ e. absurd (let f : NoMemory ≡ WriteFault = e in cc)))
      (λ e. omega (arith, e)) (λ e. omega (arith, e)) (λ e. omega (arith, e));
  part_read = λ h. too_short 3 (whole_length (terms_of 0 0 512) (codes "ref") [] ReadFault h
      (λ e. absurd (let f : ReadFault ≡ WriteFault = e in cc)))
      (λ e. omega (arith, e)) (λ e. omega (arith, e)) (λ e. omega (arith, e));
  front = record {
    version = Some One;
    commands = Pop ∷ Pop ∷ [];
    out = says two_refusals;
    after = start;
    allowed = leads_two (terms_of 0 0 512);
    first = ([], done, both_read);
    all = λ read. absurd read;
    front = record { count = 14; within = omega arith; appended = refl };
    whole = λ sound. absurd (sound refl);
    told = refl;
    ends = tt;
  };
  no_front = λ h. absurd (let n : 83 ≡ 114 = front_head (terms_of 0 0 512) (codes "SAT\n") [] WriteFault h in
      omega (arith, n));
  not_its_own = λ h. too_short 6 (whole_length (terms_of 0 0 512) (codes "UNSAT\n") [] NoMemory h
      (λ e. absurd (let f : NoMemory ≡ WriteFault = e in cc)))
      (λ e. omega (arith, e)) (λ e. omega (arith, e)) (λ e. omega (arith, e));
  told = λ h. absurd (let f : at_thirty_six ∷ [] ≡ [] =
      none_told (terms_of 0 0 512) two_refusals (at_thirty_six ∷ []) (Done 0) h in cc);
  room = λ version commands out after leads first.
      let long = reply_length out (some_reply (terms_of 0 0 512) commands (first_ones version commands first) out after
      (subst (λ s. Leads (terms_of 0 0 512) s commands out after) (at_start version commands first) leads))
      (length out.text) refl in
      ⊎_elim (λ n. omega (arith, n)) (⊎_elim (λ n. omega (arith, n)) (λ n. omega (arith, n))) long;
  no_room = λ room. absurd (let few : 22 ≤ 21 = room (Some One) (Pop ∷ Pop ∷ []) (says two_refusals) start
      (leads_two (terms_of 0 0 512))
      ([], done, both_read) in omega (arith, few));
}
