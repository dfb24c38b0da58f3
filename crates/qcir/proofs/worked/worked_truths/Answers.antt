use Rattle.std.proofs.Common.{◌≡◌, true, false, refl, arith}
use Rattle.qcir.proofs.worked.worked_truths.Goals as goal

pub returns : goal.returns
returns c = record {
  after_all = refl;
  before_all = refl;
  of_doubled = refl;
  of_negation = refl;
  of_constant = refl;
  of_nothing = refl;
  there_is = refl;
  for_each = refl;
  after_is = record {
    valid = record {
      few = omega arith;
      ascending = ((tt, tt), ((tt, tt), tt));
      distinct = (refl, (refl, tt));
      in_range = ((omega arith, omega arith), ((omega arith, omega arith), tt));
    };
    gates = (refl, refl, (refl, refl, (refl, refl, tt)));
    in_range = ((omega arith, omega arith), ((omega arith, omega arith), ((omega arith, omega arith), tt)));
    output = refl;
  };
  before_is = record {
    valid = record {
      few = omega arith;
      ascending = ((tt, tt), ((tt, tt), tt));
      distinct = (refl, (refl, tt));
      in_range = ((omega arith, omega arith), ((omega arith, omega arith), tt));
    };
    gates = (refl, refl, (refl, refl, (refl, refl, tt)));
    in_range = ((omega arith, omega arith), ((omega arith, omega arith), ((omega arith, omega arith), tt)));
    output = refl;
  };
  doubled_is = record {
    valid = record {
      few = omega arith;
      ascending = ((tt, tt), (((omega arith, tt), (tt, tt)), tt));
      distinct = (refl, (refl, (refl, tt)));
      in_range = ((omega arith, omega arith), ((omega arith, omega arith), ((omega arith, omega arith), tt)));
    };
    gates = (refl, refl, (refl, refl, (refl, refl, tt)));
    in_range = ((omega arith, omega arith), ((omega arith, omega arith), ((omega arith, omega arith), tt)));
    output = refl;
  };
  constant_is = record {
    valid = record {
      few = omega arith;
      ascending = ((tt, tt), tt);
      distinct = (refl, tt);
      in_range = ((omega arith, omega arith), tt);
    };
    gates = (refl, refl, (refl, refl, (refl, refl, tt)));
    in_range = ((omega arith, omega arith), ((omega arith, omega arith), ((omega arith, omega arith), tt)));
    output = refl;
  };
  nothing_is = record {
    valid = record { few = omega arith; ascending = tt; distinct = tt; in_range = tt };
    gates = (refl, refl, tt);
    in_range = ((omega arith, omega arith), tt);
    output = refl;
  };
  of_itself = λ is. let e : false ≡ true = is.gates.0 in cc;
  twice = λ is. let e : true ≡ false = is.gates.2.1 in cc;
  unknown = λ is. let e : false ≡ true = is.output in cc;
}
