use Rattle.std.proofs.Common.{refl}
use Rattle.files.proofs.check.load.Goals as goal

pub returns-clause-formula : goal.returns-clause-formula
returns-clause-formula g c = (c.in_ok-engine.ensures, c.in_ok-f.ensures.formed, c.in_ok-f.ensures.outcome)

pub returns-clause-desk : goal.returns-clause-desk
returns-clause-desk g c =
    let read = c.in_ok-f.ensures in
    record {
      to_end = read.read;
      counted = record {
        later = read.cause.later;
        rose = λ is. absurd (cc);
        kept = λ ok. read.cause.kept refl;
      };
      flowing = λ flows. (λ is. absurd (cc), (read.flows flows).1);
      holds = read.content;
      stays = read.stays;
    }
