use Rattle.prefix.specs.Scopes.{place_of}
use Rattle.calculus.proofs.Changes.{extends_itself, extends_scope, extends_variable}
use Rattle.calculus.proofs.Growing.{extends_twice, kept_extends}
use Rattle.calculus.proofs.derivations.prefixes_grow.Goals as goal

pub returns : goal.returns
returns c = record {
  itself = extends_itself;
  scope = λ scopes q at within. extends_scope scopes (place_of scopes at) q
      within;
  variable = extends_variable;
  inserted = kept_extends;
  follows = extends_twice;
}
