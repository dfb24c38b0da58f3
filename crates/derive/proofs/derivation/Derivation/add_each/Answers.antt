use Rattle.std.proofs.Common.{◌≡◌, ◌+◌, ◌∷◌, ◌++◌, [], List, ℕ, take, length, sym, ap, subst, ◌∙◌, arith}
use Rattle.std.proofs.lemmas.List.{take_all, take_more}
use Rattle.calculus.specs.Rows.{Row}
use Rattle.derive.specs.Inputs.{ListsAll, ListsOne}
use Rattle.derive.proofs.Entering.{grown_all, listed_front, listed_more, listed_none, unlinked_itself}
use Rattle.derive.proofs.Growth.{grows_twice}
use Rattle.derive.proofs.derivation.Derivation.add_each.Goals as goal

pub loop-clause-init : goal.loop-clause-init
loop-clause-init c = (
  listed_none c.args.prefix.now c.args.frame c.args.self.now c.args.reductions.now.items
      (unlinked_itself c.args.self.now (record { rows_here = c.requires; fits = c.next_id-next.ensures.fits })),
  c.requires,
)

pub loop-clause-preserved : goal.loop-clause-preserved
loop-clause-preserved c =
    let scopes = c.args.prefix.now in
    let row = c.clause-item.result in
    let k = c.loop-clause.clause-index in
    let now = c.add_listed.new.reductions.items in
    let one : ListsOne scopes c.args.frame c.loop-clause.self c.add_listed.new.self row c.loop-clause.reductions.items
    now =
    subst (λ (r : Row). ListsOne scopes c.args.frame c.loop-clause.self c.add_listed.new.self r
    c.loop-clause.reductions.items now)
    c.lits.ensures c.in_ok-add_listed.ensures.ok in
    let rows : take k c.args.clauses.now ++ row ∷ [] ≡ take (k + 1) c.args.clauses.now =
    ap (λ (r : Row). take k c.args.clauses.now ++ r ∷ []) c.clause-item.is
    ∙ sym (take_more c.args.clauses.now k row (omega arith)) in (
      subst (λ (rs : List Row). ListsAll scopes c.args.frame c.args.self.now c.add_listed.new.self rs
          c.args.reductions.now.items now) rows
          (listed_more scopes c.args.frame c.args.self.now c.loop-clause.self c.add_listed.new.self
          (take k c.args.clauses.now) row
          c.args.reductions.now.items c.loop-clause.reductions.items now c.loop-clause.invariant.0 one),
      c.add_listed.ensures.rows,
    )

pub returns-in_err-add_listed-clause-grows : goal.returns-in_err-add_listed-clause-grows
returns-in_err-add_listed-clause-grows c =
    let all = c.loop-clause.invariant.0 in
    grows_twice c.args.self.now c.loop-clause.self c.add_listed.new.self
    (grown_all c.args.prefix.now c.args.frame c.args.self.now c.loop-clause.self _ all.ids all.adds)
    c.add_listed.ensures.grows

pub returns-in_err-add_listed-clause-listed : goal.returns-in_err-add_listed-clause-listed
returns-in_err-add_listed-clause-listed c =
    ap (λ (ids : List ℕ). take (length c.args.reductions.now.items) ids) c.in_err-add_listed.ensures.err
    ∙ listed_front c.args.prefix.now c.args.frame c.args.self.now c.loop-clause.self _ c.args.reductions.now.items
    c.loop-clause.reductions.items c.loop-clause.invariant.0

pub returns-clause-ok : goal.returns-clause-ok
returns-clause-ok c =
    subst (λ (rs : List Row). ListsAll c.args.prefix.now c.args.frame c.args.self.now c.loop-clause.self rs
    c.args.reductions.now.items c.loop-clause.reductions.items)
    (take_all c.loop-clause.clause-index c.args.clauses.now (omega arith)) c.loop-clause.invariant.0

pub returns-clause-grows : goal.returns-clause-grows
returns-clause-grows c =
    let all = c.loop-clause.invariant.0 in
    grown_all c.args.prefix.now c.args.frame c.args.self.now c.loop-clause.self _ all.ids all.adds

pub returns-clause-listed : goal.returns-clause-listed
returns-clause-listed c =
    listed_front c.args.prefix.now c.args.frame c.args.self.now c.loop-clause.self _ c.args.reductions.now.items
    c.loop-clause.reductions.items c.loop-clause.invariant.0
