use Rattle.std.proofs.Common.{sym, ◌∙◌, ap, Some, None}
use Rattle.std.specs.Prelude.{is_some}
use Rattle.prefix.proofs.TableLemmas.{level_is, home_within, get_or_past, slice_get_in}
use Rattle.prefix.proofs.InsertionLemmas.{level_found, level_within}
use Rattle.prefix.proofs.prefix.Prefix.level.Goals as goal

pub returns-in_err-get-clause-value : goal.returns-in_err-get-clause-value
returns-in_err-get-clause-value c =
    c.from_residual.ensures ∙ sym (level_is _ _ _ _ _ _ _ _ _ c.self.invariant.0 c.self.view_is c.index.ensures.place
    c.deref.ensures.value None (get_or_past _ _ c.in_err-get.ensures.lookup.3))

pub returns-in_err-get-clause-found : goal.returns-in_err-get-clause-found
returns-in_err-get-clause-found c = ap is_some (returns-in_err-get-clause-value c)
    ∙ level_found c.args.self.now c.args.v

pub returns-in_err-home-clause-value : goal.returns-in_err-home-clause-value
returns-in_err-home-clause-value c =
    c.from_residual-in_err-home.ensures ∙ sym (level_is _ _ _ _ _ _ _ _ _ c.self.invariant.0 c.self.view_is
    c.index.ensures.place c.deref.ensures.value None (sym c.in_err-home.was ∙ c.in_ok-get.ensures.lookup.3.1 None))

pub returns-in_err-home-clause-found : goal.returns-in_err-home-clause-found
returns-in_err-home-clause-found c = ap is_some (returns-in_err-home-clause-value c)
    ∙ level_found c.args.self.now c.args.v

pub index-requires-2 : goal.index-requires-2
index-requires-2 c =
    let within = home_within _ _ _ _ _ _ _ _ _ c.self.invariant.0 c.self.view_is c.index.ensures.place
    c.deref.ensures.value c.in_ok-home.home (sym c.in_ok-home.was ∙ c.in_ok-get.ensures.lookup.3.1 None) in
    rw c.self.inside.numbers.ok.0 within

pub returns-clause-value : goal.returns-clause-value
returns-clause-value c =
    let read = sym c.in_ok-home.was ∙ c.in_ok-get.ensures.lookup.3.1 None in
    let within = home_within _ _ _ _ _ _ _ _ _ c.self.invariant.0 c.self.view_is c.index.ensures.place
    c.deref.ensures.value c.in_ok-home.home read in
    ap Some c.index-2.ensures ∙ sym (slice_get_in c.self.inside.numbers.items c.in_ok-home.home c.index-2.result.now
    within) ∙ sym (level_is _ _ _ _ _ _ _ _ _ c.self.invariant.0 c.self.view_is c.index.ensures.place
    c.deref.ensures.value (Some c.in_ok-home.home) read)

pub returns-clause-found : goal.returns-clause-found
returns-clause-found c = ap is_some (returns-clause-value c) ∙ level_found c.args.self.now c.args.v

pub returns-clause-within : goal.returns-clause-within
returns-clause-within c = rw (← returns-clause-value c) at (level_within c.args.self.now c.args.v)
