use Rattle.std.proofs.Common.{◌≡◌, ℕ, ◌<◌, ◌≤◌, ◌/◌, false, length, sym, ◌∙◌, ⊎_elim}
use Rattle.std.proofs.lemmas.Bool.{ltb-true, lt-ltb, cases_lt, false≢true}
use Rattle.std.proofs.Math.Dec.{ltb}
use Rattle.pages.proofs.Paged.{none_told, past_told, some_told}
use Rattle.pages.proofs.pages.Pages.get.Goals as goal

past : (a b : ℕ) → false ≡ ltb a b → b ≤ a
past a b e = ⊎_elim (λ (low : a < b). absurd (false≢true (e ∙ lt-ltb a b low))) (λ (high : b ≤ a). high) (cases_lt a b)

pub returns-in-Some-clause-some : goal.returns-in-Some-clause-some
returns-in-Some-clause-some g c =
    let look = c.in-Some.ensures.lookup in
    let items = c.deref.ensures.value in
    let low = ltb-true (c.args.at / 64) (length c.deref.result.now) (sym look.0) in
    some_told c.self.inside.pages.items c.self.invariant.0 (λ x. x.now) c.get-in-Some.result c.args.at g.T.Blank.blank
    c.in-Some.page.now c.args.self.now (rw (← items) low) (rw
    (← items) look.1) c.self.view_is c.get-in-Some.ensures.some

pub returns-in-Some-clause-none : goal.returns-in-Some-clause-none
returns-in-Some-clause-none g c =
    let look = c.in-Some.ensures.lookup in
    let items = c.deref.ensures.value in
    let low = ltb-true (c.args.at / 64) (length c.deref.result.now) (sym look.0) in
    none_told c.self.inside.pages.items c.self.invariant.0 c.get-in-Some.result c.args.at g.T.Blank.blank
    c.in-Some.page.now c.args.self.now (rw (← items) low) (rw
    (← items) look.1) c.self.view_is c.get-in-Some.ensures.none

pub returns-in-None-clause-none : goal.returns-in-None-clause-none
returns-in-None-clause-none g c =
    let high = past (c.args.at / 64) (length c.deref.result.now) c.in-None.ensures.lookup.0 in
    past_told c.self.inside.pages.items c.self.invariant.0 c.args.at g.T.Blank.blank c.args.self.now
    (rw (← c.deref.ensures.value) high) c.self.view_is
