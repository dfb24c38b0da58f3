use Rattle.std.proofs.Common.{arith, refl, sym, ap, length, subst}
use Rattle.trail.specs.State.{TrailState}
use Rattle.watch.specs.State.{WatchState}
use Rattle.search.specs.State.{IsResting}
use Rattle.search.specs.contracts.search.Search.{the_view}
use Rattle.search.proofs.Growing.{longer, resting_wide, same_trail, wider_trail, widens}
use Rattle.search.proofs.search.Search.reserve.Goals as goal

pub returns-in_err-reserve-2-clause-resting : goal.returns-in_err-reserve-2-clause-resting
returns-in_err-reserve-2-clause-resting c = λ scopes resting.
    let s = the_view c.self.inside in
    resting_wide scopes s _
    (widens s s.trail c.reserve.new.self c.reserve-2.new.self s.signs (same_trail s.trail s.trail refl) (omega arith)
    (record {
      holds = c.reserve.ensures.holds _;
      looked = c.reserve.ensures.looked;
      room = λ h. let e =
          c.in_ok-reserve.ensures.ok in omega arith;
    })
    (record {
      holds = c.reserve-2.ensures.holds _;
      looked = c.reserve-2.ensures.looked;
      room = λ h. let e =
          ap (λ (w : WatchState). w.room) c.in_err-reserve-2.ensures.err in omega arith;
    }))
    (subst (IsResting scopes) (sym c.self.view_is) resting)

pub returns-in_err-reserve-3-clause-resting : goal.returns-in_err-reserve-3-clause-resting
returns-in_err-reserve-3-clause-resting c = λ scopes resting.
    let s = the_view c.self.inside in
    resting_wide scopes s _
    (widens s s.trail c.reserve.new.self c.reserve-2.new.self c.reserve-3.new.self (same_trail s.trail s.trail refl)
    (let e = ap length c.in_err-reserve-3.ensures.err in omega arith)
    (record {
      holds = c.reserve.ensures.holds _;
      looked = c.reserve.ensures.looked;
      room = λ h. let e =
          c.in_ok-reserve.ensures.ok in omega arith;
    })
    (record {
      holds = c.reserve-2.ensures.holds _;
      looked = c.reserve-2.ensures.looked;
      room = λ h. let e =
          c.in_ok-reserve-2.ensures.ok in omega arith;
    }))
    (subst (IsResting scopes) (sym c.self.view_is) resting)

pub returns-in_err-reserve-4-clause-resting : goal.returns-in_err-reserve-4-clause-resting
returns-in_err-reserve-4-clause-resting c = λ scopes resting.
    let s = the_view c.self.inside in
    resting_wide scopes s _
    (widens s c.reserve-4.new.self c.reserve.new.self c.reserve-2.new.self c.reserve-3.new.self
    (same_trail s.trail c.reserve-4.new.self c.in_err-reserve-4.ensures.err)
    (longer s.signs c.reserve-3.new.self c.in_ok-reserve-3.ensures.grown)
    (record {
      holds = c.reserve.ensures.holds _;
      looked = c.reserve.ensures.looked;
      room = λ h. let r =
          ap (λ (t : TrailState). t.room) c.in_err-reserve-4.ensures.err in let e = c.in_ok-reserve.ensures.ok in
          omega arith;
    })
    (record {
      holds = c.reserve-2.ensures.holds _;
      looked = c.reserve-2.ensures.looked;
      room = λ h. let r =
          ap (λ (t : TrailState). t.room) c.in_err-reserve-4.ensures.err in let e = c.in_ok-reserve-2.ensures.ok in
          omega arith;
    }))
    (subst (IsResting scopes) (sym c.self.view_is) resting)

pub returns-clause-resting : goal.returns-clause-resting
returns-clause-resting c = λ scopes resting.
    let s = the_view c.self.inside in
    resting_wide scopes s _
    (widens s c.reserve-4.new.self c.reserve.new.self c.reserve-2.new.self c.reserve-3.new.self
    (wider_trail s.trail c.reserve-4.new.self _ c.in_ok-reserve-4.ensures.ok c.reserve-4.ensures.kept)
    (longer s.signs c.reserve-3.new.self c.in_ok-reserve-3.ensures.grown)
    (record {
      holds = c.reserve.ensures.holds _;
      looked = c.reserve.ensures.looked;
      room = λ h. let r =
          ap (λ (t : TrailState). t.room) c.in_ok-reserve-4.ensures.ok in let e = c.in_ok-reserve.ensures.ok in
          omega arith;
    })
    (record {
      holds = c.reserve-2.ensures.holds _;
      looked = c.reserve-2.ensures.looked;
      room = λ h. let r =
          ap (λ (t : TrailState). t.room) c.in_ok-reserve-4.ensures.ok in let e = c.in_ok-reserve-2.ensures.ok in
          omega arith;
    }))
    (subst (IsResting scopes) (sym c.self.view_is) resting)
