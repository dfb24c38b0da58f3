-- `into_box` hands the pointer to `from_raw`, with what it owns.
use Rattle.std.proofs.Common.{◌≡◌, List, [], ◌∷◌, ◌++◌, refl, sym, subst, ap}
use lib.Dec.{T}
use seplogic.Ra.Ura.{Ura}
use mir.Syntax.{Fn, Body, place, copy, assign, rv_opd, seq, return}
use mir.MapTy.{inst_fn}
use mir.Val.{Val, vptr, has_ty, WT}
use base.Logic.{SProp, ent, id⊢}
use base.Fml.{ftrue, fsep}
use prog.Memory.{Memory}
use prog.Routine.{Routine}
use prog.Wp.{WpFn, Tables}
use sound.WpLaws.{fm_of, WpFn-mono}
use contract.Monad.{Fun, fact}
use contract.Running.{tables, tables_of}
use types.Logic.{Logic}
use types.Kit.{Item, at_ret, ‵, raw, ◌⊛◌, some, later, ◌$◌, ◌∵◌, !, qed, move, drop, use1, join, split, split3, pick, rewrite, fsplit, fjoin, feq_i, suffices, await, done}
use types.Part.{whole, sub}
use types.Run.{stop, fld, no_more, and_then, of_opd, returns, enter, first, blocks, exec}
use types.ByLocal.{alloc_all, pass_all, free_all, look_at, get, get_in, sets, lands_last, env}
use denote.Exit.{no}
use denote.RawPtr.{block_ptr}
use denote.Signature.{plain}
use denote.Steps.{heard, nothing, only}
use denote.Triple.Call.{calls_at_last}
use denote.Triple.Clauses.{Ended, Clauses}
use denote.Triple.Spec.{triple_of}
use denote.Triple.Statement.{Triple, Contract}
use denote.Triple.Table.{entered}
use denote.Triple.Walked.{says, Stays, stay_dropped, walk_of, ends_at, walk_Meets}
use Rattle.core.proofs.alloc.Calls.{Al, Goes-blank}
use Rattle.std_alloc.proofs.BoxSteps.Form.{Bx, D, B, args, box_ty, word, box_typed}
use Rattle.std_alloc.proofs.BoxSteps.Steps.{box_out, box_in}
use Rattle.std_alloc.specs.contracts.boxed.Box.from_raw as closer
use Rattle.std_alloc.proofs.boxed.Box.from_raw.Symbol.{name as #closer}
use Rattle.std_alloc.proofs.boxed.Box.from_raw.Met.{met}
use Rattle.box_parts.proofs.Begun.{Pieces, tokens, outlived, on_word}
use Rattle.box_parts.specs.contracts.parts.Parts.into_box as into_box
use Rattle.box_parts.specs.contracts.parts.Parts.into_box.Key.{name as #self}
use Rattle.box_parts.proofs.parts.Parts.into_box.Statement.{statement}
use Rattle.box_parts.proofs.parts.Parts.into_box.Code as code

-- the code behind the unsafe block: its value is returned
abbrev tail : Body
tail = seq (assign (place 0 []) (rv_opd (copy (place 4 [])))) return

module _ (E : Bx) where
  abbrev body : Fn
  body = inst_fn (args E) code.function

  abbrev ended : Ended
  ended = into_box.ended E.row E.al.row E.al.g E.al.d E.al.drops

  abbrev stayed : Stays ended.signature.params ended.kept
  stayed = (stay_dropped (plain (λ _. Pieces E)) no, tt)

  module _ {M : Type 1} {𝓤 : Ura M} (𝓛 : Logic 𝓤) (at_mem : Memory → SProp 𝓤) (run : Routine → Fun 𝓤)
      (𝓣 : Tables 𝓤 𝓛.H) where
    abbrev said : Clauses 𝓤 ended
    said = into_box.clauses E.row E.al.row E.al.g E.al.d E.al.drops 𝓛 at_mem run

    abbrev Closing : Contract 𝓤
    Closing = triple_of 𝓛 (closer.signature E.row E.al.row E.al.g E.al.d E.al.drops)
        (closer.spec E.row E.al.row E.al.g E.al.d E.al.drops 𝓛 at_mem run)

    -- what the call answers: a box of the value and the allocator
    abbrev Answer : Val → Item 𝓤 → E.al.row.Denot → E.row.Denot → Item 𝓤
    Answer u alive a x = some (λ (r : D E). (alive ⊛ ‵ ((B E).own_val r (u ∷ [])))
        ⊛ some (λ (_ : Unit {0} × (Unit {0} × Unit {0})). ‵ (fsep ftrue (fsep ftrue ftrue))
        ⊛ (raw (fact 𝓤 (r.value ≡ x)) ⊛ raw (fact 𝓤 (r.alloc ≡ a)))))

    walk : Triple 𝓤 (𝓣.C (#closer (args E))) Closing → (z : (walk_of 𝓛 ended stayed said).Ghost)
        → ent 𝓤 ((walk_of 𝓛 ended stayed said).pre z) (WpFn 𝓤 𝓛.H 𝓣.C 𝓣.Λ body (z.0.4.0 ++ [])
        ((walk_of 𝓛 ended stayed said).post z))
    walk known z =
        let a = z.0.3.0.alloc in let x = z.0.3.0.value in
        let Post : Val → SProp 𝓤 = (walk_of 𝓛 ended stayed said).post z in
        let Runs : List Val → SProp 𝓤 = λ us. WpFn 𝓤 𝓛.H 𝓣.C 𝓣.Λ body us Post in
        let alive : Item 𝓤 = tokens E 𝓤 z.0.0.0 z.0.0.1.0 z.0.1.0 z.0.1.1.0 in
        let longer : Item 𝓤 = outlived E 𝓤 z.0.0.0 z.0.0.1.0 in
        let held : D E = record { ptr = z.0.3.0.ptr; alloc = a; value = x } in
        qed 𝓛 ((alive ⊛ ‵ (fsep ((B E).own_val held z.0.4.0) ftrue)) ∷ longer ∷ []) ∵
        split ! $ move ! (1 ∷ []) $ fsplit ! $
        -- the parts own what a box of them would
        box_out E ! held z.0.4.0 (λ b o h at is fits. fjoin ! $
        let w : Val = word E h b o in
        suffices ! (Runs (w ∷ [])) (on_word 𝓤 Runs w is) $
        enter ! 𝓣.C 𝓣.Λ body (w ∷ []) Post $ alloc_all ! (λ l. pass_all ! refl (box_typed E h b o fits, tt) $
        sets ! (of_opd ! (get_in ! (fld ! refl (stop !)) (sub ! 0 refl (whole !)))) refl (tt, tt) $
        sets ! (of_opd ! (get_in ! (fld ! refl (stop !)) (sub ! 1 refl (whole !)))) refl fits $
        first ! $ blocks ! $ sets ! (of_opd ! (get ! refl)) refl fits $
        -- [what they own; the allocator; nothing; the tokens; that they are outlived]
        let y : Closing.Ghost = ((z.0.0, z.0.1, tt, (a, (block_ptr b o, tt)), (h ∷ [], (vptr b o ∷ [], tt))), x) in
        move ! (4 ∷ []) $ split3 ! $ move ! (2 ∷ []) $ drop ! $ move ! (1 ∷ 2 ∷ []) $ join ! $
        move ! (1 ∷ 0 ∷ []) $ join ! $ move ! (2 ∷ []) $
        feq_i ! (List Val) (vptr b o ∷ []) (vptr b o ∷ []) refl $ fjoin ! $ move ! (2 ∷ 0 ∷ []) $ fjoin ! $
        move ! (2 ∷ 0 ∷ []) $ join ! $ join ! $ use1 𝓛 (raw (Closing.pre y)) (id⊢ 𝓤 _) $
        calls_at_last ! (fm_of 𝓤 𝓛.H 𝓛.laws 𝓣) Closing known y
        (and_then ! (get ! refl) (and_then ! (get ! refl) (no_more !))) (λ u.
        use1 𝓛 (later (Answer u alive a x)) (id⊢ 𝓤 _) $ await ! tt $ pick ! (λ r. split ! $ move ! (1 ∷ []) $
        pick ! (λ _. split3 ! $ drop ! $ heard ! (r.value ≡ x) (λ same. drop ! $ split ! $ move ! (1 ∷ []) $
        box_out E ! r (u ∷ []) (λ c n k there answer_is good. box_in E ! r c n r.value there refl $
        rewrite ! 0 (λ (us : List Val). ‵ ((B E).own_val r us)) (sym answer_is) refl $
        let typed : T (has_ty (box_ty E) u) × WT u =
        subst (λ (t : Val). T (has_ty (box_ty E) t) × WT t) (sym (ap only answer_is)) (box_typed E k c n good) in
        lands_last ! refl typed $ exec ! 𝓣.C 𝓣.Λ (env body.locals l) tail (at_ret (env body.locals l) Post) $
        sets ! (of_opd ! (get ! refl)) refl typed $ returns ! (look_at ! 0 refl) $ free_all ! refl $
        suffices ! _ (ends_at 𝓛 ended stayed said z u r ((tt, (tt, tt)), tt) (tt, tt)) $ says ! same $
        nothing ! $ nothing ! $ fjoin ! $ join ! $ move ! (1 ∷ 0 ∷ []) $ join ! $ done !)))))))

pub into_box_spec : {M : Type 1} → statement M
unfolding tables_of
into_box_spec 𝓤 𝓛 𝓜 𝓡 wired X Z X-laws Z-laws g d drops allocator md =
    let al : Al = record { row = Z; laws = Z-laws; g = g; d = d; drops = drops } in
    let E : Bx = record { row = X; laws = X-laws; al = al } in
    let 𝓣 : Tables 𝓤 𝓛.H = tables_of 𝓤 𝓛.H 𝓜 (tables 𝓤 𝓛.H 𝓜 𝓡 𝓡.env) in
    let closes = met 𝓤 𝓛 𝓜 𝓡
    (code.calls-std_alloc::boxed::Box::from_raw 𝓡.env wired) X Z X-laws Z-laws g d drops allocator md in
    entered 𝓤 𝓛.H (triple_of 𝓛 (ended E).signature (into_box.spec X Z g d drops 𝓛 𝓜.mem 𝓡.returns)) 𝓣.C 𝓣.Λ
    (#self (args E)) (body E) (code.unfolded 𝓤 𝓛.H 𝓜 𝓡 wired (X, (Z, tt)) d drops)
    (walk_Meets 𝓛 (ended E) (stayed E) (Goes-blank 𝓛 2 (plain (λ _. Pieces E)) no (λ κs x f. tt), tt)
    (said E 𝓛 𝓜.mem 𝓡.returns 𝓣) (WpFn 𝓤 𝓛.H 𝓣.C 𝓣.Λ (body E)) (WpFn-mono 𝓤 𝓛.H 𝓛.laws 𝓣 (body E))
    (walk E 𝓛 𝓜.mem 𝓡.returns 𝓣 closes))
