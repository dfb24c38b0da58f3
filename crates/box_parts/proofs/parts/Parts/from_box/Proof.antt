-- `from_box` hands the box to `into_raw_with_allocator`, and puts what comes back into a struct.
use Rattle.std.proofs.Common.{◌≡◌, ◌∙◌, List, [], ◌∷◌, ◌++◌, refl, ap}
use seplogic.Ra.Ura.{Ura}
use mir.Syntax.{Fn, Args, Dict, a_type, dcons, dnil}
use mir.MapTy.{inst_fn}
use mir.Raw.{raw as bare}
use mir.Val.{Val, vstruct, of_list}
use base.Logic.{SProp, ent, id⊢, never, fst∗}
use base.Fml.{ftrue, fsep}
use prog.Memory.{Memory}
use prog.Routine.{Routine}
use prog.Wp.{WpFn, Tables}
use sound.WpLaws.{fm_of, WpFn-mono}
use contract.Monad.{Fun, fact}
use contract.Running.{tables, tables_of}
use types.Logic.{Logic, sem}
use types.Kit.{Item, ‵, raw, ◌⊛◌, some, later, ◌$◌, ◌∵◌, !, qed, move, drop, use1, join, split, split3, pick, rewrite, fsplit, fjoin, fpick, feq_l, suffices, await, done}
use types.Part.{whole, sub, agg}
use types.Run.{stop, fld, no_more, and_then, of_opd, returns, enter}
use types.ByLocal.{alloc_all, pass_all, free_all, look_at, get, get_in, sets, lands_as}
use denote.Exit.{no}
use denote.Param.{bounded}
use denote.RawPtr.{Ptr, RawPtr, block_ptr, null_ptr, ptr_val, in_a_block}
use denote.Signature.{plain}
use denote.Steps.{heard, nothing, only}
use denote.Struct.Tuple.{Tuple}
use denote.Triple.Call.{calls_at}
use denote.Triple.Clauses.{Ended, Clauses}
use denote.Triple.Spec.{triple_of}
use denote.Triple.Statement.{Triple, Contract}
use denote.Triple.Table.{entered}
use denote.Triple.Walked.{says, Stays, stay_dropped, walk_of, ends_at, walk_Meets}
use Rattle.core.proofs.alloc.Calls.{Al, token, handle_tells, Goes-blank}
use Rattle.std_alloc.specs.Box.Ownership.{box_owns}
use Rattle.std_alloc.proofs.BoxSteps.Form.{Bx, D, τ, R, P, B, word, box_typed}
use Rattle.std_alloc.proofs.BoxSteps.Steps.{box_out, box_in}
use Rattle.std_alloc.specs.contracts.boxed.Box.into_raw_with_allocator as opener
use Rattle.std_alloc.proofs.boxed.Box.into_raw_with_allocator.Symbol.{name as #opener}
use Rattle.std_alloc.proofs.boxed.Box.into_raw_with_allocator.Met.{met}
use Rattle.box_parts.proofs.Begun.{Pieces, pieces, tokens, outlived, on_word}
use Rattle.box_parts.specs.contracts.parts.Parts.from_box as from_box
use Rattle.box_parts.specs.contracts.parts.Parts.from_box.Key.{name as #self}
use Rattle.box_parts.proofs.parts.Parts.from_box.Statement.{statement}
use Rattle.box_parts.proofs.parts.Parts.from_box.Code as code

module _ (E : Bx) (dropping : Dict) where
  abbrev given : Args
  given = bounded (a_type ∷ a_type ∷ []) (E.row, (E.al.row, tt)) (dcons E.al.d (dcons E.al.drops (dcons dropping dnil)))

  abbrev body : Fn
  body = inst_fn given code.function

  abbrev ended : Ended
  ended = from_box.ended E.row E.al.row E.al.g E.al.d E.al.drops dropping

  abbrev stayed : Stays ended.signature.params ended.kept
  stayed = (stay_dropped (plain (λ _. B E)) no, tt)

  module _ {M : Type 1} {𝓤 : Ura M} (𝓛 : Logic 𝓤) (at_mem : Memory → SProp 𝓤) (run : Routine → Fun 𝓤)
      (𝓣 : Tables 𝓤 𝓛.H) where
    abbrev said : Clauses 𝓤 ended
    said = from_box.clauses E.row E.al.row E.al.g E.al.d E.al.drops dropping 𝓛 at_mem run

    abbrev Opening : Contract 𝓤
    Opening = triple_of 𝓛 (opener.signature E.row E.al.row E.al.g E.al.d E.al.drops dropping)
        (opener.spec E.row E.al.row E.al.g E.al.d E.al.drops dropping 𝓛 at_mem run)

    -- what the call answers: the address and the allocator, with what the box owned
    abbrev Answer : Val → Item 𝓤 → E.al.row.Denot → E.row.Denot → Item 𝓤
    Answer u alive a x = some (λ (r : Ptr × E.al.row.Denot).
        (alive ⊛ ‵ ((Tuple (RawPtr ∷ P E ∷ [])).own_val r (u ∷ [])))
        ⊛ some (λ (_ : (Unit {0} × (Unit {0} × Unit {0})) × Unit {0}). ‵ (fsep (fsep ftrue (fsep ftrue ftrue)) ftrue)
        ⊛ (raw (fact 𝓤 (r.1 ≡ a)) ⊛ ‵ (box_owns (token E.al a) (R E) r.0 x))))

    walk : Triple 𝓤 (𝓣.C (#opener given)) Opening → (z : (walk_of 𝓛 ended stayed said).Ghost)
        → ent 𝓤 ((walk_of 𝓛 ended stayed said).pre z) (WpFn 𝓤 𝓛.H 𝓣.C 𝓣.Λ body (z.0.4.0 ++ [])
        ((walk_of 𝓛 ended stayed said).post z))
    walk known z =
        let v = z.0.3.0 in let a = v.alloc in let x = v.value in
        let Post : Val → SProp 𝓤 = (walk_of 𝓛 ended stayed said).post z in
        let Runs : List Val → SProp 𝓤 = λ us. WpFn 𝓤 𝓛.H 𝓣.C 𝓣.Λ body us Post in
        let alive : Item 𝓤 = tokens E 𝓤 z.0.0.0 z.0.0.1.0 z.0.1.0 z.0.1.1.0 in
        let longer : Item 𝓤 = outlived E 𝓤 z.0.0.0 z.0.0.1.0 in
        qed 𝓛 ((alive ⊛ ‵ (fsep ((B E).own_val v z.0.4.0) ftrue)) ∷ longer ∷ []) ∵
        split ! $ move ! (1 ∷ []) $ fsplit ! $
        box_out E ! v z.0.4.0 (λ b o h at is fits. box_in E ! v b o x at refl $
        -- [the box; nothing; the tokens; that they are outlived]
        let w : Val = word E h b o in let typed = box_typed E h b o fits in
        suffices ! (Runs (w ∷ [])) (on_word 𝓤 Runs w is) $
        enter ! 𝓣.C 𝓣.Λ body (w ∷ []) Post $ alloc_all ! (λ l. pass_all ! refl (typed, tt) $
        sets ! (of_opd ! (get ! refl)) refl typed $
        let y : Opening.Ghost = ((z.0.0, z.0.1, tt, (v, tt), (w ∷ [], tt)), tt) in
        fjoin ! $ move ! (1 ∷ 0 ∷ []) $ join ! $ join ! $ use1 𝓛 (raw (Opening.pre y)) (id⊢ 𝓤 _) $
        calls_at ! (fm_of 𝓤 𝓛.H 𝓛.laws 𝓣) Opening known y (and_then ! (get ! refl) (no_more !)) (λ u.
        use1 𝓛 (later (Answer u alive a x)) (id⊢ 𝓤 _) $ await ! tt $ pick ! (λ r. split ! $ move ! (1 ∷ []) $
        pick ! (λ _. split3 ! $ drop ! $ heard ! (r.1 ≡ a) (λ same.
        in_a_block ! r.0 (λ p. box_owns (token E.al a) (R E) p x)
        (fst∗ 𝓤 (never 𝓤) (sem 𝓛 (token E.al a (bare (τ E)) null_ptr))) (λ c n there.
        -- [what the box owned; the tokens with the answer]
        move ! (1 ∷ []) $ split ! $ move ! (1 ∷ []) $ fpick ! (λ vss. fsplit ! $
        feq_l ! (λ whole_is. fsplit ! $ feq_l ! (λ at_is. fsplit ! $
        rewrite ! 0 (λ (s : E.al.row.Denot). ‵ (E.al.row.own_val s vss.1.0)) same refl $
        handle_tells E.al ! a vss.1.0 (λ k rest_is good.
        let w' : Val = word E k c n in let typed' = box_typed E k c n good in
        let d : D E = record { ptr = block_ptr c n; alloc = a; value = x } in
        let place_is = at_is ∙ ap (λ (p : Ptr). ptr_val p ∷ []) there in
        lands_as ! (ap only (whole_is ∙ (λ i. vstruct (of_list (place_is i ++ (rest_is i ++ []))) ∷ []))) refl typed' $
        sets ! (of_opd ! (get_in ! (fld ! refl (stop !)) (sub ! 0 refl (whole !)))) refl (tt, tt) $
        sets ! (of_opd ! (get_in ! (fld ! refl (stop !)) (sub ! 1 refl (whole !)))) refl good $
        sets ! (of_opd ! (get ! refl)) refl good $
        sets ! (agg ! (and_then ! (get ! refl) (and_then ! (get ! refl) (no_more !)))) refl typed' $
        returns ! (look_at ! 0 refl) $ free_all ! refl $
        move ! (3 ∷ []) $ fsplit ! $ box_in E ! d c n x refl refl $
        use1 𝓛 (‵ ((Pieces E).own_val (pieces E c n a x) (w' ∷ []))) (id⊢ 𝓤 _) $ move ! (1 ∷ []) $ drop ! $
        suffices ! _ (ends_at 𝓛 ended stayed said z w' (pieces E c n a x) ((tt, (tt, tt)), tt) (tt, tt)) $ says ! refl $
        nothing ! $ nothing ! $ fjoin ! $ join ! $ move ! (1 ∷ 0 ∷ []) $ join ! $ done !)))))))))))

pub from_box_spec : {M : Type 1} → statement M
unfolding tables_of
from_box_spec 𝓤 𝓛 𝓜 𝓡 wired X Z X-laws Z-laws g d drops dropping allocator md glue =
    let al : Al = record { row = Z; laws = Z-laws; g = g; d = d; drops = drops } in
    let E : Bx = record { row = X; laws = X-laws; al = al } in
    let 𝓣 : Tables 𝓤 𝓛.H = tables_of 𝓤 𝓛.H 𝓜 (tables 𝓤 𝓛.H 𝓜 𝓡 𝓡.env) in
    let opens = met 𝓤 𝓛 𝓜 𝓡
    (code.calls-std_alloc::boxed::Box::into_raw_with_allocator 𝓡.env wired) X Z X-laws Z-laws g d drops
    dropping allocator md glue in
    entered 𝓤 𝓛.H (triple_of 𝓛 (ended E dropping).signature
    (from_box.spec X Z g d drops dropping 𝓛 𝓜.mem 𝓡.returns)) 𝓣.C 𝓣.Λ
    (#self (given E dropping)) (body E dropping) (code.unfolded 𝓤 𝓛.H 𝓜 𝓡 wired (X, (Z, tt)) d drops dropping)
    (walk_Meets 𝓛 (ended E dropping) (stayed E dropping) (Goes-blank 𝓛 2 (plain (λ _. B E)) no (λ κs x f. tt), tt)
    (said E dropping 𝓛 𝓜.mem 𝓡.returns 𝓣) (WpFn 𝓤 𝓛.H 𝓣.C 𝓣.Λ (body E dropping)) (WpFn-mono 𝓤 𝓛.H 𝓛.laws 𝓣
    (body E dropping))
    (walk E dropping 𝓛 𝓜.mem 𝓡.returns 𝓣 opens))
