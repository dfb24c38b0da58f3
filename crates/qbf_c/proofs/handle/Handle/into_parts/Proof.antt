-- `into_parts` reads whether it is live, and moves two fields where it is.
use Rattle.std.proofs.Common.{◌≡◌, List, [], ◌∷◌, ◌++◌, refl, sym, subst, ap, lit<}
use mathlib.Core.Bool.{Bool, true, false}
use mir.Val.{Val, vcons, vnil}
use base.Logic.{SProp, ent, emp, id⊢}
use base.Fml.{ftrue, fsep}
use prog.Wp.{WpFn}
use types.Kit.{‵, raw, ◌⊛◌, at_ret, ◌$◌, ◌∵◌, !, qed, keep, drop, use0, use1, join, split, fsplit, fjoin, suffices, done}
use types.Part.{agg, whole, sub}
use types.Match.{live}
use types.Run.{stop, fld, lit, of_opd, no_more, and_then, first, branches, exec, returns, enter}
use types.ByLocal.{alloc_all, pass_all, free_all, look_at, get, get_in, sets, sets_last, env}
use contract.Running.{tables}
use denote.Exit.{yes}
use denote.RattleType.{RattleType}
use denote.Signature.{plain, type_at}
use denote.Steps.{nothing}
use denote.Param.{layout}
use denote.RawPtr.{block_ptr, null_ptr, ptr_val, in_a_block}
use denote.Triple.Walked.{says, Stays, stay_dropped, walk_of, ends_at, Goes-dropped}
use Rattle.core.specs.declared.option.Option.TheVariants.{None, Some}
use Rattle.core.proofs.alloc.Shapes.{after}
use Rattle.core.proofs.atomic.Steps.{Ptr-Good}
use Rattle.core.proofs.cell.Inside.{Good}
use Rattle.core.proofs.option.Made.{Some-of, none_of}
use Rattle.std_alloc.proofs.ResultValues.{and_tt}
use Rattle.std_alloc.proofs.BoxSteps.Form.{D, word as pair, box_typed}
use Rattle.std_alloc.proofs.BoxSteps.Steps.{box_in}
use Rattle.std.proofs.raw_atomic.Walks.{proved_at}
use mir.Raw.{raw as bare}
use denote.Memory.{lone}
use base.Logic.{never, fst∗}
use types.Logic.{sem}
use types.Kit.{rewrite}
use types.ByLocal.{is}
use Rattle.std.specs.contracts.impls.GlobalAllocator.TheImpl.{ghosts}
use Rattle.std_alloc.specs.Box.Ownership.{box_owns}
use Rattle.qbf_c.specs.Owned.{handle_owns}
use Rattle.qbf_c.proofs.Shapes.{E, R, H, Piece, word, handle_good, handle_out, is_true, is_false}
use Rattle.qbf_c.specs.contracts.handle.Handle.into_parts.{ended, clauses}
use Rattle.qbf_c.specs.contracts.handle.Handle.into_parts.Key.{name as #self}
use Rattle.qbf_c.proofs.handle.Handle.into_parts.Statement.{statement}
use Rattle.qbf_c.proofs.handle.Handle.into_parts.Code as code

abbrev stayed : Stays ended.signature.params ended.kept
stayed = (stay_dropped (plain (λ _. H)) yes, tt)

pub into_parts_spec : {M : Type 1} → statement M
into_parts_spec 𝓤 𝓛 𝓜 𝓡 wired =
    let c = clauses 𝓛 𝓜.mem 𝓡.returns in let 𝓣 = tables 𝓤 𝓛.H 𝓜 𝓡 𝓡.env in
    let Out : RattleType = type_at ended.signature.result tt in
    proved_at 𝓛 ended stayed c 𝓜 𝓡 (Goes-dropped 𝓛 0 (plain (λ _. H)) yes (λ κs x f. refl), tt) #self code.function
    (code.unfolded 𝓤 𝓛.H 𝓜 𝓡 wired) (λ z are.
    let Post : Val → SProp 𝓤 = (walk_of 𝓛 ended stayed c).post z in
    let Run : List Val → SProp 𝓤 = λ us. WpFn 𝓤 𝓛.H 𝓣.C 𝓣.Λ code.function us Post in
    let d = z.0.3.0 in let a = d.alloc in
    qed 𝓛 ((‵ ftrue ⊛ ‵ (fsep (H.own_val d z.0.4.0) ftrue)) ∷ raw (emp 𝓤) ∷ []) ∵ split ! $ drop ! $ fsplit ! $
    handle_out ! d z.0.4.0 (λ h laid fits. keep ! (0 ∷ 1 ∷ []) $ let w = word d.at h d.live in
    suffices ! (Run (w ∷ []))
    (subst (λ (us : List Val). ent 𝓤 (Run (w ∷ [])) (Run us)) (sym (λ i. laid i ++ [])) (id⊢ 𝓤 (Run (w ∷ [])))) $
    enter ! 𝓣.C 𝓣.Λ code.function (w ∷ []) Post $
    alloc_all ! (λ l. pass_all ! refl (handle_good d.at h d.live fits, tt) $ let Ev = env code.function.locals l in
    sets ! (of_opd ! (get_in ! (fld ! refl (stop !)) (sub ! 0 refl (whole !)))) refl (Ptr-Good d.at) $
    sets ! (of_opd ! (get_in ! (fld ! refl (stop !)) (sub ! 1 refl (whole !)))) refl fits $
    sets ! (of_opd ! (get_in ! (fld ! refl (stop !)) (sub ! 2 refl (whole !)))) refl (tt, tt) $
    sets ! (of_opd ! (get ! refl)) refl (tt, tt) $ first ! $ branches ! (get ! refl)
    (λ so. let t : d.live ≡ true = is_true d.live so in
    rewrite ! 0 (λ (t : Bool). ‵ (handle_owns a t d.at d.engine)) t refl $
    in_a_block ! d.at (λ p. box_owns (ghosts.dealloc_token a) R p d.engine)
    (fst∗ 𝓤 (never 𝓤) (sem 𝓛 (ghosts.dealloc_token a (bare (lone R.mir)) null_ptr))) (λ b o e.
    let v : D E = record { ptr = block_ptr b o; alloc = a; value = d.engine } in
    let made : Piece.Denot = record { ptr = block_ptr b o; alloc = a; value = d.engine } in
    let w₁ = pair E h b o in let typed = box_typed E h b o fits in let v₁ : Val = live 1 (vcons w₁ vnil) in
    let good : Good (layout Out) v₁ = (and_tt _ typed.0, (record { fits = lit< tt }, (typed.1, tt))) in
    sets ! (is ! (of_opd ! (get ! refl)) (ap ptr_val e)) refl (tt, tt) $
    sets ! (agg ! (and_then ! (get ! refl) (and_then ! (get ! refl) (no_more !)))) refl typed $
    sets_last ! (agg ! (and_then ! (lit ! tt) (and_then ! (get ! refl) (no_more !)))) refl good $
    exec ! 𝓣.C 𝓣.Λ Ev (after 5 code.function.body) (at_ret Ev Post) $ sets ! (of_opd ! (get ! refl)) refl good $
    fsplit ! $ box_in E ! v b o d.engine refl refl $
    use1 𝓛 (‵ (Out.own_val (Some made) (v₁ ∷ []))) (Some-of 𝓛 Piece made w₁) $
    returns ! (look_at ! 0 refl) $ free_all ! refl $
    suffices ! _ (ends_at 𝓛 ended stayed c z v₁ (Some made) (tt, tt) (tt, tt)) $ says ! (t, refl) $
    nothing ! $ nothing ! $ fjoin ! $ join ! $ nothing ! $ join ! $ done !))
    (λ so. let t : d.live ≡ false = is_false d.live so in let v₀ : Val = live 0 vnil in
    sets_last ! (agg ! (and_then ! (lit ! tt) (no_more !))) refl (tt, (record { fits = lit< tt }, tt)) $
    exec ! 𝓣.C 𝓣.Λ Ev (after 5 code.function.body) (at_ret Ev Post) $
    sets ! (of_opd ! (get ! refl)) refl (tt, (record { fits = lit< tt }, tt)) $
    use0 𝓛 (‵ (Out.own_val None (v₀ ∷ []))) (none_of 𝓛 Piece) $
    returns ! (look_at ! 0 refl) $ free_all ! refl $ keep ! (0 ∷ []) $
    suffices ! _ (ends_at 𝓛 ended stayed c z v₀ None (tt, tt) (tt, tt)) $ says ! t $
    nothing ! $ nothing ! $ fjoin ! $ join ! $ nothing ! $ join ! $ done !))))
