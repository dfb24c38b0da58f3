-- The machine values of a handle, and what it owns. Assumes `Logic`.
use Rattle.std.proofs.Common.{◌≡◌, List, [], ◌∷◌, ◌++◌, refl, subst}
use mathlib.Core.Bool.{Bool, true, false, not, ◌&&◌}
use lib.Dec.{T}
use seplogic.Ra.Ura.{Ura}
use mir.Syntax.{impl, tnil, dnil}
use mir.Val.{Val, vbool, vstruct, vcons, vnil, of_list, has_ty}
use types.Logic.{Logic}
use types.Kit.{Item, Goal, Seq, Step, step, ‵, ◌$◌, move, drop, fsplit, fjoin, fpick, fpack, feq_i, feq_l}
use denote.RattleType.{RattleType, Valss}
use denote.Builtin.{RawPtr, bool}
use denote.RawPtr.{Ptr, ptr_val}
use denote.Steps.{nothing}
use denote.Param.{layout}
use denote.Struct.Struct.{within}
use denote.Struct.Owning.{shape, to}
use Rattle.core.proofs.alloc.Calls.{handle_tells}
use Rattle.core.proofs.cell.Inside.{Good}
use Rattle.core.proofs.atomic.Steps.{Ptr-Good}
use Rattle.std.specs.contracts.alloc.Global as heap
use Rattle.std.proofs.alloc.Global.TheLaws as heap_laws
use Rattle.std.specs.contracts.impls.GlobalAllocator.TheImpl.{ghosts, dict}
use Rattle.std_alloc.proofs.BoxSteps.Form.{Bx}
use Rattle.box_parts.specs.contracts.parts.Parts as Parts
use Rattle.engine.specs.contracts.engine.Engine as Held
use Rattle.engine.proofs.engine.Engine.TheLaws as held_laws
use Rattle.qbf_c.specs.Owned.{handle_owns}
use Rattle.qbf_c.specs.contracts.handle.Handle as Handle

-- what the handle holds, and the allocator
abbrev pub R : RattleType
R = Held.the_row

abbrev pub Z : RattleType
Z = heap.the_row

abbrev pub E : Bx
E = record {
  row = R;
  laws = held_laws.the_row_laws;
  al = record { row = Z; laws = heap_laws.the_row_laws; g = ghosts; d = dict; drops = impl [] tnil dnil };
}

abbrev pub Piece : RattleType
Piece = Parts.the_row R Z ghosts

abbrev pub H : RattleType
H = Handle.the_row

abbrev pub three : Val → Val → Val → Val
three u v w = vstruct (vcons u (vcons v (vcons w vnil)))

abbrev pub word : Ptr → Val → Bool → Val
word p h t = three (ptr_val p) h (vbool t)

three_tt : (x y z : Bool) → T x → T y → T z → T (x && (y && (z && true)))
three_tt true true true r s t = tt
three_tt true true false r s t = absurd t
three_tt true false z r s t = absurd s
three_tt false y z r s t = absurd r

pub handle_good : (p : Ptr) (h : Val) (t : Bool) → Good (layout Z) h → Good (layout H) (word p h t)
handle_good p h t fits =
    let g = Ptr-Good p in (
      three_tt (has_ty mir.Syntax.ty_ptr (ptr_val p)) (has_ty (layout Z) h) true g.0 fits.0 tt,
      (g.1, (fits.1, (tt, tt))),
    )

module _ {M : Type 1} {𝓤 : Ura M} {𝓛 : Logic 𝓤} {K : Type 0} {Γ : List (Item 𝓤)} {G : Goal 𝓤 𝓛.H} where
  pub handle_out : K → (d : H.Denot) (vs : List Val)
      → ((h : Val) → vs ≡ word d.at h d.live ∷ [] → Good (layout Z) h → Seq K 𝓛
      (‵ (handle_owns d.alloc d.live d.at d.engine) ∷ ‵ (Z.own_val d.alloc (h ∷ [])) ∷ Γ) G)
      → Seq K 𝓛 (‵ (H.own_val d vs) ∷ Γ) G
  handle_out t d vs k =
      fsplit t $ fpick t (λ vss. fsplit t $ feq_l t (λ ev. fsplit t $ feq_l t (λ ep. fsplit t $
      handle_tells E.al t d.alloc vss.1.0 (λ h ea fits. move t (1 ∷ []) $ fsplit t $
      feq_l t (λ eb. drop t $ move t (1 ∷ 0 ∷ []) $
      k h (subst (λ (ps : List Val). vs ≡ vstruct (of_list (ps ++ (h ∷ vbool d.live ∷ []))) ∷ []) ep
      (subst (λ (ws : List Val). vs ≡ vstruct (of_list (vss.0 ++ (ws ++ (vbool d.live ∷ [])))) ∷ []) ea
      (subst (λ (bs : List Val). vs ≡ vstruct (of_list (vss.0 ++ (vss.1.0 ++ (bs ++ [])))) ∷ []) eb ev))) fits)))))

  pub handle_in : K → (p : Ptr) (h : Val) (a : Z.Denot) (t : Bool) (x : R.Denot)
      → Step K 𝓛 (‵ (H.own_val (record { at = p; alloc = a; live = t; engine = x }) (word p h t ∷ [])) ∷ Γ) G
      (‵ (handle_owns a t p x) ∷ ‵ (Z.own_val a (h ∷ [])) ∷ Γ) G
  handle_in k p h a t x = step (λ s. let v : Val = word p h t in
      nothing k $ feq_i k (List Val) (vbool t ∷ []) (vbool t ∷ []) refl $ fjoin k $ move k (2 ∷ 0 ∷ []) $ fjoin k $
      feq_i k (List Val) (ptr_val p ∷ []) (ptr_val p ∷ []) refl $ fjoin k $
      feq_i k (List Val) (v ∷ []) (v ∷ []) refl $ fjoin k $
      fpack k (Valss (RawPtr ∷ Z ∷ bool ∷ []))
      (within (shape Handle.the_type) (to Handle.the_type (record { at = p; alloc = a; live = t; engine = x }))
      (v ∷ [])) (ptr_val p ∷ [], (h ∷ [], (vbool t ∷ [], tt))) $ fjoin k $ s)

pub is_true : (t : Bool) → T t → t ≡ true
is_true true y = refl
is_true false y = absurd y

pub is_false : (t : Bool) → T (not t) → t ≡ false
is_false true y = absurd y
is_false false y = refl
