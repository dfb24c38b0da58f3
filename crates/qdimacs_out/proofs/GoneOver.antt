-- Texts of the elements of a list, put one after another while the list is gone over.
use Rattle.std.proofs.Common.{◌≡◌, ℕ, List, [], ◌∷◌, ◌++◌, Option, Result, sym, ap, subst, ◌∙◌}
use Rattle.std.specs.Prelude.{IsErrAnd}
use Rattle.std.specs.List.{flat_map}
use Rattle.std.proofs.lemmas.List.{append_assoc}
use Rattle.ports.specs.Writing.{Stops}
use Rattle.blocks.specs.Held.{PassesOn, Puts}
use Rattle.blocks.proofs.Putting.{nothing, whole_then, part_more, part_then, puts_err}

-- the text so far is put, and with the texts of what is left it is that of all
pub record PutBefore {S X : Type 0} (written flushed : S → Option (List ℕ)) (faults : S → ℕ)
    (has_room : S → ℕ → Type 0) (f : X → List ℕ) (all left : List X) (old : S) (held : List ℕ) (new : S)
    (holds : List ℕ) : Type 0 where
  pub text : List ℕ
  pub put : PassesOn written flushed faults has_room old held new holds text
  pub rest : text ++ flat_map f left ≡ flat_map f all

-- the text of the next element, and those after it
next_is : {X : Type 0} (f : X → List ℕ) (left later : List X) (v : X) (t : List ℕ) → left ≡ v ∷ later → t ≡ f v
    → t ++ flat_map f later ≡ flat_map f left
next_is f left later v t steps is = ap (λ l. l ++ flat_map f later) is ∙ sym (ap (flat_map f) steps)

module _ {S X : Type 0} (written flushed : S → Option (List ℕ)) (faults : S → ℕ) (has_room : S → ℕ → Type 0)
    (f : X → List ℕ) (all : List X) (a : S) (x : List ℕ) where
  abbrev pub Before : List X → S → List ℕ → Type 0
  Before left b y = PutBefore written flushed faults has_room f all left a x b y

  pub put_none : (left : List X) → left ≡ all → Before left a x
  put_none left is = record {
    text = [];
    put = nothing written flushed faults has_room a x;
    rest = ap (flat_map f) is;
  }

  pub put_next : (left later : List X) (v : X) (b : S) (y : List ℕ) (c : S) (z t : List ℕ) → left ≡ v ∷ later → t ≡ f v
      → Before left b y → PassesOn written flushed faults has_room b y c z t → Before later c z
  put_next left later v b y c z t steps is before now = record {
    text = before.text ++ t;
    put = whole_then written flushed faults has_room a x b y c z before.text t before.put now;
    rest = append_assoc before.text t (flat_map f later)
        ∙ ap (λ l. before.text ++ l) (next_is f left later v t steps is) ∙ before.rest;
  }

  pub put_stops : {T E : Type 0} (Q : E → Type 0) (r : Result T E) (left later : List X) (v : X) (b : S) (y : List ℕ)
      (c : S) (z t : List ℕ) → left ≡ v ∷ later → t ≡ f v → Before left b y
      → Stops written flushed faults has_room b c (y ++ t) → IsErrAnd r Q
      → Puts written flushed faults has_room a x c z (flat_map f all) r
  put_stops Q r left later v b y c z t steps is before now err =
      let more = part_more written flushed faults has_room b y c z t (flat_map f later) now in
      let others : Stops written flushed faults has_room b c (y ++ flat_map f left) =
      subst (λ l. Stops written flushed faults has_room b c (y ++ l)) (next_is f left later v t steps is) more in
      subst (λ l. Puts written flushed faults has_room a x c z l r) before.rest
      (puts_err written flushed faults has_room Q r a x c z (before.text ++ flat_map f left) err
      (part_then written flushed faults has_room a x b y c z before.text (flat_map f left) before.put others))
