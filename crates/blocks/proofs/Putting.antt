-- Texts that are put one after another.
use Rattle.std.proofs.Common.{◌≡◌, ℕ, suc, ◌+◌, ◌≤◌, List, [], ◌++◌, length, take, drop, get_or, Option, Result, Ok, Err, sym, ap, subst, ◌∙◌}
use Rattle.std.specs.Prelude.{IsErrAnd}
use Rattle.std.specs.List.{flat_map}
use Rattle.std.proofs.lemmas.Result.{err_from_is_err_and}
use Rattle.std.proofs.lemmas.List.{append-nil, append_assoc, take_all}
use Rattle.ports.specs.Writing.{Stops, Writes}
use Rattle.ports.proofs.Pieces.{flat_more, flat_split, nothing as none_written, part_more as stops_more, part_then as stops_then, whole_then as wrote_then, writes_err, writes_then}
use Rattle.blocks.specs.Held.{PassesOn, Puts}

-- Of each sink what was held when it was as told is said behind it. In `Part` what is held afterwards says nothing.
module _ {S : Type 0} (written flushed : S → Option (List ℕ)) (faults : S → ℕ) (has_room : S → ℕ → Type 0) where
  abbrev pub Whole : S → List ℕ → S → List ℕ → List ℕ → Type 0
  Whole a x b y text = PassesOn written flushed faults has_room a x b y text

  abbrev pub Part : S → List ℕ → S → List ℕ → Type 0
  Part a x b text = Stops written flushed faults has_room a b (x ++ text)

  pub nothing : (a : S) (x : List ℕ) → Whole a x a x []
  nothing a x = record {
    bytes = [];
    in_order = append-nil x;
    wrote = none_written written flushed faults has_room a;
  }

  pub whole_then : (a : S) (x : List ℕ) (b : S) (y : List ℕ) (c : S) (z t u : List ℕ) → Whole a x b y t
      → Whole b y c z u → Whole a x c z (t ++ u)
  whole_then a x b y c z t u h k = record {
    bytes = h.bytes ++ k.bytes;
    in_order = sym (append_assoc x t u) ∙ ap (λ l. l ++ u) h.in_order ∙ append_assoc h.bytes y u
        ∙ ap (λ l. h.bytes ++ l) k.in_order ∙ sym (append_assoc h.bytes k.bytes z);
    wrote = wrote_then written flushed faults has_room a b c h.bytes k.bytes h.wrote k.wrote;
  }

  pub part_more : (a : S) (x : List ℕ) (b : S) (y t u : List ℕ) → Part a x b t → Part a x b (t ++ u)
  part_more a x b y t u h =
      subst (λ l. Stops written flushed faults has_room a b l) (append_assoc x t u)
      (stops_more written flushed faults has_room a b (x ++ t) u h)

  pub part_then : (a : S) (x : List ℕ) (b : S) (y : List ℕ) (c : S) (z t u : List ℕ) → Whole a x b y t
      → Part b y c u → Part a x c (t ++ u)
  part_then a x b y c z t u h k =
      subst (λ l. Stops written flushed faults has_room a c l)
      (sym (append_assoc h.bytes y u) ∙ ap (λ l. l ++ u) (sym h.in_order) ∙ append_assoc x t u)
      (stops_then written flushed faults has_room a b c h.bytes (y ++ u) h.wrote k)

  -- bytes that are held behind what was
  pub held_more : (a : S) (x y t : List ℕ) → y ≡ x ++ t → Whole a x a y t
  held_more a x y t is = record {
    bytes = [];
    in_order = sym is;
    wrote = none_written written flushed faults has_room a;
  }

  pub puts_then : {T E : Type 0} (r : Result T E) (a : S) (x : List ℕ) (b : S) (y : List ℕ) (c : S) (z t u : List ℕ)
      → Whole a x b y t → Puts written flushed faults has_room b y c z u r
      → Puts written flushed faults has_room a x c z (t ++ u) r
  puts_then (Ok v) a x b y c z t u h k = whole_then a x b y c z t u h k
  puts_then (Err e) a x b y c z t u h k = part_then a x b y c z t u h k

  pub puts_err : {T E : Type 0} (Q : E → Type 0) (r : Result T E) (a : S) (x : List ℕ) (b : S) (y t : List ℕ)
      → IsErrAnd r Q → Part a x b t → Puts written flushed faults has_room a x b y t r
  puts_err Q r a x b y t is h = let e = err_from_is_err_and {Q = Q} r is in
      subst (Puts written flushed faults has_room a x b y t) (sym e.1) h

  -- the texts of a list one after another

  pub each_more : {X : Type 0} (f : X → List ℕ) (xs : List X) (i : ℕ) (d : X) (a : S) (x : List ℕ) (b : S)
      (y : List ℕ) (c : S) (z t : List ℕ) → suc i ≤ length xs → f (get_or xs i d) ≡ t
      → Whole a x b y (flat_map f (take i xs)) → Whole b y c z t → Whole a x c z (flat_map f (take (i + 1) xs))
  each_more f xs i d a x b y c z t below is before now =
      rw (flat_more f xs i d below, is) (whole_then a x b y c z (flat_map f (take i xs)) t before now)

  pub each_stops : {X T E : Type 0} (f : X → List ℕ) (xs : List X) (i : ℕ) (d : X) (a : S) (x : List ℕ) (b : S)
      (y : List ℕ) (c : S) (z t : List ℕ) (Q : E → Type 0) (r : Result T E) → suc i ≤ length xs
      → f (get_or xs i d) ≡ t → Whole a x b y (flat_map f (take i xs)) → Part b y c t → IsErrAnd r Q
      → Puts written flushed faults has_room a x c z (flat_map f xs) r
  each_stops f xs i d a x b y c z t Q r below is before now err =
      rw (flat_split f xs i d below, is)
      (puts_err Q r a x c z (flat_map f (take i xs) ++ (t ++ flat_map f (drop (i + 1) xs))) err
      (part_then a x b y c z (flat_map f (take i xs)) (t ++ flat_map f (drop (i + 1) xs)) before
      (part_more b y c z t (flat_map f (drop (i + 1) xs)) now)))

  pub each_done : {X : Type 0} (f : X → List ℕ) (xs : List X) (i : ℕ) (a : S) (x : List ℕ) (b : S) (y : List ℕ)
      → length xs ≤ i → Whole a x b y (flat_map f (take i xs)) → Whole a x b y (flat_map f xs)
  each_done f xs i a x b y all h = rw (take_all i xs all) at h

  -- a text that was put where nothing was held, and then what was left of it
  pub finished : {T E : Type 0} (r : Result T E) (a : S) (x : List ℕ) (b : S) (y : List ℕ) (c : S) (t : List ℕ)
      → x ≡ [] → Whole a x b y t → Writes written flushed faults has_room b c y r
      → Writes written flushed faults has_room a c t r
  finished r a x b y c t none h k =
      subst (λ l. Writes written flushed faults has_room a c l r)
      (sym h.in_order ∙ ap (λ l. l ++ t) none)
      (writes_then written flushed faults has_room r a b c h.bytes y h.wrote k)

  pub cut_short : {T E : Type 0} (Q : E → Type 0) (r : Result T E) (a : S) (x : List ℕ) (b : S) (t : List ℕ) → x ≡ []
      → IsErrAnd r Q → Part a x b t → Writes written flushed faults has_room a b t r
  cut_short Q r a x b t none err h =
      writes_err written flushed faults has_room Q r a b t err
      (subst (λ l. Stops written flushed faults has_room a b l) (ap (λ l. l ++ t) none) h)
