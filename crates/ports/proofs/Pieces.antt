-- Pieces that are written one after another.
use Rattle.std.proofs.Common.{◌≡◌, ℕ, zero, suc, ◌+◌, ◌-◌, ◌≤◌, List, [], ◌∷◌, ◌++◌, length, take, drop, get_or, Option, Some, None, Result, Ok, Err, refl, sym, ap, subst, ◌∙◌, arith, length-append}
use Rattle.std.specs.Prelude.{OnOk, IsOk, IsErrAnd}
use Rattle.std.specs.List.{flat_map}
use Rattle.std.specs.Io.KnownBytes.{Appends, Keeps}
use Rattle.std.proofs.KnownBytes.{Appends-nil, Appends-trans, Keeps-refl, Keeps-trans}
use Rattle.std.proofs.lemmas.Bool.{false≢true}
use Rattle.std.proofs.lemmas.Result.{err_from_is_err_and}
use Rattle.std.proofs.lemmas.List.{append-nil, append_assoc, take_all, take-append-le}
use Rattle.ports.specs.Bytes.{AppendsFront}
use Rattle.ports.specs.Causes.{HasCause, Rose}
use Rattle.ports.specs.Writing.{Wrote, Stops, Writes}

take_past : (xs ys : List ℕ) (n : ℕ) → take (length xs + n) (xs ++ ys) ≡ xs ++ take n ys
take_past [] ys n = ap (λ m. take m ys) (let e : 0 + n ≡ n = omega arith in e)
take_past (x ∷ xs) ys n =
    ap (λ m. take m (x ∷ (xs ++ ys))) (let e : suc (length xs) + n ≡ suc (length xs + n) = omega arith in e)
    ∙ ap (λ r. x ∷ r) (take_past xs ys n)

-- a front of the first piece is a front of all
pub front_more : (a b : Option (List ℕ)) (xs ys : List ℕ) → AppendsFront a b xs → AppendsFront a b (xs ++ ys)
front_more a b xs ys f = record {
  count = f.count;
  within = omega (arith, f.within, length-append xs ys);
  appended = subst (Appends a b) (sym (take-append-le f.count xs ys f.within)) f.appended;
}

-- the first piece and a front of the others
pub front_then : (a b c : Option (List ℕ)) (xs ys : List ℕ) → Appends a b xs → AppendsFront b c ys
    → AppendsFront a c (xs ++ ys)
front_then a b c xs ys h f = record {
  count = length xs + f.count;
  within = omega (arith, f.within, length-append xs ys);
  appended = subst (Appends a c) (sym (take_past xs ys f.count))
      (Appends-trans a b c xs (take f.count ys) h f.appended);
}

-- the first piece and, where it succeeds, the others
pub ok_then : {T E : Type 0} (r : Result T E) (a b c : Option (List ℕ)) (xs ys : List ℕ) → Appends a b xs
    → OnOk r (Appends b c ys) → OnOk r (Appends a c (xs ++ ys))
ok_then (Ok x) a b c xs ys h k = Appends-trans a b c xs ys h k
ok_then (Err e) a b c xs ys h k = tt

-- one element more, and the elements after it

pub flat_more : {X : Type 0} (f : X → List ℕ) (xs : List X) (i : ℕ) (d : X) → suc i ≤ length xs
    → flat_map f (take (i + 1) xs) ≡ flat_map f (take i xs) ++ f (get_or xs i d)
flat_more f [] i d below = absurd (omega arith)
flat_more f (x ∷ xs) zero d below = append-nil (f x)
flat_more f (x ∷ xs) (suc i) d below =
    let e : suc i + 1 ≡ suc (i + 1) = omega arith in
    rw e (ap (λ t. f x ++ t) (flat_more f xs i d (omega arith))
    ∙ sym (append_assoc (f x) (flat_map f (take i xs)) (f (get_or xs i d))))

pub flat_split : {X : Type 0} (f : X → List ℕ) (xs : List X) (i : ℕ) (d : X) → suc i ≤ length xs
    → flat_map f xs ≡ flat_map f (take i xs) ++ (f (get_or xs i d) ++ flat_map f (drop (i + 1) xs))
flat_split f [] i d below = absurd (omega arith)
flat_split f (x ∷ xs) zero d below = refl
flat_split f (x ∷ xs) (suc i) d below =
    let e : suc i + 1 ≡ suc (i + 1) = omega arith in
    rw e (ap (λ t. f x ++ t) (flat_split f xs i d (omega arith))
    ∙ sym (append_assoc (f x) (flat_map f (take i xs)) (f (get_or xs i d) ++ flat_map f (drop (i + 1) xs))))

module _ {S : Type 0} (written flushed : S → Option (List ℕ)) (faults : S → ℕ) (has_room : S → ℕ → Type 0) where
  abbrev pub Whole : S → S → List ℕ → Type 0
  Whole a b text = Wrote written flushed faults has_room a b text

  abbrev pub Part : S → S → List ℕ → Type 0
  Part a b text = Stops written flushed faults has_room a b text

  pub nothing : (a : S) → Whole a a []
  nothing a = record {
    appended = Appends-nil (written a);
    kept = Keeps-refl (flushed a);
    no_fault = refl;
    room = λ n le r. subst (has_room a) (let e : n ≡ n - 0 = omega arith in e) r;
  }

  pub whole_then : (a b c : S) (t u : List ℕ) → Whole a b t → Whole b c u → Whole a c (t ++ u)
  whole_then a b c t u h k = record {
    appended = Appends-trans (written a) (written b) (written c) t u h.appended k.appended;
    kept = Keeps-trans (flushed a) (flushed b) (flushed c) h.kept k.kept;
    no_fault = k.no_fault ∙ h.no_fault;
    room = λ n le r.
        let sum = length-append t u in
        subst (has_room c) (let e : n - length t - length u ≡ n - length (t ++ u) = omega arith in e)
        (k.room (n - length t) (omega arith) (h.room n (omega arith) r));
  }

  pub part_more : (a b : S) (t u : List ℕ) → Part a b t → Part a b (t ++ u)
  part_more a b t u h = record {
    front = front_more (written a) (written b) t u h.front;
    kept = h.kept;
    later = h.later;
    rose = h.rose;
    no_room = λ n le r. h.no_room n (let sum = length-append t u in omega arith) r;
  }

  pub part_then : (a b c : S) (t u : List ℕ) → Whole a b t → Part b c u → Part a c (t ++ u)
  part_then a b c t u h k = record {
    front = front_then (written a) (written b) (written c) t u h.appended k.front;
    kept = Keeps-trans (flushed a) (flushed b) (flushed c) h.kept k.kept;
    later = let l = k.later in let e = h.no_fault in omega arith;
    rose = subst (λ n. Rose n (faults c)) h.no_fault k.rose;
    no_room = λ n le r. let sum = length-append t u in
        k.no_room (n - length t) (omega arith) (h.room n (omega arith) r);
  }

  pub writes_then : {T E : Type 0} (r : Result T E) (a b c : S) (t u : List ℕ) → Whole a b t
      → Writes written flushed faults has_room b c u r → Writes written flushed faults has_room a c (t ++ u) r
  writes_then (Ok x) a b c t u h k = whole_then a b c t u h k
  writes_then (Err e) a b c t u h k = part_then a b c t u h k

  pub writes_err : {T E : Type 0} (Q : E → Type 0) (r : Result T E) (a b : S) (t : List ℕ) → IsErrAnd r Q → Part a b t
      → Writes written flushed faults has_room a b t r
  writes_err Q r a b t is h = let e = err_from_is_err_and {Q = Q} r is in
      subst (Writes written flushed faults has_room a b t) (sym e.1) h

  pub writes_all : {T E : Type 0} (r : Result T E) (a b : S) (t : List ℕ) → OnOk r (Appends (written a) (written b) t)
      → AppendsFront (written a) (written b) t → Keeps (flushed a) (flushed b) → HasCause (faults a) (faults b) r
      → ((n : ℕ) → length t ≤ n → has_room a n → IsOk r × has_room b (n - length t))
      → Writes written flushed faults has_room a b t r
  writes_all (Ok x) a b t ok front kept cause room =
      record { appended = ok; kept = kept; no_fault = cause.kept; room = λ n le h. (room n le h).1 }
  writes_all (Err e) a b t ok front kept cause room =
      record {
        front = front;
        kept = kept;
        later = cause.later;
        rose = cause.failed;
        no_room = λ n le h. false≢true (room n le h).0;
      }

  -- what the writer of the whole says
  pub on_ok : {T E : Type 0} (r : Result T E) (a b : S) (t : List ℕ) → Writes written flushed faults has_room a b t r
      → OnOk r (Appends (written a) (written b) t)
  on_ok (Ok x) a b t h = h.appended
  on_ok (Err e) a b t h = tt

  pub front_of : {T E : Type 0} (r : Result T E) (a b : S) (t : List ℕ)
      → Writes written flushed faults has_room a b t r → AppendsFront (written a) (written b) t
  front_of (Ok x) a b t h =
      record {
        count = length t;
        within = omega arith;
        appended = subst (Appends (written a) (written b)) (sym (take_all (length t) t (omega arith))) h.appended;
      }
  front_of (Err e) a b t h = h.front

  pub kept_of : {T E : Type 0} (r : Result T E) (a b : S) (t : List ℕ)
      → Writes written flushed faults has_room a b t r → Keeps (flushed a) (flushed b)
  kept_of (Ok x) a b t h = h.kept
  kept_of (Err e) a b t h = h.kept

  pub cause_of : {T E : Type 0} (r : Result T E) (a b : S) (t : List ℕ)
      → Writes written flushed faults has_room a b t r → HasCause (faults a) (faults b) r
  cause_of (Ok x) a b t h = record { later = let e = h.no_fault in omega arith; failed = tt; kept = h.no_fault }
  cause_of (Err e) a b t h = record { later = h.later; failed = h.rose; kept = tt }

  pub room_of : {T E : Type 0} (r : Result T E) (a b : S) (t : List ℕ)
      → Writes written flushed faults has_room a b t r → (n : ℕ) → length t ≤ n → has_room a n
      → IsOk r × has_room b (n - length t)
  room_of (Ok x) a b t h n le room = (refl, h.room n le room)
  room_of (Err e) a b t h n le room = absurd (h.no_room n le room)

  -- the texts of a list one after another

  pub each_more : {X : Type 0} (f : X → List ℕ) (xs : List X) (i : ℕ) (d : X) (a b c : S) (t : List ℕ)
      → suc i ≤ length xs → f (get_or xs i d) ≡ t → Whole a b (flat_map f (take i xs)) → Whole b c t
      → Whole a c (flat_map f (take (i + 1) xs))
  each_more f xs i d a b c t below is before now =
      rw (flat_more f xs i d below, is) (whole_then a b c (flat_map f (take i xs)) t before now)

  pub each_stops : {X T E : Type 0} (f : X → List ℕ) (xs : List X) (i : ℕ) (d : X) (a b c : S) (t : List ℕ)
      (Q : E → Type 0) (r : Result T E) → suc i ≤ length xs → f (get_or xs i d) ≡ t
      → Whole a b (flat_map f (take i xs)) → Part b c t → IsErrAnd r Q
      → Writes written flushed faults has_room a c (flat_map f xs) r
  each_stops f xs i d a b c t Q r below is before now err =
      rw (flat_split f xs i d below, is)
      (writes_err Q r a c (flat_map f (take i xs) ++ (t ++ flat_map f (drop (i + 1) xs))) err
      (part_then a b c (flat_map f (take i xs)) (t ++ flat_map f (drop (i + 1) xs)) before
      (part_more b c t (flat_map f (drop (i + 1) xs)) now)))

  pub each_done : {X : Type 0} (f : X → List ℕ) (xs : List X) (i : ℕ) (a b : S) → length xs ≤ i
      → Whole a b (flat_map f (take i xs)) → Whole a b (flat_map f xs)
  each_done f xs i a b all h = rw (take_all i xs all) at h
