-- A set of gates: the gate of two edges is found again, or put behind the others.
use Rattle.std.proofs.Common.{◌≡◌, ℕ, zero, suc, ◌+◌, ◌<◌, ◌⊎◌, inl, inr, Bool, true, false, ◌||◌, List, [], ◌∷◌, length, get_or, refl, sym, ap, ap₂, ◌∙◌, arith}
use Rattle.std.specs.List.{IsDistinct, list_any, position_or_len}
use Rattle.std.proofs.lemmas.Bool.{true≢false}
use Rattle.std.proofs.lemmas.Map.Keys.{apart_from_distinct}
use Rattle.indexmap.specs.IndexSet.{insert_key}
use Rattle.aig.specs.Circuits.{Circuit, edge_number, gate_of, gate_value, gate_values, value_of, Adds, AreDistinct, AreGates, Finds, Grows, HaveSameEdges, IsEdge, IsGate, IsOrdered, Makes, Puts}
use Rattle.aig.specs.declared.edge.Edge.{Edge}
use Rattle.aig.specs.declared.edge.Node.TheVariants.{Gate}
use Rattle.aig.specs.declared.edge.And.{And}
use Rattle.aig.proofs.Numbers.{gate_both}
use Rattle.aig.proofs.Values.{gate_at, push_adds, push_all, push_grows}

-- gates with the greater literal left that differ aren't over the same two edges
module _ (n : ℕ) (g h : And) (g_ordered : IsOrdered n g) (h_ordered : IsOrdered n h) where
  pub same_gate : HaveSameEdges g h → g ≡ h
  same_gate (inl e) = ap₂ (λ (left right : Edge). record { left = left; right = right }) e.0 e.1
  same_gate (inr e) =
      let left : edge_number n g.left ≡ edge_number n h.right = ap (edge_number n) e.0 in
      let right : edge_number n g.right ≡ edge_number n h.left = ap (edge_number n) e.1 in
      absurd (omega arith)

module _ (eq : And → And → Bool) (same : (x y : And) → eq x y ≡ true → x ≡ y) (self : (x : And) → eq x x ≡ true) where
  pub distinct_gates : (n : ℕ) (gates : List And)
      → ((i : ℕ) (d : And) → i < length gates → IsOrdered n (get_or gates i d)) → IsDistinct eq gates
      → AreDistinct gates
  distinct_gates n gates ordered distinct i j d before within edges =
      let g = get_or gates i d in
      let h = get_or gates j d in
      let e : g ≡ h = same_gate n g h (ordered i d (omega arith)) (ordered j d within) edges in
      true≢false (sym (self g) ∙ ap (eq g) e ∙ apart_from_distinct eq gates i j d distinct before within)

  -- where no key is equal, each differs, and the place is behind the last

  absent : (g : And) (gates : List And) → list_any (eq g) gates ≡ false → (i : ℕ) (d : And) → i < length gates
      → get_or gates i d ≡ g → ⊥
  absent g [] none i d within e = absurd (omega arith)
  absent g (h ∷ gates) none i d within e = by (eq g h) refl none (absent g gates) i within e
    where
      by : (b : Bool) → eq g h ≡ b → (b || list_any (eq g) gates) ≡ false
          → (list_any (eq g) gates ≡ false → (i : ℕ) (d : And) → i < length gates → get_or gates i d ≡ g → ⊥)
          → (i : ℕ) → i < length (h ∷ gates) → get_or (h ∷ gates) i d ≡ g → ⊥
      by true t n rest i w s = true≢false n
      by false f n rest zero w s = true≢false (sym (self g) ∙ ap (eq g) (sym s) ∙ f)
      by false f n rest (suc i) w s = rest n i d (omega arith) s

  behind : (g : And) (gates : List And) → list_any (eq g) gates ≡ false
      → position_or_len (eq g) gates ≡ length gates
  behind g [] none = refl
  behind g (h ∷ gates) none = by (eq g h) refl none (behind g gates)
    where
      by : (b : Bool) → eq g h ≡ b → (b || list_any (eq g) gates) ≡ false
          → (list_any (eq g) gates ≡ false → position_or_len (eq g) gates ≡ length gates)
          → position_or_len (eq g) (h ∷ gates) ≡ length (h ∷ gates)
      by true t n rest = absurd (true≢false n)
      by false f n rest = rw f (let later = rest n in omega arith)

  -- where one is equal, it is the gate at the place

  abbrev IsPlace : And → List And → Type 0
  IsPlace g gates = (position_or_len (eq g) gates < length gates)
      × ((d : And) → get_or gates (position_or_len (eq g) gates) d ≡ g)

  place_of : (g : And) (gates : List And) → list_any (eq g) gates ≡ true → IsPlace g gates
  place_of g [] some = absurd (true≢false (sym some))
  place_of g (h ∷ gates) some = by (eq g h) refl some (place_of g gates)
    where
      by : (b : Bool) → eq g h ≡ b → (b || list_any (eq g) gates) ≡ true
          → (list_any (eq g) gates ≡ true → IsPlace g gates) → IsPlace g (h ∷ gates)
      by true t n rest = rw t ((let z : 0 < length (h ∷ gates) = omega arith in z), (λ d. sym (same g h t)))
      by false f n rest = let later = rest n in
          let next : 1 + position_or_len (eq g) gates ≡ suc (position_or_len (eq g) gates) = omega arith in
          rw f (
            (let z : 1 + position_or_len (eq g) gates < length (h ∷ gates) = omega (arith, later.0) in z),
            (λ d. ap (λ k. get_or (h ∷ gates) k d) next ∙ later.1 d),
          )

  module _ (n : ℕ) (gates after : List And) (g : And) (place : ℕ) (keys : after ≡ insert_key eq gates g)
      (at : place ≡ position_or_len (eq g) gates) where
    abbrev old : Circuit
    old = record { inputs = n; gates = gates }

    abbrev new : Circuit
    new = record { inputs = n; gates = after }

    abbrev made : Edge
    made = record { node = Gate place; negated = false }

    pub inserted : Finds old new g made ⊎ Puts old new g made
    inserted = by (list_any (eq g) gates) refl
      where
        by : (b : Bool) → list_any (eq g) gates ≡ b → Finds old new g made ⊎ Puts old new g made
        by true t =
            let there = place_of g gates t in
            inl (record {
              unchanged = ap (λ l. record { inputs = n; gates = l }) (rw t at keys);
              place = place;
              within = rw at there.0;
              gate = λ d. rw at (there.1 d);
              edge = refl;
            })
        by false f =
            inr (record {
              inputs = refl;
              fresh = absent g gates f;
              gates = rw f at keys;
              edge = ap (λ k. record { node = Gate k; negated = false }) (at ∙ behind g gates f);
            })

-- what holds in a circuit where a gate was found again or put behind the others
module _ (n : ℕ) (gates after : List And) (g : And) (e : Edge) where
  abbrev before_it : Circuit
  before_it = record { inputs = n; gates = gates }

  abbrev behind_it : Circuit
  behind_it = record { inputs = n; gates = after }

  abbrev IsMade : Type 0
  IsMade = Finds before_it behind_it g e ⊎ Puts before_it behind_it g e

  made_all : (P : ℕ → And → Type 0) → IsMade → ((i : ℕ) (d : And) → i < length gates → P i (get_or gates i d))
      → P (length gates) g → (i : ℕ) (d : And) → i < length after → P i (get_or after i d)
  made_all P (inl f) each last = rw (ap (λ (c : Circuit). c.gates) f.unchanged) each
  made_all P (inr p) each last = rw p.gates (push_all n gates g P each last)

  pub made_proper : IsMade → AreGates n gates → IsGate n (length gates) g → (i : ℕ) (d : And) → i < length after
      → IsGate n i (get_or after i d)
  made_proper made are = made_all (IsGate n) made are.proper

  pub made_ordered : IsMade → AreGates n gates → IsOrdered n g → (i : ℕ) (d : And) → i < length after
      → IsOrdered n (get_or after i d)
  made_ordered made are = made_all (λ i. IsOrdered n) made are.ordered

  pub made_grows : IsMade → Grows before_it behind_it
  made_grows (inl f) = rw f.unchanged (record { inputs = refl; edges = λ e h. h; values = λ i e h. refl })
  made_grows (inr p) = rw p.gates (push_grows n gates g)

module _ (n : ℕ) (gates after : List And) (a b e : Edge) where
  abbrev old_one : Circuit
  old_one = record { inputs = n; gates = gates }

  abbrev new_one : Circuit
  new_one = record { inputs = n; gates = after }

  abbrev conjunct : And
  conjunct = gate_of n a b

  pub made_adds : AreGates n gates → Makes old_one new_one a b e → Adds old_one new_one a b e
  unfolding value_of IsEdge
  made_adds are (inl f) = rw (f.unchanged, f.edge) (record {
    value = λ i. gate_at n i gates f.place conjunct are.proper f.within
        ∙ ap (gate_value i (gate_values i [] gates)) (f.gate conjunct) ∙ gate_both n 0 a b i (gate_values i [] gates);
    stands = f.within;
  })
  made_adds are (inr p) = rw (p.gates, p.edge) (record {
    value = λ i. (push_adds n gates conjunct).value i ∙ gate_both n 0 a b i (gate_values i [] gates);
    stands = (push_adds n gates conjunct).stands;
  })
