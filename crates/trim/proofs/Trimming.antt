-- What holds of the whole new strategy.
use Rattle.std.proofs.Common.{◌≡◌, ℕ, ◌<◌, ◌≤◌, inl, inr, ⊎_elim, ◌==◌, Bool, true, false, List, [], ◌∷◌, length, map, get_or, Option, Some, Contains, refl, sym, ap, ap₂, subst, ◌∙◌, arith}
use Rattle.std.proofs.lemmas.Bool.{cases_Bool, cond-true, cond-false}
use Rattle.std.proofs.lemmas.List.{get_or-map, get_or_default, length-map, map-id, same_lists}
use Rattle.aig.specs.Circuits.{AreGates, Circuit, IsEdge, value_of, zero}
use Rattle.aig.specs.Strategies.{IsStrategy, output_of, output_vars, value_or, values_of}
use Rattle.aig.specs.declared.edge.And.{And}
use Rattle.aig.specs.declared.edge.Edge.{Edge}
use Rattle.aig.specs.declared.edge.Node.TheVariants.{Gate}
use Rattle.aig.specs.declared.strategy.Output.{Output}
use Rattle.aig.specs.declared.strategy.Strategy.{Strategy}
use Rattle.aig.proofs.Values.{edge_node}
use Rattle.trim.specs.Trimmed.{IsOver, IsReached, IsTrimmed, KeepsReached, moved, moved_gate, moved_node, moved_output}
use Rattle.trim.specs.Trimmed.IsReached.{of_output, of_gate}
use Rattle.trim.specs.Marks.{AreMarks, Rebuilds, is_marked, output_through, rank}
use Rattle.trim.proofs.Lists.{contains_at, contains_head, contains_map, contains_tail, map_map, map_same}
use Rattle.trim.proofs.Marking.{reached_marked}
use Rattle.trim.proofs.Moves.{edge_stands, edge_stays, node_moved, through_moved, value_moved}
use Rattle.trim.proofs.Ranks.{marked_within, rank_all, rank_low, rank_onto, rank_rises}

-- outputs with the same values play the same
plays_at : (old new : Circuit) (inputs : List Bool) (place : ℕ → ℕ) (os : List Output) (x : ℕ) (b : Bool)
    → ((o : Output) → Contains os o → value_of new inputs (moved place o.edge) ≡ value_of old inputs o.edge)
    → value_or new inputs (output_of (map (moved_output place) os) x) b ≡ value_or old inputs (output_of os x) b
plays_at old new inputs place [] x b h = refl
plays_at old new inputs place (o ∷ os) x b h =
    let rest = output_of (map (moved_output place) os) x in
    ⊎_elim
    (λ (t : (o.var == x) ≡ true).
    ap (λ (e : Option Edge). value_or new inputs e b) (cond-true (o.var == x) (Some (moved place o.edge)) rest t)
    ∙ h o (contains_head o os)
    ∙ sym (ap (λ (e : Option Edge). value_or old inputs e b)
    (cond-true (o.var == x) (Some o.edge) (output_of os x) t)))
    (λ (f : (o.var == x) ≡ false).
    ap (λ (e : Option Edge). value_or new inputs e b) (cond-false (o.var == x) (Some (moved place o.edge)) rest f)
    ∙ plays_at old new inputs place os x b (λ p c. h p (contains_tail o os p c))
    ∙ sym (ap (λ (e : Option Edge). value_or old inputs e b)
    (cond-false (o.var == x) (Some o.edge) (output_of os x) f)))
    (cases_Bool (o.var == x))

-- a new strategy with the rebuilt circuit
pub record IsRebuilt (old : Strategy) (marks : List Bool) (table : List Edge) (new : Strategy) : Type 0 where
  pub strategy : IsStrategy old
  pub proper : AreGates old.aig.inputs old.aig.gates
  pub marked : AreMarks old old.outputs 0 marks
  pub circuit : Rebuilds old.aig marks (length old.aig.gates) table new.aig
  pub winner : new.winner ≡ old.winner
  pub inputs : new.inputs ≡ old.inputs
  pub outputs : new.outputs ≡ map (output_through table) old.outputs

pub rebuilt_from : (old new : Strategy) (owned marks : List Bool) (table lent : List Edge) (outputs : List Output)
    → IsStrategy old → AreGates old.aig.inputs old.aig.gates → AreMarks old old.outputs 0 owned → marks ≡ owned
    → Rebuilds old.aig marks (length old.aig.gates) table new.aig → new.winner ≡ old.winner → new.inputs ≡ old.inputs
    → new.outputs ≡ outputs → outputs ≡ map (output_through lent) old.outputs → lent ≡ table
    → IsRebuilt old marks table new
rebuilt_from old new owned marks table lent outputs strategy proper marked same circuit winner inputs is moved_by of =
    record {
      strategy = strategy;
      proper = proper;
      marked = subst (AreMarks old old.outputs 0) (sym same) marked;
      circuit = circuit;
      winner = winner;
      inputs = inputs;
      outputs = is ∙ moved_by ∙ ap (λ (es : List Edge). map (output_through es) old.outputs) of;
    }

module _ (old : Strategy) (marks : List Bool) (table : List Edge) (new : Strategy)
    (is : IsRebuilt old marks table new) where
  abbrev place : ℕ → ℕ
  place = rank marks

  marked : (j : ℕ) → IsReached old j → is_marked marks j ≡ true
  marked j r = reached_marked old marks is.marked j r

  below : (j : ℕ) → is_marked marks j ≡ true → j < length old.aig.gates
  below j m =
      let h : j < length marks = marked_within marks j m in
      let room : length marks ≡ length old.aig.gates = is.marked.room in omega arith

  low : (j : ℕ) → IsReached old j → place j < length new.aig.gates
  low j r =
      let rises : place j < place (length old.aig.gates) =
      rank_rises marks j (length old.aig.gates) (marked j r) (below j (marked j r)) in
      let size : length new.aig.gates ≡ place (length old.aig.gates) = is.circuit.size in omega arith

  gate_at_place : (j : ℕ) (d : And) → IsReached old j
      → get_or new.aig.gates (place j) d ≡ moved_gate place (get_or old.aig.gates j d)
  gate_at_place j d r = is.circuit.gates j d (below j (marked j r)) (marked j r)

  -- outputs

  from_output : (o : Output) (j : ℕ) → Contains old.outputs o → o.edge.node ≡ Gate j → is_marked marks j ≡ true
  from_output o j c e = is.marked.first o j c e

  output_is : (o : Output) → Contains old.outputs o → output_through table o ≡ moved_output place o
  output_is o c =
      ap (λ (e : Edge). record { var = o.var; edge = e }) (through_moved place table o.edge
      (λ j e. let m = from_output o j c e in is.circuit.edges j zero (below j m) m))

  outputs_are : new.outputs ≡ map (moved_output place) old.outputs
  outputs_are = is.outputs ∙ map_same (output_through table) (moved_output place) old.outputs output_is

  output_value : (inputs : List Bool) (o : Output) → Contains old.outputs o
      → value_of new.aig inputs (moved place o.edge) ≡ value_of old.aig inputs o.edge
  output_value inputs o c =
      value_moved old.aig new.aig place inputs o.edge
      (λ j e. let m = from_output o j c e in is.circuit.values j inputs (below j m) m)

  output_stands : (o : Output) → Contains old.outputs o → IsEdge old.aig o.edge → IsEdge new.aig (moved place o.edge)
  output_stands o c h =
      edge_stands new.aig old.aig.inputs (length new.aig.gates) (moved place o.edge) is.circuit.inputs refl
      (node_moved place old.aig.inputs (length old.aig.gates) (length new.aig.gates) o.edge.node
      (edge_node old.aig o.edge h) (λ j e. low j (of_output o j c e)))

  output_at : (i : ℕ) (d e : Output) → i < length old.outputs
      → get_or new.outputs i d ≡ moved_output place (get_or old.outputs i e)
  output_at i d e h =
      ap (λ (os : List Output). get_or os i d) outputs_are ∙ get_or-map (moved_output place) old.outputs i e d h

  count : length new.outputs ≡ length old.outputs
  count = ap length outputs_are ∙ length-map old.outputs (moved_output place)

  -- what is reached stays so

  pub reached : (j : ℕ) → IsReached old j → IsReached new (place j)
  reached j (of_output o k c e) =
      of_output (moved_output place o) (place j)
      (subst (λ (os : List Output). Contains os (moved_output place o)) (sym outputs_are)
      (contains_map (moved_output place) old.outputs o c))
      (ap (moved_node place) e)
  reached j (of_gate g k i r at over) =
      of_gate (moved_gate place g) (place k) (place j) (reached k r) (
        low k r,
        gate_at_place k (moved_gate place g) r
            ∙ ap (moved_gate place) (get_or_default old.aig.gates k (moved_gate place g) g at.0 ∙ at.1),
      )
      (⊎_elim (λ e. inl (ap (moved_node place) e)) (λ e. inr (ap (moved_node place) e)) over)

  onto : (k : ℕ) → k < length new.aig.gates → (j : ℕ) × IsReached old j × (place j ≡ k)
  onto k h =
      let size : length new.aig.gates ≡ place (length old.aig.gates) = is.circuit.size in
      let r = rank_onto marks (length old.aig.gates) k (omega arith) in
      (r.0, is.marked.sound r.0 r.2, r.3)

  pub keeps_reached : KeepsReached old new
  keeps_reached = record {
    place = place;
    rises = λ i j r q h. rank_rises marks i j (marked i r) h;
    within = low;
    onto = onto;
    gates = gate_at_place;
    outputs = outputs_are;
  }

  pub is_trimmed : IsTrimmed old new
  is_trimmed = record {
    winner = is.winner;
    inputs = is.inputs;
    strategy = record {
      inputs = is.circuit.inputs ∙ is.strategy.inputs ∙ sym (ap length is.inputs);
      outputs = λ k d h.
          let same : length new.outputs ≡ length old.outputs = count in
          let inside : k < length old.outputs = omega arith in
          let o = get_or old.outputs k d in
          subst (λ (p : Output). IsEdge new.aig p.edge) (sym (output_at k d d inside))
          (output_stands o (contains_at old.outputs k d inside) (is.strategy.outputs k d inside));
    };
    vars = ap output_vars outputs_are ∙ map_map (moved_output place) (λ (o : Output). o.var) old.outputs;
    values = λ i d inputs h.
        ap (λ (o : Output). value_of new.aig inputs o.edge) (output_at i d d h)
        ∙ output_value inputs (get_or old.outputs i d) (contains_at old.outputs i d h);
    size = let s : length new.aig.gates ≡ place (length old.aig.gates) = is.circuit.size in
        let l : place (length old.aig.gates) ≤ length old.aig.gates = rank_low marks (length old.aig.gates) in
        omega arith;
    reached = λ k h. let o = onto k h in subst (IsReached new) o.2 (reached o.0 o.1);
  }

  pub plays : values_of new ≡ values_of old
  plays = λ i values x. same values x i
    where
      same : (values : ℕ → Bool) (x : ℕ) → values_of new values x ≡ values_of old values x
      same values x =
          ap₂ (λ (xs : List ℕ) (os : List Output). value_or new.aig (map values xs) (output_of os x) (values x))
          is.inputs outputs_are
          ∙ plays_at old.aig new.aig (map values old.inputs) place old.outputs x (values x)
          (output_value (map values old.inputs))

  -- a strategy whose gates are all reached stays as it is

  module _ (all : (j : ℕ) → j < length old.aig.gates → IsReached old j) where
    own_place : (j : ℕ) → is_marked marks j ≡ true → place j ≡ j
    own_place j m =
        let low : j < length old.aig.gates = below j m in
        rank_all marks j (λ k h. marked k (all k (omega arith)))

    same_count : length new.aig.gates ≡ length old.aig.gates
    same_count = is.circuit.size ∙ rank_all marks (length old.aig.gates) (λ k h. marked k (all k h))

    same_gate : (k : ℕ) (d : And) → k < length new.aig.gates → get_or new.aig.gates k d ≡ get_or old.aig.gates k d
    same_gate k d h =
        let low : k < length old.aig.gates =
        let c : length new.aig.gates ≡ length old.aig.gates = same_count in omega arith in
        let m = marked k (all k low) in
        let g = get_or old.aig.gates k d in
        let here : (j : ℕ) → IsOver g j → place j ≡ j = λ j over. own_place j (is.marked.closed g k j (omega arith) m
        (low, get_or_default old.aig.gates k g d low) over) in
        ap (λ (n : ℕ). get_or new.aig.gates n d) (sym (own_place k m)) ∙ gate_at_place k d (all k low)
        ∙ ap₂ (λ (l r : Edge). record { left = l; right = r }) (edge_stays place g.left (λ j e. here j (inl e)))
        (edge_stays place g.right (λ j e. here j (inr e)))

    same_outputs : new.outputs ≡ old.outputs
    same_outputs = outputs_are
        ∙ map_same (moved_output place) (λ (o : Output). o) old.outputs
        (λ o c. ap (λ (e : Edge). record { var = o.var; edge = e })
        (edge_stays place o.edge (λ j e. own_place j (from_output o j c e))))
        ∙ map-id old.outputs

    pub stays : new ≡ old
    stays = λ i. record {
      aig = record {
        inputs = is.circuit.inputs i;
        gates = same_lists new.aig.gates old.aig.gates same_count same_gate i;
      };
      winner = is.winner i;
      inputs = is.inputs i;
      outputs = same_outputs i;
    }
