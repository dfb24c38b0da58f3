-- The folds of a conjunction, by what the two edges are.
use Rattle.std.proofs.Common.{◌≡◌, Bool, true, false, not, Some, refl, sym, ap, ap₂, ◌∙◌}
use Rattle.std.proofs.lemmas.Bool.{true≢false}
use Rattle.std.proofs.Math.Bool.{beq}
use Rattle.aig.specs.Circuits.{zero, one, IsConstant, Folds, AreProper}
use Rattle.aig.specs.declared.edge.Edge.{Edge}
use Rattle.aig.specs.declared.edge.Node.{Node}
use Rattle.aig.specs.declared.edge.Node.TheVariants.{Constant, Input, Gate}

edge_is : (a b : Edge) → a.node ≡ b.node → a.negated ≡ b.negated → a ≡ b
edge_is a b n s = ap₂ (λ m (c : Bool). record { node = m; negated = c }) n s

not_itself : (b : Bool) → b ≡ not b → ⊥
not_itself true e = true≢false e
not_itself false e = true≢false (sym e)

not_true : (b : Bool) → true ≡ not b → b ≡ false
not_true true e = absurd (true≢false e)
not_true false e = refl

zero≢one : zero ≡ one → ⊥
zero≢one e = true≢false (sym (ap (λ (x : Edge). x.negated) e))

proper_constant : (a : Edge) (b : Bool) → a ≡ record { node = Constant; negated = b } → (IsConstant a.node → ⊥) → ⊥
proper_constant a b e proper = proper (rw e tt)

one_left : (b : Edge) → Folds one b (λ e. Some b ≡ Some e)
one_left b = record {
  zero_left = λ e. absurd (zero≢one (sym e));
  zero_right = λ e. ap Some e;
  one_left = λ e. refl;
  one_right = λ e. ap Some e;
  equal = λ e. ap Some (sym e);
  opposites = λ e. ap Some (edge_is b zero (sym (ap (λ (x : Edge). x.node) e))
      (not_true b.negated (ap (λ (x : Edge). x.negated) e)));
}

zero_left : (b : Edge) → Folds zero b (λ e. Some zero ≡ Some e)
zero_left b = record {
  zero_left = λ e. refl;
  zero_right = λ e. refl;
  one_left = λ e. absurd (zero≢one e);
  one_right = λ e. refl;
  equal = λ e. refl;
  opposites = λ e. refl;
}

one_right : (a : Edge) → Folds a one (λ e. Some a ≡ Some e)
one_right a = record {
  zero_left = λ e. ap Some e;
  zero_right = λ e. absurd (zero≢one (sym e));
  one_left = λ e. ap Some e;
  one_right = λ e. refl;
  equal = λ e. refl;
  opposites = λ e. ap Some e;
}

zero_right : (a : Edge) → Folds a zero (λ e. Some zero ≡ Some e)
zero_right a = record {
  zero_left = λ e. refl;
  zero_right = λ e. refl;
  one_left = λ e. refl;
  one_right = λ e. absurd (zero≢one e);
  equal = λ e. ap Some (sym e);
  opposites = λ e. refl;
}

pub over_one_left : (a b : Edge) → a.node ≡ Constant → a.negated ≡ true → Folds a b (λ e. Some b ≡ Some e)
over_one_left a b n s = rw (edge_is a one n s) (one_left b)

pub over_zero_left : (a b : Edge) → a.node ≡ Constant → a.negated ≡ false → Folds a b (λ e. Some a ≡ Some e)
over_zero_left a b n s = rw (edge_is a zero n s) (zero_left b)

pub over_one_right : (a b : Edge) → b.node ≡ Constant → b.negated ≡ true → Folds a b (λ e. Some a ≡ Some e)
over_one_right a b n s = rw (edge_is b one n s) (one_right a)

pub over_zero_right : (a b : Edge) → b.node ≡ Constant → b.negated ≡ false → Folds a b (λ e. Some b ≡ Some e)
over_zero_right a b n s = rw (edge_is b zero n s) (zero_right a)

pub over_equal : (a b : Edge) → a.node ≡ b.node → a.negated ≡ b.negated → Folds a b (λ e. Some a ≡ Some e)
over_equal a b n s = let same = edge_is a b n s in record {
  zero_left = λ e. ap Some e;
  zero_right = λ e. ap Some (same ∙ e);
  one_left = λ e. ap Some same;
  one_right = λ e. refl;
  equal = λ e. refl;
  opposites = λ e. absurd (not_itself b.negated (sym s ∙ ap (λ (x : Edge). x.negated) e));
}

pub over_opposite : (a b : Edge) → (IsConstant a.node → ⊥) → (IsConstant b.node → ⊥) → (a.negated ≡ b.negated → ⊥)
    → Folds a b (λ e. Some zero ≡ Some e)
over_opposite a b left right differ = record {
  zero_left = λ e. refl;
  zero_right = λ e. refl;
  one_left = λ e. absurd (proper_constant a true e left);
  one_right = λ e. absurd (proper_constant b true e right);
  equal = λ e. absurd (differ (ap (λ (x : Edge). x.negated) e));
  opposites = λ e. refl;
}

pub over_proper : (a b : Edge) → AreProper a b → (Gives : Edge → Type 0) → Folds a b Gives
over_proper a b proper Gives = record {
  zero_left = λ e. absurd (proper_constant a false e proper.left);
  zero_right = λ e. absurd (proper_constant b false e proper.right);
  one_left = λ e. absurd (proper_constant a true e proper.left);
  one_right = λ e. absurd (proper_constant b true e proper.right);
  equal = λ e. absurd (proper.differ (ap (λ (x : Edge). x.node) e));
  opposites = λ e. absurd (proper.differ (ap (λ (x : Edge). x.node) e));
}

pub folds_map : (a b : Edge) (P Q : Edge → Type 0) → ((e : Edge) → P e → Q e) → Folds a b P → Folds a b Q
folds_map a b P Q f h = record {
  zero_left = λ e. f zero (h.zero_left e);
  zero_right = λ e. f zero (h.zero_right e);
  one_left = λ e. f b (h.one_left e);
  one_right = λ e. f a (h.one_right e);
  equal = λ e. f a (h.equal e);
  opposites = λ e. f zero (h.opposites e);
}

pub not_left : (a b : Edge) → a.node ≡ Constant → AreProper a b → ⊥
not_left a b e proper = proper.left (rw e tt)

pub not_right : (a b : Edge) → b.node ≡ Constant → AreProper a b → ⊥
not_right a b e proper = proper.right (rw e tt)

pub constant_is : (n : Node) → IsConstant n → n ≡ Constant
constant_is Constant h = refl
constant_is (Input i) h = absurd h
constant_is (Gate j) h = absurd h

pub beq_differs : (m n : Bool) → beq m n ≡ false → m ≡ n → ⊥
beq_differs true true e s = true≢false e
beq_differs true false e s = true≢false s
beq_differs false true e s = true≢false (sym s)
beq_differs false false e s = true≢false e

-- an edge's node differs from the constant where a comparison says so
pub not_constant : (n : Node) → (n ≡ Constant → ⊥) → IsConstant n → ⊥
not_constant n differ h = differ (constant_is n h)
