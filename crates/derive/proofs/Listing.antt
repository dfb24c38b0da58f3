-- What the list of open clauses tells.
use Rattle.std.proofs.Common.{◌≡◌, ℕ, Contains, Option, Some, None, sym, refl, ap, ◌∙◌}
use Rattle.prefix.specs.declared.quant.Quant.{Quant}
use Rattle.prefix.specs.declared.quant.Quant.TheVariants.{Exists, Forall}
use Rattle.calculus.specs.Rows.{Row}
use Rattle.calculus.specs.Derivations.{Why}
use Rattle.calculus.specs.Derivations.Why.{Given, ReducedFrom, ResolvedFrom, FinishedFrom}
use Rattle.derive.specs.State.{Note, OpenClause, State, clause_at, clause_with, clauses_of, next_id, note_at, row_of}
use Rattle.derive.proofs.Ids.{listed_at}

-- the note and the row of an open clause
record IsInputOf (d : State) (c : OpenClause) (k : ℕ) (side : Quant) (why : Why) (tag : ℕ) (row : Row) : Type 0 where
  of_side : side ≡ Exists
  given : why ≡ Given
  id : c.id ≡ k
  frame : c.frame ≡ tag
  has_row : c.row ≡ row

told_by : (d : State) (c : OpenClause) (k : ℕ) (row : Row) (tag : ℕ) (side : Quant) (why : Why)
    → clause_with k row tag side why ≡ Some c → IsInputOf d c k side why tag row
told_by d c k row tag Exists Given e =
    let is : record { id = k; frame = tag; row = row } ≡ c = cc in
    record {
      of_side = refl;
      given = refl;
      id = ap (λ (x : OpenClause). x.id) (sym is);
      frame =
          ap (λ (x : OpenClause). x.frame) (sym is);
      has_row = ap (λ (x : OpenClause). x.row) (sym is);
    }
told_by d c k row tag Exists (ReducedFrom a) e = absurd (cc)
told_by d c k row tag Exists (ResolvedFrom a b x) e = absurd (cc)
told_by d c k row tag Exists (FinishedFrom a) e = absurd (cc)
told_by d c k row tag Forall why e = absurd (cc)

record Found (d : State) (c : OpenClause) : Type 0 where
  note : Note
  there : note_at d c.id ≡ Some note
  input : IsInputOf d c c.id note.side note.why note.tag (row_of d c.id)

found : (d : State) (c : OpenClause) → Contains (clauses_of d) c → Found d c
found d c i =
    let at = listed_at (clause_at d) 0 (next_id d) c i in
    by_note at.0 (note_at d at.0) refl at.3
  where
    by_note : (k : ℕ) (o : Option Note) → note_at d k ≡ o → clause_at d k ≡ Some c → Found d c
    by_note k None there e = absurd (let f : None ≡ Some c = sym (none_at k there) ∙ e in cc)
      where
        none_at : (j : ℕ) → note_at d j ≡ None → clause_at d j ≡ None
        none_at j h = rw h refl
    by_note k (Some note) there e =
        let f : clause_with k (row_of d k) note.tag note.side note.why ≡ Some c = sym (some_at k note there) ∙ e in
        let told = told_by d c k (row_of d k) note.tag note.side note.why f in
        let same : c.id ≡ k = told.id in
        record {
          note = note;
          there = ap (note_at d) same ∙ there;
          input = record {
            of_side = told.of_side;
            given = told.given;
            id = refl;
            frame = told.frame;
            has_row =
                told.has_row ∙ ap (row_of d) (sym same);
          };
        }
      where
        some_at : (j : ℕ) (n : Note) → note_at d j ≡ Some n → clause_at d j ≡ clause_with j (row_of d j) n.tag n.side
            n.why
        some_at j n h = rw h refl

pub listed_note : (d : State) (c : OpenClause) → Contains (clauses_of d) c → note_at d c.id ≡ Some
    (record { side = Exists; why = Given; tag = c.frame })
listed_note d c i =
    let f = found d c i in
    let is : f.note ≡ record { side = Exists; why = Given; tag = c.frame } =
    (λ j. record { side = f.input.of_side j; why = f.input.given j; tag = sym f.input.frame j }) in
    f.there ∙ ap Some is

pub listed_row : (d : State) (c : OpenClause) → Contains (clauses_of d) c → row_of d c.id ≡ c.row
listed_row d c i = sym (found d c i).input.has_row
