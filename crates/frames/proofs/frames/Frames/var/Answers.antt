use Rattle.std.proofs.Common.{◌≡◌, ℕ, ◌-◌, Bool, true, false, List, [], ◌∷◌, ◌++◌, length, refl, sym, ap, ◌∙◌}
use Rattle.std.specs.Prelude.{is_some, Option, Some, if◌then◌else◌}
use Rattle.std.proofs.lemmas.Bool.{eq-eqb}
use Rattle.prefix.specs.Scopes.{level_of, with_variable_at}
use Rattle.frames.specs.State.{Frame, leaves_in, settled}
use Rattle.frames.specs.Kept.{outside}
use Rattle.frames.proofs.Holding.{held_listed}
use Rattle.frames.proofs.Keeping.{frames_listed, listed_frames, listed_leaving, none_assumed, none_there}
use Rattle.frames.proofs.Refusing.{variable_free, variable_is}
use Rattle.frames.proofs.frames.Frames.var.Goals as goal

still_some : (t : Bool) (n : ℕ) (o : Option ℕ) → is_some o ≡ true → is_some (if t then Some n else o) ≡ true
still_some true n o e = refl
still_some false n o e = e

-- the list of variables that leave
listed : (c : goal.After-self-1) → c.put_variable.new.vars.items
    ≡ (if leaves_in c.self.inside.version (length c.self.inside.starts.items) then c.self.inside.vars.items ++
    c.args.var ∷ [] else c.self.inside.vars.items)
listed c =
    let self = c.self.inside in
    let is = variable_is self.prefix c.args.var c.args.scope c.variable_for.result c.in_ok-v.v c.in_ok-v.was
    c.variable_for.ensures.value in
    c.put_variable.ensures
    ∙ ap (λ b. if b then c.make_room.new.vars.items ++ c.in_ok-v.v ∷ [] else c.make_room.new.vars.items)
    (c.leaves-leaves.ensures ∙ ap (leaves_in self.version) (c.len.ensures ∙ self.starts.ok.0))
    ∙ ap (λ vs. if leaves_in self.version (length self.starts.items) then vs ++ c.in_ok-v.v ∷ [] else vs)
    c.in_ok-make_room.ensures.same
    ∙ ap (λ v. if leaves_in self.version (length self.starts.items) then self.vars.items ++ v ∷ []
    else self.vars.items) is

pub invariant_of-self-2 : goal.invariant_of-self-2
invariant_of-self-2 c =
    let self = c.self.inside in
    let levels = c.in_ok-add_var.ensures.levels in
    let kept : (v : ℕ) → is_some (level_of self.prefix v) ≡ true → is_some (level_of c.add_var.new.self v) ≡ true
    = λ v e. ap is_some (levels v) ∙ still_some _ _ _ e in
    let there : is_some (level_of c.add_var.new.self c.args.var) ≡ true =
    ap is_some (levels c.args.var) ∙ ap (λ b. is_some
    (if b then Some c.args.scope else level_of self.prefix c.args.var)) (eq-eqb c.args.var c.args.var refl) in
    let free = variable_free self.prefix c.args.var c.args.scope c.variable_for.result c.in_ok-v.v c.in_ok-v.was
    c.variable_for.ensures.value in (
      listed_frames self.version self.prefix c.add_var.new.self self.starts.items self.rows.items self.vars.items
          c.put_variable.new.vars.items (outside self.latest self.groups.current) c.args.var (listed c)
          c.self.invariant.0 kept,
      none_assumed c.add_var.new.self self.assumptions
          (none_there _ (sym c.is_empty.ensures ∙ c.if-not-is_empty.false)),
      listed_leaving self.version self.prefix c.add_var.new.self self.starts.items self.rows.items self.vars.items
          c.put_variable.new.vars.items (outside self.latest self.groups.current) c.args.var (listed c)
          c.self.invariant.0 free there kept c.self.invariant.2,
      held_listed self.version self.prefix c.add_var.new.self self.starts.items self.vars.items
          c.put_variable.new.vars.items self.groups self.latest c.args.var (listed c) free kept c.self.invariant.3,
      c.self.invariant.4,
    )

pub returns-clause-ok : goal.returns-clause-ok
returns-clause-ok c =
    let self = c.self.inside in
    rw (← c.self.view_is, c.in_ok-add_var.ensures.ok)
    (ap (λ (frames : List Frame). settled (record {
      version = self.version;
      scopes =
          with_variable_at self.prefix (c.args.scope - 1) c.args.var;
      frames = frames;
      groups = self.groups.groups;
      current = self.groups.current;
      assumptions =
          self.assumptions;
    }))
    (frames_listed self.version self.prefix c.add_var.new.self self.starts.items self.rows.items self.vars.items
    c.put_variable.new.vars.items (outside self.latest self.groups.current) c.args.var (listed c) c.self.invariant.0))
