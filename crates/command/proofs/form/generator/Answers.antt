use Rattle.std.proofs.Common.{◌≡◌, ◌∙◌, ◌||◌, false, codes, ap, ap₂}
use Rattle.clap.specs.declared.builder.Command.TheViews.{out-Command as fields_of}
use Rattle.std.proofs.lemmas.Result.{IfOk-weaker}
use Rattle.clap.specs.Words.{app_of, new_app, with_rule}
use Rattle.clap.specs.Simple.{app_of_fields}
use Rattle.command.proofs.form.generator.Goals as goal

pub returns : goal.returns
returns c =
    let new_is : app_of c.about.result ≡ new_app (codes "gen") = ap app_of_fields c.about.ensures ∙ c.new.ensures.app in
    let new_local : (fields_of c.about.result).has_globals ≡ false =
    ap (λ f. f.has_globals) c.about.ensures ∙ c.new.ensures.local in
    let seed_is = c.in_ok-arg.ensures.shape c.number.ensures.local ∙ ap₂ with_rule new_is c.number.ensures.rule in
    let seed_local = c.in_ok-arg.ensures.globals ∙ ap₂ ◌||◌ new_local c.number.ensures.local in
    let vars_is =
    c.in_ok-arg-2.ensures.shape c.number-2.ensures.local ∙ ap₂ with_rule seed_is c.number-2.ensures.rule in
    let vars_local = c.in_ok-arg-2.ensures.globals ∙ ap₂ ◌||◌ seed_local c.number-2.ensures.local in
    record {
      app = IfOk-weaker c.arg-3.result _ _
          (λ r h. h.shape c.number-3.ensures.local ∙ ap₂ with_rule vars_is c.number-3.ensures.rule) c.arg-3.ensures;
      local = IfOk-weaker c.arg-3.result _ _ (λ r h. h.globals ∙ ap₂ ◌||◌ vars_local c.number-3.ensures.local)
          c.arg-3.ensures;
    }
