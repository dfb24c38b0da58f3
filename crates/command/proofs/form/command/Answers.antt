use Rattle.std.proofs.Common.{rules, ◌≡◌, ◌∙◌, ◌||◌, false, ap, ap₂}
use Rattle.clap.specs.declared.builder.Command.TheViews.{out-Command as fields_of}
use Rattle.std.proofs.lemmas.Result.{IfOk-weaker}
use Rattle.clap.specs.Words.{Text, app_of, new_app, rule_of, with_rule}
use Rattle.clap.specs.Simple.{app_of_fields}
use Rattle.command.specs.Account.{name_rule}
use Rattle.command.proofs.form.command.Goals as goal

pub returns : goal.returns
returns c =
    let word : Text = c.args.word.now in
    let name_is : rule_of c.help-name.result ≡ name_rule = search rules in
    let name_local : c.help-name.result.global ≡ false = search rules in
    let new_is : app_of c.about.result ≡ new_app word = ap app_of_fields c.about.ensures ∙ c.new-2.ensures.app in
    let new_local : (fields_of c.about.result).has_globals ≡ false =
    ap (λ f. f.has_globals) c.about.ensures ∙ c.new-2.ensures.local in
    let first_is = c.in_ok-arg.ensures.shape c.budget.ensures.local ∙ ap₂ with_rule new_is c.budget.ensures.rule in
    let first_local = c.in_ok-arg.ensures.globals ∙ ap₂ ◌||◌ new_local c.budget.ensures.local in
    let second_is =
    c.in_ok-arg-2.ensures.shape c.restarts.ensures.local ∙ ap₂ with_rule first_is c.restarts.ensures.rule in
    let second_local = c.in_ok-arg-2.ensures.globals ∙ ap₂ ◌||◌ first_local c.restarts.ensures.local in
    let third_is =
    c.in_ok-arg-3.ensures.shape c.keep.ensures.local ∙ ap₂ with_rule second_is c.keep.ensures.rule in
    let third_local = c.in_ok-arg-3.ensures.globals ∙ ap₂ ◌||◌ second_local c.keep.ensures.local in
    record {
      app = IfOk-weaker c.arg-4.result _ _ (λ r h. h.shape name_local ∙ ap₂ with_rule third_is name_is)
          c.arg-4.ensures;
      local = IfOk-weaker c.arg-4.result _ _ (λ r h. h.globals ∙ ap₂ ◌||◌ third_local name_local) c.arg-4.ensures;
    }
