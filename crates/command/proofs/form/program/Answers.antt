use Rattle.std.proofs.Common.{◌≡◌, ◌∙◌, ap, ap₂, codes, true}
use Rattle.std.proofs.lemmas.Result.{IfOk-weaker}
use Rattle.clap.specs.Words.{App, app_of, new_app, with_subcommand}
use Rattle.clap.specs.Simple.{app_of_fields, on_top}
use Rattle.command.specs.Account.{bare_app}
use Rattle.command.proofs.form.program.Goals as goal

pub returns : goal.returns
returns c =
    let new_is : app_of c.about.result ≡ new_app (codes "qbf") = ap app_of_fields c.about.ensures ∙ c.new.ensures.app in
    let bare_is : app_of c.subcommand_required.result ≡ bare_app =
    ap app_of_fields c.subcommand_required.ensures
    ∙ ap (on_top (λ s. record s { subcommand_required = true })) new_is in
    let solve_is = c.in_ok-subcommand.ensures.shape c.in_ok-solve.ensures.local
    ∙ ap₂ with_subcommand bare_is (ap (λ (a : App). a.top) c.in_ok-solve.ensures.app) in
    let trace_is = c.in_ok-subcommand-2.ensures.shape c.in_ok-command.ensures.local
    ∙ ap₂ with_subcommand solve_is (ap (λ (a : App). a.top) c.in_ok-command.ensures.app) in
    let cert_is = c.in_ok-subcommand-3.ensures.shape c.in_ok-certifier.ensures.local
    ∙ ap₂ with_subcommand trace_is (ap (λ (a : App). a.top) c.in_ok-certifier.ensures.app) in
    let checker_is = c.in_ok-subcommand-4.ensures.shape c.in_ok-checker.ensures.local
    ∙ ap₂ with_subcommand cert_is (ap (λ (a : App). a.top) c.in_ok-checker.ensures.app) in
    let script_is = c.in_ok-subcommand-5.ensures.shape c.in_ok-command-2.ensures.local
    ∙ ap₂ with_subcommand checker_is (ap (λ (a : App). a.top) c.in_ok-command-2.ensures.app) in
    let generator_is = c.in_ok-subcommand-6.ensures.shape c.in_ok-generator.ensures.local
    ∙ ap₂ with_subcommand script_is (ap (λ (a : App). a.top) c.in_ok-generator.ensures.app) in
    IfOk-weaker c.subcommand-7.result _ _ (λ r h. h.shape c.in_ok-demonstration.ensures.local
    ∙ ap₂ with_subcommand generator_is (ap (λ (a : App). a.top) c.in_ok-demonstration.ensures.app))
    c.subcommand-7.ensures
