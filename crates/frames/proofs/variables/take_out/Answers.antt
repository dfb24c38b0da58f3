use Rattle.std.proofs.Common.{◌≡◌, ℕ, ◌+◌, ◌≤◌, ◌<◌, List, [], ◌∷◌, ◌++◌, length, take, drop, sym, ap, ◌∙◌, arith, length-append}
use Rattle.std.proofs.lemmas.List.{drop-append-le, take-take}
use Rattle.std.proofs.Math.Seq.{take-append_seam}
use Rattle.prefix.specs.Literal.{Literal}
use Rattle.prefix.specs.Scopes.{Scope, without_variable}
use Rattle.calculus.specs.Rows.{without}
use Rattle.frames.specs.State.{without_assumed, without_variables}
use Rattle.frames.proofs.Leaving.{without_last, without_last_assumed}
use Rattle.frames.proofs.variables.take_out.Goals as goal

module _ (all olds news : List ℕ) (v len : ℕ) (is : olds ≡ news ++ v ∷ []) (more : len < length olds) where
  count : length olds ≡ length news + 1
  count = ap length is ∙ length-append news (v ∷ [])

  within : len ≤ length news
  within = omega (arith, count, more)

  front : olds ≡ take (length olds) all → news ≡ take (length news) all
  front e =
      sym (take-append_seam news (v ∷ [])) ∙ ap (take (length news)) (sym is ∙ e)
      ∙ take-take (length news) (length olds) all (omega (arith, count))

  rest : drop len olds ≡ drop len news ++ v ∷ []
  rest = ap (drop len) is ∙ drop-append-le len news (v ∷ []) within

  out : (ss : List Scope) → without_variables (drop len news) (without_variable v ss)
      ≡ without_variables (drop len olds) ss
  out ss = sym (without_last (drop len news) v ss) ∙ ap (λ vs. without_variables vs ss) (sym rest)

  back : (ls : List Literal) → without_assumed (drop len news) (without v ls) ≡ without_assumed (drop len olds) ls
  back ls = sym (without_last_assumed (drop len news) v ls) ∙ ap (λ vs. without_assumed vs ls) (sym rest)

pub loop-vars-preserved-in-Some : goal.loop-vars-preserved-in-Some
loop-vars-preserved-in-Some c =
    let olds = c.loop-vars.vars.items in
    let news = c.pop.new.self.items in
    let is : olds ≡ news ++ c.in-Some.v ∷ [] = c.in-Some.ensures.items in
    let there : c.len.result ≡ length olds = c.len.ensures ∙ c.loop-vars.vars.ok.0 in
    let test : c.args.len < c.len.result = c.loop-vars-test.true in
    let more : c.args.len < length olds = omega (arith, there, test) in
    let kept = c.loop-vars.invariant in record {
      front = front c.args.vars.now.items olds news c.in-Some.v c.args.len is more kept.front;
      long = within c.args.vars.now.items olds news c.in-Some.v c.args.len is more;
      prefix = ap (without_variables (drop c.args.len news)) c.remove_var.ensures.value
          ∙ out c.args.vars.now.items olds news c.in-Some.v c.args.len is more c.loop-vars.prefix ∙ kept.prefix;
      assumptions = ap (without_assumed (drop c.args.len news)) c.remove.ensures
          ∙ back c.args.vars.now.items olds news c.in-Some.v c.args.len is more c.loop-vars.assumptions
          ∙ kept.assumptions;
    }
