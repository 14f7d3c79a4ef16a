use Rattle.std.proofs.Common.{◌∙◌, ◌≡◌, ℕ, List, arith, sym, option_map, slice_get}
use Rattle.kt_ninja.proofs.Common.{Bor, number_text}
use Rattle.kt_ninja.proofs.Numbers.{number_decimal}
use Rattle.kt_ninja.proofs.Putting.{puts_then}
use Rattle.kt_ninja.proofs.ViewLemmas.{rule_put}
use Rattle.kt_ninja.proofs.block.Block.put_statement.Goals as goal

pub returns : goal.returns
returns g c = λ s is.
    let found = slice_get (g.V.PlanView.plan c.args.view.now).statements c.args.statement in
    let digits : c.as_bytes-digits.result.now ≡ number_text c.args.number =
    c.as_bytes-digits.ensures.value ∙ c.format.ensures.text ∙ sym (number_decimal c.args.number (omega arith)) in
    puts_then _ _
    (rule_put g.W.Sink.seen _ _ found s is c.args.number (option_map (λ (text : Bor (List ℕ)). text.now) c.args.command) c.requires
    (c.put_rule.ensures c.args.number digits))
    (c.put_build.ensures c.args.number digits s is)
