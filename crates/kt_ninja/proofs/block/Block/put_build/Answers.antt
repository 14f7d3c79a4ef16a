use Rattle.kt_ninja.proofs.Common.{codes, ℕ, List, option_map, slice_get, Bor}
use Rattle.kt_ninja.proofs.Putting.{puts_none, puts_then}
use Rattle.kt_ninja.proofs.ViewLemmas.{marked_put, names_put, rule_name_put}
use Rattle.kt_ninja.proofs.block.Block.put_build.Goals as goal

pub returns : goal.returns
returns g c = λ number digits s is.
    let seen = g.W.Sink.seen in
    let found = slice_get (g.V.PlanView.plan c.args.view.now).statements c.args.statement in
    puts_then (codes "build") _ c.put.ensures
    (puts_then _ _ (names_put seen _ _ found s is (λ t. t.outs) _ c.names.ensures c.put_names.ensures)
    (puts_then (codes ": ") _ c.put-2.ensures
    (puts_then _ _ (rule_name_put seen _ _ found s is number (option_map (λ (text : Bor (List ℕ)). text.now) c.args.command) c.requires (c.put_rule_name.ensures number digits))
    (puts_then _ _ (names_put seen _ _ found s is (λ t. t.inputs) _ c.names-2.ensures c.put_names-2.ensures)
    (puts_then _ _ (marked_put seen _ _ found s is (codes " |") (λ t. t.implicit) _ c.names-3.ensures c.put_marked.ensures)
    (puts_then _ _ (marked_put seen _ _ found s is (codes " ||") (λ t. t.order_only) _ c.names-4.ensures c.put_marked-2.ensures)
    (puts_then (codes "\n") _ c.put-3.ensures (puts_none _))))))))
