use Rattle.std.proofs.Common.{◌∙◌, ◌≡◌, ◌+◌, ◌++◌, ℕ, List, drop, sym, ap, arith, rules, option_map}
use Rattle.kt_ninja.proofs.Common.{Bor, drop_all, statement_text, statements_text, rule_count, at_place}
use Rattle.kt_ninja.specs.Plan.{made_by}
use Rattle.kt_ninja.proofs.Places.{drop_at}
use Rattle.kt_ninja.proofs.Putting.{up_to_more, up_to_end, up_to_start}
use Rattle.kt_ninja.proofs.block.Block.put_statements.Goals as goal

pub loop-statement-init : goal.loop-statement-init
loop-statement-init g c = grind (arith, up_to_start)

pub loop-statement-preserved : goal.loop-statement-preserved
loop-statement-preserved g c =
    let i = c.loop-statement.statement in
    let number = c.loop-statement.number in
    let all = (g.V.PlanView.plan c.args.view.now).statements in
    let there = at_place all i (search rules) in
    let s = there.0 in
    let rest = drop (i + 1) all in
    let next : statements_text number (drop i all) ≡ statement_text number s ++ statements_text (number + rule_count s.made) rest =
    ap (λ t. statements_text number t) (drop_at all i s there.1) in
    let made : made_by (option_map (λ (text : Bor (List ℕ)). text.now) c.command-command.result) ≡ s.made = rw there.1 at c.command-command.ensures in
    let count : number + rule_count s.made ≡ number + c.rules_of-number.result =
    ap (λ k. number + k) (ap rule_count (sym made) ∙ sym c.rules_of-number.ensures.count) in
    record {
      within = search rules;
      puts = up_to_more _ _ _ (next ∙ ap (λ n. statement_text number s ++ statements_text n rest) count)
          c.loop-statement.invariant.puts (c.put_statement.ensures s there.1);
      at_most = omega (arith, c.loop-statement.invariant.at_most, c.rules_of-number.ensures.at_most);
    }

pub returns : goal.returns
returns g c = search (rules, up_to_end, drop_all)
