use Rattle.std.proofs.Common.{drop, ◌≤◌}
use Rattle.kt_ninja.specs.Text.{statements_text}
use Rattle.kt_ninja.proofs.Putting.{PutsUpTo}
use Rattle.kt_ninja.proofs.block.Block.put_statements.Given as goal

abbrev pub invariant-loop-statement : goal.invariant-loop-statement
invariant-loop-statement g l = record {
  within : l.statement ≤ l.statement-end;
  puts : PutsUpTo g.W.Sink.seen l.fn.self l.self (statements_text 0 (g.V.PlanView.plan l.view).statements)
      (statements_text l.number (drop l.statement (g.V.PlanView.plan l.view).statements));
  at_most : l.number ≤ l.statement;
}
