use Rattle.std.proofs.Common.{◌≡◌, [], length}
use Rattle.kt_graph.specs.nodes.Groups.{groups_of}
use Rattle.kati.proofs.Common.{plan_groups}
use Rattle.kati.specs.inner.plan.Drawn.{statements_drawn}
use Rattle.kati.proofs.plan.planning.Planner.drawn.Given as goal

abbrev pub invariant-loop-group : goal.invariant-loop-group
invariant-loop-group l = record {
  book : l.self.book.now ≡ l.fn.self.book.now;
  same : l.self.commands ≡ l.fn.self.commands;
  size : length l.groups ≡ length l.sketch;
  rest : plan_groups l.fn.self.book.now l.fn.self.commands.table l.fn.self.commands.limit l.left (statements_drawn l.groups l.sketch) l.messages.items
      ≡ plan_groups l.fn.self.book.now l.fn.self.commands.table l.fn.self.commands.limit (groups_of l.graph) [] l.fn.messages.items;
}

abbrev pub decreases-loop-group : goal.decreases-loop-group
decreases-loop-group l = length l.left
