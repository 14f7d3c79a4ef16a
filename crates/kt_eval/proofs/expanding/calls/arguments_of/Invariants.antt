use Rattle.std.proofs.Common.{◌≡◌, ◌≤◌, ◌++◌, map, drop, take}
use Rattle.kt_eval.specs.expanding.Calls.{arguments_of, arguments_from}
use Rattle.kt_eval.proofs.expanding.calls.arguments_of.Given as goal

abbrev pub invariant-loop-place : goal.invariant-loop-place
invariant-loop-place l = record {
  begun : l.start ≤ l.place;
  shallow : l.depth ≤ l.place;
  rest : map (λ argument. argument.now) l.arguments.items ++ arguments_from l.mark l.left l.depth (drop l.start (take l.place l.text)) (drop l.place l.text) ≡ arguments_of l.mark l.fn.commas l.text;
}
