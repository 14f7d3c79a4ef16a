use Rattle.std.proofs.Common.{◌≡◌, map, drop, fold}
use Rattle.kt_rules.specs.Names.{with_name, without_dots}
use Rattle.kt_graph.specs.Goals.{named_goals}
use Rattle.kt_graph.proofs.goals.named_goals.Given as goal

abbrev pub invariant-loop-word : goal.invariant-loop-word
invariant-loop-word l = fold with_name l.goals (map without_dots (drop l.word-index l.words)) ≡ named_goals l.words
