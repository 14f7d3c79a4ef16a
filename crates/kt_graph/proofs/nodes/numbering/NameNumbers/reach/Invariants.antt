use Rattle.std.proofs.Common.{◌≡◌, drop, fold}
use Rattle.kt_rules.specs.Names.{with_name}
use Rattle.kt_graph.proofs.nodes.numbering.NameNumbers.reach.Given as goal

abbrev pub invariant-loop-name : goal.invariant-loop-name
invariant-loop-name l = fold with_name l.self (drop l.name-index l.names) ≡ fold with_name l.fn.self l.names
