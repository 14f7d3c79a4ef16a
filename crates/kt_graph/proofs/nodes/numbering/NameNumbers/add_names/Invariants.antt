use Rattle.kt_rules.specs.views.Targets.{names_view}
use Rattle.kt_graph.proofs.lemmas.nodes.NumberLemmas.{AddsUpTo}
use Rattle.kt_graph.proofs.nodes.numbering.NameNumbers.add_names.Given as goal

abbrev pub invariant-loop-name : goal.invariant-loop-name
invariant-loop-name l =
    AddsUpTo l.fn.self l.fn.numbers.items (names_view l.fn.names) (names_view l.name-iterator) l.self l.numbers.items
