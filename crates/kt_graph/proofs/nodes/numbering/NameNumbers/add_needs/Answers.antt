use Rattle.std.proofs.Common.{◌++◌, map}
use Rattle.kt_graph.proofs.Common.{on_ok_weaker, rule_view, first_needs, rules_needs, AddsNumbers}
use Rattle.kt_graph.proofs.lemmas.nodes.NumberLemmas.{adds_after}
use Rattle.kt_graph.proofs.nodes.numbering.NameNumbers.add_needs.Goals as goal

pub returns : goal.returns
returns c =
    let sort = c.args.sort in
    let needing = c.args.needing in
    let old = c.args.self.now in
    let numbers = c.args.numbers.now.items in
    let one = first_needs sort needing.first in
    let two = rules_needs sort (map rule_view needing.earlier.now) in
    let three = rules_needs sort (map rule_view needing.later.now) in
    let a = c.add_first.new in
    let b = c.add_rules.new in
    let d = c.add_rules-2.new in
    on_ok_weaker c.add_rules-2.result
    (λ (h : AddsNumbers b.self b.numbers.items three d.self d.numbers.items).
    adds_after old a.self d.self one (two ++ three) numbers a.numbers.items d.numbers.items c.in_ok-add_first.ensures
    (adds_after a.self b.self d.self two three a.numbers.items b.numbers.items d.numbers.items c.in_ok-add_rules.ensures h))
    c.add_rules-2.ensures
