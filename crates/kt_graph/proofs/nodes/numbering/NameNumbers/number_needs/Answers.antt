use Rattle.kt_graph.proofs.Common.{on_ok_weaker, OrderOnly, Prerequisite, needing_as, AddsNumbers}
use Rattle.kt_graph.proofs.lemmas.nodes.NumberLemmas.{both_reached, both_said}
use Rattle.kt_graph.proofs.nodes.numbering.NameNumbers.number_needs.Goals as goal

pub returns-clause-says : goal.returns-clause-says
returns-clause-says c =
    let middle = c.add_needs.new.self in
    let new = c.add_needs-2.new in
    let first = needing_as Prerequisite c.args.needing in
    let second = needing_as OrderOnly c.args.needing in
    let none = c.clear.new.self.items in
    let also = c.clear-2.new.self.items in
    on_ok_weaker c.add_needs-2.result (λ (h : AddsNumbers middle also second new.self new.numbers.items).
    both_said c.args.self.now middle new.self first second none also c.add_needs.new.numbers.items new.numbers.items
    c.clear.ensures.items c.clear-2.ensures.items c.in_ok-add_needs.ensures h) c.add_needs-2.ensures

pub returns-clause-reached : goal.returns-clause-reached
returns-clause-reached c =
    let middle = c.add_needs.new.self in
    let new = c.add_needs-2.new in
    let first = needing_as Prerequisite c.args.needing in
    let second = needing_as OrderOnly c.args.needing in
    let none = c.clear.new.self.items in
    let also = c.clear-2.new.self.items in
    on_ok_weaker c.add_needs-2.result (λ (h : AddsNumbers middle also second new.self new.numbers.items).
    both_reached c.args.self.now middle new.self first second none also c.add_needs.new.numbers.items new.numbers.items c.in_ok-add_needs.ensures h) c.add_needs-2.ensures
