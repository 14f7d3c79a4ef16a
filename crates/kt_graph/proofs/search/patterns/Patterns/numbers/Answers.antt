use Rattle.std.proofs.Common.{◌≡◌, List, nat_eq, subst}
use Rattle.kt_graph.proofs.Common.{dedup, Entry, matching_from, candidates_numbered}
use Rattle.std.proofs.lemmas.List.Filters.{dedup_is}
use Rattle.kt_graph.proofs.lemmas.search.EndLemmas.{numbers_in_order}
use Rattle.kt_graph.proofs.search.patterns.Patterns.numbers.Goals as goal

pub returns : goal.returns
returns c =
    let held = c.self.inside in
    let once : c.dedup.new.self.items ≡ dedup nat_eq c.sort.new.self.items = dedup_is nat_eq c.sort.new.self.items c.dedup.new.self.items c.dedup.ensures.filtered in
    subst (λ (rules : List Entry). candidates_numbered rules c.args.name.now c.dedup.new.self.items ≡ matching_from 0 rules c.args.name.now) c.self.view_is
    (numbers_in_order held.ends held.rules.items c.args.name.now c.in_ok-numbers.numbers.items c.sort.new.self.items c.dedup.new.self.items
    c.self.invariant c.in_ok-numbers.ensures c.sort.ensures.permutation c.in_ok-sort.ensures.sorted once)
