use Rattle.std.proofs.Common.{◌∙◌, ap, map, subst, sym, take}
use Rattle.kt_graph.proofs.Common.{Target, Entry, needs_for, rule_view, needed_as, rules_needs, AddsNumbers}
use Rattle.kt_graph.proofs.lemmas.nodes.NumberLemmas.{adds_after, adds_none, taken_more}
use Rattle.kt_graph.proofs.nodes.numbering.NameNumbers.add_rules.Goals as goal

pub loop-rule-init : goal.loop-rule-init
loop-rule-init c = adds_none c.args.self.now c.args.numbers.now.items

pub loop-rule-preserved : goal.loop-rule-preserved
loop-rule-preserved c =
    let sort = c.args.sort in
    let rules = c.args.rules.now in
    let rule = c.rule-item.result in
    let i = c.loop-rule.rule-index in
    let old = c.args.self.now in
    let numbers = c.args.numbers.now.items in
    let new = c.add_names.new.self in
    let more = c.add_names.new.numbers.items in
    let needed = needed_as sort (needs_for (rule_view rule).0 (rule_view rule).1) in
    let told = c.needed_as.ensures ∙ ap (needed_as sort) c.needs.ensures in
    let step = subst (λ l. AddsNumbers c.loop-rule.self c.loop-rule.numbers.items l new more) told c.in_ok-add_names.ensures in
    subst (λ l. AddsNumbers old numbers l new more)
    (sym (taken_more (λ (made : Entry × Target). needed_as sort (needs_for made.0 made.1)) rule_view rules i rule c.loop-rule-test.true c.rule-item.is))
    (adds_after old c.loop-rule.self new (rules_needs sort (map rule_view (take i rules))) needed numbers c.loop-rule.numbers.items more c.loop-rule.invariant step)
