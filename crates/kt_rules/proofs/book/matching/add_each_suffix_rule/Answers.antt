use Rattle.std.proofs.Common.{◌∙◌, ◌++◌, List, sym, ap, map, filter}
use Rattle.kt_rules.proofs.Common.{filter_map, append_assoc, Entry, is_made, suffix_rule_as_pattern, entry_view, target_view, targets_view}
use Rattle.kt_rules.specs.inner.Patterns.{suffix_rules_at}
use Rattle.kt_rules.proofs.lemmas.book.PatternLemmas.{suffix_rules_left}
use Rattle.kt_rules.proofs.book.matching.add_each_suffix_rule.Goals as goal

pub loop-target-preserved : goal.loop-target-preserved
loop-target-preserved c =
    let rule = entry_view c.args.entry in
    let target = target_view c.in-Some.target in
    let rest : List Entry = filter_map (suffix_rule_as_pattern c.args.suffixes.now) (map (λ t. (rule, t)) (filter (is_made rule) (targets_view c.next.new.self))) in
    ap (λ (xs : List Entry). xs ++ rest) c.in_ok-add_suffix_rule.ensures
    ∙ append_assoc c.loop-target.patterns.items (suffix_rules_at c.args.suffixes.now rule target) rest
    ∙ ap (λ (xs : List Entry). c.loop-target.patterns.items ++ xs)
    (sym (suffix_rules_left c.args.suffixes.now rule (targets_view c.loop-target.target-iterator) (targets_view c.next.new.self) target c.in-Some.ensures.steps))
    ∙ c.loop-target.invariant
