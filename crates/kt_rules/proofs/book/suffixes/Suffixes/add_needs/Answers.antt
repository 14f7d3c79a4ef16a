use Rattle.std.proofs.Common.{◌∙◌, ap, fold}
use Rattle.kt_rules.proofs.Common.{with_name, all_needs, lengths_with, needs_view}
use Rattle.kt_rules.proofs.lemmas.book.SuffixLemmas.{by_result, needs_added}
use Rattle.kt_rules.proofs.book.suffixes.Suffixes.add_needs.Goals as goal

pub invariant_of-self-2 : goal.invariant_of-self-2
invariant_of-self-2 c =
    let old = c.self.inside.names in
    let lengths = c.self.inside.lengths.keys in
    let first = c.note_needed.new.lengths.keys in
    let second = c.note_needed-2.new.lengths.keys in
    let one = c.in_ok-note_needed.ensures.noted ∙ ap (lengths_with lengths) c.prerequisites.ensures in
    let two = c.in_ok-note_needed-2.ensures.noted ∙ ap (lengths_with first) c.order_only.ensures in
    by_result c.add_needs.result old c.add_needs.new.names (fold with_name old (all_needs (needs_view c.args.needs))) second
    c.add_needs.ensures.added c.add_needs.ensures.refused
    (needs_added old lengths first second (needs_view c.args.needs) c.self.invariant one two)
    (c.in_ok-note_needed-2.ensures.kept old (c.in_ok-note_needed.ensures.kept old c.self.invariant))
