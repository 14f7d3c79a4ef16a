use Rattle.std.proofs.Common.{arith, ◌∙◌, List, fold, ap}
use Rattle.kt_graph.proofs.Common.{Text, with_name, without_repeats, known_names, listed_names}
use Rattle.std.proofs.lemmas.Grind.{fold-append}
use Rattle.kt_graph.proofs.lemmas.EndMarkLemmas.{both_marked}
use Rattle.kt_graph.proofs.known.Known.of.Goals as goal

pub invariant_of-result : goal.invariant_of-result
invariant_of-result c =
    let listed = listed_names c.args.files.now in
    both_marked c.in_ok-ends.ends.marks.items c.add_listed.new.ends.marks.items c.mark_named.new.ends.marks.items listed c.add_listed.new.names
    c.in_ok-book.book (c.in_ok-add_listed.ensures.added ∙ ap (λ (names : List Text). fold with_name names listed) c.in_ok-list.ensures)
    c.in_ok-add_listed.ensures.marked c.mark_named.ensures.kept c.mark_named.ensures.marked

pub returns : goal.returns
unfolding known_names without_repeats
returns c = grind (arith, fold-append)
