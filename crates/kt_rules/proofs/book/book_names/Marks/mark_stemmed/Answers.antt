use Rattle.std.proofs.Common.{◌≡◌, ◌∙◌, ◌||◌, List, ap}
use Rattle.kt_rules.proofs.Common.{on_ok_weaker, Text, is_among, names_view, needs_view}
use Rattle.kt_rules.specs.inner.Marks.{is_marked}
use Rattle.kt_rules.proofs.lemmas.book.MarkLemmas.{marked_both}
use Rattle.kt_rules.proofs.book.book_names.Marks.mark_stemmed.Goals as goal

pub returns-clause-marked : goal.returns-clause-marked
returns-clause-marked c =
    let names = c.args.names.now in
    let needs = needs_view c.args.needs in
    let old = c.args.self.now in
    let now = c.mark_names.new.self in
    let new = c.mark_names-2.new.self in
    on_ok_weaker c.mark_names-2.result
    (λ (two : (name : Text) → is_marked names new name ≡ (is_marked names now name || is_among (names_view c.order_only.result) name)).
    marked_both names needs.prerequisites needs.order_only old now new
    (λ name. c.in_ok-mark_names.ensures.marked name ∙ ap (λ (list : List Text). is_marked names old name || is_among list name) c.prerequisites.ensures)
    (λ name. two name ∙ ap (λ (list : List Text). is_marked names now name || is_among list name) c.order_only.ensures))
    c.mark_names-2.ensures.marked
