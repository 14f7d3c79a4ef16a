use Rattle.std.proofs.Common.{◌∙◌, [], ap, slice_get, subst, sym}
use Rattle.kt_graph.proofs.Common.{names_view, needed_view, AddsNumbers}
use Rattle.kt_graph.proofs.lemmas.nodes.NumberLemmas.{added_all, added_more, adds_none}
use Rattle.kt_graph.proofs.nodes.numbering.NameNumbers.add_names.Goals as goal

pub loop-name-init : goal.loop-name-init
loop-name-init c =
    let names = c.args.self.now in
    let numbers = c.args.numbers.now.items in (
      [],
      ap names_view c.into_iter-name-iterator.ensures.into_iter_gives,
      subst (λ l. AddsNumbers names numbers [] names l) (sym c.in_ok-reserve.ensures.items) (adds_none names numbers),
    )

pub loop-name-preserved : goal.loop-name-preserved
loop-name-preserved c =
    added_more c.args.self.now c.loop-name.self c.needed_number.new.self (names_view c.args.names) (names_view c.loop-name.name-iterator) (names_view c.next.new.self)
    (needed_view c.in-Some.name) c.args.numbers.now.items c.loop-name.numbers.items c.push.new.self.items c.in_ok-narrow.field-0
    c.in-Some.ensures.steps c.in_ok-number.ensures.reached
    (ap (slice_get c.needed_number.new.self) c.in_ok-narrow.ensures.same ∙ c.in_ok-number.ensures.numbered) c.in_ok-push.ensures.items c.loop-name.invariant

pub returns : goal.returns
returns c =
    added_all c.args.self.now c.loop-name.self (names_view c.args.names) (names_view c.loop-name.name-iterator) c.args.numbers.now.items c.loop-name.numbers.items
    c.in-None.ensures.steps.0 c.loop-name.invariant
