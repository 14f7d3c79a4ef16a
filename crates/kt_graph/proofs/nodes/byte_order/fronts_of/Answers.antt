use Rattle.std.proofs.Common.{◌≡◌, ◌∙◌, ◌<◌, All, Bor, ap, map, subst, sym}
use Rattle.kt_text.specs.views.Sorted.{front_number}
use Rattle.kt_graph.proofs.Common.{Text, name_at}
use Rattle.kt_graph.proofs.lemmas.nodes.OrderLemmas.{fronts_more}
use Rattle.kt_graph.proofs.nodes.byte_order.fronts_of.Goals as goal

pub loop-number-preserved : goal.loop-number-preserved
loop-number-preserved c =
    let names = map (λ (text : Bor Text). text.now) c.args.texts.now in
    let number = c.in_ok-narrow.field-0 in
    let named : c.text_at.result.now ≡ name_at names number = c.text_at.ensures ∙ ap (name_at names) (sym c.in_ok-narrow.ensures.same) in
    fronts_more names c.loop-number.number c.loop-number.fronts.items c.push.new.self.items
    (record { bytes = c.front_number.result; number = number }) c.loop-number.invariant
    (record {
      begins = c.front_number.ensures.front ∙ ap (front_number 8) named;
      small = subst (λ (name : Text). All (λ byte. byte < 256) name) named c.front_number.ensures.bytes;
    })
    c.in_ok-narrow.ensures.same c.in_ok-push.ensures.items
