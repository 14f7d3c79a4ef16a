use Rattle.std.proofs.Common.{◌≡◌, ◌++◌, ◌∙◌, Some, None, ap, slice_get, sym}
use Rattle.kt_graph.proofs.Common.{option_to_list, append-nil, nodes_stored}
use Rattle.kt_graph.proofs.lemmas.nodes.StoredLemmas.{nodes_again}
use Rattle.kt_graph.proofs.nodes.stored.StoredNodes.push_again.Goals as goal

pub returns-in_ok-push-in-Some : goal.returns-in_ok-push-in-Some
returns-in_ok-push-in-Some c =
    let parts = c.self.inside.parts.items in
    let rows = c.self.inside.rows in
    let heads = c.self.inside.heads.items in
    let number = c.args.number in
    let at : slice_get heads number ≡ Some c.in-Some.head = sym (c.in-Some.ensures ∙ ap (λ l. slice_get l number) c.as_slice.ensures.value) in
    ap (nodes_stored parts rows) c.in_ok-push-in-Some.ensures.items
    ∙ nodes_again parts rows heads number (Some c.in-Some.head) at
    ∙ ap (λ l. l ++ option_to_list (slice_get l number)) c.self.view_is

pub returns-in-None : goal.returns-in-None
returns-in-None c =
    let parts = c.self.inside.parts.items in
    let rows = c.self.inside.rows in
    let heads = c.self.inside.heads.items in
    let number = c.args.number in
    let at : slice_get heads number ≡ None = sym (c.in-None.ensures ∙ ap (λ l. slice_get l number) c.as_slice.ensures.value) in
    sym c.self.view_is ∙ sym (ap (nodes_stored parts rows) (append-nil heads))
    ∙ nodes_again parts rows heads number None at
    ∙ ap (λ l. l ++ option_to_list (slice_get l number)) c.self.view_is
