-- Nodes that hold their inputs together have the same ones.
use Rattle.std.proofs.Common.{◌≡◌, ℕ, ◌∷◌, List, length, Option, None, Some, option_map, slice_get, refl, sym, ap, subst, ◌∙◌}
use Rattle.kt_graph.proofs.Common.{Contains, All-contains, none-some, same_Some, head_is, HasNumbers, HaveOneMaking, StoredNode, stored_at, Node, inputs_of, order_only_of, names_at, node_at, node_view, nodes_view, NodeTable}
use Rattle.kt_graph.specs.inner.nodes.Graph.{AreNodesHeld}
use Rattle.kt_graph.specs.inner.nodes.Grouping.{AreAllAlike}
use Rattle.kt_graph.specs.views.nodes.Groups.{FirstSharesInputs, ShareInputs}
use Rattle.kt_graph.proofs.lemmas.MemberLemmas.{Contains-slice_get}
use Rattle.kt_graph.proofs.lemmas.nodes.NodeLemmas.{inputs_are, others_are}
use Rattle.kt_graph.proofs.lemmas.nodes.StoredLemmas.{stored_is}
use Rattle.kt_graph.proofs.lemmas.nodes.WholeLemmas.{Contains-from_filter_map}

module _ (table : NodeTable) (held : AreNodesHeld table)
    (one : ℕ) (numbers : List ℕ) (alike : AreAllAlike table.nodes one numbers) where
  abbrev HasInputs : Node → Type 0
  HasInputs node =
      (inputs_of node ≡ names_at table.names (stored_at table.nodes one).inputs) × (order_only_of node ≡ names_at table.names (stored_at table.nodes one).order_only)

  has_inputs : (node : Node) → Contains (nodes_view table numbers) node → HasInputs node
  has_inputs node has =
      let from = Contains-from_filter_map (node_at table) numbers node has in
      by from.0 (All-contains (λ number. HaveOneMaking (stored_at table.nodes one) (stored_at table.nodes number)) numbers from.0 alike from.1) (slice_get table.nodes from.0) refl from.2
    where
      told : (number : ℕ) (stored : StoredNode) → HaveOneMaking (stored_at table.nodes one) (stored_at table.nodes number) → slice_get table.nodes number ≡ Some stored
          → HasInputs (node_view table.names table.instances number stored)
      told number stored same at =
          let numbered = All-contains (HasNumbers (length table.names) (length table.instances)) table.nodes stored held.numbers (Contains-slice_get table.nodes number stored at) in
          let is = stored_is table.nodes number stored at in (
            sym (inputs_are table.names table.instances number stored held.distinct numbered) ∙ ap (λ (s : StoredNode). names_at table.names s.inputs) (sym is) ∙ ap (names_at table.names) (sym same.inputs),
            sym (others_are table.names table.instances number stored held.distinct numbered) ∙ ap (λ (s : StoredNode). names_at table.names s.order_only) (sym is)
                ∙ ap (names_at table.names) (sym same.order_only),
          )

      by : (number : ℕ) → HaveOneMaking (stored_at table.nodes one) (stored_at table.nodes number) → (o : Option StoredNode) → slice_get table.nodes number ≡ o
          → option_map (node_view table.names table.instances number) o ≡ Some node → HasInputs node
      by number same None at is = absurd (none-some node is)
      by number same (Some stored) at is =
          subst HasInputs (same_Some (node_view table.names table.instances number stored) node is) (told number stored same at)

  pub share_inputs : ShareInputs (nodes_view table numbers)
  share_inputs = record {
    inputs = λ first second has also. (has_inputs first has).0 ∙ sym (has_inputs second also).0;
    order_only = λ first second has also. (has_inputs first has).1 ∙ sym (has_inputs second also).1;
  }

-- the first of groups
pub first_shares : (groups rest : List (List Node)) (first : List Node) → groups ≡ first ∷ rest → ShareInputs first → FirstSharesInputs groups
first_shares groups rest first is shares group others same = subst ShareInputs (head_is first group rest others (sym is ∙ same)) shares
