-- The prerequisites of a node that has one part, as the graph has them.
use Rattle.std.proofs.Common.{◌≡◌, ◌∙◌, ◌&&◌, ◌==◌, ℕ, zero, suc, true, not, List, [], ◌∷◌, ap, arith, filter, flat_map, length, slice_get}
use Rattle.kt_recipe.proofs.Common.{Node, append-nil, is_among, without_repeats}
use Rattle.kt_graph.specs.nodes.Node.{Part, inputs_of, order_only_of, part_needed, part_order_only}
use Rattle.kt_recipe.specs.inner.Asking.{is_only_part}

needed_alone : (parts : List Part) (part : ℕ) → (part == 0 && length parts == 1) ≡ true
    → flat_map (λ (own : Part). own.needs.prerequisites) parts ≡ part_needed (slice_get parts part)
needed_alone [] part h = grind arith
needed_alone (own ∷ []) zero h = append-nil own.needs.prerequisites
needed_alone (own ∷ []) (suc part) h = grind arith
needed_alone (own ∷ other ∷ parts) part h = grind arith

order_only_alone : (parts : List Part) (part : ℕ) → (part == 0 && length parts == 1) ≡ true
    → flat_map (λ (own : Part). own.needs.order_only) parts ≡ part_order_only (slice_get parts part)
order_only_alone [] part h = grind arith
order_only_alone (own ∷ []) zero h = append-nil own.needs.order_only
order_only_alone (own ∷ []) (suc part) h = grind arith
order_only_alone (own ∷ other ∷ parts) part h = grind arith

pub inputs_of_only_part : (node : Node) (part : ℕ) → is_only_part node part ≡ true
    → inputs_of node ≡ without_repeats (part_needed (slice_get node.parts part))
unfolding inputs_of is_only_part
inputs_of_only_part node part h = ap without_repeats (needed_alone node.parts part h)

pub order_only_of_only_part : (node : Node) (part : ℕ) → is_only_part node part ≡ true
    → order_only_of node
    ≡ filter (λ name. not (is_among (without_repeats (part_needed (slice_get node.parts part))) name))
    (without_repeats (part_order_only (slice_get node.parts part)))
unfolding order_only_of is_only_part
order_only_of_only_part node part h =
    ap (λ others. filter (λ name. not (is_among (inputs_of node) name)) (without_repeats others)) (order_only_alone node.parts part h)
    ∙ ap (λ needed. filter (λ name. not (is_among needed name)) (without_repeats (part_order_only (slice_get node.parts part)))) (inputs_of_only_part node part h)
