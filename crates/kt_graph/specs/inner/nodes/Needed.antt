-- What the rules of a name need together (kati's own).
use Rattle.std.specs.Prelude.{List, ◌∷◌, ◌++◌, [], map, flat_map, Option, Some, None, option_map}
use Rattle.kt_graph.specs.Prelude.{Text, Entry}
use Rattle.kt_graph.specs.inner.Prelude.{Needs, Target, needs_for, rule_view, all_needs, NodeKind}
use Rattle.kt_rules.specs.declared.needs.NeedsView.{NeedsView}
use Rattle.kt_rules.specs.views.Targets.{needs_view}
use Rattle.kt_graph.specs.declared.nodes.needing.Needing.{Needing}
use Rattle.kt_graph.specs.declared.nodes.needing.Sort.{Sort}
use Rattle.kt_graph.specs.declared.nodes.needing.Sort.TheVariants.{Prerequisite, OrderOnly}
use Rattle.kt_graph.specs.declared.nodes.part.PartRecipe.{PartRecipe}
use Rattle.kt_graph.specs.inner.nodes.Stems.{stem_in}
use Rattle.kt_graph.specs.nodes.Node.{Instance, Node, Part}

-- the prerequisites of one sort
abbrev pub needed_as : Sort → Needs → List Text
needed_as Prerequisite needs = needs.prerequisites
needed_as OrderOnly needs = needs.order_only

abbrev pub first_needs : Sort → Option NeedsView → List Text
first_needs sort None = []
first_needs sort (Some needs) = needed_as sort (needs_view needs)

abbrev pub rules_needs : Sort → List (Entry × Target) → List Text
rules_needs sort rules = flat_map (λ made. needed_as sort (needs_for made.0 made.1)) rules

-- those that come first, and those of rules, joined in order
abbrev pub needing_as : Sort → Needing → List Text
needing_as sort needing =
    first_needs sort needing.first
    ++ (rules_needs sort (map rule_view needing.earlier.now) ++ rules_needs sort (map rule_view needing.later.now))

abbrev pub needing_view : Needing → Needs
needing_view needing =
    record { prerequisites = needing_as Prerequisite needing; order_only = needing_as OrderOnly needing }

-- first ones, and those of rules before and after
abbrev pub joined_after : Needs → List (Entry × Target) → List (Entry × Target) → Needs
joined_after first earlier later = record {
  prerequisites = first.prerequisites ++ (rules_needs Prerequisite earlier ++ rules_needs Prerequisite later);
  order_only = first.order_only ++ (rules_needs OrderOnly earlier ++ rules_needs OrderOnly later);
}

-- the part in the node of a name
abbrev pub part_with : Text → PartRecipe → Needs → Part
part_with name part needs = record {
  recipe = option_map (λ lines. lines.now) part.recipe;
  stem = stem_in name part.stem;
  needs = needs;
}

-- the node of a name with one part
abbrev pub single_node : Text → NodeKind → PartRecipe → Needs → Option Instance → Node
single_node name kind part needs made_with = record {
  name = name;
  kind = kind;
  parts = part_with name part needs ∷ [];
  made_with = made_with;
}

-- the names that parts need, in the order in which they get numbers
abbrev pub needed_by_parts : List Part → List Text
needed_by_parts parts = flat_map (λ part. all_needs part.needs) parts

abbrev pub needed_by : Node → List Text
needed_by node = needed_by_parts node.parts
