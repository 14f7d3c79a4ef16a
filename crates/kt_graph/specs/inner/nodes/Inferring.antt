-- What a chosen pattern rule gives to a name, as the code holds it (kati's own).
use Rattle.std.specs.Prelude.{◌≡◌, nat_lt, ◌++◌, length, Some, None, MatchOption, option_map, slice_get, if◌then◌else◌}
use Rattle.kt_graph.specs.Prelude.{Text, Entry}
use Rattle.kt_graph.specs.inner.Prelude.{Target, Candidate, needs_with, Option}
use Rattle.kt_graph.specs.views.Prelude.{Chosen, Implicit, List}
use Rattle.kt_graph.specs.declared.nodes.inferring.InferredParts.{InferredParts}
use Rattle.kt_graph.specs.nodes.Node.{Instance, Node, of_pattern, implicit_node, joined_needs, needs_after}
use Rattle.kt_graph.specs.inner.nodes.Needed.{single_node}
use Rattle.kt_graph.specs.inner.nodes.Stems.{stem_in}
use Rattle.kt_graph.specs.views.nodes.Node.{instance_view}

-- the making of a pattern rule with several targets
abbrev pub pattern_making : Entry → Chosen → Option Instance
pattern_making rule chosen = if nat_lt 1 (length rule.targets)
    then Some (of_pattern chosen.rule chosen.directory chosen.stem) else None

-- what the code has is what the chosen rule gives to a name
pub record GivesChosen (name : Text) (rule : Entry) (chosen : Chosen) (inferred : InferredParts) : Type 0 where
  pub recipe : option_map (λ lines. lines.now) inferred.recipe ≡ rule.recipe
  pub stem : stem_in name inferred.stem ≡ chosen.directory ++ chosen.stem
  pub needs : inferred.needs ≡ needs_with chosen.directory chosen.stem rule.needs
  pub making : option_map instance_view inferred.making ≡ pattern_making rule chosen

-- what the rule with the chosen number gives, if there is such a rule
abbrev pub Infers : Text → List Entry → Chosen → Option InferredParts → Type 0
Infers name rules chosen inferred =
    MatchOption inferred (slice_get rules chosen.rule ≡ None) (λ some. (rule : Entry)
    × (slice_get rules chosen.rule ≡ Some rule) × GivesChosen name rule chosen some)

-- the node of a name, from what the chosen rule gives
abbrev pub inferred_node : Text → List (Entry × Target) → InferredParts → Node
inferred_node name rules inferred =
    single_node name Implicit (record { recipe = inferred.recipe; stem = inferred.stem })
    (needs_after inferred.needs (joined_needs rules)) (option_map instance_view inferred.making)

-- what is given comes from the candidate that the search finds and its rule
abbrev pub InfersFrom : Text → Option (Candidate × Entry) → Option InferredParts → Type 0
InfersFrom name found inferred =
    MatchOption inferred (found ≡ None) (λ some. (one : Candidate × Entry) × (found ≡ Some one)
    × ((rules : List (Entry × Target)) → inferred_node name rules some ≡ implicit_node name rules one.0 one.1))
