-- What a chosen rule gives is what the node of the candidate has that the search finds.
use Rattle.std.proofs.Common.{arith, rules, ◌≡◌, false, List, Option, Some}
use Rattle.kt_graph.proofs.Common.{option_and_then, option_map, Text, Target, is_phony, patterns_of, Entry, InferredParts, Candidate, needs_with, chosen_rule, implicit_node, searched, choice_of, choice_view}
use Rattle.kt_graph.specs.declared.search.choice.Chosen.{Chosen}
use Rattle.kt_graph.specs.inner.nodes.Inferring.{GivesChosen, Infers, InfersFrom, inferred_node}
use Rattle.kt_graph.proofs.lemmas.search.ChosenLemmas.{choice_needs}

search_is : (book : List Entry) (known : List Text) (name : Text) (choice : Option Candidate) → is_phony book name ≡ false
    → choice_of (patterns_of book) known name ≡ choice → searched book known name ≡ option_and_then (chosen_rule (patterns_of book)) choice
search_is book known name choice h found = grind arith

given : (candidate : Candidate) (rule : Entry) (chosen : Chosen) (inferred : InferredParts) (name : Text) → chosen ≡ choice_view candidate
    → candidate.needs ≡ needs_with candidate.directory candidate.stem rule.needs → GivesChosen name rule chosen inferred
    → (rules : List (Entry × Target)) → inferred_node name rules inferred ≡ implicit_node name rules candidate rule
given candidate rule chosen inferred name told needing gives rules = grind arith

-- a rule is found, or no rule has the chosen number
rule_tells : (book : List Entry) (known : List Text) (name : Text) (candidate : Candidate) (chosen : Chosen) (inferred : Option InferredParts) → is_phony book name ≡ false
    → choice_of (patterns_of book) known name ≡ Some candidate → chosen ≡ choice_view candidate
    → Infers name (patterns_of book) chosen inferred → InfersFrom name (searched book known name) inferred
rule_tells book known name candidate chosen inferred h found told infers = grind (arith, search_is, given, choice_needs)

-- something is chosen
pub some_tells : (book : List Entry) (known : List Text) (name : Text) (chosen : Chosen) (inferred : Option InferredParts) → is_phony book name ≡ false
    → Some chosen ≡ option_map choice_view (choice_of (patterns_of book) known name) → Infers name (patterns_of book) chosen inferred
    → InfersFrom name (searched book known name) inferred
some_tells book known name chosen inferred h some infers = grind (arith, rule_tells)
