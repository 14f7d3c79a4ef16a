-- What makes a name and what it needs (POSIX.1-2024 make, "Target Rules"; GNU make manual, "Multiple Rules for One
-- Target", "Double-Colon Rules", "Using Implicit Rules", "Phony Targets").
use Rattle.std.specs.Prelude.{ℕ, ◌-◌, Bool, true, false, not, nat_eq, nat_lt, List, [], ◌∷◌, ◌++◌, length, map, filter}
use Rattle.std.specs.Prelude.{flat_map, find, take, Option, Some, None, option_map, slice_get, if◌then◌else◌, unwrap_or}
use Rattle.std.specs.List.{list_any, before_last, after_last, last_or, ends_with}
use Rattle.std.specs.Option.{option_map_or, option_and_then}
use Rattle.kt_text.specs.Words.{Text}
use Rattle.kt_rules.specs.declared.line.entry.Needs.{Needs}
use Rattle.kt_rules.specs.declared.line.entry.RecipeLine.{RecipeLine}
use Rattle.kt_rules.specs.declared.line.entry.Target.{Target}
use Rattle.kt_rules.specs.Names.{is_among, without_repeats}
use Rattle.kt_rules.specs.Entry.{Entry, needs_for}
use Rattle.kt_rules.specs.Suffixes.{suffixes_of}
use Rattle.kt_rules.specs.Book.{explicit_rules, has_recipe, is_double, is_group, is_phony, patterns_of}
use Rattle.kt_graph.specs.declared.nodes.node.NodeKind.{NodeKind}
use Rattle.kt_graph.specs.declared.nodes.node.NodeKind.TheVariants.{DoubleColon, Explicit, Implicit, Phony, Leaf}
use Rattle.kt_graph.specs.search.Candidates.{Candidate}
use Rattle.kt_graph.specs.search.Search.{choice_of}

-- one making of several names: by a group, identified by its first target, since no other group has that target; or by
-- a pattern rule with several targets, for a directory and a stem
pub data Instance : Type 0 where
  of_group : (first : Text) → Instance
  of_pattern : (rule : ℕ) (directory stem : Text) → Instance

-- a recipe with the stem and prerequisites for its automatic macros
pub record Part : Type 0 where
  pub recipe : Option (List RecipeLine)
  -- the value of `$*`
  pub stem : Text
  -- in order and with repeats
  pub needs : Needs

-- a name with what makes it: a double-colon node has a part for each rule, any other node has one
pub record Node : Type 0 where
  pub name : Text
  pub kind : NodeKind
  pub parts : List Part
  pub made_with : Option Instance

-- ---- explicit rules

-- the prerequisites of rules of a name, joined in order
unfoldable pub joined_needs : List (Entry × Target) → Needs
joined_needs rules = record {
  prerequisites = flat_map (λ made. (needs_for made.0 made.1).prerequisites) rules;
  order_only = flat_map (λ made. (needs_for made.0 made.1).order_only) rules;
}

-- prerequisites with later ones behind them, the order-only ones apart
abbrev pub needs_after : Needs → Needs → Needs
needs_after first later = record {
  prerequisites = first.prerequisites ++ later.prerequisites;
  order_only = first.order_only ++ later.order_only;
}

-- the rule whose recipe is used: the last that has one [Multiple Rules for One Target]
abbrev pub used_rule : List (Entry × Target) → Option (Entry × Target)
used_rule rules = last_or None (filter has_recipe rules)

-- all rules of a name but the one whose recipe is used
abbrev pub other_rules : List (Entry × Target) → List (Entry × Target)
other_rules rules = before_last has_recipe rules ++ after_last has_recipe rules

-- a name without the first of the suffixes that it ends with; without one there is no stem (GNU make manual,
-- "Automatic Variables")
unfoldable pub suffix_stem : List Text → Text → Text
suffix_stem suffixes name =
    option_map_or (λ suffix. take (length name - length suffix) name) (find
    (λ suffix. ends_with nat_eq name suffix) suffixes) []

-- the stem in an explicit rule: that of its static pattern, if it has one (GNU make manual, "Static Pattern Rules")
abbrev pub stem_for : List Text → Entry × Target → Text
stem_for suffixes made = option_map_or (λ stemmed. stemmed.stem) made.1.stemmed (suffix_stem suffixes made.1.name)

-- the part of a rule for one of its targets, with these prerequisites
abbrev pub part_of : List Text → Entry × Target → Needs → Part
part_of suffixes made needs = record { recipe = made.0.recipe; stem = stem_for suffixes made; needs = needs }

-- the part of a rule by itself
abbrev pub own_part : List Text → Entry × Target → Part
own_part suffixes made = part_of suffixes made (needs_for made.0 made.1)

-- the part of a name that no recipe makes
abbrev pub bare_part : List Text → Text → Needs → Part
bare_part suffixes name needs = record { recipe = None; stem = suffix_stem suffixes name; needs = needs }

-- the name of the first target, or an empty text without one
abbrev pub first_name : List Target → Text
first_name [] = []
first_name (target ∷ targets) = target.name

-- the making of a rule's targets if the rule is a group, which makes all of them at once
abbrev pub group_of : Entry → Option Instance
group_of rule = if is_group rule.kind then Some (of_group (first_name rule.targets)) else None

-- ---- nodes

-- the node of a name with double-colon rules, each of them a part [Double-Colon Rules]; there is no search (kati's own)
abbrev pub double_node : List Text → Text → List (Entry × Target) → Node
double_node suffixes name rules =
    record { name = name; kind = DoubleColon; parts = map (own_part suffixes) rules; made_with = None }

-- the node of a name with a recipe: the prerequisites of the rule with that recipe come first (kati's own)
abbrev pub explicit_node : List Text → Text → List (Entry × Target) → Entry × Target → Node
explicit_node suffixes name rules used = record {
  name = name;
  kind = Explicit;
  parts = part_of suffixes used (needs_after (needs_for used.0 used.1) (joined_needs (other_rules rules))) ∷ [];
  made_with = group_of used.0;
}

-- the making of a pattern rule with several targets, which makes all of them at once (GNU make manual, "Introduction to
-- Pattern Rules")
abbrev pub pattern_instance : Entry → Candidate → Option Instance
pattern_instance rule chosen =
    if nat_lt 1 (length rule.targets) then Some (of_pattern chosen.rule chosen.directory chosen.stem) else None

-- the node of a name that a pattern rule makes: the prerequisites of that rule come first (kati's own)
abbrev pub implicit_node : Text → List (Entry × Target) → Candidate → Entry → Node
implicit_node name rules chosen rule = record {
  name = name;
  kind = Implicit;
  parts = record {
    recipe = rule.recipe;
    stem = chosen.directory ++ chosen.stem;
    needs = needs_after chosen.needs (joined_needs rules);
  } ∷ [];
  made_with = pattern_instance rule chosen;
}

-- the kind of a node of a name without a recipe
abbrev pub kind_without : List (Entry × Target) → Bool → NodeKind
kind_without (made ∷ rules) phony = Explicit
kind_without [] true = Phony
kind_without [] false = Leaf

-- the node of a name that no recipe makes, with the prerequisites of all its rules
abbrev pub plain_node : List Text → Text → List (Entry × Target) → Bool → Node
plain_node suffixes name rules phony = record {
  name = name;
  kind = kind_without rules phony;
  parts = bare_part suffixes name (joined_needs rules) ∷ [];
  made_with = None;
}

-- a candidate with its pattern rule
abbrev pub chosen_rule : List Entry → Candidate → Option (Candidate × Entry)
chosen_rule patterns chosen = option_map (λ rule. (chosen, rule)) (slice_get patterns chosen.rule)

-- the candidate that the search chooses, with its pattern rule; for a phony name there is no search [Phony Targets]
abbrev pub searched : List Entry → List Text → Text → Option (Candidate × Entry)
searched rules known name =
    if is_phony rules name then None
    else option_and_then (chosen_rule (patterns_of rules)) (choice_of (patterns_of rules) known name)

-- the node of a name without double-colon rules: by its rule with a recipe, or else by the pattern rule that was found,
-- or else without a recipe
abbrev pub node_by : List Entry → Text → List (Entry × Target) → Option (Entry × Target) → Option (Candidate × Entry)
    → Node
node_by rules name made (Some used) found = explicit_node (suffixes_of rules) name made used
node_by rules name made None (Some found) = implicit_node name made found.0 found.1
node_by rules name made None None = plain_node (suffixes_of rules) name made (is_phony rules name)

-- the node of a name, given its explicit rules
abbrev pub node_with : List Entry → List Text → Text → List (Entry × Target) → Node
node_with rules known name made =
    if list_any (λ rule. is_double rule.0.kind) made then double_node (suffixes_of rules) name made
    else node_by rules name made (used_rule made) (searched rules known name)

-- the node of a name
unfoldable pub node_of : List Entry → List Text → Text → Node
node_of rules known name = node_with rules known name (explicit_rules rules name)

-- ---- what a node needs

-- whether a node is a leaf: a name that has no rule and isn't phony
abbrev pub is_leaf : NodeKind → Bool
is_leaf Leaf = true
is_leaf other = false

-- the prerequisites of a node, each once
unfoldable pub inputs_of : Node → List Text
inputs_of node = without_repeats (flat_map (λ part. part.needs.prerequisites) node.parts)

-- the order-only prerequisites of a node, each once, without its other prerequisites
unfoldable pub order_only_of : Node → List Text
order_only_of node =
    filter (λ name. not (is_among (inputs_of node) name)) (without_repeats (flat_map
    (λ part. part.needs.order_only) node.parts))

-- all prerequisites of a node, the order-only ones last
abbrev pub all_inputs : Node → List Text
all_inputs node = inputs_of node ++ order_only_of node

-- the recipe of a part; none if there is no part
abbrev pub part_lines : Option Part → Option (List RecipeLine)
part_lines part = option_and_then (λ some. some.recipe) part

-- the stem of a part; empty if there is no part
abbrev pub part_stem : Option Part → Text
part_stem part = unwrap_or (option_map (λ some. some.stem) part) []

-- the prerequisites of a part; none if there is no part
abbrev pub part_needed : Option Part → List Text
part_needed part = unwrap_or (option_map (λ some. some.needs.prerequisites) part) []

-- the order-only prerequisites of a part; none if there is no part
abbrev pub part_order_only : Option Part → List Text
part_order_only part = unwrap_or (option_map (λ some. some.needs.order_only) part) []
