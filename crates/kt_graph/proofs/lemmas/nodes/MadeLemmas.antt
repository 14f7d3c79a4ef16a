-- What implicit nodes need: it is known, or a rule makes it.
use Rattle.std.proofs.Common.{rules, ◌≡◌, ℕ, suc, ◌+◌, ◌<◌, Bool, true, false, not, ◌&&◌, ◌||◌, if◌then◌else◌, List, [], ◌∷◌, ◌++◌, length, filter, map, Option, Some, None, is_some, refl, sym, ap, ◌∙◌, subst, true≢false, ◌⊎◌, inl, inr, ⊎_elim, arith, bytes_eq, fold, nat_le, option_map}
use Rattle.kt_graph.proofs.Common.{option_and_then, option_or, option_to_list, Contains, filter_map, find, flat_map, list_all, list_any, same_text, and_from, and_parts, not_from_false, Contains-append_cases, Contains-append_left, Contains-append_right, none-some, same_Some, first_or_rest, from_flat_map, in_first, in_flat_map, in_rest, none_in_empty, at_place, Text, Target, is_among, without_repeats, Entry, needs_for, all_needs, is_suffix_rule, suffixes_of, explicit_rules, is_double, is_explicit, is_made, is_phony, patterns_of, rules_of, target_rules, Implicit, Candidate, are_short, candidate_by, candidate_of, candidates_for, matching_from, shorter, shortest, size_of, unless_long, without_any, known_names, listed_names, named_by, named_with, choice_of, fitting, is_begun, is_inferred, is_met, is_used, open_candidates, unknown_needs, with_rule, Node, all_inputs, chosen_rule, double_node, implicit_node, inputs_of, is_leaf, joined_needs, node_by, node_of, order_only_of, searched, used_rule, HasMadeInputs, IsGraph}
use Rattle.kt_graph.proofs.lemmas.search.GrowthLemmas.{from_by_size, tree_grows}
use Rattle.kt_graph.proofs.lemmas.Membership.{any_passes, each_passes, kept_by_filter}
use Rattle.kt_graph.proofs.lemmas.search.TreeLemmas.{found_as_trees}
use Rattle.kt_graph.proofs.lemmas.search.UnknownLemmas.{among_from, among_itself, from_without_repeats, in_without_repeats, is_unknown}
use Rattle.kt_graph.proofs.lemmas.MemberLemmas.{Contains-from_map, Contains-map}
use Rattle.kt_graph.proofs.lemmas.nodes.WholeLemmas.{Contains-from_filter_map}
use Rattle.kt_graph.proofs.lemmas.nodes.ReachLemmas.{reached_on}

pub found_in : {X : Type 0} (p : X → Bool) (xs : List X) (x : X) → find p xs ≡ Some x → Contains xs x × (p x ≡ true)
found_in p [] x e = absurd (none-some x e)
found_in p (y ∷ xs) x e = grind (arith, in_first, in_rest, found_in p xs x)

-- ---- the rules of candidates

module _ (number : ℕ) where
  shorter_rule : (best : Candidate) (others : List Candidate) → best.rule ≡ number → ((one : Candidate) → Contains others one → one.rule ≡ number)
      → (fold shorter best others).rule ≡ number
  shorter_rule best [] e h = e
  shorter_rule best (other ∷ others) e h =
      shorter_rule (shorter best other) others (by (nat_le (size_of best) (size_of other))) (λ one c. h one (in_rest other one others c))
    where
      by : (b : Bool) → (if b then best else other).rule ≡ number
      by true = e
      by false = h other (in_first other others)

  shortest_rule : (candidates : List Candidate) (one : Candidate) → ((one : Candidate) → Contains candidates one → one.rule ≡ number) → shortest candidates ≡ Some one → one.rule ≡ number
  shortest_rule [] one h e = absurd (none-some one e)
  shortest_rule (candidate ∷ candidates) one h e =
      ap (λ (c : Candidate). c.rule) (sym (same_Some (fold shorter candidate candidates) one e))
      ∙ shorter_rule candidate candidates (h candidate (in_first candidate candidates)) (λ other c. h other (in_rest candidate other candidates c))

  by_rule : (rule : Entry) (name : Text) (target : Target) (one : Candidate) → candidate_by number rule name target ≡ Some one → one.rule ≡ number
  by_rule rule name target one e = grind (arith, none-some)

  candidate_rule : (rule : Entry) (name : Text) (one : Candidate) → candidate_of number rule name ≡ Some one → one.rule ≡ number
  unfolding candidate_of
  candidate_rule rule name one e = by (shortest (filter_map (candidate_by number rule name) rule.targets)) refl e
    where
      short : (candidate : Candidate) (b : Bool) → (if b then Some candidate else None) ≡ Some one → candidate ≡ one
      short candidate true e = same_Some candidate one e
      short candidate false e = absurd (none-some one e)

      by : (o : Option Candidate) → shortest (filter_map (candidate_by number rule name) rule.targets) ≡ o → option_and_then (unless_long rule) o ≡ Some one → one.rule ≡ number
      by None f e = absurd (none-some one e)
      by (Some candidate) f e =
          ap (λ (c : Candidate). c.rule) (sym (short candidate (are_short candidate.directory candidate.stem rule.needs) e))
          ∙ shortest_rule (filter_map (candidate_by number rule name) rule.targets) candidate
          (λ other c. let found = Contains-from_filter_map (candidate_by number rule name) rule.targets other c in by_rule rule name found.0 other found.2) f

pub in_option : {X : Type 0} (o : Option X) (x : X) → Contains (option_to_list o) x → o ≡ Some x
in_option o x c = grind (arith, none_in_empty, ⊎_elim, first_or_rest)

matching_rule : (number : ℕ) (rules : List Entry) (name : Text) (one : Candidate) → Contains (matching_from number rules name) one → one.rule < number + length rules
unfolding matching_from
matching_rule number [] name one c = absurd (none_in_empty one c)
matching_rule number (rule ∷ rules) name one c =
    ⊎_elim (λ here. omega (arith, candidate_rule number rule name one (in_option (candidate_of number rule name) one here)))
    (λ later. omega (arith, matching_rule (number + 1) rules name one later))
    (Contains-append_cases (option_to_list (candidate_of number rule name)) (matching_from (number + 1) rules name) one c)

pub from_without_any : (in_chain : Bool) (candidates : List Candidate) (one : Candidate) → Contains (without_any in_chain candidates) one → Contains candidates one
from_without_any in_chain candidates one c = by (in_chain || list_any (λ candidate. not candidate.is_any) candidates) c
  where
    by : (b : Bool) → Contains (if b then filter (λ candidate. not candidate.is_any || candidate.is_last) candidates else candidates) one → Contains candidates one
    by true c = (kept_by_filter (λ candidate. not candidate.is_any || candidate.is_last) candidates one c).0
    by false c = c

-- a candidate is one of a rule
pub has_rule : (rules : List Entry) (in_chain : Bool) (name : Text) (one : Candidate) → Contains (candidates_for rules in_chain name) one → one.rule < length rules
unfolding candidates_for
has_rule rules in_chain name one c =
    omega (arith, matching_rule 0 rules name one (from_without_any in_chain (matching_from 0 rules name) one (from_by_size name (without_any in_chain (matching_from 0 rules name)) one c)))

-- ---- what is chosen

module _ (rules : List Entry) (known : List Text) where
  -- it is an open candidate that is met or inferred
  pub chosen_is : (left : ℕ) (used : List ℕ) (name : Text) (one : Candidate) → fitting rules known (suc left) used name ≡ Some one
      → Contains (candidates_for rules (is_begun used) name) one × ((is_met known one ≡ true) ⊎ (is_inferred known (fitting rules known left) used one ≡ true))
  unfolding fitting
  chosen_is left used name one e = by (find (is_met known) (open_candidates rules used name)) refl e
    where
      by : (o : Option Candidate) → find (is_met known) (open_candidates rules used name) ≡ o
          → option_or o (find (is_inferred known (fitting rules known left) used) (open_candidates rules used name)) ≡ Some one
          → Contains (candidates_for rules (is_begun used) name) one × ((is_met known one ≡ true) ⊎ (is_inferred known (fitting rules known left) used one ≡ true))
      by (Some first) f e =
          let found = found_in (is_met known) (open_candidates rules used name) one (f ∙ e) in
          ((kept_by_filter (λ candidate. not (is_used used candidate.rule)) (candidates_for rules (is_begun used) name) one found.0).0, inl found.1)
      by None f e =
          let found = found_in (is_inferred known (fitting rules known left) used) (open_candidates rules used name) one e in
          ((kept_by_filter (λ candidate. not (is_used used candidate.rule)) (candidates_for rules (is_begun used) name) one found.0).0, inr found.1)

  -- its unknown prerequisites find a rule, without the chain, too
  pub needed_found : (name : Text) (one : Candidate) (input : Text) → choice_of rules known name ≡ Some one → Contains (all_needs one.needs) input → is_among known input ≡ false
      → is_some (choice_of rules known input) ≡ true
  needed_found name one input e c unknown = by (chosen_is 7 [] name one e).1
    where
      by : (is_met known one ≡ true) ⊎ (is_inferred known (fitting rules known 7) [] one ≡ true) → is_some (choice_of rules known input) ≡ true
      by (inl met) = absurd (true≢false (sym (each_passes (is_among known) (all_needs one.needs) met input c) ∙ unknown))
      by (inr inferred) =
          let chain = with_rule one.rule [] in
          let parts = and_parts (not one.is_last) (list_all (λ n. is_some (fitting rules known 7 chain n)) (unknown_needs known one)) inferred in
          let after = each_passes (λ n. is_some (fitting rules known 7 chain n)) (unknown_needs known one) parts.1 input (is_unknown known one input c unknown) in
          (found_as_trees rules known 8 [] input).1
          (tree_grows rules known 7 8 (omega arith) chain [] (λ rule none. absurd (true≢false (sym none))) input ((found_as_trees rules known 7 chain input).0 after))

-- ---- nodes

module _ (rules : List Entry) (known : List Text) (name : Text) where
  abbrev pub made : List (Entry × Target)
  made = explicit_rules rules name

  pub searched_choice : (found : Candidate × Entry) → searched rules known name ≡ Some found → choice_of (patterns_of rules) known name ≡ Some found.0
  searched_choice found e = grind (arith, none-some)

  -- an implicit node is that of a candidate that is chosen
  pub record IsChosen (node : Node) : Type 0 where
    pub chosen : Candidate
    pub rule : Entry
    pub is : choice_of (patterns_of rules) known name ≡ Some chosen
    pub whole : node ≡ implicit_node name made chosen rule

  implicit_by : (u : Option (Entry × Target)) (s : Option (Candidate × Entry)) → searched rules known name ≡ s → (node_by rules name made u s).kind ≡ Implicit → IsChosen (node_by rules name made u s)
  implicit_by u s f e = grind (arith, searched_choice)

  pub implicit_is : (node_of rules known name).kind ≡ Implicit → IsChosen (node_of rules known name)
  unfolding node_of
  implicit_is e = grind (arith, implicit_by)

  name_by : (u : Option (Entry × Target)) (s : Option (Candidate × Entry)) → (node_by rules name made u s).name ≡ name
  name_by u s = grind arith

  -- a node has its name
  pub node_name : (node_of rules known name).name ≡ name
  unfolding node_of
  node_name = grind (arith, name_by)

  not_leaf_by : (u : Option (Entry × Target)) (s : Option (Candidate × Entry)) → (s ≡ None → is_phony rules name ≡ true) → is_leaf (node_by rules name made u s).kind ≡ false
  not_leaf_by u s h = grind (arith, true≢false)

  -- if the search finds a rule, or a name is phony, its node is no leaf
  pub found_no_leaf : is_some (choice_of (patterns_of rules) known name) ≡ true → is_leaf (node_of rules known name).kind ≡ false
  unfolding node_of
  found_no_leaf found = by (list_any (λ rule. is_double rule.0.kind) made)
    where
      drawn : (one : Candidate) → choice_of (patterns_of rules) known name ≡ Some one → option_and_then (chosen_rule (patterns_of rules)) (choice_of (patterns_of rules) known name) ≡ None → ⊥
      drawn one e none =
          let rule = at_place (patterns_of rules) one.rule (has_rule (patterns_of rules) (is_begun []) name one (chosen_is (patterns_of rules) known 7 [] name one e).0) in
          none-some (one, rule.0) (sym none ∙ ap (option_and_then (chosen_rule (patterns_of rules))) e ∙ ap (option_map (λ r. (one, r))) rule.1)

      some : (o : Option Candidate) → choice_of (patterns_of rules) known name ≡ o → is_some o ≡ true → option_and_then (chosen_rule (patterns_of rules)) (choice_of (patterns_of rules) known name) ≡ None → ⊥
      some None e h none = true≢false (sym h)
      some (Some one) e h none = drawn one e none

      none_phony : (b : Bool) → (if b then None else option_and_then (chosen_rule (patterns_of rules)) (choice_of (patterns_of rules) known name)) ≡ None → b ≡ true
      none_phony true e = refl
      none_phony false e = absurd (some (choice_of (patterns_of rules) known name) refl found e)

      by : (b : Bool) → is_leaf (if b then double_node (suffixes_of rules) name made else node_by rules name made (used_rule made) (searched rules known name)).kind ≡ false
      by true = refl
      by false = not_leaf_by (used_rule made) (searched rules known name) (none_phony (is_phony rules name))

-- ---- the inputs of an implicit node

joined_from : (made : List (Entry × Target)) (input : Text) → Contains (joined_needs made).prerequisites input ⊎ Contains (joined_needs made).order_only input
    → (one : Entry × Target) × Contains made one × Contains (all_needs (needs_for one.0 one.1)) input
unfolding joined_needs
joined_from made input (inl c) =
    let found = from_flat_map (λ (one : Entry × Target). (needs_for one.0 one.1).prerequisites) made input c in
    (found.0, found.1, Contains-append_left (needs_for found.0.0 found.0.1).prerequisites (needs_for found.0.0 found.0.1).order_only input found.2)
joined_from made input (inr c) =
    let found = from_flat_map (λ (one : Entry × Target). (needs_for one.0 one.1).order_only) made input c in
    (found.0, found.1, Contains-append_right (needs_for found.0.0 found.0.1).prerequisites (needs_for found.0.0 found.0.1).order_only input found.2)

-- it is a prerequisite of the chosen rule, or of an explicit rule
from_inputs : (name : Text) (made : List (Entry × Target)) (chosen : Candidate) (rule : Entry) (input : Text) → Contains (all_inputs (implicit_node name made chosen rule)) input
    → Contains (all_needs chosen.needs) input ⊎ ((one : Entry × Target) × Contains made one × Contains (all_needs (needs_for one.0 one.1)) input)
unfolding inputs_of order_only_of
from_inputs name made chosen rule input c = by (Contains-append_cases (inputs_of (implicit_node name made chosen rule)) (order_only_of (implicit_node name made chosen rule)) input c)
  where
    joined : Contains (joined_needs made).prerequisites input ⊎ Contains (joined_needs made).order_only input
        → Contains (all_needs chosen.needs) input ⊎ ((one : Entry × Target) × Contains made one × Contains (all_needs (needs_for one.0 one.1)) input)
    joined h = inr (joined_from made input h)

    empty : (xs : List Text) → Contains (xs ++ []) input → Contains xs input
    empty xs c = ⊎_elim (λ h. h) (λ none. absurd (none_in_empty input none)) (Contains-append_cases xs [] input c)

    by : Contains (inputs_of (implicit_node name made chosen rule)) input ⊎ Contains (order_only_of (implicit_node name made chosen rule)) input
        → Contains (all_needs chosen.needs) input ⊎ ((one : Entry × Target) × Contains made one × Contains (all_needs (needs_for one.0 one.1)) input)
    by (inl c) =
        ⊎_elim (λ own. inl (Contains-append_left chosen.needs.prerequisites chosen.needs.order_only input own)) (λ other. joined (inl other))
        (Contains-append_cases chosen.needs.prerequisites (joined_needs made).prerequisites input
        (empty (chosen.needs.prerequisites ++ (joined_needs made).prerequisites) (from_without_repeats ((chosen.needs.prerequisites ++ (joined_needs made).prerequisites) ++ []) input c)))
    by (inr c) =
        ⊎_elim (λ own. inl (Contains-append_right chosen.needs.prerequisites chosen.needs.order_only input own)) (λ other. joined (inr other))
        (Contains-append_cases chosen.needs.order_only (joined_needs made).order_only input
        (empty (chosen.needs.order_only ++ (joined_needs made).order_only) (from_without_repeats ((chosen.needs.order_only ++ (joined_needs made).order_only) ++ []) input
        (kept_by_filter (λ one. not (is_among (inputs_of (implicit_node name made chosen rule)) one)) (without_repeats ((chosen.needs.order_only ++ (joined_needs made).order_only) ++ [])) input c).0)))

-- the prerequisites of explicit rules are known
needed_known : (rules : List Entry) (files name : Text) (one : Entry × Target) (input : Text) → Contains (explicit_rules rules name) one
    → Contains (all_needs (needs_for one.0 one.1)) input → is_among (known_names rules files) input ≡ true
unfolding explicit_rules rules_of known_names
needed_known rules files name one input c needed =
    let suffixes = suffixes_of rules in
    let plain = kept_by_filter (λ made. not (is_suffix_rule suffixes name made)) (rules_of rules name) one c in
    let named = kept_by_filter (λ (made : Entry × Target). bytes_eq name made.1.name) (flat_map target_rules rules) one plain.0 in
    let from = from_flat_map target_rules rules one named.0 in
    let target = Contains-from_map (λ t. (from.0, t)) (filter (is_made from.0) from.0.targets) one from.2 in
    let kept = kept_by_filter (is_made from.0) from.0.targets target.0 target.1 in
    let same : name ≡ one.1.name = same_text name one.1.name (sym named.1) in
    let explicit : is_explicit suffixes one ≡ true
    = and_from (is_made one.0 one.1) (not (is_suffix_rule suffixes one.1.name one)) (subst (λ (made : Entry × Target). is_made made.0 made.1 ≡ true) target.2 kept.1)
    (subst (λ n. not (is_suffix_rule suffixes n one) ≡ true) same plain.1) in
    let by_target : Contains (named_with suffixes one.0 one.1) input
    = subst (λ b. Contains (if b then one.1.name ∷ all_needs (needs_for one.0 one.1) else []) input) (sym explicit) (in_rest one.1.name input (all_needs (needs_for one.0 one.1)) needed) in
    let by_targets : Contains (flat_map (named_with suffixes from.0) from.0.targets) input
    = in_flat_map (named_with suffixes from.0) from.0.targets target.0 input kept.0
    (subst (λ (made : Entry × Target). Contains (named_with suffixes made.0 made.1) input) (sym target.2) by_target) in
    let by_rules : Contains (flat_map (named_by suffixes) rules) input
    = in_flat_map (named_by suffixes) rules from.0 input from.1 (Contains-append_left (flat_map (named_with suffixes from.0) from.0.targets) _ input by_targets) in
    among_from (known_names rules files) input
    (in_without_repeats (listed_names files ++ flat_map (named_by suffixes) rules) input (Contains-append_right (listed_names files) (flat_map (named_by suffixes) rules) input by_rules))

-- ---- the graph

-- what an implicit node needs is known, or a rule makes it, if the names that the rules mention are known
pub made_inputs : (rules : List Entry) (known goals : List Text) (nodes : List Node) (files : Text) → IsGraph rules known goals nodes → known ≡ known_names rules files → HasMadeInputs known nodes
made_inputs rules known goals nodes files graph all = λ node input c kind needed unknown.
    let names = map (λ (one : Node). one.name) nodes in
    let of_name = Contains-from_map (node_of rules known) names node (subst (λ ns. Contains ns node) graph.stored c) in
    let name = of_name.0 in
    let implicit = implicit_is rules known name (ap (λ (one : Node). one.kind) of_name.2 ∙ kind) in
    let own : Contains (all_inputs (node_of rules known name)) input = subst (λ (one : Node). Contains (all_inputs one) input) (sym of_name.2) needed in
    let reached = reached_on rules known goals name input ((graph.reached name).0 of_name.1) own in
    let there : Contains nodes (node_of rules known input)
    = subst (λ ns. Contains ns (node_of rules known input)) (sym graph.stored) (Contains-map (node_of rules known) names input ((graph.reached input).1 reached)) in
    let no_leaf : is_leaf (node_of rules known input).kind ≡ false
    = ⊎_elim (λ by_chosen. found_no_leaf rules known input (needed_found (patterns_of rules) known name implicit.chosen input implicit.is by_chosen unknown))
    (λ by_made. absurd (true≢false (sym (ap (λ ns. is_among ns input) all ∙ needed_known rules files name by_made.0 input by_made.1 by_made.2) ∙ unknown)))
    (from_inputs name (explicit_rules rules name) implicit.chosen implicit.rule input (subst (λ (one : Node). Contains (all_inputs one) input) implicit.whole own)) in
    any_passes (λ (one : Node). bytes_eq one.name input && not (is_leaf one.kind)) nodes (node_of rules known input) there
    (and_from (bytes_eq (node_of rules known input).name input) (not (is_leaf (node_of rules known input).kind))
    (ap (λ n. bytes_eq n input) (node_name rules known input) ∙ among_itself input) (not_from_false (is_leaf (node_of rules known input).kind) no_leaf))
