-- A list that holds all names that goals may need: those that rules name, and texts of bounded length.
use Rattle.std.proofs.Common.{arith, ◌≡◌, ◌⊎◌, ◌≤◌, ℕ, Bool, true, false, not, List, [], ◌∷◌, ◌++◌, length, filter, flat_map, Option, Some, None, refl, sym, subst, ⊎_elim, inl, inr, if◌then◌else◌}
use Rattle.kati.proofs.Common.{Contains, after_last, before_last, last_or, list_any, Contains-append_cases, Contains-append_left, Contains-append_right, none-some, Text, Entry, needs_for, is_among, without_repeats, all_needs, is_suffix_rule, suffixes_of, Candidate, Part, bare_part, double_node, inputs_of, joined_needs, needs_after, node_by, node_of, order_only_of, other_rules, own_part, searched, used_rule, HasInput, first_or_rest, from_flat_map, in_first, in_flat_map, in_rest, chosen_is, Contains-from_map, Contains-none, kept_by_filter, from_without_repeats}
use Rattle.kt_rules.specs.declared.line.entry.Target.{Target}
use Rattle.kt_rules.specs.declared.line.entry.Needs.{Needs}
use Rattle.kt_rules.specs.Book.{explicit_rules, has_recipe, is_double, is_made, patterns_of, rules_of, target_rules}
use Rattle.kt_graph.specs.search.Search.{choice_of}
use Rattle.kati_laws.proofs.ClosingLemmas.{IsClosed}
use Rattle.kati_laws.proofs.FitLemmas.{Below, bound, chosen_fits, from_drop, from_take, from_texts, in_bound, in_texts, least_bound, texts}
use Rattle.kt_graph.proofs.lemmas.nodes.MadeLemmas.{searched_choice}

-- ---- the inputs of a node

-- it is a prerequisite of an explicit rule of a name
abbrev IsNamed : List (Entry × Target) → Text → Type 0
IsNamed made input = (one : Entry × Target) × Contains made one × Contains (all_needs (needs_for one.0 one.1)) input

-- it is a prerequisite of the candidate that is chosen for a name
abbrev IsChosenBy : List Entry → List Text → Text → Text → Type 0
IsChosenBy rules known name input =
    (one : Candidate) × (choice_of (patterns_of rules) known name ≡ Some one) × Contains (all_needs one.needs) input

joined_named : (made : List (Entry × Target)) (input : Text) → Contains (all_needs (joined_needs made)) input → IsNamed made input
unfolding joined_needs
joined_named made input has = ⊎_elim
    (λ (h : Contains (joined_needs made).prerequisites input).
    let found = from_flat_map (λ (one : Entry × Target). (needs_for one.0 one.1).prerequisites) made input h in
    (found.0, found.1, Contains-append_left (needs_for found.0.0 found.0.1).prerequisites (needs_for found.0.0 found.0.1).order_only input found.2))
    (λ (h : Contains (joined_needs made).order_only input).
    let found = from_flat_map (λ (one : Entry × Target). (needs_for one.0 one.1).order_only) made input h in
    (found.0, found.1, Contains-append_right (needs_for found.0.0 found.0.1).prerequisites (needs_for found.0.0 found.0.1).order_only input found.2))
    (Contains-append_cases (joined_needs made).prerequisites (joined_needs made).order_only input has)

after_cases : (first later : Needs) (input : Text) → Contains (all_needs (needs_after first later)) input → Contains (all_needs first) input ⊎ Contains (all_needs later) input
after_cases first later input has = ⊎_elim
    (λ (h : Contains (first.prerequisites ++ later.prerequisites) input). ⊎_elim
    (λ (g : Contains first.prerequisites input). inl (Contains-append_left first.prerequisites first.order_only input g))
    (λ (g : Contains later.prerequisites input). inr (Contains-append_left later.prerequisites later.order_only input g))
    (Contains-append_cases first.prerequisites later.prerequisites input h))
    (λ (h : Contains (first.order_only ++ later.order_only) input). ⊎_elim
    (λ (g : Contains first.order_only input). inl (Contains-append_right first.prerequisites first.order_only input g))
    (λ (g : Contains later.order_only input). inr (Contains-append_right later.prerequisites later.order_only input g))
    (Contains-append_cases first.order_only later.order_only input h))
    (Contains-append_cases (first.prerequisites ++ later.prerequisites) (first.order_only ++ later.order_only) input has)

fewer_named : (made more : List (Entry × Target)) (input : Text) → ((one : Entry × Target) → Contains made one → Contains more one) → IsNamed made input → IsNamed more input
fewer_named made more input within named = (named.0, within named.0 named.1, named.2)

last_in : (o : Option (Entry × Target)) (made : List (Entry × Target)) (one : Entry × Target) → last_or o made ≡ Some one → (o ≡ Some one) ⊎ Contains made one
last_in o [] one e = inl e
last_in o (first ∷ made) one e = grind (arith, ⊎_elim, in_first, in_rest, last_in (Some first) made one e)

used_in : (made : List (Entry × Target)) (one : Entry × Target) → used_rule made ≡ Some one → Contains made one
used_in made one e = ⊎_elim (λ (h : None ≡ Some one). absurd (none-some one h)) (λ (h : Contains (filter has_recipe made) one). (kept_by_filter has_recipe made one h).0)
    (last_in None (filter has_recipe made) one e)

others_in : (made : List (Entry × Target)) (one : Entry × Target) → Contains (other_rules made) one → Contains made one
others_in made one has = ⊎_elim
    (λ (h : Contains (before_last has_recipe made) one). from_take _ made one h)
    (λ (h : Contains (after_last has_recipe made) one). from_drop _ made one h)
    (Contains-append_cases (before_last has_recipe made) (after_last has_recipe made) one has)

module _ (rules : List Entry) (known : List Text) (name : Text) where
  abbrev made : List (Entry × Target)
  made = explicit_rules rules name

  abbrev IsTold : Text → Type 0
  IsTold input = IsNamed made input ⊎ IsChosenBy rules known name input

  alone : (part : Part) (one : Part) → Contains (part ∷ []) one → part ≡ one
  alone part one has = ⊎_elim (λ (same : part ≡ one). same) (λ (none : Contains [] one). Contains-none one none) (first_or_rest part one [] has)

  part_view : (part : Part) (input : Text) → Contains (node_of rules known name).parts part → Contains (all_needs part.needs) input → IsTold input
  unfolding node_of
  part_view part input has needed = by (list_any (λ rule. is_double rule.0.kind) made) has
    where
      joined : Contains (all_needs (joined_needs made)) input → IsTold input
      joined h = inl (joined_named made input h)

      node : (used : Option (Entry × Target)) → used_rule made ≡ used → (found : Option (Candidate × Entry)) → searched rules known name ≡ found
          → Contains (node_by rules name made used found).parts part → IsTold input
      node (Some used) is found also h =
          let same = alone _ part h in ⊎_elim
          (λ (own : Contains (all_needs (needs_for used.0 used.1)) input). inl (used, used_in made used is, own))
          (λ (rest : Contains (all_needs (joined_needs (other_rules made))) input).
          inl (fewer_named (other_rules made) made input (others_in made) (joined_named (other_rules made) input rest)))
          (after_cases (needs_for used.0 used.1) (joined_needs (other_rules made)) input
          (subst (λ (one : Part). Contains (all_needs one.needs) input) (sym same) needed))
      node None is (Some found) also h =
          let same = alone _ part h in ⊎_elim
          (λ (own : Contains (all_needs found.0.needs) input).
          inr (found.0, searched_choice rules known name found also, own))
          (λ (rest : Contains (all_needs (joined_needs made)) input). joined rest)
          (after_cases found.0.needs (joined_needs made) input (subst (λ (one : Part). Contains (all_needs one.needs) input) (sym same) needed))
      node None is None also h =
          joined (subst (λ (one : Part). Contains (all_needs one.needs) input) (sym (alone (bare_part (suffixes_of rules) name (joined_needs made)) part h)) needed)

      by : (b : Bool) → Contains (if b then double_node (suffixes_of rules) name made else node_by rules name made (used_rule made) (searched rules known name)).parts part
          → IsTold input
      by true h =
          let one = Contains-from_map (own_part (suffixes_of rules)) made part h in
          inl (one.0, one.1, subst (λ (p : Part). Contains (all_needs p.needs) input) (sym one.2) needed)
      by false h = node (used_rule made) refl (searched rules known name) refl h

  input_told : (input : Text) → HasInput rules known name input → IsTold input
  unfolding inputs_of order_only_of
  input_told input has = ⊎_elim
      (λ (h : Contains (inputs_of (node_of rules known name)) input).
      let found = from_flat_map (λ (part : Part). part.needs.prerequisites) (node_of rules known name).parts input
      (from_without_repeats (flat_map (λ part. part.needs.prerequisites) (node_of rules known name).parts) input h) in
      part_view found.0 input found.1 (Contains-append_left found.0.needs.prerequisites found.0.needs.order_only input found.2))
      (λ (h : Contains (order_only_of (node_of rules known name)) input).
      let kept = kept_by_filter (λ one. not (is_among (inputs_of (node_of rules known name)) one))
      (without_repeats (flat_map (λ part. part.needs.order_only) (node_of rules known name).parts)) input h in
      let found = from_flat_map (λ (part : Part). part.needs.order_only) (node_of rules known name).parts input
      (from_without_repeats (flat_map (λ part. part.needs.order_only) (node_of rules known name).parts) input kept.0) in
      part_view found.0 input found.1 (Contains-append_right found.0.needs.prerequisites found.0.needs.order_only input found.2))
      (Contains-append_cases (inputs_of (node_of rules known name)) (order_only_of (node_of rules known name)) input has)

-- ---- the list

made_in : (rules : List Entry) (name : Text) (one : Entry × Target) (input : Text) → Contains (explicit_rules rules name) one
    → Contains (all_needs (needs_for one.0 one.1)) input
    → Contains (flat_map (λ (rule : Entry). flat_map (λ (target : Target). all_needs (needs_for rule target)) rule.targets) rules) input
unfolding explicit_rules rules_of
made_in rules name one input has needed =
    let plain = kept_by_filter (λ (made : Entry × Target). not (is_suffix_rule (suffixes_of rules) name made)) (rules_of rules name) one has in
    let named = kept_by_filter (λ (made : Entry × Target). Rattle.std.specs.Prelude.bytes_eq name made.1.name) (flat_map target_rules rules) one plain.0 in
    let from = from_flat_map target_rules rules one named.0 in
    let target = Contains-from_map (λ (t : Target). (from.0, t)) (filter (is_made from.0) from.0.targets) one from.2 in
    let kept = kept_by_filter (is_made from.0) from.0.targets target.0 target.1 in
    in_flat_map (λ (rule : Entry). flat_map (λ (t : Target). all_needs (needs_for rule t)) rule.targets) rules from.0 input from.1
    (in_flat_map (λ (t : Target). all_needs (needs_for from.0 t)) from.0.targets target.0 input kept.0
    (subst (λ (made : Entry × Target). Contains (all_needs (needs_for made.0 made.1)) input) (sym target.2) needed))

module _ (rules : List Entry) (known goals : List Text) where
  abbrev named : List Text
  named = goals ++ flat_map (λ (rule : Entry). flat_map (λ (target : Target). all_needs (needs_for rule target)) rule.targets) rules

  abbrev patterns : List Text
  patterns = flat_map (λ (rule : Entry). all_needs rule.needs) (patterns_of rules)

  abbrev most : ℕ
  most = bound (flat_map (λ (text : Text). text) (named ++ patterns))

  text_below : (text : Text) → Contains (named ++ patterns) text → Below most text
  text_below text has symbol inside = in_bound (flat_map (λ (text : Text). text) (named ++ patterns)) symbol
      (in_flat_map (λ (one : Text). one) (named ++ patterns) text symbol has inside)

  pub closed_names : (limit : ℕ) → limit ≡ 4096 → IsClosed rules known goals (named ++ texts most limit)
  closed_names limit is = record {
    begun = λ name has. Contains-append_left named (texts most limit) name
        (Contains-append_left goals (flat_map (λ (rule : Entry). flat_map (λ (target : Target). all_needs (needs_for rule target)) rule.targets) rules) name has);
    closed = λ name input has needed. ⊎_elim
        (λ (explicit : IsNamed (explicit_rules rules name) input). Contains-append_left named (texts most limit) input
        (Contains-append_right goals (flat_map (λ (rule : Entry). flat_map (λ (target : Target). all_needs (needs_for rule target)) rule.targets) rules) input
        (made_in rules name explicit.0 input explicit.1 explicit.2)))
        (λ (chosen : IsChosenBy rules known name input).
        let fits = chosen_fits most (least_bound (flat_map (λ (text : Text). text) (named ++ patterns))) (patterns_of rules) false name chosen.0 input
        (name_below name has)
        (λ rule need in_rules in_needs. text_below need (Contains-append_right named patterns need
        (in_flat_map (λ (one : Entry). all_needs one.needs) (patterns_of rules) rule need in_rules in_needs)))
        (chosen_is (patterns_of rules) known 7 [] name chosen.0 chosen.1).0 chosen.2 in
        Contains-append_right named (texts most limit) input (in_texts most limit input fits.0 (subst (λ (n : ℕ). length input ≤ n) (sym is) fits.1)))
        (input_told rules known name input needed);
  }
    where
      name_below : (name : Text) → Contains (named ++ texts most limit) name → Below most name
      name_below name has = ⊎_elim
          (λ (h : Contains named name). text_below name (Contains-append_left named patterns name h))
          (λ (h : Contains (texts most limit) name). from_texts most limit name h)
          (Contains-append_cases named (texts most limit) name has)
