-- The search finds a rule for a name exactly if a tree makes it.
use Rattle.std.proofs.Common.{◌≡◌, ℕ, zero, suc, true, false, not, ◌||◌, List, [], get_or, is_some, Option, option_map, sym, ◌∙◌, true≢false, ⊎_elim, arith, ◌↔◌, All}
use Rattle.kt_graph.proofs.Common.{Contains, list_any, cases_Bool, and_from, and_parts, or_cases, or_left, or_right, not-true, not_from_false, All-contains, Contains-get_or, Text, Entry, Candidate, candidates_for, HasTree, chosen_of, fitting, is_begun, is_inferred, is_met, is_used, open_candidates, unknown_needs, with_rule}
use Rattle.kt_graph.proofs.lemmas.Membership.{any_passes, all_pass, each_passes, found_any, in_filter, kept_by_filter, one_passes, some_or}
use Rattle.kt_graph.proofs.lemmas.search.UnknownLemmas.{met_none, none_met}

module _ (rules : List Entry) (known : List Text) where
  -- a candidate's unknown prerequisites have rules exactly if they have trees
  abbrev SameFor : ℕ → Type 0
  SameFor left = (used : List ℕ) (name : Text) → (is_some (fitting rules known left used name) ≡ true) ↔ HasTree rules known left used name

  inferred_tree : (left : ℕ) → SameFor left → (used : List ℕ) (name : Text) (root : Candidate) → Contains (open_candidates rules used name) root
      → (is_met known root || is_inferred known (fitting rules known left) used root) ≡ true → HasTree rules known (suc left) used name
  unfolding HasTree
  inferred_tree left same used name root c passes =
      let kept = kept_by_filter (λ candidate. not (is_used used candidate.rule)) (candidates_for rules (is_begun used) name) root c in
      let free : is_used used root.rule ≡ false = not-true _ kept.1 in
      ⊎_elim
      (λ met. let none = met_none known root met in (root, kept.0, free, (λ last. none), rw none (λ k d h. absurd (omega arith))))
      (λ inferred. let parts = and_parts (not root.is_last) _ inferred in (
        root,
        kept.0,
        free,
        (λ last. absurd (true≢false (sym last ∙ not-true root.is_last parts.0))),
        λ k d h. (same (with_rule root.rule used) (get_or (unknown_needs known root) k d)).0
            (each_passes (λ n. is_some (fitting rules known left (with_rule root.rule used) n)) (unknown_needs known root) parts.1 _ (Contains-get_or (unknown_needs known root) k d h)),
      ))
      (or_cases (is_met known root) (is_inferred known (fitting rules known left) used root) passes)

  root_passes : (left : ℕ) → SameFor left → (used : List ℕ) (root : Candidate)
      → (root.is_last ≡ true → unknown_needs known root ≡ []) → All (HasTree rules known left (with_rule root.rule used)) (unknown_needs known root)
      → (is_met known root || is_inferred known (fitting rules known left) used root) ≡ true
  root_passes left same used root last branches = grind (arith, ⊎_elim, or_left, none_met, or_right, and_from, not, not_from_false, all_pass, All-contains, cases_Bool)

  -- whether something is chosen: whether a candidate is met or inferred
  chosen_any : (left : ℕ) (used : List ℕ) (candidates : List Candidate)
      → is_some (chosen_of known (fitting rules known left) used candidates)
      ≡ (list_any (is_met known) candidates || list_any (is_inferred known (fitting rules known left) used) candidates)
  chosen_any left used candidates = grind (arith, some_or, found_any)

  found_tree : (left : ℕ) → SameFor left → (used : List ℕ) (name : Text)
      → is_some (chosen_of known (fitting rules known left) used (open_candidates rules used name)) ≡ true → HasTree rules known (suc left) used name
  found_tree left same used name found =
      let candidates = open_candidates rules used name in
      let deeper = fitting rules known left in
      ⊎_elim
      (λ met. let one = one_passes (is_met known) candidates met in
      inferred_tree left same used name one.0 one.1 (or_left _ _ one.2))
      (λ inferred. let one = one_passes (is_inferred known deeper used) candidates inferred in
      inferred_tree left same used name one.0 one.1 (or_right (is_met known one.0) _ one.2))
      (or_cases (list_any (is_met known) candidates) (list_any (is_inferred known deeper used) candidates) (sym (chosen_any left used candidates) ∙ found))

  tree_found : (left : ℕ) → SameFor left → (used : List ℕ) (name : Text) → HasTree rules known (suc left) used name
      → is_some (chosen_of known (fitting rules known left) used (open_candidates rules used name)) ≡ true
  unfolding HasTree
  tree_found left same used name tree =
      let candidates = open_candidates rules used name in
      let deeper = fitting rules known left in
      let root = tree.0 in
      let c = in_filter (λ candidate. not (is_used used candidate.rule)) (candidates_for rules (is_begun used) name) root tree.1 (not_from_false (is_used used root.rule) tree.2) in
      chosen_any left used candidates ∙ ⊎_elim (λ met. or_left _ _ (any_passes (is_met known) candidates root c met))
      (λ inferred. or_right (list_any (is_met known) candidates) _ (any_passes (is_inferred known deeper used) candidates root c inferred))
      (or_cases (is_met known root) (is_inferred known deeper used root) (root_passes left same used root tree.3 tree.4))

  pub found_as_trees : (left : ℕ) → SameFor left
  unfolding fitting HasTree
  found_as_trees zero used name = (λ e. absurd (true≢false (sym e)), λ none. absurd none)
  found_as_trees (suc left) used name = (found_tree left (found_as_trees left) used name, tree_found left (found_as_trees left) used name)

-- a view of what was found exists exactly if something was found
pub told_as_trees : {A B Tree : Type 0} (told : A → B) (found : Option A) → ((is_some found ≡ true) ↔ Tree)
    → (is_some (option_map told found) ≡ true) ↔ Tree
told_as_trees told found trees = grind arith
