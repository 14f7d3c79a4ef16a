-- Trees stay when a chain has fewer rules and more may be added: what makes a name after a chain makes it without one.
use Rattle.std.proofs.Common.{rules, ◌≡◌, ℕ, zero, suc, ◌+◌, ◌≤◌, Bool, true, false, not, ◌||◌, if◌then◌else◌, List, [], ◌∷◌, length, filter, refl, sym, ◌∙◌, true≢false, ⊎_elim, arith, ◌==◌, nat_eq, nat_lt}
use Rattle.kt_graph.proofs.Common.{Contains, list_any, range_with_len, eq-eqb, false_from_ne_true, or_cases, or_left, or_right, All-weaker, from_flat_map, in_flat_map, Text, Entry, Candidate, by_size, candidates_for, matching_from, size_of, without_any, HasTree, is_begun, is_used, unknown_needs, with_rule}
use Rattle.kt_graph.proofs.lemmas.Membership.{in_filter, kept_by_filter}

-- ---- candidates outside a chain

by_size_more : (name : Text) (some others : List Candidate) → ((one : Candidate) → Contains some one → Contains others one) → (one : Candidate)
    → Contains (by_size name some) one → Contains (by_size name others) one
by_size_more name some others more one c =
    let sizes = range_with_len 0 (length name + 1) in
    let found = from_flat_map (λ size. filter (λ candidate. size_of candidate == size) some) sizes one c in
    let kept = kept_by_filter (λ candidate. size_of candidate == found.0) some one found.2 in
    in_flat_map (λ size. filter (λ candidate. size_of candidate == size) others) sizes found.0 one found.1
    (in_filter (λ candidate. size_of candidate == found.0) others one (more one kept.0) kept.1)

pub from_by_size : (name : Text) (candidates : List Candidate) (one : Candidate) → Contains (by_size name candidates) one → Contains candidates one
from_by_size name candidates one c =
    let found = from_flat_map (λ size. filter (λ candidate. size_of candidate == size) candidates) (range_with_len 0 (length name + 1)) one c in
    (kept_by_filter (λ candidate. size_of candidate == found.0) candidates one found.2).0

outside : (candidates : List Candidate) (one : Candidate) → Contains (without_any true candidates) one → Contains (without_any false candidates) one
outside candidates one c = by (list_any (λ candidate. not candidate.is_any) candidates)
  where
    by : (b : Bool) → Contains (if b then filter (λ candidate. not candidate.is_any || candidate.is_last) candidates else candidates) one
    by true = c
    by false = (kept_by_filter (λ candidate. not candidate.is_any || candidate.is_last) candidates one c).0

outside_chain : (rules : List Entry) (name : Text) (one : Candidate) → Contains (candidates_for rules true name) one → Contains (candidates_for rules false name) one
unfolding candidates_for
outside_chain rules name one c =
    by_size_more name (without_any true (matching_from 0 rules name)) (without_any false (matching_from 0 rules name)) (outside (matching_from 0 rules name)) one c

-- ---- the rules in chains

abbrev pub HasAll : List ℕ → List ℕ → Type 0
HasAll used fewer = (rule : ℕ) → is_used fewer rule ≡ true → is_used used rule ≡ true

used_with : (rule other : ℕ) (used : List ℕ) → is_used (with_rule rule used) other ≡ (nat_eq other rule || is_used used other)
unfolding with_rule
used_with rule other [] = refl
used_with rule other (first ∷ used) = grind (arith, nat_lt, nat_eq, used_with rule other used)

has_all_with : (rule : ℕ) (used fewer : List ℕ) → HasAll used fewer → HasAll (with_rule rule used) (with_rule rule fewer)
has_all_with rule used fewer all other h = grind (arith, used_with, ⊎_elim, or_left, nat_eq, or_right, or_cases)

-- a candidate after a chain is one after a chain with fewer rules
fewer_candidates : (rules : List Entry) (name : Text) (used fewer : List ℕ) → HasAll used fewer → (one : Candidate)
    → Contains (candidates_for rules (is_begun used) name) one → Contains (candidates_for rules (is_begun fewer) name) one
fewer_candidates rules name [] [] all one c = c
fewer_candidates rules name (rule ∷ used) [] all one c = outside_chain rules name one c
fewer_candidates rules name (rule ∷ used) (other ∷ fewer) all one c = c
fewer_candidates rules name [] (other ∷ fewer) all one c = absurd (true≢false (sym (all other (or_left (nat_eq other other) (is_used fewer other) (eq-eqb other other refl)))))

-- ---- trees

pub tree_grows : (rules : List Entry) (known : List Text) (left more : ℕ) → left ≤ more → (used fewer : List ℕ) → HasAll used fewer → (name : Text)
    → HasTree rules known left used name → HasTree rules known more fewer name
unfolding HasTree
tree_grows rules known zero more h used fewer all name tree = absurd tree
tree_grows rules known (suc left) zero h used fewer all name tree = absurd (omega arith)
tree_grows rules known (suc left) (suc more) h used fewer all name tree =
    let root = tree.0 in (
      root,
      fewer_candidates rules name used fewer all root tree.1,
      false_from_ne_true (is_used fewer root.rule) (λ in_fewer. true≢false (sym (all root.rule in_fewer) ∙ tree.2)),
      tree.3,
      All-weaker (HasTree rules known left (with_rule root.rule used)) (HasTree rules known more (with_rule root.rule fewer))
          (λ needed branch. tree_grows rules known left more (omega arith) (with_rule root.rule used) (with_rule root.rule fewer) (has_all_with root.rule used fewer all) needed branch)
          (unknown_needs known root) tree.4,
    )
