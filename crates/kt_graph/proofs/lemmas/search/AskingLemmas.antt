-- The number of rules in the chains of questions.
use Rattle.std.proofs.Common.{rules, ◌≡◌, ℕ, zero, suc, ◌+◌, ◌-◌, ◌≤◌, Bool, true, false, if◌then◌else◌, cond, List, [], ◌∷◌, ◌++◌, length, take, drop, refl, ap, ◌∙◌, ⊎_elim, arith, nat_lt, nat_le, is_some}
use Rattle.kt_graph.proofs.Common.{Contains, list_any, prefix_len, le-leb, lt-leb, ltb-false, ltb-true, append_assoc, take_rest, Contains-append_cases, Text, Entry, Candidate, Question, Asking, Choosing, questions_among, questions_by, questions_for, questions_inside, asking, fitting, is_inferred, is_met, open_candidates, unknown_needs, with_rule, first_or_rest, none_in_empty}
use Rattle.kt_graph.specs.inner.search.Chains.{asked_besides}

-- one rule more
pub length-with_rule : (rule : ℕ) (used : List ℕ) → length (with_rule rule used) ≡ length used + 1
unfolding with_rule
length-with_rule rule [] = refl
length-with_rule rule (first ∷ used) = grind (arith, nat_lt, length, length-with_rule rule used)

-- it comes after those that aren't above it
pub with_rule_is : (rule : ℕ) (used : List ℕ)
    → take (prefix_len (λ other. nat_le other rule) used) used ++ rule ∷ drop (prefix_len (λ other. nat_le other rule) used) used ≡ with_rule rule used
unfolding with_rule
with_rule_is rule [] = refl
with_rule_is rule (first ∷ used) = by (nat_lt rule first) refl (with_rule_is rule used)
  where
    by : (b : Bool) → nat_lt rule first ≡ b → take (prefix_len (λ other. nat_le other rule) used) used ++ rule ∷ drop (prefix_len (λ other. nat_le other rule) used) used ≡ with_rule rule used
        → take (prefix_len (λ other. nat_le other rule) (first ∷ used)) (first ∷ used) ++ rule ∷ drop (prefix_len (λ other. nat_le other rule) (first ∷ used)) (first ∷ used)
        ≡ (if b then rule ∷ first ∷ used else first ∷ with_rule rule used)
    by true e rest =
        let none : prefix_len (λ other. nat_le other rule) (first ∷ used) ≡ 0
        = ap (λ b. cond b (1 + prefix_len (λ other. nat_le other rule) used) 0) (lt-leb first rule (ltb-true rule first e)) in
        ap (λ n. take n (first ∷ used) ++ rule ∷ drop n (first ∷ used)) none
    by false e rest =
        let more : prefix_len (λ other. nat_le other rule) (first ∷ used) ≡ suc (prefix_len (λ other. nat_le other rule) used)
        = ap (λ b. cond b (1 + prefix_len (λ other. nat_le other rule) used) 0) (le-leb first rule (ltb-false rule first e)) ∙ omega arith in
        ap (λ n. take n (first ∷ used) ++ rule ∷ drop n (first ∷ used)) more ∙ ap (λ xs. first ∷ xs) rest

-- the same for a vector that is joined
pub put_between : (rule : ℕ) (used : List ℕ) (place : ℕ) → place ≡ prefix_len (λ other. nat_le other rule) used
    → (take place used ++ rule ∷ []) ++ take (length used - place) (drop place used) ≡ with_rule rule used
put_between rule used place e = grind (arith, append_assoc, take, length, take_rest, with_rule_is)

module _ (known : List Text) (deeper : Choosing) (ask : Asking)
    (deep : (used : List ℕ) (name : Text) (asked : Question) → Contains (ask used name) asked → length used ≤ length asked.1) where
  deep_for : (used : List ℕ) (names : List Text) (asked : Question) → Contains (questions_for deeper ask used names) asked → length used ≤ length asked.1
  deep_for used [] asked c = absurd (none_in_empty asked c)
  deep_for used (name ∷ names) asked c =
      ⊎_elim (λ here. deep used name asked here) (λ rest. by (is_some (deeper used name)) (deep_for used names asked) rest)
      (Contains-append_cases (ask used name) (if is_some (deeper used name) then questions_for deeper ask used names else []) asked c)
    where
      by : (b : Bool) → (Contains (questions_for deeper ask used names) asked → length used ≤ length asked.1) → Contains (if b then questions_for deeper ask used names else []) asked → length used ≤ length asked.1
      by true later rest = later rest
      by false later rest = absurd (none_in_empty asked rest)

  deep_by : (used : List ℕ) (candidate : Candidate) (asked : Question) → Contains (questions_by known deeper ask used candidate) asked → length used + 1 ≤ length asked.1
  deep_by used candidate asked c = by candidate.is_last c
    where
      by : (b : Bool) → Contains (if b then [] else questions_for deeper ask (with_rule candidate.rule used) (unknown_needs known candidate)) asked → length used + 1 ≤ length asked.1
      by true none = absurd (none_in_empty asked none)
      by false some = omega (arith, length-with_rule candidate.rule used, deep_for (with_rule candidate.rule used) (unknown_needs known candidate) asked some)

  deep_among : (used : List ℕ) (candidates : List Candidate) (asked : Question) → Contains (questions_among known deeper ask used candidates) asked → length used + 1 ≤ length asked.1
  deep_among used [] asked c = absurd (none_in_empty asked c)
  deep_among used (candidate ∷ candidates) asked c =
      ⊎_elim (λ here. deep_by used candidate asked here) (λ rest. by (is_inferred known deeper used candidate) (deep_among used candidates asked) rest)
      (Contains-append_cases (questions_by known deeper ask used candidate) (if is_inferred known deeper used candidate then [] else questions_among known deeper ask used candidates) asked c)
    where
      by : (b : Bool) → (Contains (questions_among known deeper ask used candidates) asked → length used + 1 ≤ length asked.1)
          → Contains (if b then [] else questions_among known deeper ask used candidates) asked → length used + 1 ≤ length asked.1
      by true later none = absurd (none_in_empty asked none)
      by false later rest = later rest

  deep_inside : (used : List ℕ) (candidates : List Candidate) (asked : Question) → Contains (questions_inside known deeper ask used candidates) asked → length used + 1 ≤ length asked.1
  deep_inside used candidates asked c = by (list_any (is_met known) candidates) c
    where
      by : (b : Bool) → Contains (if b then [] else questions_among known deeper ask used candidates) asked → length used + 1 ≤ length asked.1
      by true none = absurd (none_in_empty asked none)
      by false some = deep_among used candidates asked some

-- what a question asks has at least the rules of its own chain
pub asking_deep : (rules : List Entry) (known : List Text) (left : ℕ) (used : List ℕ) (name : Text) (asked : Question)
    → Contains (asking rules known left used name) asked → length used ≤ length asked.1
unfolding asking
asking_deep rules known zero used name asked c = grind (arith, ⊎_elim, length, none_in_empty, first_or_rest)
asking_deep rules known (suc left) used name asked c =
    ⊎_elim (λ e. omega (arith, ap (λ a. length a.1) e))
    (λ after. omega (arith, deep_inside known (fitting rules known left) (asking rules known left) (asking_deep rules known left) used (open_candidates rules used name) asked after))
    (first_or_rest (name, used) asked (questions_inside known (fitting rules known left) (asking rules known left) used (open_candidates rules used name)) c)

-- and what it asks besides itself has more
pub after_deep : (rules : List Entry) (known : List Text) (left : ℕ) (used : List ℕ) (name : Text) (asked : Question)
    → Contains (asked_besides rules known left used name) asked → length used + 1 ≤ length asked.1
unfolding asked_besides
after_deep rules known zero used name asked c = absurd (none_in_empty asked c)
after_deep rules known (suc left) used name asked c =
    deep_inside known (fitting rules known left) (asking rules known left) (asking_deep rules known left) used (open_candidates rules used name) asked c

-- a question asks itself first
pub asking_is : (rules : List Entry) (known : List Text) (left : ℕ) (used : List ℕ) (name : Text)
    → asking rules known left used name ≡ (name, used) ∷ asked_besides rules known left used name
unfolding asking asked_besides
asking_is rules known left used name = grind arith
