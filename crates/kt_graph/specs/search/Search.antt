-- The search for a pattern rule that makes a name (GNU make manual, "Implicit Rule Search Algorithm", "Chains of
-- Implicit Rules"). Rules are numbered in the order that `patterns_of` gives them.
use Rattle.std.specs.Prelude.{ℕ, zero, suc, Bool, true, false, not, ◌&&◌, nat_eq, nat_lt, List, [], ◌∷◌, filter, find}
use Rattle.std.specs.Prelude.{Option, None, is_some, if◌then◌else◌}
use Rattle.std.specs.List.{list_all, list_any}
use Rattle.std.specs.Option.{option_or}
use Rattle.kt_text.specs.Words.{Text}
use Rattle.kt_rules.specs.Names.{is_among, without_repeats}
use Rattle.kt_rules.specs.Suffixes.{all_needs}
use Rattle.kt_rules.specs.Entry.{Entry}
use Rattle.kt_graph.specs.Known.{unknown_of}
use Rattle.kt_graph.specs.search.Candidates.{Candidate, candidates_for}

-- the maximum number of rules in a chain (kati's own)
abbrev pub chain_limit : ℕ
chain_limit = 8

-- ---- the rules of a chain, by their numbers, in rising order

-- whether a rule is in a chain
abbrev pub is_used : List ℕ → ℕ → Bool
is_used used rule = list_any (nat_eq rule) used

-- a chain with one more rule
unfoldable pub with_rule : ℕ → List ℕ → List ℕ
with_rule rule [] = rule ∷ []
with_rule rule (first ∷ used) = if nat_lt rule first then rule ∷ first ∷ used else first ∷ with_rule rule used

-- whether a chain has a rule
abbrev pub is_begun : List ℕ → Bool
is_begun [] = false
is_begun (rule ∷ used) = true

-- ---- choices

-- what makes a name after a chain of rules, if anything does
abbrev pub Choosing : Type 0
Choosing = List ℕ → Text → Option Candidate

-- the candidates that may continue a chain: no rule is in a chain twice [Chains of Implicit Rules]
abbrev pub open_candidates : List Entry → List ℕ → Text → List Candidate
open_candidates rules used name =
    filter (λ candidate. not (is_used used candidate.rule)) (candidates_for rules (is_begun used) name)

-- whether all prerequisites of a candidate are known
abbrev pub is_met : List Text → Candidate → Bool
is_met known candidate = list_all (is_among known) (all_needs candidate.needs)

-- the unknown prerequisites of a candidate, in order and each once
abbrev pub unknown_needs : List Text → Candidate → List Text
unknown_needs known candidate = without_repeats (unknown_of known (all_needs candidate.needs))

-- whether the search finds a rule for each unknown prerequisite of a candidate
abbrev pub are_inferred : List Text → Choosing → List ℕ → Candidate → Bool
are_inferred known deeper used candidate =
    list_all (λ name. is_some (deeper (with_rule candidate.rule used) name)) (unknown_needs known candidate)

-- whether a candidate isn't terminal, and the search finds a rule for each of its unknown prerequisites
abbrev pub is_inferred : List Text → Choosing → List ℕ → Candidate → Bool
is_inferred known deeper used candidate = not candidate.is_last && are_inferred known deeper used candidate

-- the first candidate that is met, or else the first that is inferred
abbrev pub chosen_of : List Text → Choosing → List ℕ → List Candidate → Option Candidate
chosen_of known deeper used candidates =
    option_or (find (is_met known) candidates) (find (is_inferred known deeper used) candidates)

-- what makes a name after a chain to which a given number of rules may be added
unfoldable pub fitting : List Entry → List Text → ℕ → Choosing
fitting rules known zero used name = None
fitting rules known (suc left) used name =
    chosen_of known (fitting rules known left) used (open_candidates rules used name)

-- the rule that makes a name, without a chain before it; this choice doesn't depend on the chains that the name is in
-- (kati's own)
abbrev pub choice_of : List Entry → List Text → Text → Option Candidate
choice_of rules known name = fitting rules known chain_limit [] name
