-- The code's own candidates as those of the definitions (kati's own).
use Rattle.std.specs.Prelude.{◌≡◌, ℕ, ◌+◌, ◌-◌, ◌<◌, ◌≤◌, Bool, true, not, ◌||◌, ◌==◌, nat_le, All, length, take}
use Rattle.std.specs.Prelude.{filter, flat_map, filter_map, Some, None, option_map, unwrap_or, slice_get, if◌then◌else◌}
use Rattle.kt_graph.specs.inner.Prelude.{option_and_then, Candidate, needs_with, Option, range_with_len, slice_range}
use Rattle.kt_graph.specs.Prelude.{Text, Entry}
use Rattle.kt_graph.specs.views.Prelude.{List, list_any}
use Rattle.kt_rules.specs.Book.{is_terminal}
use Rattle.kt_graph.specs.declared.search.candidate.Candidate.{Candidate as HeldCandidate}
use Rattle.kt_graph.specs.declared.search.candidate.Fit.{Fit}

-- the places of a fit are in the name
pub record IsFitWithin (name : Text) (fit : Fit) : Type 0 where
  pub directory : fit.directory ≤ fit.start
  pub stem : fit.start ≤ fit.end
  pub name_end : fit.end ≤ length name
  pub size : fit.size ≡ fit.directory + (fit.end - fit.start)

abbrev pub fit_view : Text → Fit → Text × Text
fit_view name fit = (take fit.directory name, slice_range name fit.start fit.end)

-- a candidate of a rule
abbrev pub candidate_at : Text → Entry → HeldCandidate → Candidate
candidate_at name rule candidate = record {
  rule = candidate.rule;
  directory = take candidate.fit.directory name;
  stem = slice_range name candidate.fit.start candidate.fit.end;
  is_any = candidate.is_any;
  is_last = is_terminal rule.kind;
  needs = needs_with (take candidate.fit.directory name)
      (slice_range name candidate.fit.start candidate.fit.end) rule.needs;
}

-- a candidate, with the rule that has its number
abbrev pub candidate_view : List Entry → Text → HeldCandidate → Option Candidate
candidate_view rules name candidate = option_map
    (λ rule. candidate_at name rule candidate) (slice_get rules candidate.rule)

abbrev pub candidates_view : List Entry → Text → List HeldCandidate → List Candidate
candidates_view rules name candidates = filter_map (candidate_view rules name) candidates

abbrev pub found_view : List Entry → Text → Option HeldCandidate → Option Candidate
found_view rules name found = option_and_then (candidate_view rules name) found

-- each candidate has a rule, and its places are in the name
abbrev pub AreWithin : List Entry → Text → List HeldCandidate → Type 0
AreWithin rules name candidates = All (λ candidate. (candidate.rule < length rules)
    × IsFitWithin name candidate.fit) candidates

-- of two candidates, either of which may be absent, the one with the shorter stem, or the first
abbrev pub shorter_of : Option HeldCandidate → Option HeldCandidate → Option HeldCandidate
shorter_of best None = best
shorter_of None (Some other) = Some other
shorter_of (Some best) (Some other) = if nat_le best.fit.size other.fit.size then Some best else Some other

-- whether the rule with a number is terminal; if there is no rule, it counts as terminal
abbrev pub is_last_at : List Entry → ℕ → Bool
is_last_at rules number = unwrap_or (option_map (λ rule. is_terminal rule.kind) (slice_get rules number)) true

-- `without_any` and `by_size`, for candidates as the code holds them
abbrev pub stays : List Entry → HeldCandidate → Bool
stays rules candidate = not candidate.is_any || is_last_at rules candidate.rule

abbrev pub held_without_any : List Entry → Bool → List HeldCandidate → List HeldCandidate
held_without_any rules in_chain candidates =
    if in_chain || list_any (λ candidate. not candidate.is_any) candidates then filter (stays rules) candidates
    else candidates

abbrev pub held_by_size : ℕ → List HeldCandidate → List HeldCandidate
held_by_size longest candidates =
    flat_map (λ size. filter (λ candidate. candidate.fit.size == size) candidates) (range_with_len 0 (longest + 1))
