-- Rules by the ends of their targets, as the code holds them (kati's own).
use Rattle.std.specs.Prelude.{◌≡◌, ℕ, ◌-◌, ◌≤◌, ◌++◌, false, All, List, drop, length, filter_map}
use Rattle.kt_graph.specs.inner.Prelude.{slice_get, Option, Some, option_and_then, Target}
use Rattle.kt_graph.specs.Prelude.{Contains, Text, Entry}
use Rattle.kt_text.specs.Match.{pattern_back}
use Rattle.kt_rules.specs.views.Indexes.{noted_at}
use Rattle.kt_graph.specs.declared.search.ends.TargetEnds.{TargetEnds}
use Rattle.kt_graph.specs.search.Candidates.{Candidate, candidate_of, has_slash}

-- the numbers at an end
abbrev pub numbers_at : TargetEnds → Text → List ℕ
numbers_at ends end = noted_at ends.numbers end

-- a number is noted at an end, and the end's length is noted
abbrev pub IsNoted : TargetEnds → Text → ℕ → Type 0
IsNoted ends end number = Contains (numbers_at ends end) number × Contains ends.lengths.keys (length end)

-- what was noted stays noted
abbrev pub KeepsNoted : TargetEnds → TargetEnds → Type 0
KeepsNoted old new = (end : Text) (number : ℕ) → IsNoted old end number → IsNoted new end number

pub record NotesEnd (old new : TargetEnds) (end : Text) (number : ℕ) : Type 0 where
  pub noted : IsNoted new end number
  pub kept : KeepsNoted old new

-- a number is noted at the ends of these targets
abbrev pub AreNoted : TargetEnds → List Target → ℕ → Type 0
AreNoted ends targets number = All (λ target. IsNoted ends (pattern_back target.name) number) targets

pub record NotesAll (old new : TargetEnds) (targets : List Target) (number : ℕ) : Type 0 where
  pub noted : AreNoted new targets number
  pub kept : KeepsNoted old new

-- each rule's number is noted at the ends of its targets
abbrev pub AreAllNoted : TargetEnds → List Entry → Type 0
AreAllNoted ends rules = (number : ℕ) (rule : Entry) → slice_get rules number ≡ Some rule
    → AreNoted ends rule.targets number

-- all that is noted at the ends of the name with one of these lengths is found
abbrev pub HasAll : TargetEnds → Text → List ℕ → List ℕ → Type 0
HasAll ends name lengths found =
    (length_of : ℕ) (number : ℕ) → Contains lengths length_of → length_of ≤ length name
    → Contains (numbers_at ends (drop (length name - length_of) name)) number → Contains found number

-- the rule with a number as a candidate for a name
abbrev pub candidate_numbered : List Entry → Text → ℕ → Option Candidate
candidate_numbered rules name number = option_and_then (λ rule. candidate_of number rule name) (slice_get rules number)

abbrev pub candidates_numbered : List Entry → Text → List ℕ → List Candidate
candidates_numbered rules name numbers = filter_map (candidate_numbered rules name) numbers

-- a text ends with two bytes, none of which is a slash
pub record IsFixedEnd (text end : Text) : Type 0 where
  pub front : Text
  pub cut : text ≡ front ++ end
  pub two : length end ≡ 2
  pub plain : has_slash end ≡ false
