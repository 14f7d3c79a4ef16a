-- Targets that are told by the numbers of their names.
use Rattle.std.proofs.Common.{◌≡◌, ℕ, ◌+◌, ◌<◌, List, ◌∷◌, length, drop, map, get_or, sym, ap}
use Rattle.kt_rules.proofs.Common.{IsDistinct, bytes_eq, drop_more, Text, Spot, Target, line_needs, list_of, name_at, named_at, names_at, numbered_target, spots_at, target_of}
use Rattle.kt_rules.specs.views.Prelude.{BookRule}
use Rattle.kt_rules.specs.views.Targets.{text_in}
use Rattle.kt_rules.specs.inner.Lists.{list_at}
use Rattle.kt_rules.proofs.lemmas.book.NoteLemmas.{place_at}

-- the targets of a rule from a place on
abbrev pub targets_from : BookRule → ℕ → List Target
targets_from rule from = map (target_of (text_in rule.pattern) (line_needs rule)) (names_at rule.names.now (drop from rule.targets.now))

-- the first of them, and those after it
pub targets_left : (rule : BookRule) (i : ℕ) → i < length rule.targets.now
    → targets_from rule i ≡ numbered_target rule (get_or rule.targets.now i 0) ∷ targets_from rule (i + 1)
targets_left rule i within =
    ap (λ (numbers : List ℕ). map (target_of (text_in rule.pattern) (line_needs rule)) (names_at rule.names.now numbers)) (drop_more rule.targets.now i 0 within)

-- the spots at a number are those of its name
pub noted_at : (names : List Text) (lists : List (List Spot)) (number : ℕ) → IsDistinct bytes_eq names → number < length names
    → list_at lists number ≡ spots_at (names, lists) (name_at names number)
noted_at names lists number differ within =
    sym (ap (λ place. list_of place lists) (place_at names (name_at names number) number differ (named_at names number within)))
