-- Names without repeats, and the unknown prerequisites of a candidate.
use Rattle.std.proofs.Common.{arith, ◌≡◌, ℕ, ◌+◌, ◌<◌, ◌≤◌, Bool, true, false, cond, not, ◌&&◌, if◌then◌else◌, List, [], ◌∷◌, ◌++◌, length, get_or, drop, refl, sym, ap, ◌∙◌, subst, true≢false, ◌⊎◌, inl, inr, ⊎_elim, nat_eq, fold}
use Rattle.kt_graph.proofs.Common.{Contains, list_all, pointwise, same_text, cases_Bool, not-true, nat_list_eq_equiv, drop_more, drop_all, list_all-append, fold-append, Contains-append_left, Contains-push, Contains-push_cases, filter-append, Text, is_among, with_name, without_repeats, all_needs, Candidate, needed_name, needed_names, unknown_of, is_met, unknown_needs, first_or_rest, in_first, in_rest, none_in_empty}
use Rattle.kt_graph.proofs.lemmas.Membership.{all_pass, any_passes, each_passes, in_filter, kept_by_filter, one_passes}

-- ---- names among names

pub among_itself : (name : Text) → pointwise nat_eq name name ≡ true
among_itself name = nat_list_eq_equiv.refl name

pub among_from : (names : List Text) (name : Text) → Contains names name → is_among names name ≡ true
among_from names name c = any_passes (pointwise nat_eq name) names name c (among_itself name)

pub from_among : (names : List Text) (name : Text) → is_among names name ≡ true → Contains names name
from_among names name h =
    let found = one_passes (pointwise nat_eq name) names h in
    subst (λ other. Contains names other) (sym (same_text name found.0 (sym found.2))) found.1

-- ---- names without repeats

in_with_name : (names : List Text) (name one : Text) → Contains names one → Contains (with_name names name) one
in_with_name names name one c = by (is_among names name)
  where
    by : (b : Bool) → Contains (if b then names else names ++ name ∷ []) one
    by true = c
    by false = Contains-append_left names (name ∷ []) one c

added_name : (names : List Text) (name : Text) → Contains (with_name names name) name
added_name names name = by (is_among names name) refl
  where
    by : (b : Bool) → is_among names name ≡ b → Contains (if b then names else names ++ name ∷ []) name
    by true e = from_among names name e
    by false e = Contains-push names name

from_with_name : (names : List Text) (name one : Text) → Contains (with_name names name) one → Contains names one ⊎ (name ≡ one)
from_with_name names name one = by (is_among names name)
  where
    by : (b : Bool) → Contains (if b then names else names ++ name ∷ []) one → Contains names one ⊎ (name ≡ one)
    by true c = inl c
    by false c = Contains-push_cases names name one c

kept_in_fold : (names more : List Text) (one : Text) → Contains names one → Contains (fold with_name names more) one
kept_in_fold names [] one c = c
kept_in_fold names (name ∷ more) one c = kept_in_fold (with_name names name) more one (in_with_name names name one c)

added_in_fold : (names more : List Text) (one : Text) → Contains more one → Contains (fold with_name names more) one
added_in_fold names [] one c = absurd (none_in_empty one c)
added_in_fold names (name ∷ more) one c =
    ⊎_elim (λ e. kept_in_fold (with_name names name) more one (subst (λ other. Contains (with_name names name) other) e (added_name names name)))
    (λ rest. added_in_fold (with_name names name) more one rest) (first_or_rest name one more c)

from_fold : (names more : List Text) (one : Text) → Contains (fold with_name names more) one → Contains names one ⊎ Contains more one
from_fold names [] one c = inl c
from_fold names (name ∷ more) one c =
    ⊎_elim (λ before. ⊎_elim (λ old. inl old) (λ e. inr (subst (λ other. Contains (name ∷ more) other) e (in_first name more))) (from_with_name names name one before))
    (λ rest. inr (in_rest name one more rest)) (from_fold (with_name names name) more one c)

pub in_without_repeats : (names : List Text) (one : Text) → Contains names one → Contains (without_repeats names) one
unfolding without_repeats
in_without_repeats names one c = added_in_fold [] names one c

pub from_without_repeats : (names : List Text) (one : Text) → Contains (without_repeats names) one → Contains names one
unfolding without_repeats
from_without_repeats names one c = ⊎_elim (λ none. absurd (none_in_empty one none)) (λ h. h) (from_fold [] names one c)

-- ---- what isn't known

-- the unknown prerequisites of a candidate
pub is_needed : (known : List Text) (candidate : Candidate) (name : Text) → Contains (unknown_needs known candidate) name
    → Contains (all_needs candidate.needs) name × (is_among known name ≡ false)
is_needed known candidate name c =
    let kept = kept_by_filter (λ n. not (is_among known n)) (all_needs candidate.needs) name (from_without_repeats (unknown_of known (all_needs candidate.needs)) name c) in
    (kept.0, not-true (is_among known name) kept.1)

pub is_unknown : (known : List Text) (candidate : Candidate) (name : Text) → Contains (all_needs candidate.needs) name → is_among known name ≡ false
    → Contains (unknown_needs known candidate) name
is_unknown known candidate name c h = grind (arith, in_without_repeats, in_filter, not)

empty_list : {X : Type 0} (xs : List X) → ((x : X) → Contains xs x → ⊥) → xs ≡ []
empty_list [] h = refl
empty_list (x ∷ xs) h = absurd (h x (in_first x xs))

-- if all prerequisites of a candidate are known, none is unknown
pub met_none : (known : List Text) (candidate : Candidate) → is_met known candidate ≡ true → unknown_needs known candidate ≡ []
met_none known candidate met = empty_list (unknown_needs known candidate) (λ name c.
    let needed = is_needed known candidate name c in
    true≢false (sym (each_passes (is_among known) (all_needs candidate.needs) met name needed.0) ∙ needed.1))

pub none_met : (known : List Text) (candidate : Candidate) → unknown_needs known candidate ≡ [] → is_met known candidate ≡ true
none_met known candidate none = all_pass (is_among known) (all_needs candidate.needs) (λ name c.
    ⊎_elim (λ yes. yes) (λ not_known. absurd (none_in_empty name (subst (λ names. Contains names name) none (is_unknown known candidate name c not_known))))
    (cases_Bool (is_among known name)))

-- ---- how they are gathered

-- none remains
pub unknown_past : (known : List Text) (directory stem : Text) (names : List Text) (i : ℕ) → length names ≤ i → unknown_of known (needed_names directory stem (drop i names)) ≡ []
unfolding needed_names
unknown_past known directory stem names i past = ap (λ rest. unknown_of known (needed_names directory stem rest)) (drop_all i names past)

-- the prerequisites before `|` and those after it
pub unknown_both : (known before after : List Text)
    → fold with_name (fold with_name [] (unknown_of known before)) (unknown_of known after) ≡ without_repeats (unknown_of known (before ++ after))
unfolding without_repeats
unknown_both known before after = grind (arith, fold-append, filter-append, not)

-- one name, known or not
pub one_unknown : (known : List Text) (name : Text) (b : Bool) → is_among known name ≡ b → unknown_of known (name ∷ []) ≡ (if b then [] else name ∷ [])
one_unknown known name b e = grind (arith, cond, not)

-- the next prerequisite
pub unknown_step : (known : List Text) (directory stem : Text) (names before : List Text) (i : ℕ) (name needed : Text) → i < length names → name ≡ get_or names i name
    → needed ≡ needed_name directory stem name
    → fold with_name before (unknown_of known (needed_names directory stem (drop i names)))
    ≡ fold with_name (fold with_name before (unknown_of known (needed ∷ []))) (unknown_of known (needed_names directory stem (drop (i + 1) names)))
unfolding needed_names
unknown_step known directory stem names before i name needed h is e = grind (arith, drop_more, filter-append, not, fold-append)

-- all of two lists is known, or not the first
pub known_both : (known before after : List Text) (b : Bool) → true ≡ list_all (is_among known) before → b ≡ list_all (is_among known) after
    → b ≡ list_all (is_among known) (before ++ after)
known_both known before after b first second = grind (arith, list_all-append)

pub known_first : (known before after : List Text) → false ≡ list_all (is_among known) before → false ≡ list_all (is_among known) (before ++ after)
known_first known before after first = grind (arith, list_all-append)

-- the next prerequisite
pub known_step : (known : List Text) (directory stem : Text) (names : List Text) (i : ℕ) (name : Text) (b : Bool) → i < length names → name ≡ get_or names i name
    → b ≡ is_among known (needed_name directory stem name)
    → list_all (is_among known) (needed_names directory stem (drop i names)) ≡ (b && list_all (is_among known) (needed_names directory stem (drop (i + 1) names)))
unfolding needed_names
known_step known directory stem names i name b h is e = grind (arith, drop_more)

pub known_past : (known : List Text) (directory stem : Text) (names : List Text) (i : ℕ) → length names ≤ i
    → list_all (is_among known) (needed_names directory stem (drop i names)) ≡ true
unfolding needed_names
known_past known directory stem names i past = ap (λ rest. list_all (is_among known) (needed_names directory stem rest)) (drop_all i names past)
