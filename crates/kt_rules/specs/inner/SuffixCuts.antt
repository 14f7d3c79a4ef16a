-- How the program finds suffixes in a name by their lengths alone (kati's own).
use Rattle.std.specs.Prelude.{◌≡◌, ℕ, min, nat_eq, nat_lt, Bool, true, false, ◌&&◌, List, [], ◌∷◌, ◌++◌, length, find}
use Rattle.std.specs.Prelude.{Option, Some, None, if◌then◌else◌, is_some}
use Rattle.kt_rules.specs.inner.Prelude.{ends_with, position_from, Spot}
use Rattle.kt_rules.specs.Prelude.{list_any, range_with_len, option_map_or, Text, Entry}
use Rattle.kt_rules.specs.Names.{is_among}
use Rattle.kt_rules.specs.inner.Slots.{spot_rule}
use Rattle.kt_rules.specs.Suffixes.{is_bare, is_cut_at, is_single, needs_nothing}

-- ---- lengths

-- whether a number is among others
abbrev pub is_number_among : List ℕ → ℕ → Bool
is_number_among numbers number = list_any (nat_eq number) numbers

-- numbers with one more at the end, unless they have it already
abbrev pub with_number : List ℕ → ℕ → List ℕ
with_number numbers number = if is_number_among numbers number then numbers else numbers ++ number ∷ []

-- numbers with the lengths of names added, each unless they have it already
unfoldable pub lengths_with : List ℕ → List Text → List ℕ
lengths_with lengths [] = lengths
lengths_with lengths (name ∷ names) = lengths_with (with_number lengths (length name)) names

-- the length of each name is among the lengths
abbrev pub HaveLengths : List Text → List ℕ → Type 0
HaveLengths names lengths = (name : Text) → is_among names name ≡ true → is_number_among lengths (length name) ≡ true

-- the new lengths include the lengths of all names that the old ones include
abbrev pub KeepLengths : List ℕ → List ℕ → Type 0
KeepLengths old new = (names : List Text) → HaveLengths names old → HaveLengths names new

-- ---- names cut into two suffixes

-- the first place of one of the lengths at which a name is cut into two suffixes
unfoldable pub first_cut : List Text → List ℕ → Text → Option ℕ
first_cut suffixes lengths name =
    find (λ place. is_number_among lengths place && is_cut_at suffixes name place) (range_with_len 0 (length name))

-- the place after a first suffix of one length, if the name is cut into two suffixes there
unfoldable pub cut_after : List Text → Text → ℕ → Option ℕ
cut_after suffixes name front =
    find (λ place. nat_eq place front && is_cut_at suffixes name place) (range_with_len 0 (length name))

-- whether the name is cut there
abbrev pub is_cut_inside : List Text → Text → ℕ → Bool
is_cut_inside suffixes name front = nat_lt front (length name) && is_cut_at suffixes name front

-- ---- suffixes at the end of a name

-- the number of the first suffix of one of the lengths that a name ends with
unfoldable pub first_end : List Text → List ℕ → Text → Option ℕ
first_end suffixes lengths name =
    position_from (λ suffix. is_number_among lengths (length suffix) && ends_with nat_eq name suffix) 0 suffixes

-- the number of the suffix of one length that a name ends with
unfoldable pub end_of_length : List Text → Text → ℕ → Option ℕ
end_of_length suffixes name len =
    position_from (λ suffix. nat_eq (length suffix) len && ends_with nat_eq name suffix) 0 suffixes

-- the smaller of two numbers, either of which may be absent
abbrev pub earlier : Option ℕ → Option ℕ → Option ℕ
earlier None other = other
earlier (Some place) None = Some place
earlier (Some place) (Some next) = Some (min place next)

-- ---- rules

-- whether a rule may have the form of a suffix rule, whatever a static pattern gives its targets
abbrev pub may_be_bare : Entry → Bool
may_be_bare rule = is_single rule.kind && (is_some rule.recipe && needs_nothing rule.needs)

-- whether the rule at a spot has the form of a suffix rule
abbrev pub is_bare_at : List Entry → Spot → Bool
is_bare_at rules spot = option_map_or is_bare (spot_rule rules spot) false
