-- Names by their numbers: a number is the place of a name in a list (kati's own).
use Rattle.std.specs.Prelude.{◌≡◌, ℕ, nat_eq, List, [], ◌<◌, All, map, position, slice_get, Option, Some, unwrap_or}
use Rattle.std.specs.Cmp.Lexicographic.{pointwise}

-- the first place of a name
abbrev pub place_of : List (List ℕ) → List ℕ → Option ℕ
place_of names name = position (pointwise nat_eq name) names

-- the name with a number, or nothing
abbrev pub name_at : List (List ℕ) → ℕ → List ℕ
name_at names number = unwrap_or (slice_get names number) []

-- the names with these numbers
abbrev pub names_at : List (List ℕ) → List ℕ → List (List ℕ)
names_at names numbers = map (name_at names) numbers

-- the numbers are those of names, one by one
abbrev pub AreNumbersOf : List (List ℕ) → List ℕ → List (List ℕ) → Type 0
AreNumbersOf names numbers expected = map (slice_get names) numbers ≡ map Some expected

-- numbers of so many names
abbrev pub AreBelow : ℕ → List ℕ → Type 0
AreBelow count numbers = All (λ number. number < count) numbers
