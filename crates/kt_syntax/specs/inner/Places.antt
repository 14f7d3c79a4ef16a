-- What the walks over a line's symbols return (kati's own).
use Rattle.std.specs.Prelude.{ℕ, List, ◌≡◌, ◌≤◌, Option, length, option_map, take}
use Rattle.kt_syntax.specs.Prelude.{Text, mask_of}
use Rattle.kt_syntax.specs.inner.Prelude.{assignment_parts}
use Rattle.kt_syntax.specs.declared.kind.Parts.{Parts}

-- the symbols of a given number of first bytes of a line
abbrev pub first_symbols : ℕ → Text → List ℕ
first_symbols end text = take end (mask_of text)

-- a place from one to another
abbrev pub IsBetween : ℕ → ℕ → ℕ → Type 0
IsBetween from end place = (from ≤ place) × (place ≤ end)

-- these are the parts of the assignment whose name begins at a place, or none where there is none
abbrev pub ArePartsAt : ℕ → ℕ → Text → Option Parts → Type 0
ArePartsAt begin end text parts =
    option_map (λ found. record { name = found.name; operator = found.operator; value = found.value }) parts
    ≡ assignment_parts text (first_symbols end text) begin

-- its name ends at a place from the first on, and its value begins within the line
abbrev pub StandsWithin : ℕ → Text → Parts → Type 0
StandsWithin begin text parts = (begin ≤ parts.name) × ((parts.name ≤ length text) × (parts.value ≤ length text))
