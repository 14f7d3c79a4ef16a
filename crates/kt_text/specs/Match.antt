-- Patterns with a percent sign (GNU make manual, "Introduction to Pattern Rules"; "Functions for String Substitution
-- and Analysis", on `patsubst`). Only the first percent sign of a pattern counts.
use Rattle.std.specs.Prelude.{ℕ, ◌+◌, ◌-◌, Bool, ◌&&◌, ◌==◌, nat_eq, nat_le, length, Option, Some, None, if◌then◌else◌}
use Rattle.kt_text.specs.Prelude.{list_any, before_first, after_first, starts_with, ends_with, Text}

-- the byte that stands for any text [Introduction to Pattern Rules]
unfoldable pub is_percent : ℕ → Bool
is_percent byte = byte == 37

-- whether the pattern has a percent sign
unfoldable pub has_percent : Text → Bool
has_percent pattern = list_any is_percent pattern

-- the part of a pattern before its first percent sign
unfoldable pub pattern_front : Text → Text
pattern_front pattern = before_first is_percent pattern

-- the part of a pattern after its first percent sign
unfoldable pub pattern_back : Text → Text
pattern_back pattern = after_first is_percent pattern

-- whether the word begins with one text and ends with the other, without sharing a byte
unfoldable pub is_between : Text → Text → Text → Bool
is_between front back word =
    nat_le (length front + length back) (length word) && (starts_with nat_eq word front && ends_with nat_eq word back)

-- where the stem stands in the word: its first place and the place after it
unfoldable pub stem_span : Text → Text → Option (ℕ × ℕ)
stem_span pattern word =
    if has_percent pattern && is_between (pattern_front pattern) (pattern_back pattern) word
    then Some (length (pattern_front pattern), length word - length (pattern_back pattern)) else None
