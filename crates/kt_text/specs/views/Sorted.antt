-- Words in byte order (GNU make manual, "Functions for String Substitution and Analysis", on `sort`).
use Rattle.std.specs.Prelude.{ℕ, zero, suc, ◌+◌, ◌*◌, ◌^◌, ◌↔◌, List, [], ◌∷◌}
use Rattle.std.specs.List.{Contains}
use Rattle.kt_text.specs.Prelude.{nat_cmp, slice_cmp, Text}
use Rattle.std.specs.List.Sorted.{IsStrictlySortedBy}

-- the second list rises by bytes, without a repeat, and has exactly the words of the first
pub record IsSorting (texts sorted : List Text) : Type 0 where
  pub rises : IsStrictlySortedBy (slice_cmp nat_cmp) sorted
  pub members : (word : Text) → Contains sorted word ↔ Contains texts word

-- the first n bytes of a text as a number, the first byte the highest, and 0 for each that isn't there (kati's own)
unfoldable pub front_number : ℕ → Text → ℕ
front_number zero text = 0
front_number (suc n) [] = 0
front_number (suc n) (byte ∷ text) = byte * 256 ^ n + front_number n text
