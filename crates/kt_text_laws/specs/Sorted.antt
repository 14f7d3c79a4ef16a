-- Words in byte order (GNU make manual, "Functions for String Substitution and Analysis", on `sort`).
use Rattle.std.specs.Prelude.{◌≡◌, List}
use Rattle.kt_text.specs.Prelude.{Text}
use Rattle.kt_text.specs.Functions.{word_set}
use Rattle.kt_text.specs.views.Sorted.{IsSorting}

-- the list after `sort` is such a one, and there is no other
pub record SortLaw : Type 0 where
  pub sorts : (texts : List Text) → IsSorting texts (word_set texts)
  pub only : (texts sorted : List Text) → IsSorting texts sorted → sorted ≡ word_set texts
