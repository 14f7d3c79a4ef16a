-- Names and lists of names by numbers, as a dictionary has them (kati's own).
use Rattle.std.specs.Prelude.{◌≡◌, ℕ, ◌<◌, List, [], get_or, length, option_map, slice_get, Option, Some}
use Rattle.kt_text.specs.Words.{Text}
use Rattle.kt_list.specs.views.Names.{AreNumbersOf}
use Rattle.kt_list.specs.views.Prefixes.{HasMore}

-- the number of a name, if there is one
abbrev pub IsNumberOf : List Text → Option ℕ → Option Text → Type 0
IsNumberOf names number name = option_map (slice_get names) number ≡ option_map Some name

-- the list with the number has these names
pub record IsListOf (dictionary : List Text × List (List ℕ)) (number : ℕ) (list : List Text) : Type 0 where
  pub within : number < length dictionary.1
  pub numbers : AreNumbersOf dictionary.0 (get_or dictionary.1 number []) list

-- the second dictionary has what the first has, with the same numbers
abbrev pub GrowsDictionary : List Text × List (List ℕ) → List Text × List (List ℕ) → Type 0
GrowsDictionary old new = HasMore old.0 new.0 × HasMore old.1 new.1
