-- Where the texts of `ifeq (a,b)` are cut, as a relation between a text and a place of it (GNU make manual, "Syntax of
-- Conditionals"; that only parentheses count, as they stand in the file, is kati's own).
use Rattle.std.specs.Prelude.{◌≡◌, ℕ, ◌<◌, length, take, slice_index, MatchOption}
use Rattle.kt_eval.specs.Prelude.{Text}
use Rattle.kt_syntax.specs.views.Terms.{IsBalanced}
use Rattle.kt_eval.specs.reading.Conditions.{bare_place}

-- the byte is at the place, and each parenthesis before it is closed before it
pub record IsBare (wanted : ℕ) (text : Text) (place : ℕ) : Type 0 where
  pub within : place < length text
  pub is : slice_index text place ≡ wanted
  pub balanced : IsBalanced 40 41 (take place text)

-- the first such place
pub record IsFirstBare (wanted : ℕ) (text : Text) (place : ℕ) : Type 0 where
  pub is : IsBare wanted text place
  pub first : (k : ℕ) → k < place → ¬ IsBare wanted text k

-- `bare_place` finds the first such place, or none if there is none
abbrev pub BarePlaceLaw : Type 0
BarePlaceLaw =
    (wanted : ℕ) (text : Text)
    → MatchOption (bare_place wanted 0 0 text) ((place : ℕ) → ¬ IsBare wanted text place) (IsFirstBare wanted text)
