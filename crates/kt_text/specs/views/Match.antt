-- A word that a pattern matches, as a relation (GNU make manual, "Introduction to Pattern Rules").
use Rattle.std.specs.Prelude.{◌≡◌, false, ◌∷◌, ◌++◌, All}
use Rattle.kt_text.specs.Prelude.{Text}
use Rattle.kt_text.specs.Match.{is_percent}

-- the pattern is `front`, its first percent sign and `back`; the word is `front`, the stem and `back`
pub record Match (pattern word stem : Text) : Type 0 where
  pub front : Text
  pub back : Text
  pub first : All (λ byte. is_percent byte ≡ false) front
  pub cut : pattern ≡ front ++ 37 ∷ back
  pub covers : word ≡ front ++ (stem ++ back)
