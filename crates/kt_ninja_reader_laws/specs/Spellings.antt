-- Pieces by their spellings (Ninja manual, "Lexical syntax"): what `pieces` gives is the one way to cut a text.
use Rattle.std.specs.Prelude.{◌≡◌, ◌⊎◌, ℕ, Bool, true, false, ◌==◌, List, [], ◌∷◌, ◌++◌, Some}
use Rattle.std.specs.List.{concat}
use Rattle.kt_ninja_reader.specs.Prelude.{list_all, Bytes, is_empty, pieces}
use Rattle.kt_ninja_reader.specs.Pieces.{Piece, Plain, Escaped, Variable, is_escapable, is_long_name_byte, is_short_name_byte}
use Rattle.kt_ninja_reader.specs.views.Spellings.{name_goes_on}

-- a name: at least one byte, and all of this kind
abbrev pub IsNameOf : (ℕ → Bool) → Bytes → Type 0
IsNameOf test name = (is_empty name ≡ false) × (list_all test name ≡ true)

-- how a piece is spelled in front of this text: a byte but the dollar as it is, an escaped one after a dollar, and a
-- variable as `$name` or `${name}`. A name without braces is as long as can be
abbrev pub IsSpelled : Piece → Bytes → Bytes → Type 0
IsSpelled (Plain b) spelling after = (spelling ≡ b ∷ []) × ((b == 36) ≡ false)
IsSpelled (Escaped b) spelling after = (spelling ≡ 36 ∷ b ∷ []) × (is_escapable b ≡ true)
IsSpelled (Variable name) spelling after =
    ((spelling ≡ 36 ∷ name) × IsNameOf is_short_name_byte name × (name_goes_on after ≡ false))
    ⊎ ((spelling ≡ 36 ∷ 123 ∷ name ++ 125 ∷ []) × IsNameOf is_long_name_byte name)

-- each piece has its spelling in front of those after it
abbrev pub AreSpelled : List Piece → List Bytes → Type 0
AreSpelled [] [] = Unit {0}
AreSpelled (p ∷ ps) (s ∷ ss) = IsSpelled p s (concat ss) × AreSpelled ps ss
AreSpelled (p ∷ ps) [] = ⊥
AreSpelled [] (s ∷ ss) = ⊥

-- the spellings of the pieces put together are the text; any pieces whose spellings are the text are those that
-- `pieces` gives; and two cuttings of one text are the same, spelling by spelling
pub record PieceLaw : Type 0 where
  pub some : (text : Bytes) (found : List Piece) → pieces text ≡ Some found
      → (spellings : List Bytes) × (concat spellings ≡ text) × AreSpelled found spellings
  pub only : (found : List Piece) (spellings : List Bytes) → AreSpelled found spellings
      → pieces (concat spellings) ≡ Some found
  pub one : (first second : List Piece) (spellings others : List Bytes) → AreSpelled first spellings
      → AreSpelled second others → concat spellings ≡ concat others → (first ≡ second) × (spellings ≡ others)
