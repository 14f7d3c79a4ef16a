-- The groups of physical lines that make logical ones.
use Rattle.std.proofs.Common.{◌≡◌, Bool, true, false, List, [], ◌∷◌, refl, length, arith}
use Rattle.kt_text.proofs.Common.{false≢true, onto_first, lines_of, lines-nil, lines-step, Text, is_nonempty, is_continued, groups}

pub groups-ended : (line : Text) (lines : List Text) → is_continued line ≡ false → groups (line ∷ lines) ≡ (line ∷ []) ∷ groups lines
unfolding groups
groups-ended line lines h = rw h refl

pub groups-continued : (line : Text) (lines : List Text) → is_continued line ≡ true → groups (line ∷ lines) ≡ onto_first line (groups lines)
unfolding groups
groups-continued line lines h = rw h refl

-- the first group begins with the first line
pub record BeginsWith (line : Text) (found : List (List Text)) : Type 0 where
  pub others : List Text
  pub later : List (List Text)
  pub are : found ≡ (line ∷ others) ∷ later

begins_onto : (line : Text) (found : List (List Text)) → BeginsWith line (onto_first line found)
begins_onto line found = grind arith

begins_by : (continued : Bool) (line : Text) (lines : List Text) → is_continued line ≡ continued → BeginsWith line (groups (line ∷ lines))
begins_by continued line lines h = grind (arith, groups-continued, begins_onto, groups-ended)

pub groups-begins : (line : Text) (lines : List Text) → BeginsWith line (groups (line ∷ lines))
groups-begins line lines = begins_by (is_continued line) line lines refl

-- lines of a text that has bytes
pub record HasLine (found : List Text) : Type 0 where
  pub line : Text
  pub lines : List Text
  pub are : found ≡ line ∷ lines

pub lines-some : (text : Text) → is_nonempty text ≡ true → HasLine (lines_of text)
lines-some text h = grind (arith, false≢true, lines-step)

pub lines-none : (text : Text) → is_nonempty text ≡ false → lines_of text ≡ []
lines-none text h = grind (arith, lines-nil, false≢true)

pub lines-empty : (text : Text) → length text ≡ 0 → lines_of text ≡ []
lines-empty [] h = lines-nil
lines-empty (byte ∷ text) h = absurd (omega arith)
