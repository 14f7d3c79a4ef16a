-- Pieces that are cut off a text one after another (the reader's own).
use Rattle.std.specs.Prelude.{◌≡◌, ◌≤◌, ℕ, Bool, true, false, not, ◌==◌, ◌&&◌, List, [], ◌∷◌, ◌++◌, length, Option}
use Rattle.kt_ninja_reader.specs.inner.Prelude.{Some, None, option_map, outside, pieces_from}
use Rattle.kt_ninja_reader.specs.Prelude.{Bytes, list_any}
use Rattle.kt_ninja_reader.specs.declared.spelling.DollarCut.{DollarCut}
use Rattle.kt_ninja_reader.specs.declared.spelling.Dollar.{Dollar}
use Rattle.kt_ninja_reader.specs.declared.spelling.Dollar.TheVariants.{Byte, Variable as Named}
use Rattle.kt_ninja_reader.specs.Pieces.{Piece, Plain, Escaped, Variable, Where, in_name, is_long_name_byte}
use Rattle.kt_ninja_reader.specs.views.Spellings.{name_goes_on}
use Rattle.kt_ninja_reader.specs.inner.Spelled.{is_spelled, pieces_in}
use Rattle.kt_ninja_reader.specs.Forms.{is_plain_byte}

-- what a dollar begins, as a piece
abbrev pub dollar_piece : Dollar → Piece
dollar_piece (Byte b) = Escaped b
dollar_piece (Named name) = Variable name.now

-- from this place on the text is what a dollar begins, and then what stands after it
pub record CutsOff (place : Where) (text : Bytes) (cut : DollarCut) : Type 0 where
  pub first : pieces_from place text
      ≡ option_map (λ later. dollar_piece cut.dollar ∷ later) (pieces_from outside cut.after.now)
  pub less : length cut.after.now ≤ length text

-- the text begins with a name, which is cut off
abbrev pub CutsShort : Bytes → DollarCut → Type 0
CutsShort text cut = (name_goes_on text ≡ true) × CutsOff (in_name []) text cut

-- the text ends, or goes on with a byte that passes
abbrev pub stops_at : (ℕ → Bool) → Bytes → Type 0
stops_at test [] = Unit {0}
stops_at test (b ∷ bs) = test b ≡ true

-- a byte that stands for itself and in no name
abbrev pub is_own_byte : ℕ → Bool
is_own_byte b = not (b == 36) && (not (b == 125) && not (is_long_name_byte b))

-- a text that is cut at a mark: both sides have pieces, and between them stands the first plain mark
pub record AreSides (mark : ℕ) (text front after : Bytes) : Type 0 where
  pub left : is_spelled front ≡ true
  pub right : is_spelled after ≡ true
  pub both : pieces_in text ≡ pieces_in front ++ Plain mark ∷ pieces_in after
  pub free : list_any (is_plain_byte mark) (pieces_in front) ≡ false

-- the piece that a dollar begins, if there is one
abbrev pub dollar_pieces : Option Dollar → List Piece
dollar_pieces None = []
dollar_pieces (Some dollar) = dollar_piece dollar ∷ []

-- the names of the variables among pieces
unfoldable pub variable_names : List Piece → List Bytes
variable_names [] = []
variable_names (Plain b ∷ ps) = variable_names ps
variable_names (Escaped b ∷ ps) = variable_names ps
variable_names (Variable name ∷ ps) = name ∷ variable_names ps
