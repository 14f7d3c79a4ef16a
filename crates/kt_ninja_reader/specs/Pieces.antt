-- Values and paths as pieces (Ninja manual, "Lexical syntax": the escapes `$$`, `$ `, `$:`, `$name` and `${name}`).
use Rattle.std.specs.Prelude.{ℕ, Bool, ◌==◌, ◌&&◌, ◌||◌, nat_le, List, [], ◌∷◌, ◌++◌, Option, Some, None, option_map}
use Rattle.std.specs.Prelude.{if◌then◌else◌}
use Rattle.std.specs.Option.{option_and_then}
use Rattle.kt_ninja_reader.specs.JoinedLines.{Bytes}
use Rattle.kt_ninja.specs.Writable.{is_empty}

-- a byte as it stands, a byte after a dollar, or the variable of a name
pub data Piece : Type 0 where
  Plain : ℕ → Piece
  Escaped : ℕ → Piece
  Variable : Bytes → Piece

-- a letter or digit of ASCII
abbrev pub is_letter_or_digit : ℕ → Bool
is_letter_or_digit b = (nat_le 97 b && nat_le b 122) || ((nat_le 65 b && nat_le b 90) || (nat_le 48 b && nat_le b 57))

-- what a variable's name without braces is made of: letters, digits, `_` and `-`
abbrev pub is_short_name_byte : ℕ → Bool
is_short_name_byte b = is_letter_or_digit b || (b == 95 || b == 45)

-- what any other name is made of: the bytes of a name without braces, and `.`
abbrev pub is_long_name_byte : ℕ → Bool
is_long_name_byte b = is_short_name_byte b || b == 46

-- what a dollar escapes: dollar, space, colon
abbrev pub is_escapable : ℕ → Bool
is_escapable b = b == 36 || (b == 32 || b == 58)

-- where in a text the next byte stands: outside of all escapes, right after a dollar, or in a variable's name, of
-- which these bytes stand before it
pub data Where : Type 0 where
  outside : Where
  after_dollar : Where
  in_name : Bytes → Where
  in_braces : Bytes → Where

-- what a byte ends, and where the next one stands
pub record PieceStep : Type 0 where
  pub done : List Piece
  pub next : Where

-- the step of a byte outside of all escapes, after these pieces
abbrev pub outer_step : List Piece → ℕ → PieceStep
outer_step before b =
    if b == 36 then record { done = before; next = after_dollar }
    else record { done = before ++ Plain b ∷ []; next = outside }

-- the step of the byte after a dollar; none where it escapes nothing
abbrev pub dollar_step : ℕ → Option PieceStep
dollar_step b =
    if is_escapable b then Some (record { done = Escaped b ∷ []; next = outside })
    else (if b == 123 then Some (record { done = []; next = in_braces [] })
    else (if is_short_name_byte b then Some (record { done = []; next = in_name (b ∷ []) }) else None))

-- the step of a byte in braces: a name has at least one byte
abbrev pub brace_step : Bytes → ℕ → Option PieceStep
brace_step name b =
    if b == 125 then (if is_empty name then None else Some (record { done = Variable name ∷ []; next = outside }))
    else (if is_long_name_byte b then Some (record { done = []; next = in_braces (name ++ b ∷ []) }) else None)

-- the step of any byte; a name without braces is as long as can be
abbrev pub step : Where → ℕ → Option PieceStep
step outside b = Some (outer_step [] b)
step after_dollar b = dollar_step b
step (in_name name) b =
    if is_short_name_byte b then Some (record { done = []; next = in_name (name ++ b ∷ []) })
    else Some (outer_step (Variable name ∷ []) b)
step (in_braces name) b = brace_step name b

-- what the end of the text ends; none where something must follow
abbrev pub last_pieces : Where → Option (List Piece)
last_pieces outside = Some []
last_pieces after_dollar = None
last_pieces (in_name name) = Some (Variable name ∷ [])
last_pieces (in_braces name) = None

-- the pieces of a text whose first byte stands in this place
unfoldable pub pieces_from : Where → Bytes → Option (List Piece)
pieces_from place [] = last_pieces place
pieces_from place (b ∷ bs) = option_and_then
    (λ s. option_map (λ later. s.done ++ later) (pieces_from s.next bs)) (step place b)

-- the pieces of a text, if each of its dollars begins an escape or a variable
unfoldable pub pieces : Bytes → Option (List Piece)
pieces text = pieces_from outside text
