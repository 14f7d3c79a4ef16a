-- The joined lines of a Ninja file (Ninja manual, "Lexical syntax": a dollar before a newline escapes the newline, and
-- spaces that begin the next line are dropped).
use Rattle.std.specs.Prelude.{ℕ, ◌+◌, ◌-◌, Bool, true, false, not, ◌==◌, ◌&&◌, List, [], ◌∷◌, ◌++◌, length, take, drop}
use Rattle.std.specs.Prelude.{Option, Some, None, if◌then◌else◌}
use Rattle.std.specs.List.{list_all, prefix_len}

-- bytes, as the language takes its texts
abbrev pub Bytes : Type 0
Bytes = List ℕ

-- a line with those that are joined to it, without newlines: the number of its first line in the file, from 1, its
-- text, and whether it ends with a newline
pub record JoinedLine : Type 0 where
  pub number : ℕ
  pub text : Bytes
  pub ended : Bool

-- a line of the file without its newline, and whether it had one
pub record FileLine : Type 0 where
  pub bytes : Bytes
  pub ended : Bool

-- lines of the file with one more byte in front of the first
abbrev pub with_byte : ℕ → List FileLine → List FileLine
with_byte b [] = record { bytes = b ∷ []; ended = false } ∷ []
with_byte b (l ∷ ls) = record { bytes = b ∷ l.bytes; ended = l.ended } ∷ ls

-- the text cut after each newline
unfoldable pub file_lines : Bytes → List FileLine
file_lines [] = []
file_lines (b ∷ bs) = if b == 10 then record { bytes = []; ended = true } ∷ file_lines bs
    else with_byte b (file_lines bs)

-- whether the text ends in a dollar that no other dollar escapes; by whether such a dollar stands before the text
unfoldable pub ends_in_dollar : Bool → Bytes → Bool
ends_in_dollar pending [] = pending
ends_in_dollar pending (b ∷ bs) = ends_in_dollar (not pending && b == 36) bs

-- a line without the spaces that it begins with
abbrev pub without_indent : Bytes → Bytes
without_indent text = drop (prefix_len (λ b. b == 32) text) text

-- a comment: its first byte after spaces is `#`
unfoldable pub is_comment : Bytes → Bool
is_comment [] = false
is_comment (b ∷ bs) = if b == 32 then is_comment bs else b == 35

-- an empty line, or spaces alone
abbrev pub is_blank_line : Bytes → Bool
is_blank_line text = list_all (λ b. b == 32) text

-- what was joined so far of a line that goes on: the number of its first line, and its text
pub record OpenLine : Type 0 where
  pub first : ℕ
  pub front : Bytes

-- the number that a joined line has
abbrev pub first_number : ℕ → Option OpenLine → ℕ
first_number number None = number
first_number number (Some begun) = begun.first

-- the text of a joined line, with a further line of the file
abbrev pub joined_text : Option OpenLine → Bytes → Bytes
joined_text None bytes = bytes
joined_text (Some begun) bytes = begun.front ++ without_indent bytes

-- whether the next line of the file is joined to it: a comment goes on to its newline, and no further
abbrev pub goes_on : FileLine → Bytes → Bool
goes_on line joined = line.ended && (ends_in_dollar false line.bytes && not (is_comment joined))

-- a line that still goes on where the text ends has no newline
abbrev pub left_over : Option OpenLine → List JoinedLine
left_over None = []
left_over (Some begun) = record { number = begun.first; text = begun.front; ended = false } ∷ []

-- the joined lines of file lines, the first of which has this number, after what was begun
unfoldable pub joined_from : ℕ → Option OpenLine → List FileLine → List JoinedLine
joined_from number begun [] = left_over begun
joined_from number begun (l ∷ ls) =
    let joined = joined_text begun l.bytes in
    if goes_on l joined
    then joined_from (number + 1) (Some (record {
      first = first_number number begun;
      front = take (length joined - 1) joined;
    })) ls
    else record { number = first_number number begun; text = joined; ended = l.ended }
    ∷ joined_from (number + 1) None ls

-- the joined lines of a text, numbered from 1 by their first file line
unfoldable pub joined_lines : Bytes → List JoinedLine
joined_lines text = joined_from 1 None (file_lines text)
