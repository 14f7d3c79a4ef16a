-- Joined lines by what stands in the file (Ninja manual, "Lexical syntax"): exactly the escaped newlines go, each with
-- the spaces after it.
use Rattle.std.specs.Prelude.{◌≡◌, ◌⊎◌, ℕ, ◌+◌, Bool, true, false, not, ◌==◌, ◌∷◌, ◌++◌, List, [], length, if◌then◌else◌}
use Rattle.std.specs.List.{flat_map, list_all}
use Rattle.kt_ninja_reader.specs.JoinedLines.{Bytes, JoinedLine, ends_in_dollar, is_comment, joined_lines, without_indent}

-- a joined line: what stands in front of each of its escaped newlines, what stands after the last of them, and
-- whether a newline ends it
pub record ContinuedLine : Type 0 where
  pub fronts : List Bytes
  pub last : Bytes
  pub ended : Bool

-- as it stands in the file: an escaped newline is a dollar and a newline
abbrev pub fronts_in_file : List Bytes → Bytes
fronts_in_file [] = []
fronts_in_file (f ∷ fs) = f ++ 36 ∷ 10 ∷ fronts_in_file fs

abbrev pub end_in_file : Bool → Bytes
end_in_file ended = if ended then 10 ∷ [] else []

abbrev pub in_file : List ContinuedLine → Bytes
in_file [] = []
in_file (l ∷ ls) = fronts_in_file l.fronts ++ (l.last ++ (end_in_file l.ended ++ in_file ls))

-- what is kept of its lines: all but the spaces after an escaped newline
abbrev pub kept_of : List Bytes → Bytes
kept_of [] = []
kept_of (l ∷ ls) = l ++ flat_map without_indent ls

-- the lines, the first of which has this number
abbrev pub numbered_lines : ℕ → List ContinuedLine → List JoinedLine
numbered_lines number [] = []
numbered_lines number (l ∷ ls) = record { number = number; text = kept_of (l.fronts ++ l.last ∷ []); ended = l.ended }
    ∷ numbered_lines (number + length l.fronts + 1) ls

abbrev pub IsOneLine : Bytes → Type 0
IsOneLine text = list_all (λ b. not (b == 10)) text ≡ true

-- no dollar escapes the one that stands after each front
abbrev pub AreUnescaped : List Bytes → Type 0
AreUnescaped [] = Unit {0}
AreUnescaped (f ∷ fs) = IsOneLine f × (ends_in_dollar false f ≡ false) × AreUnescaped fs

-- the newline that ends a line isn't escaped: in front of it stands no dollar, or an escaped one, or a comment
abbrev pub IsEnd : List Bytes → Bytes → Type 0
IsEnd fronts last = (ends_in_dollar false last ≡ false) ⊎ (is_comment (kept_of (fronts ++ last ∷ [])) ≡ true)

-- what has no newline at its end stands last in the file, and isn't empty there
abbrev pub IsUnended : List Bytes → Bytes → List ContinuedLine → Type 0
IsUnended fronts last after = (after ≡ []) × (fronts ++ last ∷ [] ≡ [] ∷ [] → ⊥)

abbrev pub EndsRight : Bool → List Bytes → Bytes → List ContinuedLine → Type 0
EndsRight true fronts last after = IsEnd fronts last
EndsRight false fronts last after = IsUnended fronts last after

-- lines of a file: no escaped newline stands in what is kept, and none in a comment goes
abbrev pub AreContinued : List ContinuedLine → Type 0
AreContinued [] = Unit {0}
AreContinued (l ∷ ls) = AreUnescaped l.fronts × (is_comment (kept_of l.fronts) ≡ false) × IsOneLine l.last
    × EndsRight l.ended l.fronts l.last ls × AreContinued ls

-- each text is such lines, and the lines that such a text is joined to are what is kept of them
pub record JoinedLaw : Type 0 where
  pub some : (text : Bytes) → (lines : List ContinuedLine) × (in_file lines ≡ text) × AreContinued lines
  pub only : (lines : List ContinuedLine) → AreContinued lines → joined_lines (in_file lines) ≡ numbered_lines 1 lines
