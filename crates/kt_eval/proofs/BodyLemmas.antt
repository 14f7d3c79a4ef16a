-- The body of a define, line by line.
use Rattle.std.proofs.Common.{◌≡◌, ℕ, ◌-◌, List, [], ◌∷◌, ◌++◌, map, take, drop, refl, ap}
use Rattle.kt_eval.proofs.Common.{join_with_byte, slice_range, append-nil, take-map, drop-map, Text, condensed_of, line_text, raw_line}
use Rattle.kt_text.specs.declared.line.Line.{Line}
use Rattle.kt_eval.specs.macros.Assignments.{body_text}

-- the rest of a body, with what comes before its next line
unfoldable pub left_of_body : Text → List Text → Text
left_of_body separator [] = []
left_of_body separator (line ∷ lines) = separator ++ (condensed_of line ++ left_of_body (10 ∷ []) lines)

after_first : (line : Text) (lines : List Text) → condensed_of line ++ left_of_body (10 ∷ []) lines ≡ join_with_byte 10 (map condensed_of (line ∷ lines))
unfolding left_of_body
after_first line [] = append-nil (condensed_of line)
after_first line (next ∷ lines) = ap (λ rest. condensed_of line ++ 10 ∷ rest) (after_first next lines)

-- all of it
pub whole_body : (lines : List Text) → left_of_body [] lines ≡ body_text lines
unfolding left_of_body body_text
whole_body [] = refl
whole_body (line ∷ lines) = after_first line lines

texts : (text : Text) (lines : List Line) → map (λ raw. raw.text) (map (raw_line text) lines) ≡ map (line_text text) lines
texts text [] = refl
texts text (line ∷ lines) = ap (λ rest. line_text text line ∷ rest) (texts text lines)

-- the texts of some of the lines
pub body_lines : (text : Text) (lines : List Line) (start end : ℕ) → map (λ raw. raw.text) (slice_range (map (raw_line text) lines) start end) ≡ map (line_text text) (slice_range lines start end)
body_lines text lines start end = rw (drop-map (raw_line text) start lines, take-map (raw_line text) (end - start) (drop start lines)) (texts text (take (end - start) (drop start lines)))
