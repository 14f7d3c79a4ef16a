-- The length of a prerequisite with a stem put in.
use Rattle.std.proofs.Common.{◌≡◌, ℕ, ◌+◌, ◌-◌, ◌<◌, ◌∷◌, ◌++◌, length, refl, ◌∙◌, ap, arith, Some, None, length-append}
use Rattle.kt_graph.proofs.Common.{IsFirstByte, is_byte, Text, pattern_front, pattern_back, pattern_cut, percent_found, no_percent_found, spelled_out}

-- a name without a percent sign is unchanged
pub plain_spelled : (directory stem name : Text) → IsFirstByte (is_byte 37) name None → spelled_out directory stem name ≡ name
plain_spelled directory stem name found = rw (no_percent_found name found) refl

pub cut_length : (directory stem name : Text) (percent : ℕ) → IsFirstByte (is_byte 37) name (Some percent)
    → (length (spelled_out directory stem name) ≡ length name - 1 + length directory + length stem) × (0 < length name)
cut_length directory stem name percent found =
    let has = (percent_found name percent found).0 in
    let cut : length name ≡ length (pattern_front name) + (1 + length (pattern_back name))
    = ap length (pattern_cut name has).0 ∙ length-append (pattern_front name) (37 ∷ pattern_back name) ∙ omega arith in
    let whole : spelled_out directory stem name ≡ directory ++ (pattern_front name ++ (stem ++ pattern_back name)) = rw has refl in
    let long : length (spelled_out directory stem name) ≡ length directory + (length (pattern_front name) + (length stem + length (pattern_back name)))
    = ap length whole ∙ length-append directory (pattern_front name ++ (stem ++ pattern_back name))
    ∙ ap (λ n. length directory + n) (length-append (pattern_front name) (stem ++ pattern_back name))
    ∙ ap (λ n. length directory + (length (pattern_front name) + n)) (length-append stem (pattern_back name)) in
    (omega arith, omega arith)
