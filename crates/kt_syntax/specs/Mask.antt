-- A line byte by byte: what is outside references (POSIX.1-2024 make, "Macros"), with each continuation that it still
-- has as blanks (kati's own).
use Rattle.std.specs.Prelude.{ℕ, zero, suc, Bool, false, not, ◌==◌, ◌&&◌, nat_eq, List, [], ◌∷◌, if◌then◌else◌}
use Rattle.std.specs.List.{starts_with}
use Rattle.kt_text.specs.Words.{Text}
use Rattle.kt_syntax.specs.Terms.{kept, after_dollar}

-- what stands for a byte of a reference: a number that no byte has
abbrev pub inside : ℕ
inside = 256

-- whether an odd number of backslashes stands before the next byte
abbrev pub goes_odd : Bool → ℕ → Bool
goes_odd odd byte = byte == 92 && not odd

-- how many more bytes a dollar or a backslash takes with it: those of its reference, or of its continuation
unfoldable pub more_masked : Bool → ℕ → Text → ℕ
more_masked odd byte text =
    if byte == 36 then (after_dollar kept text).1
    else (if goes_odd odd byte then (if starts_with nat_eq text (10 ∷ []) then 1
    else (if starts_with nat_eq text (13 ∷ 10 ∷ []) then 2 else 0)) else 0)

-- what stands for the byte, and for those that it takes with it
abbrev pub mask_byte : ℕ → ℕ → ℕ
mask_byte byte more = if byte == 36 then inside else (if more == 0 then byte else 32)

-- the mask of a text, of which a given number of bytes are still masked by one symbol; the flag says whether an odd
-- number of backslashes stands before the text
unfoldable pub mask_from : ℕ → ℕ → Bool → Text → List ℕ
mask_from skip symbol odd [] = []
mask_from (suc skip) symbol odd (byte ∷ text) = symbol ∷ mask_from skip symbol (goes_odd odd byte) text
mask_from zero symbol odd (byte ∷ text) =
    mask_byte byte (more_masked odd byte text) ∷
    mask_from (more_masked odd byte text) (mask_byte byte (more_masked odd byte text)) (goes_odd odd byte) text

-- a text with each byte of a reference as 256 and each byte of a continuation outside references as a space
unfoldable pub mask_of : Text → List ℕ
mask_of text = mask_from 0 0 false text
