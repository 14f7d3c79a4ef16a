-- A text between single quotes is read back.
use Rattle.std.proofs.Common.{◌≡◌, ◌<◌, ℕ, zero, suc, ◌+◌, Bool, true, ◌==◌, [], ◌∷◌, ◌++◌, length, take, drop, Some, None, refl, ap, ◌∙◌, arith, add-one, flat_map, slice_index}
use Rattle.kt_recipe.proofs.Common.{Text}
use Rattle.memchr.specs.Find.{Nowhere, Passes, IsFirstByte, is_byte}
use Rattle.kt_recipe.specs.Quoting.{quoted_byte}

-- ---- runs without a quote

later : (byte : ℕ) (text : Text) (count : ℕ) → Nowhere (Passes (is_byte 39) (byte ∷ text)) 0 (suc count)
    → Nowhere (Passes (is_byte 39) text) 0 count
later byte text count none at low below = none (suc at) (omega arith) (omega arith)

as_it_is : (byte : ℕ) (b : Bool) → byte == 39 ≡ b → (byte == 39 ≡ true → ⊥) → quoted_byte byte ≡ byte ∷ []
as_it_is byte b is plain = grind arith

as_they_are : (text : Text) → Nowhere (Passes (is_byte 39) text) 0 (length text) → flat_map quoted_byte text ≡ text
as_they_are [] none = refl
as_they_are (byte ∷ text) none =
    ap (λ t. t ++ flat_map quoted_byte text) (as_it_is byte (byte == 39) refl (none 0 (omega arith) (omega arith)))
    ∙ ap (λ t. byte ∷ t) (as_they_are text (later byte text (length text) none))

at_first : (text : Text) (count : ℕ) → count < length text → Nowhere (Passes (is_byte 39) text) 0 count
    → slice_index text count == 39 ≡ true
    → flat_map quoted_byte text ≡ take count text ++ (39 ∷ 92 ∷ 39 ∷ 39 ∷ flat_map quoted_byte (drop (suc count) text))
at_first [] count within none here = absurd (omega arith)
at_first (byte ∷ text) zero within none here = rw here refl
at_first (byte ∷ text) (suc count) within none here =
    ap (λ t. t ++ flat_map quoted_byte text) (as_it_is byte (byte == 39) refl (none 0 (omega arith) (omega arith)))
    ∙ ap (λ t. byte ∷ t) (at_first text count (omega arith) (later byte text count none) here)

pub no_quote : (text : Text) → IsFirstByte (is_byte 39) text None → flat_map quoted_byte text ≡ text
no_quote text none = as_they_are text none

pub first_quote : (text : Text) (at : ℕ) → IsFirstByte (is_byte 39) text (Some at)
    → flat_map quoted_byte text ≡ take at text ++ (39 ∷ 92 ∷ 39 ∷ 39 ∷ flat_map quoted_byte (drop (at + 1) text))
first_quote text at first = grind (arith, add-one, at_first)
