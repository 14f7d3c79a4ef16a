-- Bytes before the first dollar and backslash of a line are their own symbols.
use Rattle.std.proofs.Common.{◌≡◌, ◌==◌, ◌≤◌, ◌-◌, ℕ, zero, suc, Bool, true, false, List, [], ◌∷◌, ◌++◌, length, take, drop, refl, sym, ap, ◌∙◌, arith, ⊎_elim, length-take-le}
use Rattle.kt_syntax.proofs.Common.{cases_Bool, or_parts, drop-append_seam, take_rest, position_or_len, take_nil, Text, mask_from, mask_of, more_masked, goes_odd}
use Rattle.kt_syntax.proofs.lemmas.Masking.{step-outside}
use Rattle.kt_syntax.specs.inner.OwnRuns.{is_mark}

-- before a text that nothing reaches into, the last symbol counts for nothing
pub same_symbol : (symbol other : ℕ) (text : Text) → mask_from 0 symbol false text ≡ mask_from 0 other false text
unfolding mask_from
same_symbol symbol other [] = refl
same_symbol symbol other (byte ∷ text) = refl

pub own_byte : (symbol byte : ℕ) (text : Text) → is_mark byte ≡ false → mask_from 0 symbol false (byte ∷ text) ≡ byte ∷ mask_from 0 byte false text
unfolding mask_from more_masked
own_byte symbol byte text h = let parts = or_parts (byte == 36) (byte == 92) h in rw (parts.0, parts.1) refl

-- one of them is its own symbol and takes no other with it
pub own_step : (skip symbol : ℕ) (odd : Bool) (byte : ℕ) (text : Text) → skip ≡ 0 → (byte == 36) ≡ false → (byte == 92) ≡ false
    → mask_from skip symbol odd (byte ∷ text) ≡ byte ∷ mask_from 0 byte (goes_odd odd byte) text
unfolding more_masked
own_step skip symbol odd byte text none dollar backslash = step-outside skip symbol odd byte text 0 byte none (rw (dollar, backslash) refl) (rw dollar refl)

-- where a run of bytes ends, one byte at a time
pub run_yes : (ends : ℕ → Bool) (byte : ℕ) (bytes : List ℕ) → ends byte ≡ true → position_or_len ends (byte ∷ bytes) ≡ 0
run_yes ends byte bytes h = rw h refl

pub run_no : (ends : ℕ → Bool) (byte : ℕ) (bytes : List ℕ) → ends byte ≡ false → position_or_len ends (byte ∷ bytes) ≡ suc (position_or_len ends bytes)
run_no ends byte bytes h = rw h (omega arith)

-- the mask of a text of which the first bytes stand before the first dollar and backslash
pub own_front : (count most symbol : ℕ) (text : Text) → count ≤ position_or_len is_mark (take most text)
    → mask_from 0 symbol false text ≡ take count text ++ mask_from 0 0 false (drop count text)
own_front zero most symbol text h = same_symbol symbol 0 text
own_front (suc count) zero symbol text h = absurd (omega arith)
own_front (suc count) (suc most) symbol [] h = absurd (omega arith)
own_front (suc count) (suc most) symbol (byte ∷ text) h =
    ⊎_elim (λ (yes_mark : is_mark byte ≡ true). absurd (let none = run_yes is_mark byte (take most text) yes_mark in omega arith))
    (λ (no_mark : is_mark byte ≡ false).
    let more = run_no is_mark byte (take most text) no_mark in
    own_byte symbol byte text no_mark ∙ ap (λ m. byte ∷ m) (own_front count most byte text (omega arith)))
    (cases_Bool (is_mark byte))

drop_take : (count most : ℕ) (xs : List ℕ) → drop count (take most xs) ≡ take (most - count) (drop count xs)
drop_take zero most xs = ap (λ n. take n xs) (let same : most ≡ most - 0 = omega arith in same)
drop_take (suc count) zero xs = ap (λ n. take n (drop (suc count) xs)) (let none : 0 ≡ 0 - suc count = omega arith in none)
drop_take (suc count) (suc most) [] = sym (take_nil (suc most - suc count))
drop_take (suc count) (suc most) (x ∷ xs) = grind (arith, take, drop_take count most xs)

-- the symbols of a line after so many of its own bytes
pub after_own : (text : Text) (most end size : ℕ) → size ≡ position_or_len is_mark (take most text) → size ≤ length text
    → take (end - size) (mask_of (drop size text)) ≡ drop size (take end (mask_of text))
unfolding mask_of
after_own text most end size e within =
    let sizes = length-take-le size text within in
    let tail = mask_from 0 0 false (drop size text) in
    let past : drop size (take size text ++ tail) ≡ tail =
    ap (λ n. drop n (take size text ++ tail)) (sym sizes) ∙ drop-append_seam (take size text) tail in
    sym (drop_take size end (mask_from 0 0 false text) ∙ ap (take (end - size)) (ap (drop size) (own_front size most 0 text (omega arith)) ∙ past))

-- the same of a walk that nothing reaches into
pub own_passed : (text : Text) (most left own skip symbol : ℕ) (odd : Bool) → skip ≡ 0 → odd ≡ false → own ≡ position_or_len is_mark (take most text) → own ≤ length text
    → take (left - own) (mask_from skip symbol odd (take (length text - own) (drop own text))) ≡ drop own (take left (mask_from skip symbol odd text))
unfolding mask_of
own_passed text most left own skip symbol odd none even is within =
    rw (none, even, take_rest text own)
    (ap (take (left - own)) (same_symbol symbol 0 (drop own text)) ∙ after_own text most left own is within
    ∙ sym (ap (λ (mask : List ℕ). drop own (take left mask)) (same_symbol symbol 0 text)))
