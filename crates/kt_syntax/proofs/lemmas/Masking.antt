-- Masks of lines, one byte at a time.
use Rattle.std.proofs.Common.{◌≡◌, ◌≤◌, ◌<◌, ◌-◌, ◌+◌, true, false, ℕ, zero, suc, Bool, Option, Some, None, List, [], ◌∷◌, length, take, drop, unwrap_or, sym, ap, ◌∙◌, arith, nat_eq, slice_index}
use Rattle.kt_syntax.proofs.Common.{length-take-le, length-drop, take_all, drop-drop, get_or-drop, prefix_len-le-length, Decides-eqb, starts_is, starts_with, less_one, take_nil, Text, past_blanks, kept, dropped, after_dollar, goes_odd, mask_byte, more_masked, mask_from, mask_of}
use Rattle.std.specs.Iterator.{YieldsFirst}

pub mask_from-nil : (skip symbol : ℕ) (odd : Bool) → mask_from skip symbol odd [] ≡ []
unfolding mask_from
mask_from-nil skip symbol odd = grind arith

pub mask_ends : (left skip symbol : ℕ) (odd : Bool) (text : Text) → length text ≡ 0 → take left (mask_from skip symbol odd text) ≡ []
mask_ends left skip symbol odd [] e = ap (take left) (mask_from-nil skip symbol odd) ∙ take_nil left
mask_ends left skip symbol odd (byte ∷ text) e = absurd (omega arith)

pub take_first : (left symbol : ℕ) (before after : List ℕ) → 0 < left → before ≡ symbol ∷ after → take left before ≡ symbol ∷ take (left - 1) after
take_first left symbol before after some e = grind (arith, take, less_one)

pub length-mask_from : (skip symbol : ℕ) (odd : Bool) (text : Text) → length (mask_from skip symbol odd text) ≡ length text
unfolding mask_from
length-mask_from skip symbol odd [] = ap length (mask_from-nil skip symbol odd)
length-mask_from zero symbol odd (byte ∷ text) = grind (arith, length-mask_from (more_masked odd byte text) (mask_byte byte (more_masked odd byte text)) (goes_odd odd byte) text)
length-mask_from (suc skip) symbol odd (byte ∷ text) = ap (λ n. suc n) (length-mask_from skip symbol (goes_odd odd byte) text)

pub length-mask_of : (text : Text) → length (mask_of text) ≡ length text
unfolding mask_of
length-mask_of text = length-mask_from 0 0 _ text

pub step-inside : (skip symbol : ℕ) (odd : Bool) (byte : ℕ) (text : Text) → 0 < skip
    → mask_from skip symbol odd (byte ∷ text) ≡ symbol ∷ mask_from (skip - 1) symbol (goes_odd odd byte) text
unfolding mask_from
step-inside skip symbol odd byte text some = grind (arith, less_one)

pub step-outside : (skip symbol : ℕ) (odd : Bool) (byte : ℕ) (text : Text) (more first : ℕ) → skip ≡ 0 → more ≡ more_masked odd byte text → first ≡ mask_byte byte more
    → mask_from skip symbol odd (byte ∷ text) ≡ first ∷ mask_from more first (goes_odd odd byte) text
unfolding mask_from
step-outside skip symbol odd byte text more first none m f = grind arith

pub length-front : (text : Text) (end : ℕ) → end ≤ length text → length (take end (mask_of text)) ≡ end
length-front text end within = length-take-le end (mask_of text) (rw (length-mask_of text) within)

pub length-between : (text : Text) (from end : ℕ) → from ≤ end → end ≤ length text → from + length (drop from (take end (mask_of text))) ≡ end
length-between text from end order within = grind (arith, length-drop, take, length-front)

pub whole_mask : (text : Text) (end : ℕ) → end ≡ length text → take end (mask_of text) ≡ mask_of text
whole_mask text end e = take_all end (mask_of text) (let l = length-mask_of text in omega arith)

-- after the last symbol no blank stands
pub no_blanks_left : (text : Text) (from end : ℕ) → from ≡ end → end ≤ length text → end ≡ past_blanks from (take end (mask_of text))
no_blanks_left text from end e within = grind (arith, length-between, prefix_len-le-length, take)

-- one more symbol taken
pub one_taken : (before after whole : List ℕ) (place : ℕ) (taken : Option ℕ) → YieldsFirst (λ (rest : List ℕ). rest) before taken after → before ≡ drop place whole
    → after ≡ drop (place + 1) whole
one_taken before after whole place None y e = y.1 ∙ sym (ap (drop 1) y.0) ∙ ap (drop 1) e ∙ drop-drop 1 place whole
one_taken before after whole place (Some symbol) y e = sym (ap (drop 1) y) ∙ ap (drop 1) e ∙ drop-drop 1 place whole

first_dropped : (whole : List ℕ) (place : ℕ) → slice_index (drop place whole) 0 ≡ slice_index whole place
first_dropped whole place = grind (arith, get_or-drop)

-- the symbol taken, or 0
pub symbol_at : (before after whole : List ℕ) (place : ℕ) (taken : Option ℕ) → YieldsFirst (λ (rest : List ℕ). rest) before taken after → before ≡ drop place whole
    → unwrap_or taken 0 ≡ slice_index whole place
symbol_at before after whole place taken y e = grind (arith, first_dropped)

-- what a dollar takes with it before a continuation
pub past-newline : (text : Text) → starts_with nat_eq text (92 ∷ 10 ∷ []) ≡ true → 2 ≡ (after_dollar kept text).1
unfolding after_dollar
past-newline text h = grind (arith, starts_is, Decides-eqb)

pub past-return : (text : Text) → starts_with nat_eq text (92 ∷ 13 ∷ 10 ∷ []) ≡ true → 3 ≡ (after_dollar kept text).1
unfolding after_dollar
past-return text h = grind (arith, starts_is, Decides-eqb)

-- before none it takes what it takes in a text without any
pub past-other : (text : Text) → starts_with nat_eq text (92 ∷ 10 ∷ []) ≡ false → starts_with nat_eq text (92 ∷ 13 ∷ 10 ∷ []) ≡ false
    → after_dollar dropped text ≡ after_dollar kept text
unfolding after_dollar
past-other text g h = grind arith
