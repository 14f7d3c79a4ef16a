-- The first place of a byte in bytes that are their own symbols.
use Rattle.std.proofs.Common.{◌≡◌, ◌==◌, ℕ, zero, suc, true, false, List, [], ◌∷◌, take, refl, sym, ap, ◌∙◌, arith, ⊎_elim}
use Rattle.kt_syntax.proofs.Common.{cases_Bool, eqb-true, or_parts, position_or_len, Text, uncommented, uncommented_of, before_comment, comment_place, mask_from, mask_of}
use Rattle.kt_syntax.proofs.lemmas.Masking.{mask_from-nil}
use Rattle.kt_syntax.proofs.lemmas.OwnSymbols.{own_byte, run_no, run_yes}
use Rattle.kt_syntax.specs.inner.OwnRuns.{is_mark}

abbrev first_of : ℕ → Text → ℕ
first_of sought text = position_or_len (λ byte. byte == sought) text

-- no mark stands before the first place of a byte
abbrev IsFree : ℕ → ℕ → Text → Type 0
IsFree sought count text = position_or_len is_mark (take (first_of sought (take count text)) text) ≡ first_of sought (take count text)

-- a byte before it, by the first one of the text
record IsBefore (sought count first : ℕ) (text : Text) : Type 0 where
  pub free : is_mark first ≡ false
  pub later : IsFree sought count text

before_it : (sought count first : ℕ) (text : Text) → (first == sought) ≡ false → IsFree sought (suc count) (first ∷ text) → IsBefore sought count first text
before_it sought count first text other free =
    let run = run_no (λ byte. byte == sought) first (take count text) other in
    let here : position_or_len is_mark (take (suc (first_of sought (take count text))) (first ∷ text)) ≡ suc (first_of sought (take count text)) =
    sym (ap (λ n. position_or_len is_mark (take n (first ∷ text))) run) ∙ free ∙ run in
    ⊎_elim (λ (mark : is_mark first ≡ true).
    absurd (let none = run_yes is_mark first (take (first_of sought (take count text)) text) mark in omega (arith, here, none)))
    (λ (own : is_mark first ≡ false).
    let more = run_no is_mark first (take (first_of sought (take count text)) text) own in
    record { free = own; later = omega (arith, here, more) })
    (cases_Bool (is_mark first))

byte_run : (sought count symbol : ℕ) (text : Text) → is_mark sought ≡ false → IsFree sought count text
    → first_of sought (take count text) ≡ first_of sought (take count (mask_from 0 symbol false text))
byte_run sought zero symbol text own free = refl
byte_run sought (suc count) symbol [] own free = ap (λ (mask : List ℕ). first_of sought (take (suc count) mask)) (sym (mask_from-nil 0 symbol false))
byte_run sought (suc count) symbol (first ∷ text) own free =
    ⊎_elim (λ (here : (first == sought) ≡ true).
    let mark : is_mark first ≡ false = ap is_mark (eqb-true first sought here) ∙ own in
    run_yes (λ byte. byte == sought) first (take count text) here
    ∙ sym (ap (λ (mask : List ℕ). first_of sought (take (suc count) mask)) (own_byte symbol first text mark)
    ∙ run_yes (λ byte. byte == sought) first (take count (mask_from 0 first false text)) here))
    (λ (other : (first == sought) ≡ false).
    let before = before_it sought count first text other free in
    run_no (λ byte. byte == sought) first (take count text) other
    ∙ ap (λ n. suc n) (byte_run sought count first text own before.later)
    ∙ sym (ap (λ (mask : List ℕ). first_of sought (take (suc count) mask)) (own_byte symbol first text before.free)
    ∙ run_no (λ byte. byte == sought) first (take count (mask_from 0 first false text)) other))
    (cases_Bool (first == sought))

pub byte_found : (sought end place : ℕ) (text : Text) → is_mark sought ≡ false → place ≡ position_or_len (λ byte. byte == sought) (take end text)
    → position_or_len is_mark (take place text) ≡ place → place ≡ position_or_len (λ symbol. symbol == sought) (take end (mask_of text))
unfolding mask_of
byte_found sought end place text own is free = grind (arith, byte_run, take)

-- ---- the number sign

-- no mark stands before the first one
abbrev IsUnmarked : Text → Type 0
IsUnmarked text = position_or_len is_mark (take (first_of 35 text) text) ≡ first_of 35 text

record IsPassed (first : ℕ) (text : Text) : Type 0 where
  pub dollar : (first == 36) ≡ false
  pub backslash : (first == 92) ≡ false
  pub mark : is_mark first ≡ false
  pub later : IsUnmarked text

passed : (first : ℕ) (text : Text) → (first == 35) ≡ false → IsUnmarked (first ∷ text) → IsPassed first text
passed first text other free =
    let run = run_no (λ byte. byte == 35) first text other in
    let here : position_or_len is_mark (take (suc (first_of 35 text)) (first ∷ text)) ≡ suc (first_of 35 text) =
    sym (ap (λ n. position_or_len is_mark (take n (first ∷ text))) run) ∙ free ∙ run in
    ⊎_elim (λ (mark : is_mark first ≡ true).
    absurd (let none = run_yes is_mark first (take (first_of 35 text) text) mark in omega (arith, here, none)))
    (λ (own : is_mark first ≡ false).
    let more = run_no is_mark first (take (first_of 35 text) text) own in
    let parts = or_parts (first == 36) (first == 92) own in
    record { dollar = parts.0; backslash = parts.1; mark = own; later = omega (arith, here, more) })
    (cases_Bool (is_mark first))

sign_run : (symbol : ℕ) (text : Text) → IsUnmarked text → first_of 35 text ≡ before_comment false (mask_from 0 symbol false text)
unfolding before_comment
sign_run symbol [] free = ap (before_comment false) (sym (mask_from-nil 0 symbol false))
sign_run symbol (first ∷ text) free =
    ⊎_elim (λ (here : (first == 35) ≡ true).
    let is = eqb-true first 35 here in
    let own : is_mark first ≡ false = rw is refl in
    run_yes (λ byte. byte == 35) first text here ∙ sym (ap (before_comment false) (own_byte symbol first text own) ∙ (rw here refl)))
    (λ (other : (first == 35) ≡ false).
    let before = passed first text other free in
    run_no (λ byte. byte == 35) first text other ∙ ap (λ n. suc n) (sign_run first text before.later)
    ∙ sym (ap (before_comment false) (own_byte symbol first text before.mark) ∙ (rw (other, before.backslash) refl)))
    (cases_Bool (first == 35))

pub sign_found : (place : ℕ) (text : Text) → place ≡ position_or_len (λ byte. byte == 35) text → position_or_len is_mark (take place text) ≡ place
    → place ≡ comment_place text
unfolding mask_of
sign_found place text is free = is ∙ sign_run 0 text (sym (ap (λ n. position_or_len is_mark (take n text)) is) ∙ free ∙ is)

kept_run : (symbol : ℕ) (text : Text) → IsUnmarked text → take (first_of 35 text) text ≡ uncommented 0 (mask_from 0 symbol false text) text
unfolding uncommented
kept_run symbol [] free = ap (λ (mask : List ℕ). uncommented 0 mask []) (sym (mask_from-nil 0 symbol false))
kept_run symbol (first ∷ text) free =
    ⊎_elim (λ (here : (first == 35) ≡ true).
    let is = eqb-true first 35 here in
    let own : is_mark first ≡ false = rw is refl in
    let slash : (first == 92) ≡ false = rw is refl in
    ap (λ n. take n (first ∷ text)) (run_yes (λ byte. byte == 35) first text here)
    ∙ sym (ap (λ (mask : List ℕ). uncommented 0 mask (first ∷ text)) (own_byte symbol first text own) ∙ (rw (slash, here) refl)))
    (λ (other : (first == 35) ≡ false).
    let before = passed first text other free in
    ap (λ n. take n (first ∷ text)) (run_no (λ byte. byte == 35) first text other) ∙ ap (λ (t : Text). first ∷ t) (kept_run first text before.later)
    ∙ sym (ap (λ (mask : List ℕ). uncommented 0 mask (first ∷ text)) (own_byte symbol first text before.mark) ∙ (rw (before.backslash, other) refl)))
    (cases_Bool (first == 35))

-- and what stands before it is the text without its comment
pub sign_kept : (place : ℕ) (text : Text) → place ≡ position_or_len (λ byte. byte == 35) text → position_or_len is_mark (take place text) ≡ place
    → take place text ≡ uncommented_of text
unfolding mask_of uncommented_of
sign_kept place text is free = grind (arith, take, kept_run)
