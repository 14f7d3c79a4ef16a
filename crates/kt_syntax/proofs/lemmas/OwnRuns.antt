-- Runs of bytes that are their own symbols: where they end, the walk over symbols is.
use Rattle.std.proofs.Common.{◌≡◌, ◌==◌, ◌≤◌, ◌-◌, ◌+◌, ℕ, zero, suc, Bool, true, false, not, List, [], ◌∷◌, length, take, drop, refl, sym, ap, ◌∙◌, arith, ⊎_elim, true≢false, slice_index, None}
use Rattle.kt_syntax.proofs.Common.{and_right, cases_Bool, eqb-true, or_parts, or_right, drop-drop, position_or_len, prefix_len, slice_range, Text, is_blank, differ_turned, name_end, operator_of, past_blanks, past_word, mask_from, mask_of}
use Rattle.kt_syntax.proofs.lemmas.Masking.{mask_from-nil, step-outside}
use Rattle.kt_syntax.proofs.lemmas.OwnSymbols.{after_own, own_byte, run_no, run_yes}
use Rattle.kt_syntax.specs.inner.OwnRuns.{begins_operator, ends_own_name, ends_own_word, is_mark}

pub prefix_yes : (test : ℕ → Bool) (byte : ℕ) (bytes : List ℕ) → test byte ≡ true → prefix_len test (byte ∷ bytes) ≡ suc (prefix_len test bytes)
prefix_yes test byte bytes h = rw h (omega arith)

pub prefix_no : (test : ℕ → Bool) (byte : ℕ) (bytes : List ℕ) → test byte ≡ false → prefix_len test (byte ∷ bytes) ≡ 0
prefix_no test byte bytes h = rw h refl

-- a blank is no mark
pub blank_unmarked : (byte : ℕ) → is_blank byte ≡ true → is_mark byte ≡ false
unfolding is_blank
blank_unmarked byte h = grind (arith, ⊎_elim, eqb-true, cases_Bool)

-- a byte that is neither a blank nor a backslash ends the blanks, a dollar too
blanks_end : (count symbol byte : ℕ) (text : Text) → is_blank byte ≡ false → (byte == 92) ≡ false
    → prefix_len is_blank (take (suc count) (mask_from 0 symbol false (byte ∷ text))) ≡ 0
unfolding is_blank
blanks_end count symbol byte text other stop = grind (arith, ⊎_elim, take, step-outside, own_byte, prefix_no, cases_Bool)

-- blanks, up to a byte that is no backslash
blanks_run : (count symbol : ℕ) (text : Text) → (slice_index (take count text) (prefix_len is_blank (take count text)) == 92) ≡ false
    → prefix_len is_blank (take count text) ≡ prefix_len is_blank (take count (mask_from 0 symbol false text))
blanks_run zero symbol text h = refl
blanks_run (suc count) symbol [] h = ap (λ (mask : List ℕ). prefix_len is_blank (take (suc count) mask)) (sym (mask_from-nil 0 symbol false))
blanks_run (suc count) symbol (byte ∷ text) h =
    ⊎_elim (λ (blank : is_blank byte ≡ true).
    let own = own_byte symbol byte text (blank_unmarked byte blank) in
    let run = prefix_yes is_blank byte (take count text) blank in
    let later : (slice_index (take count text) (prefix_len is_blank (take count text)) == 92) ≡ false
    = ap (λ n. slice_index (byte ∷ take count text) n == 92) (sym run) ∙ h in
    run ∙ ap (λ n. suc n) (blanks_run count byte text later)
    ∙ sym (prefix_yes is_blank byte (take count (mask_from 0 byte false text)) blank)
    ∙ ap (λ (mask : List ℕ). prefix_len is_blank (take (suc count) mask)) (sym own))
    (λ (other : is_blank byte ≡ false).
    let run = prefix_no is_blank byte (take count text) other in
    let stop : (byte == 92) ≡ false = ap (λ n. slice_index (byte ∷ take count text) n == 92) (sym run) ∙ h in
    run ∙ sym (blanks_end count symbol byte text other stop))
    (cases_Bool (is_blank byte))

-- a word, up to a byte that is no mark
word_run : (count symbol : ℕ) (text : Text) → is_mark (slice_index (take count text) (position_or_len ends_own_word (take count text))) ≡ false
    → position_or_len ends_own_word (take count text) ≡ position_or_len is_blank (take count (mask_from 0 symbol false text))
word_run zero symbol text h = refl
word_run (suc count) symbol [] h = ap (λ (mask : List ℕ). position_or_len is_blank (take (suc count) mask)) (sym (mask_from-nil 0 symbol false))
word_run (suc count) symbol (byte ∷ text) h =
    ⊎_elim (λ (mark : is_mark byte ≡ true).
    let run = run_yes ends_own_word byte (take count text) (or_right (is_blank byte) (is_mark byte) mark) in
    absurd (true≢false (sym mark ∙ ap (λ n. is_mark (slice_index (byte ∷ take count text) n)) (sym run) ∙ h)))
    (λ (free : is_mark byte ≡ false).
    let own = ap (λ (mask : List ℕ). position_or_len is_blank (take (suc count) mask)) (own_byte symbol byte text free) in
    ⊎_elim (λ (blank : is_blank byte ≡ true).
    run_yes ends_own_word byte (take count text) (rw blank refl)
    ∙ sym (own ∙ run_yes is_blank byte (take count (mask_from 0 byte false text)) blank))
    (λ (other : is_blank byte ≡ false).
    let run = run_no ends_own_word byte (take count text) (rw (other, free) refl) in
    let later : is_mark (slice_index (take count text) (position_or_len ends_own_word (take count text))) ≡ false
    = ap (λ n. is_mark (slice_index (byte ∷ take count text) n)) (sym run) ∙ h in
    run ∙ ap (λ n. suc n) (word_run count byte text later)
    ∙ sym (own ∙ run_no is_blank byte (take count (mask_from 0 byte false text)) other))
    (cases_Bool (is_blank byte)))
    (cases_Bool (is_mark byte))

pub no_operator : (byte : ℕ) (text : Text) → begins_operator byte ≡ false → operator_of (byte ∷ text) ≡ None
unfolding operator_of
no_operator byte text h = grind (arith, or_parts, differ_turned)

-- such a byte doesn't end a name
pub name_goes_on : (place byte : ℕ) (mask : List ℕ) (text : Text) → ends_own_name byte ≡ false
    → name_end place (byte ∷ mask) (byte ∷ text) ≡ name_end (place + 1) mask text
unfolding name_end
name_goes_on place byte mask text h = grind (arith, or_parts, not, and_right, no_operator)

name_run : (count place symbol : ℕ) (text : Text)
    → name_end (place + position_or_len ends_own_name (take count text))
    (drop (position_or_len ends_own_name (take count text)) (take count (mask_from 0 symbol false text)))
    (drop (position_or_len ends_own_name (take count text)) text)
    ≡ name_end place (take count (mask_from 0 symbol false text)) text
name_run zero place symbol text = grind arith
name_run (suc count) place symbol [] = grind (arith, take)
name_run (suc count) place symbol (byte ∷ text) =
    let mask = take (suc count) (mask_from 0 symbol false (byte ∷ text)) in
    ⊎_elim (λ (yes : ends_own_name byte ≡ true).
    let same : place + 0 ≡ place = omega arith in
    ap (λ n. name_end (place + n) (drop n mask) (drop n (byte ∷ text))) (run_yes ends_own_name byte (take count text) yes)
    ∙ ap (λ n. name_end n mask (byte ∷ text)) same)
    (λ (other : ends_own_name byte ≡ false).
    let parts = or_parts (ends_own_word byte) (begins_operator byte) other in
    let word = or_parts (is_blank byte) (is_mark byte) parts.0 in
    let run = position_or_len ends_own_name (take count text) in
    let own : mask ≡ byte ∷ take count (mask_from 0 byte false text) = ap (λ (m : List ℕ). take (suc count) m) (own_byte symbol byte text word.1) in
    let same : place + suc run ≡ place + 1 + run = omega arith in
    ap (λ n. name_end (place + n) (drop n mask) (drop n (byte ∷ text))) (run_no ends_own_name byte (take count text) other)
    ∙ ap (λ (m : List ℕ). name_end (place + suc run) (drop (suc run) m) (drop run text)) own
    ∙ ap (λ n. name_end n (drop run (take count (mask_from 0 byte false text))) (drop run text)) same
    ∙ name_run count (place + 1) byte text
    ∙ sym (ap (λ (m : List ℕ). name_end place m (byte ∷ text)) own ∙ name_goes_on place byte (take count (mask_from 0 byte false text)) text other))
    (cases_Bool (ends_own_name byte))

-- the symbols from a place on that no mark stands before
symbols_from : (text : Text) (from end : ℕ) → from ≤ length text → position_or_len is_mark (take from text) ≡ from
    → take (end - from) (mask_from 0 0 false (drop from text)) ≡ drop from (take end (mask_of text))
unfolding mask_of
symbols_from text from end within free = after_own text from end from (sym free) within

pub blanks_passed : (text : Text) (from end run : ℕ) → from ≤ end → end ≤ length text → position_or_len is_mark (take from text) ≡ from
    → run ≡ prefix_len is_blank (slice_range text from end) → (slice_index (slice_range text from end) run == 92) ≡ false
    → from + run ≡ past_blanks from (take end (mask_of text))
blanks_passed text from end run order within free is stop = grind (arith, slice_range, blanks_run, symbols_from)

pub word_passed : (text : Text) (from end run : ℕ) → from ≤ end → end ≤ length text → position_or_len is_mark (take from text) ≡ from
    → run ≡ position_or_len ends_own_word (slice_range text from end) → is_mark (slice_index (slice_range text from end) run) ≡ false
    → from + run ≡ past_word from (take end (mask_of text))
word_passed text from end run order within free is stop =
    let here = ap (λ n. is_mark (slice_index (slice_range text from end) n)) (sym is) ∙ stop in
    ap (λ n. from + n) (is ∙ word_run (end - from) 0 (drop from text) here
    ∙ ap (λ (mask : List ℕ). position_or_len is_blank mask) (symbols_from text from end (omega arith) free))

pub name_passed : (text : Text) (begin end run : ℕ) → begin ≤ end → end ≤ length text → position_or_len is_mark (take begin text) ≡ begin
    → run ≡ position_or_len ends_own_name (slice_range text begin end)
    → name_end (begin + run) (drop (begin + run) (take end (mask_of text))) (drop (begin + run) text)
    ≡ name_end begin (drop begin (take end (mask_of text))) (drop begin text)
name_passed text begin end run order within free is =
    let here = symbols_from text begin end (omega arith) free in
    let mask = take end (mask_of text) in
    ap (λ (m : List ℕ). name_end (begin + run) m (drop (begin + run) text)) (sym (drop-drop run begin mask) ∙ ap (drop run) (sym here))
    ∙ ap (λ (t : Text). name_end (begin + run) (drop run (take (end - begin) (mask_from 0 0 false (drop begin text)))) t) (sym (drop-drop run begin text))
    ∙ ap (λ n. name_end (begin + n) (drop n (take (end - begin) (mask_from 0 0 false (drop begin text)))) (drop n (drop begin text))) is
    ∙ name_run (end - begin) begin 0 (drop begin text)
    ∙ ap (λ (m : List ℕ). name_end begin m (drop begin text)) here
