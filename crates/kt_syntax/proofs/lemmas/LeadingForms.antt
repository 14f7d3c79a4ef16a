-- Lines that begin with a name or a target: assignments, and rule lines by their first word.
use Rattle.std.proofs.Common.{rules, ◌≡◌, ◌==◌, ◌+◌, ◌-◌, ◌≤◌, ◌<◌, ℕ, suc, Bool, true, false, List, [], ◌∷◌, ◌++◌, Option, Some, None, length, take, drop, refl, sym, ap, subst, ◌∙◌, arith, ⊎_elim, true≢false, take-append-drop, length-take-le, drop-drop, codes, is_some, nat_eq}
use Rattle.kt_syntax.proofs.Common.{drop-append-add, take-append-add, and_parts, cases_Bool, eqb-true, false_from_ne_true, or_cases, or_parts, bytes_eq-Decides, list_all, list_any, position_or_len, prefix_len, slice_range, starts_with, bytes_eq, Text, is_blank, trimmed_start, Operator, Parts, assignment, assignment_parts, before_comment, block_word, directive_of, include_word, is_refused_word, kind_by_word, form_of, name_end, operator_of, past_blanks, past_word, rule, worded, inside, mask_from, mask_of}
use Rattle.kt_syntax.proofs.lemmas.LeadingWords.{all_quiet, assignment_led, cut_led, is_own, is_quiet, is_solid, kind_by, kind_worded, left_before, length_run, mask_apart, mask_led, name_led, name_over, own_over, prefix_over, quiet, run_of, run_whole, symbols_of, taken_all}
use Rattle.kt_syntax.proofs.lemmas.OwnRuns.{no_operator}
use Rattle.kt_syntax.proofs.lemmas.OwnSymbols.{own_byte}
use Rattle.kt_syntax.specs.inner.Leading.{IsQuietWord, begins_colon, begins_slash, is_apart, is_loud, may_be_word}
use Rattle.kt_syntax.specs.inner.OwnRuns.{begins_operator, is_mark}

-- ---- the bytes of operators

-- a byte that operators begin with
record IsSign (byte : ℕ) : Type 0 where
  pub own : is_mark byte ≡ false
  pub solid : is_blank byte ≡ false
  pub outside : (byte == inside) ≡ false
  pub slash : (byte == 92) ≡ false

sign_of : (sign byte : ℕ) → IsSign sign → (byte == sign) ≡ true → IsSign byte
sign_of sign byte is h = subst IsSign (sym (eqb-true byte sign h)) is

a_sign : (byte : ℕ) → begins_operator byte ≡ true → IsSign byte
unfolding is_blank
a_sign byte h = grind (arith, ⊎_elim, sign_of, or_cases)

-- the first byte of an operator
first_sign : (byte : ℕ) (text : Text) (found : Operator × ℕ) → operator_of (byte ∷ text) ≡ Some found → IsSign byte
first_sign byte text found o =
    ⊎_elim (λ (h : begins_operator byte ≡ true). a_sign byte h)
    (λ (h : begins_operator byte ≡ false). absurd (true≢false (sym (sym (ap is_some (no_operator byte text h)) ∙ ap is_some o))))
    (cases_Bool (begins_operator byte))

no_sign_at_end : (found : Operator × ℕ) → operator_of [] ≡ Some found → ⊥
unfolding operator_of
no_sign_at_end found o = true≢false (sym (ap is_some o))

-- what a text that begins with a needle begins with
front_own : (needle text : Text) → list_all is_own needle ≡ true → starts_with nat_eq text needle ≡ true → list_all is_own (take (length needle) text) ≡ true
front_own needle text own h = search (rules, true≢false, and_parts, nat_eq, is_own, eqb-true)

-- the bytes of the operator that is found
abbrev own_signs : Text → Option (Operator × ℕ) → Bool
own_signs text None = true
own_signs text (Some found) = list_all is_own (take found.1 text)

signs_own : (text : Text) → own_signs text (operator_of text) ≡ true
unfolding operator_of
signs_own text = search (rules, ⊎_elim, front_own, codes, cases_Bool, nat_eq)

-- ---- assignments

-- a name ends where an operator begins
name_signed : (count place : ℕ) (after : Text) (found : Operator × ℕ) → operator_of after ≡ Some found
    → name_end place (take count (mask_from 0 0 false after)) after ≡ Some place
unfolding name_end
name_signed count place after found o = grind (arith, no_sign_at_end, first_sign, take, own_byte)

-- and where a blank comes before it
name_before : (place : ℕ) (after : Text) (found : Operator × ℕ) → operator_of (trimmed_start after) ≡ Some found
    → name_end place (take (left_before after) (mask_from 0 0 false after)) after ≡ Some place
name_before place after found o = grind (arith, no_sign_at_end, ⊎_elim, name_led, left_before, run_of, name_signed, cases_Bool)

-- an operator begins with no backslash
unslashed : (text : Text) (found : Operator × ℕ) → operator_of text ≡ Some found → begins_slash text ≡ false
unslashed text found o = grind (arith, first_sign)

-- the symbols after the operator
mask_signed : (rest : Text) (found : Operator × ℕ) → operator_of rest ≡ Some found → mask_from 0 0 false rest ≡ take found.1 rest ++ mask_from 0 0 false (drop found.1 rest)
mask_signed rest found o =
    ap (mask_from 0 0 false) (sym (take-append-drop found.1 rest))
    ∙ own_over 0 (take found.1 rest) (drop found.1 rest) (sym (ap (own_signs rest) o) ∙ signs_own rest)

dropped : (front tail : List ℕ) (size more : ℕ) → length front ≡ size → drop (size + more) (front ++ tail) ≡ drop more tail
dropped front tail size more is = ap (λ n. drop (n + more) (front ++ tail)) (sym is) ∙ drop-append-add front tail more

-- where the value begins, as a place of the symbols
value_led : (word after : Text) (found : Operator × ℕ) → list_all is_quiet word ≡ true → operator_of (trimmed_start after) ≡ Some found → found.1 ≤ length (trimmed_start after)
    → begins_slash (trimmed_start (drop found.1 (trimmed_start after))) ≡ false
    → past_blanks (length word + run_of after + found.1) (mask_of (word ++ after)) ≡ length word + run_of after + found.1 + run_of (drop found.1 (trimmed_start after))
value_led word after found h o within a =
    let rest : Text = trimmed_start after in
    let size : ℕ = found.1 in
    let tail : List ℕ = mask_from 0 0 false (drop size rest) in
    let sum : length word + run_of after + size ≡ length word + (run_of after + size) = omega arith in
    let signs : size ≡ size + 0 = omega arith in
    let cut : drop (length word + run_of after + size) (mask_of (word ++ after)) ≡ tail
    = ap (drop (length word + run_of after + size)) (mask_led word after h)
    ∙ ap (λ n. drop n (word ++ mask_from 0 0 false after)) sum
    ∙ drop-append-add word (mask_from 0 0 false after) (run_of after + size)
    ∙ ap (drop (run_of after + size)) (mask_apart after)
    ∙ dropped (take (run_of after) after) (mask_from 0 0 false rest) (run_of after) size (length_run after)
    ∙ ap (drop size) (mask_signed rest found o)
    ∙ ap (λ n. drop n (take size rest ++ tail)) signs
    ∙ dropped (take size rest) tail size 0 (length-take-le size rest within) in
    ap (λ (mask : List ℕ). length word + run_of after + size + prefix_len is_blank mask) cut
    ∙ ap (λ n. length word + run_of after + size + n) (run_whole (drop size rest) a)

-- and of the text
text_led : (word after : Text) (size more : ℕ) → drop (length word + run_of after + size + more) (word ++ after) ≡ drop more (drop size (trimmed_start after))
text_led word after size more = grind (arith, length, run_of, drop-append-add, drop-drop)

kind_signed : (tab : Bool) (word after : Text) (found : Operator × ℕ) → list_all is_quiet word ≡ true → 0 < length word → operator_of (trimmed_start after) ≡ Some found
    → found.1 ≤ length (trimmed_start after) → begins_slash (trimmed_start (drop found.1 (trimmed_start after))) ≡ false
    → form_of (word ++ after) tab ≡ assignment word found.0 (trimmed_start (drop found.1 (trimmed_start after)))
kind_signed tab word after found h some o within a =
    let text : Text = word ++ after in
    let rest : Text = trimmed_start after in
    let place = length word + run_of after + found.1 in
    let parts : ℕ → Parts = λ n. record { name = length word; operator = found.0; value = n } in
    let is = assignment_led word after (Some found) h (name_before (length word) after found o) (unslashed rest found o) o in
    let front : slice_range text 0 (length word) ≡ word = cut_led word after in
    kind_by tab word after (Some (parts (past_blanks place (mask_of text)))) h some is
    ∙ ap (λ n. assignment (slice_range text 0 (length word)) found.0 (drop n text)) (value_led word after found h o within a)
    ∙ ap (assignment (slice_range text 0 (length word)) found.0) (text_led word after found.1 (run_of (drop found.1 rest)))
    ∙ ap (λ (w : Text). assignment w found.0 (trimmed_start (drop found.1 rest))) front

-- ---- rule lines by a colon

-- a colon that no operator begins with ends the test for an assignment
no_name : (count place : ℕ) (after : Text) → operator_of (58 ∷ after) ≡ None → name_end place (58 ∷ take count (mask_from 0 58 false after)) (58 ∷ after) ≡ None
unfolding name_end is_blank
no_name count place after o = rw o refl

colon_left : (after : Text) → take (left_before (58 ∷ after)) (mask_from 0 0 false (58 ∷ after)) ≡ 58 ∷ take (before_comment false (mask_from 0 58 false after)) (mask_from 0 58 false after)
unfolding before_comment
colon_left after = ap (λ (m : List ℕ). take (before_comment false m) m) (own_byte 0 58 after refl)

none_named : (word after : Text) → list_all is_quiet word ≡ true → operator_of (58 ∷ after) ≡ None
    → assignment_parts (word ++ (58 ∷ after)) (symbols_of word (58 ∷ after)) 0 ≡ None
unfolding assignment_parts
none_named word after h o = grind (arith, colon_left, take, name_over, no_name, length)

bytes_same : (word needle : Text) → bytes_eq word needle ≡ true → word ≡ needle
bytes_same word needle h = (bytes_eq-Decides word needle).0 h

-- a word with a colon is none of those that count
has_colon : Text → Bool
has_colon text = list_any (λ byte. byte == 58) text

differs : (word needle : Text) → has_colon word ≡ true → has_colon needle ≡ false → bytes_eq word needle ≡ false
unfolding has_colon
differs word needle some none = search (rules, false_from_ne_true, true≢false, has_colon, bytes_same)

colon_after : (word : Text) (tail : Text) → has_colon (word ++ 58 ∷ tail) ≡ true
unfolding has_colon
colon_after [] tail = refl
colon_after (byte ∷ word) tail = ⊎_elim (λ (h : (byte == 58) ≡ true). rw h refl) (λ (h : (byte == 58) ≡ false). rw h (colon_after word tail)) (cases_Bool (byte == 58))

no_block : (word : Text) → has_colon word ≡ true → block_word word ≡ None
unfolding block_word has_colon
no_block word some = grind (arith, has_colon, differs, codes)

no_include : (word : Text) → has_colon word ≡ true → include_word word ≡ None
unfolding include_word has_colon
no_include word some = grind (arith, has_colon, differs, codes)

not_refused : (word : Text) → has_colon word ≡ true → is_refused_word word ≡ false
unfolding is_refused_word has_colon
not_refused word some = grind (arith, has_colon, differs, codes)

unworded : (tab : Bool) (word rest : Text) → has_colon word ≡ true → kind_by_word (directive_of tab word) word rest ≡ rule
unfolding directive_of
unworded tab word rest some = grind (arith, no_include, not_refused, no_block)

solid_colon : (tail : List ℕ) → prefix_len is_solid (58 ∷ tail) ≡ suc (prefix_len is_solid tail)
unfolding is_blank
solid_colon tail = omega arith

-- the first word of a line whose target a colon comes after
word_colon : (word after : Text) → list_all is_quiet word ≡ true → (count : ℕ) × (slice_range (word ++ (58 ∷ after)) 0 (past_word 0 (symbols_of word (58 ∷ after))) ≡ word ++ (58 ∷ take count after))
word_colon word after h =
    let text : Text = word ++ (58 ∷ after) in
    let tail : List ℕ = take (before_comment false (mask_from 0 58 false after)) (mask_from 0 58 false after) in
    let count : ℕ = prefix_len is_solid tail in
    let run = prefix_over is_solid word (58 ∷ tail) (all_quiet is_solid word (λ byte q. (quiet byte q).solid) h) in
    let colon = solid_colon tail in
    let size : past_word 0 (word ++ (58 ∷ tail)) - 0 ≡ length word + suc count = omega arith in (
      count,
      ap (λ (mask : List ℕ). slice_range text 0 (past_word 0 (word ++ mask))) (colon_left after) ∙ ap (λ n. take n text) size
          ∙ take-append-add word (58 ∷ after) (suc count),
    )

kind_colon : (tab : Bool) (word after : Text) → list_all is_quiet word ≡ true → 0 < length word → operator_of (58 ∷ after) ≡ None → form_of (word ++ (58 ∷ after)) tab ≡ rule
unfolding worded
kind_colon tab word after h some o =
    let text : Text = word ++ (58 ∷ after) in
    let mask : List ℕ = symbols_of word (58 ∷ after) in
    let first = word_colon word after h in
    let colon : has_colon (slice_range text 0 (past_word 0 mask)) ≡ true = ap has_colon first.1 ∙ colon_after word (take first.0 after) in
    kind_by tab word (58 ∷ after) None h some (none_named word after h o)
    ∙ unworded tab (slice_range text 0 (past_word 0 mask)) (drop (past_blanks (past_word 0 mask) (mask_of text)) text) colon

-- ---- words that count

record IsOther (byte : ℕ) : Type 0 where
  pub dash : (byte == 45) ≡ false
  pub d : (byte == 100) ≡ false
  pub e : (byte == 101) ≡ false
  pub i : (byte == 105) ≡ false
  pub l : (byte == 108) ≡ false
  pub o : (byte == 111) ≡ false
  pub p : (byte == 112) ≡ false
  pub s : (byte == 115) ≡ false
  pub u : (byte == 117) ≡ false
  pub v : (byte == 118) ≡ false

other_of : (byte : ℕ) (word : Text) → may_be_word (byte ∷ word) ≡ false → IsOther byte
other_of byte word h = grind (arith, or_parts)

no_block_word : (word : Text) → may_be_word word ≡ false → block_word word ≡ None
unfolding block_word
no_block_word word h = grind (arith, other_of)

no_include_word : (word : Text) → may_be_word word ≡ false → include_word word ≡ None
unfolding include_word
no_include_word word h = grind (arith, other_of)

no_refused_word : (word : Text) → may_be_word word ≡ false → is_refused_word word ≡ false
unfolding is_refused_word
no_refused_word word h = grind (arith, other_of)

no_directive : (tab : Bool) (word : Text) → block_word word ≡ None → include_word word ≡ None → directive_of tab word ≡ None
unfolding directive_of
no_directive tab word block included = grind arith

pub no_word : (tab : Bool) (word rest : Text) → may_be_word word ≡ false → rule ≡ kind_by_word (directive_of tab word) word rest
no_word tab word rest h = grind (arith, no_directive, no_block_word, no_include_word, no_refused_word)

-- ---- what the code cuts

pub word_taken : (text : Text) (size : ℕ) → size ≡ position_or_len is_loud text → list_all is_quiet (take size text) ≡ true
word_taken text size is = ap (λ n. list_all is_quiet (take n text)) is ∙ taken_all is_quiet text

pub form_assigned : (text word after rest value : Text) (tab : Bool) (operator : Operator) (size : ℕ) → IsQuietWord word after text → rest ≡ trimmed_start after
    → Some (operator, size) ≡ operator_of rest → size ≤ length rest → value ≡ trimmed_start (drop size rest) → begins_slash value ≡ false
    → assignment word operator value ≡ form_of text tab
form_assigned text word after rest value tab operator size cut r o within v a =
    let here : operator_of (trimmed_start after) ≡ Some (operator, size) = sym (o ∙ ap operator_of r) in
    let all : value ≡ trimmed_start (drop size (trimmed_start after)) = v ∙ ap (λ (t : Text). trimmed_start (drop size t)) r in
    ap (assignment word operator) all
    ∙ sym (ap (λ (t : Text). form_of t tab) cut.0
    ∙ kind_signed tab word after (operator, size) cut.1 cut.2 here (rw r at within) (sym (ap begins_slash all) ∙ a))

pub form_colon : (word after rest : Text) (tab : Bool) → list_all is_quiet word ≡ true → 0 < length word → rest ≡ trimmed_start after → None ≡ operator_of rest → begins_colon after ≡ true
    → rule ≡ form_of (word ++ after) tab
unfolding is_blank
form_colon word after rest tab h some r o colon = grind (arith, true≢false, eqb-true, kind_colon)

pub form_worded : (word after rest : Text) (tab : Bool) → list_all is_quiet word ≡ true → 0 < length word → rest ≡ trimmed_start after → None ≡ operator_of rest → is_apart after ≡ true
    → begins_slash rest ≡ false → kind_by_word (directive_of tab word) word rest ≡ form_of (word ++ after) tab
form_worded word after rest tab h some r o apart a = grind (arith, kind_worded)
