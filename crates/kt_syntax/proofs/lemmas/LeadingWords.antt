-- Lines that begin with a word of blocks: their symbols, and their kind.
use Rattle.std.proofs.Common.{rules, ◌≡◌, ◌==◌, ◌&&◌, ◌+◌, ◌-◌, ◌<◌, ℕ, zero, suc, Bool, true, false, not, List, [], ◌∷◌, ◌++◌, Option, Some, None, length, take, drop, refl, sym, ap, ◌∙◌, arith, zero-add, ⊎_elim, true≢false, take-append-drop, is_some}
use Rattle.kt_syntax.proofs.Common.{take-append_seam, take-append-add, drop-append_seam, drop-append-add, and_parts, cases_Bool, eqb-true, false_from_ne_true, not-true, not_from_false, or_parts, list_all, prefix_len, slice_range, take_nil, Text, is_blank, trimmed_start, Parts, assignment_parts, before_comment, block_word, comment_place, directive, directive_of, kind_by_parts, kind_by_word, form_of, kind_within, name_end, operator_of, parts_after, parts_at, past_blanks, past_word, worded, mask_byte, mask_from, mask_of, more_masked, Operator}
use Rattle.kt_syntax.specs.declared.form.Directive.{Directive}
use Rattle.kt_syntax.proofs.lemmas.Masking.{mask_from-nil}
use Rattle.kt_syntax.proofs.lemmas.OwnRuns.{name_goes_on, no_operator}
use Rattle.kt_syntax.proofs.lemmas.OwnSymbols.{own_byte, same_symbol}
use Rattle.kt_syntax.specs.Roles.{first_word, starts_condition}
use Rattle.kt_syntax.specs.inner.Leading.{IsLed, begins_slash, block_text, is_apart, is_loud, may_assign}
use Rattle.kt_syntax.specs.inner.OwnRuns.{ends_own_name, is_mark}

-- ---- bytes

-- a byte of a word: it ends no name, and begins no comment
abbrev pub is_quiet : ℕ → Bool
is_quiet byte = not (is_loud byte)

-- a byte that is its own symbol
abbrev pub is_own : ℕ → Bool
is_own byte = not (is_mark byte)

-- one that begins no comment, and quotes none
abbrev is_calm : ℕ → Bool
is_calm byte = not (byte == 35) && not (byte == 92)

abbrev pub is_solid : ℕ → Bool
is_solid byte = not (is_blank byte)

pub record IsQuiet (byte : ℕ) : Type 0 where
  pub name : ends_own_name byte ≡ false
  pub own : is_own byte ≡ true
  pub calm : is_calm byte ≡ true
  pub solid : is_solid byte ≡ true

pub quiet : (byte : ℕ) → is_quiet byte ≡ true → IsQuiet byte
quiet byte h = grind (arith, or_parts, not-true, not_from_false)

-- what holds of each quiet byte holds of all of a quiet text
pub all_quiet : (test : ℕ → Bool) (text : Text) → ((byte : ℕ) → is_quiet byte ≡ true → test byte ≡ true) → list_all is_quiet text ≡ true → list_all test text ≡ true
all_quiet test [] each h = refl
all_quiet test (byte ∷ text) each h =
    let both = and_parts (is_quiet byte) (list_all is_quiet text) h in
    rw (each byte both.0) (all_quiet test text each both.1)

blank_own : (byte : ℕ) → is_blank byte ≡ true → is_own byte ≡ true
unfolding is_blank
blank_own byte h = grind (arith, ⊎_elim, eqb-true, cases_Bool)

blank_calm : (byte : ℕ) → is_blank byte ≡ true → is_calm byte ≡ true
unfolding is_blank
blank_calm byte h = grind (arith, ⊎_elim, eqb-true, cases_Bool)

all_blank : (test : ℕ → Bool) (text : Text) → ((byte : ℕ) → is_blank byte ≡ true → test byte ≡ true) → list_all is_blank text ≡ true → list_all test text ≡ true
all_blank test [] each h = refl
all_blank test (byte ∷ text) each h =
    let both = and_parts (is_blank byte) (list_all is_blank text) h in
    rw (each byte both.0) (all_blank test text each both.1)

-- ---- a front of such bytes

pub prefix_over : (test : ℕ → Bool) (front tail : List ℕ) → list_all test front ≡ true → prefix_len test (front ++ tail) ≡ length front + prefix_len test tail
prefix_over test [] tail h = sym (zero-add _)
prefix_over test (byte ∷ front) tail h =
    let both = and_parts (test byte) (list_all test front) h in
    let later = prefix_over test front tail both.1 in
    rw both.0 (omega arith)

pub own_over : (symbol : ℕ) (front tail : Text) → list_all is_own front ≡ true → mask_from 0 symbol false (front ++ tail) ≡ front ++ mask_from 0 0 false tail
own_over symbol [] tail h = same_symbol symbol 0 tail
own_over symbol (byte ∷ front) tail h =
    let both = and_parts (is_own byte) (list_all is_own front) h in
    own_byte symbol byte (front ++ tail) (not-true (is_mark byte) both.0) ∙ ap (λ (mask : List ℕ). byte ∷ mask) (own_over byte front tail both.1)

comment_over : (front : Text) (mask : List ℕ) → list_all is_calm front ≡ true → before_comment false (front ++ mask) ≡ length front + before_comment false mask
unfolding before_comment
comment_over [] mask h = sym (zero-add _)
comment_over (byte ∷ front) mask h =
    let both = and_parts (is_calm byte) (list_all is_calm front) h in
    let calm = and_parts (not (byte == 35)) (not (byte == 92)) both.0 in
    let later = comment_over front mask both.1 in
    rw (not-true (byte == 35) calm.0, not-true (byte == 92) calm.1) (omega arith)

pub name_over : (place : ℕ) (front : Text) (mask : List ℕ) (text : Text) → list_all is_quiet front ≡ true
    → name_end place (front ++ mask) (front ++ text) ≡ name_end (place + length front) mask text
name_over place [] mask text h = ap (λ n. name_end n mask text) (let same : place ≡ place + 0 = omega arith in same)
name_over place (byte ∷ front) mask text h =
    let both = and_parts (is_quiet byte) (list_all is_quiet front) h in
    let count : place + 1 + length front ≡ place + length (byte ∷ front) = omega arith in
    name_goes_on place byte (front ++ mask) (front ++ text) (quiet byte both.0).name ∙ name_over (place + 1) front mask text both.1
    ∙ ap (λ n. name_end n mask text) count

-- ---- blanks after a word

begins_blank : Text → Bool
begins_blank [] = false
begins_blank (byte ∷ text) = is_blank byte

pub taken_all : (test : ℕ → Bool) (text : Text) → list_all test (take (prefix_len test text) text) ≡ true
taken_all test [] = refl
taken_all test (byte ∷ text) =
    ⊎_elim (λ (h : test byte ≡ true).
    let run : prefix_len test (byte ∷ text) ≡ suc (prefix_len test text) = rw h (omega arith) in
    ap (λ n. list_all test (take n (byte ∷ text))) run ∙ rw h (taken_all test text))
    (λ (h : test byte ≡ false).
    let run : prefix_len test (byte ∷ text) ≡ 0 = rw h refl in
    ap (λ n. list_all test (take n (byte ∷ text))) run)
    (cases_Bool (test byte))

taken_blank : (text : Text) → list_all is_blank (take (prefix_len is_blank text) text) ≡ true
taken_blank text = taken_all is_blank text

trimmed_open : (text : Text) → begins_blank (trimmed_start text) ≡ false
unfolding begins_blank
trimmed_open [] = refl
trimmed_open (byte ∷ text) =
    ⊎_elim (λ (h : is_blank byte ≡ true).
    let run : prefix_len is_blank (byte ∷ text) ≡ suc (prefix_len is_blank text) = rw h (omega arith) in
    ap (λ n. begins_blank (drop n (byte ∷ text))) run ∙ trimmed_open text)
    (λ (h : is_blank byte ≡ false).
    let run : prefix_len is_blank (byte ∷ text) ≡ 0 = rw h refl in
    ap (λ n. begins_blank (drop n (byte ∷ text))) run ∙ h)
    (cases_Bool (is_blank byte))

-- a byte that is neither a blank nor a backslash stands for no blank
first_open : (byte : ℕ) (text : Text) → is_blank byte ≡ false → (byte == 92) ≡ false → is_blank (mask_byte byte (more_masked false byte text)) ≡ false
unfolding more_masked is_blank
first_open byte text blank backslash = grind (arith, ⊎_elim, cases_Bool)

pub none_taken : (count symbol : ℕ) (mask : List ℕ) → is_blank symbol ≡ false → prefix_len is_blank (take count (symbol ∷ mask)) ≡ 0
none_taken count symbol mask h = grind arith

-- so no blank comes at the begin of what is left of a mask
open_taken : (count : ℕ) (text : Text) → begins_blank text ≡ false → begins_slash text ≡ false → prefix_len is_blank (take count (mask_from 0 0 false text)) ≡ 0
unfolding begins_blank mask_from
open_taken count text b a = grind (arith, take_nil, first_open, none_taken)

open_whole : (text : Text) → begins_blank text ≡ false → begins_slash text ≡ false → prefix_len is_blank (mask_from 0 0 false text) ≡ 0
unfolding begins_blank mask_from
open_whole text b a = grind (arith, first_open)

unassigning : (text : Text) → may_assign text ≡ false → (operator_of text ≡ None) × (begins_slash text ≡ false)
unfolding operator_of
unassigning text a = search (rules, or_parts, no_operator)

-- ---- a word with what comes after it

-- how many symbols of what comes after a word stand before the comment
abbrev pub left_before : Text → ℕ
left_before after = before_comment false (mask_from 0 0 false after)

pub mask_led : (word after : Text) → list_all is_quiet word ≡ true → mask_of (word ++ after) ≡ word ++ mask_from 0 0 false after
unfolding mask_of
mask_led word after h = own_over 0 word after (all_quiet is_own word (λ byte q. (quiet byte q).own) h)

front_led : (word after : Text) → list_all is_quiet word ≡ true
    → take (comment_place (word ++ after)) (mask_of (word ++ after)) ≡ word ++ take (left_before after) (mask_from 0 0 false after)
front_led word after h = grind (arith, comment_over, all_quiet, quiet, take, mask_led, take-append-add)

-- a word ends at the end and at a blank
ends_there : (count : ℕ) (after : Text) → is_apart after ≡ true → prefix_len is_solid (take count (mask_from 0 0 false after)) ≡ 0
ends_there count [] h = ap (λ (mask : List ℕ). prefix_len is_solid mask) (ap (take count) (mask_from-nil 0 0 false) ∙ take_nil count)
ends_there zero (byte ∷ after) h = refl
ends_there (suc count) (byte ∷ after) h =
    ap (λ (mask : List ℕ). prefix_len is_solid (take (suc count) mask)) (own_byte 0 byte after (not-true (is_mark byte) (blank_own byte h))) ∙ rw h refl

word_led : (word after : Text) → list_all is_quiet word ≡ true → is_apart after ≡ true
    → past_word 0 (word ++ take (left_before after) (mask_from 0 0 false after)) ≡ length word
word_led word after h apart = grind (arith, take, prefix_over, all_quiet, quiet, ends_there)

pub cut_led : (word after : Text) → slice_range (word ++ after) 0 (length word) ≡ word
cut_led word after = ap (λ n. take n (word ++ after)) (let all : length word - 0 ≡ length word = omega arith in all) ∙ take-append_seam word after

-- the name of an assignment would end there, too
pub name_led : (count place : ℕ) (after : Text) → is_apart after ≡ true → name_end place (take count (mask_from 0 0 false after)) after ≡ Some place
unfolding name_end
name_led count place [] h = ap (λ (mask : List ℕ). name_end place mask []) (ap (take count) (mask_from-nil 0 0 false) ∙ take_nil count)
name_led zero place (byte ∷ after) h = refl
name_led (suc count) place (byte ∷ after) h =
    ap (λ (mask : List ℕ). name_end place (take (suc count) mask) (byte ∷ after)) (own_byte 0 byte after (not-true (is_mark byte) (blank_own byte h))) ∙ rw h refl

-- ---- blanks after the word

abbrev pub run_of : Text → ℕ
run_of after = prefix_len is_blank after

-- the symbols of what comes after the word: its blanks, and those of the rest
pub mask_apart : (after : Text) → mask_from 0 0 false after ≡ take (run_of after) after ++ mask_from 0 0 false (trimmed_start after)
mask_apart after =
    ap (mask_from 0 0 false) (sym (take-append-drop (run_of after) after))
    ∙ own_over 0 (take (run_of after) after) (trimmed_start after) (all_blank is_own (take (run_of after) after) blank_own (taken_blank after))

pub length_run : (after : Text) → length (take (run_of after) after) ≡ run_of after
length_run [] = refl
length_run (byte ∷ after) =
    ⊎_elim (λ (h : is_blank byte ≡ true).
    let run : run_of (byte ∷ after) ≡ suc (run_of after) = rw h (omega arith) in
    ap (λ n. length (take n (byte ∷ after))) run ∙ ap suc (length_run after) ∙ sym run)
    (λ (h : is_blank byte ≡ false).
    let run : run_of (byte ∷ after) ≡ 0 = rw h refl in
    ap (λ n. length (take n (byte ∷ after))) run ∙ sym run)
    (cases_Bool (is_blank byte))

pub run_whole : (after : Text) → begins_slash (trimmed_start after) ≡ false → prefix_len is_blank (mask_from 0 0 false after) ≡ run_of after
run_whole after a = grind (arith, take, prefix_over, taken_blank, open_whole, trimmed_open, length_run, mask_apart)

run_before : (after : Text) → begins_slash (trimmed_start after) ≡ false → prefix_len is_blank (take (left_before after) (mask_from 0 0 false after)) ≡ run_of after
run_before after a = grind (arith, take, comment_over, all_blank, blank_calm, taken_blank, mask_apart, take-append-add, prefix_over, open_taken, trimmed_open, length_run)

-- the blanks after the word, by a mask that begins with it
blanks_led : (word : Text) (tail : List ℕ) (after : Text) → prefix_len is_blank tail ≡ run_of after → past_blanks (length word) (word ++ tail) ≡ length word + run_of after
blanks_led word tail after h = ap (λ (mask : List ℕ). length word + prefix_len is_blank mask) (drop-append_seam word tail) ∙ ap (λ n. length word + n) h

-- ---- the kind of such a line

-- the symbols before the comment
abbrev pub symbols_of : Text → Text → List ℕ
symbols_of word after = word ++ take (left_before after) (mask_from 0 0 false after)

-- its kind, by what it is as an assignment
pub kind_by : (tab : Bool) (word after : Text) (parts : Option Parts) → list_all is_quiet word ≡ true → 0 < length word → assignment_parts (word ++ after) (symbols_of word after) 0 ≡ parts
    → form_of (word ++ after) tab ≡ kind_by_parts tab (word ++ after) (symbols_of word after) 0 parts
unfolding form_of kind_within
kind_by tab [] after parts h some p = absurd (omega arith)
kind_by tab (first ∷ others) after parts h some p =
    let word : Text = first ∷ others in
    let text : Text = word ++ after in
    let mask : List ℕ = symbols_of word after in
    let solid : is_blank first ≡ false = not-true (is_blank first) (quiet first (and_parts (is_quiet first) (list_all is_quiet others) h).0).solid in
    let begin : past_blanks 0 mask ≡ 0 = rw solid refl in
    let more : (0 == length mask) ≡ false = false_from_ne_true (0 == length mask) (λ e. absurd (let none = eqb-true 0 (length mask) e in omega arith)) in
    ap (λ (m : List ℕ). kind_within tab text m (past_blanks 0 m)) (front_led word after h)
    ∙ ap (kind_within tab text mask) begin
    ∙ rw more (ap (kind_by_parts tab text mask 0) p)

-- what stands after the name and the blanks
rest_led : (word after : Text) → drop (length word + run_of after) (word ++ after) ≡ trimmed_start after
rest_led word after = drop-append-add word after (run_of after)

parts_led : (word after : Text) (found : Option (Operator × ℕ)) → begins_slash (trimmed_start after) ≡ false → operator_of (trimmed_start after) ≡ found
    → parts_after (word ++ after) (symbols_of word after) (Some (length word)) ≡ parts_at (word ++ after) (length word) (length word + run_of after) found
parts_led word after found a o = grind (arith, blanks_led, take, run_before, length, rest_led)

-- the name ends with the word, where a blank or an operator comes after it
name_is : (word after : Text) → list_all is_quiet word ≡ true → name_end (length word) (take (left_before after) (mask_from 0 0 false after)) after ≡ Some (length word)
    → name_end 0 (symbols_of word after) (word ++ after) ≡ Some (length word)
name_is word after h ends = grind (arith, take, name_over, zero-add, length)

pub assignment_led : (word after : Text) (found : Option (Operator × ℕ)) → list_all is_quiet word ≡ true
    → name_end (length word) (take (left_before after) (mask_from 0 0 false after)) after ≡ Some (length word) → begins_slash (trimmed_start after) ≡ false
    → operator_of (trimmed_start after) ≡ found
    → assignment_parts (word ++ after) (symbols_of word after) 0 ≡ parts_at (word ++ after) (length word) (length word + run_of after) found
unfolding assignment_parts
assignment_led word after found h ends a o = grind (arith, name_is, parts_led)

-- ---- no assignment

worded_led : (tab : Bool) (word after : Text) → list_all is_quiet word ≡ true → is_apart after ≡ true → begins_slash (trimmed_start after) ≡ false
    → worded tab (word ++ after) (symbols_of word after) 0 ≡ kind_by_word (directive_of tab word) word (trimmed_start after)
unfolding worded
worded_led tab word after h apart a = grind (arith, length, mask_led, blanks_led, run_whole, slice_range, word_led, cut_led, rest_led)

pub kind_worded : (tab : Bool) (word after : Text) → list_all is_quiet word ≡ true → 0 < length word → is_apart after ≡ true → begins_slash (trimmed_start after) ≡ false
    → operator_of (trimmed_start after) ≡ None → form_of (word ++ after) tab ≡ kind_by_word (directive_of tab word) word (trimmed_start after)
kind_worded tab word after h some apart a o =
    kind_by tab word after None h some (assignment_led word after None h (name_led (left_before after) (length word) after apart) a o)
    ∙ worded_led tab word after h apart a

first_led : (word after : Text) → list_all is_quiet word ≡ true → is_apart after ≡ true → first_word (word ++ after) ≡ word
unfolding first_word
first_led word after h apart = grind (arith, slice_range, front_led, word_led, cut_led)

-- ---- the words of blocks

no_block : (found : Directive) → block_word [] ≡ Some found → ⊥
unfolding block_word
no_block found h = true≢false (sym (ap is_some h))

-- a word of blocks is quiet, and has a byte
record IsWord (text : Text) : Type 0 where
  pub some : 0 < length text
  pub quiet : list_all is_quiet text ≡ true

block_words : (word : Directive) → block_word (block_text word) ≡ Some word → IsWord (block_text word)
unfolding is_blank
block_words word h = grind (arith, quiet, no_block)

directed : (word : Text) (found : Directive) (rest : Text) → block_word word ≡ Some found → kind_by_word (directive_of false word) word rest ≡ directive found rest
unfolding directive_of
directed word found rest block = rw block refl

pub leading_kind : (text after rest : Text) (word : Directive) → IsLed word text after → rest ≡ trimmed_start after → is_apart after ≡ true → may_assign rest ≡ false
    → directive word rest ≡ form_of text false
leading_kind text after rest word led is apart a = grind (arith, block_words, unassigning, kind_worded, directed)

pub leading_first : (text after : Text) (word : Directive) → IsLed word text after → is_apart after ≡ true → block_word (first_word text) ≡ Some word
leading_first text after word led apart =
    ap block_word (ap first_word led.0 ∙ first_led (block_text word) after (block_words word led.1).quiet apart) ∙ led.1

-- nothing starts no condition
pub nothing_starts : (rest : Text) → length rest ≡ 0 → false ≡ starts_condition rest
unfolding starts_condition first_word block_word before_comment mask_of mask_from
nothing_starts rest none = grind arith
