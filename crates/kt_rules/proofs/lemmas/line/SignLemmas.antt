-- What the bytes of a head tell of its names: each byte of a name is one of its text, or of `./`.
use Rattle.std.proofs.Common.{rules, ◌≡◌, ℕ, Bool, true, false, not, List, [], ◌∷◌, length, take, map, fold, Option, Some, None, is_some, refl, ⊎_elim, arith, ◌==◌, ◌&&◌, ◌||◌, option_map}
use Rattle.kt_rules.proofs.Common.{list_any, onto_first, cases_Bool, le-ltb, lt-ltb, or_parts, IsFirstByte, is_byte3, Text, is_nonempty, list_any-place, first_byte_place, has_percent, is_percent, Separator, HeadNames, after_dots, begins_quotable, cuts, is_refused_name, is_wildcard, name_of, cut_pieces, unquoted, with_name, without_dots, without_repeats, written_words, Head, line_of, name_refusal, needs_of, option_list, tested_needs}
use Rattle.kt_rules.specs.declared.line.signs.Signs.{Signs}
use Rattle.kt_rules.specs.inner.Telling.{Tells, is_backslash, is_telling, signs_of}
use Rattle.kt_rules.proofs.lemmas.line.NoneLemmas.{none_found, none_joined, none_kept, none_left, none_more, none_of_fewer, none_taken}
use Rattle.kt_rules.proofs.lemmas.line.RefusedLemmas.{none_of, plain_name_taken}

-- ---- telling bytes, three at a time

pub any_found : (test : ℕ → Bool) (text : Text) (found : Option ℕ) → IsFirstByte test text found → list_any test text ≡ is_some found
any_found test text found' found = grind (arith, length, first_byte_place, list_any-place, le-ltb, lt-ltb)

one_tells : (byte : ℕ) → is_telling byte ≡ (is_byte3 42 63 91 byte || is_byte3 92 41 126 byte)
unfolding is_wildcard
one_tells byte = grind arith

regrouped : (a b c d : Bool) → ((a || b) || (c || d)) ≡ ((a || c) || (b || d))
regrouped a b c d = grind arith

pub three_tell : (text : Text) → list_any is_telling text ≡ (list_any (is_byte3 42 63 91) text || list_any (is_byte3 92 41 126) text)
three_tell [] = refl
three_tell (byte ∷ text) = grind (arith, one_tells, regrouped, three_tell text)

-- ---- names of a text that has no byte of a kind

module _ (test : ℕ → Bool) where
  none_first : (byte : ℕ) (pieces : List Text) → test byte ≡ false → list_any (list_any test) pieces ≡ false
      → list_any (list_any test) (onto_first byte pieces) ≡ false
  none_first byte pieces here none = grind (arith, or_parts, none_more)

  none_in_pieces : (past : Bool) (text : Text) → list_any test text ≡ false → list_any (list_any test) (cut_pieces Separator past text) ≡ false
  unfolding cut_pieces
  none_in_pieces past [] none = refl
  none_in_pieces past (byte ∷ text) none =
      let parts = or_parts (test byte) (list_any test text) none in
      ⊎_elim (λ h. rw h (none_in_pieces false text parts.1))
      (λ h. rw h (none_first byte (cut_pieces Separator (byte == 92) text) parts.0 (none_in_pieces (byte == 92) text parts.1)))
      (cases_Bool (cuts Separator past byte))

  pub none_in_words : (text : Text) → list_any test text ≡ false → list_any (list_any test) (written_words text) ≡ false
  unfolding written_words
  none_in_words text none = none_kept (list_any test) is_nonempty (cut_pieces Separator false text) (none_in_pieces false text none)

  none_unquoted : (word : Text) → list_any test word ≡ false → list_any test (unquoted word) ≡ false
  unfolding unquoted
  none_unquoted [] none = refl
  none_unquoted (byte ∷ word) none =
      let parts = or_parts (test byte) (list_any test word) none in
      let rest = none_unquoted word parts.1 in
      ⊎_elim (λ h. rw h rest) (λ h. rw h (none_more test byte (unquoted word) parts.0 rest)) (cases_Bool (byte == 92 && begins_quotable word))

  none_after_dots : (past : Bool) (name : Text) → list_any test name ≡ false → list_any test (after_dots past name) ≡ false
  unfolding after_dots
  none_after_dots past [] none = refl
  none_after_dots past (byte ∷ []) none = grind (arith, ⊎_elim, cases_Bool)
  none_after_dots past (byte ∷ next ∷ name) none =
      let rest = (or_parts (test byte) (list_any test (next ∷ name)) none).1 in
      ⊎_elim (λ h. rw h (none_after_dots true (next ∷ name) rest))
      (λ h. rw h (⊎_elim (λ k. rw k (none_after_dots true name (or_parts (test next) (list_any test name) rest).1)) (λ k. rw k none)
      (cases_Bool (byte == 46 && next == 47))))
      (cases_Bool (past && byte == 47))

  none_dotless : (name : Text) → test 46 ≡ false → test 47 ≡ false → list_any test name ≡ false → list_any test (without_dots name) ≡ false
  unfolding without_dots
  none_dotless name dot slash none = grind (arith, ⊎_elim, none_after_dots, cases_Bool, length, not)

  none_named : (words : List Text) → test 46 ≡ false → test 47 ≡ false → list_any (list_any test) words ≡ false
      → list_any (list_any test) (map name_of words) ≡ false
  unfolding name_of
  none_named [] dot slash none = refl
  none_named (word ∷ words) dot slash none =
      let parts = or_parts (list_any test word) (list_any (list_any test) words) none in
      none_more (list_any test) (name_of word) (map name_of words) (none_dotless (unquoted word) dot slash (none_unquoted word parts.0))
      (none_named words dot slash parts.1)

-- names that are added, each at its first place
none_added : (test : Text → Bool) (names added : List Text) → list_any test names ≡ false → list_any test added ≡ false
    → list_any test (fold with_name names added) ≡ false
none_added test names [] none others = none
none_added test names (name ∷ added) none others =
    let parts = or_parts (test name) (list_any test added) others in
    let more : list_any test (with_name names name) ≡ false
    = grind (arith, ⊎_elim, none_joined, none_more, cases_Bool) in
    none_added test (with_name names name) added more parts.1

-- no target has a byte that the text of the targets hasn't
targets_lack : (test : ℕ → Bool) (text : Text) → test 46 ≡ false → test 47 ≡ false → list_any test text ≡ false
    → list_any (list_any test) (without_repeats (map name_of (written_words text))) ≡ false
unfolding without_repeats
targets_lack test text dot slash none = search (rules, none_added, none_named, none_in_words)

-- ---- the tests of names

accepted : (names : List Text) → list_any (list_any is_telling) names ≡ false → list_any is_refused_name names ≡ false
accepted names none = none_of_fewer (list_any is_telling) is_refused_name names plain_name_taken none

pattern_accepted : (pattern : Option Text) → list_any (list_any is_telling) (option_list pattern) ≡ false
    → list_any is_refused_name (option_list (option_map name_of pattern)) ≡ false
unfolding is_wildcard
pattern_accepted None none = refl
pattern_accepted (Some word) none = accepted (name_of word ∷ []) (none_named is_telling (word ∷ []) refl refl none)

-- some of the names of words
some_accepted : (words : List Text) → list_any (list_any is_telling) words ≡ false → list_any is_refused_name (map name_of words) ≡ false
unfolding is_wildcard
some_accepted words none = accepted (map name_of words) (none_named is_telling words refl refl none)

needs_accepted : (line : HeadNames) (text : Text) → list_any is_telling text ≡ false → line.needs ≡ needs_of (written_words text)
    → list_any is_refused_name (tested_needs line) ≡ false
unfolding tested_needs needs_of
needs_accepted line text none is = grind (arith, none_in_words, some_accepted, take, none_taken, none_left, ⊎_elim, none_joined, cases_Bool)

none_refused : (head : Head) → (signs_of head).telling ≡ false → name_refusal (line_of head) ≡ None
unfolding is_wildcard name_refusal
none_refused head none = grind (arith, or_parts, none_found, none_joined, accepted, targets_lack, pattern_accepted, needs_accepted)

no_percent : (head : Head) → (signs_of head).percent ≡ false → list_any has_percent (line_of head).targets ≡ false
unfolding has_percent is_percent
no_percent head none = targets_lack is_percent head.targets refl refl none

-- without a telling byte a text has no backslash
pub no_backslash_in : (text : Text) → list_any is_telling text ≡ false → list_any is_backslash text ≡ false
no_backslash_in text none = none_of_fewer is_telling is_backslash text (λ byte quiet. (none_of byte quiet).backslash) none

pub plain_text_of_targets : (head : Head) (signs : Signs) → signs ≡ signs_of head → signs.telling ≡ false → list_any is_backslash head.targets ≡ false
plain_text_of_targets head signs is none = grind (arith, no_backslash_in, or_parts)

pub plain_text_of_needs : (head : Head) (signs : Signs) → signs ≡ signs_of head → signs.telling ≡ false → list_any is_backslash head.needs ≡ false
plain_text_of_needs head signs is none = grind (arith, no_backslash_in, or_parts)

pub signs_tell : (head : Head) (signs : Signs) (line : HeadNames) → signs ≡ signs_of head → line ≡ line_of head → Tells signs line
signs_tell head signs line told is = rw (told, is) (record { names = none_refused head; targets = no_percent head })
