-- Texts without a backslash, in which nothing is quoted, and texts without a colon, which aren't cut.
use Rattle.std.proofs.Common.{◌≡◌, ℕ, zero, suc, ◌+◌, ◌-◌, ◌<◌, ◌≤◌, Bool, false, [], ◌∷◌, Option, None, Some, length, refl, sym, ◌∙◌, ap, arith, true≢false, get_or, take, drop, ◌==◌, if◌then◌else◌}
use Rattle.kt_rules.proofs.Common.{list_any, position_or_len, eq-eqb, eqb-true, false_from_ne_true, le-ltb, ne_eqb, or_parts, list_any_at, IsFirstByte, OccursAt, is_byte, Text, quotes_percent, list_any-place, first_byte_place, occurs_found, Colon, cut_place, name_of, unquoted, without_dots, colon_cut, less_one}
use Rattle.kt_rules.specs.views.Cuts.{ends_in_backslash}
use Rattle.kt_rules.specs.inner.Telling.{is_backslash}

one_stays : (byte : ℕ) (text : Text) → is_backslash byte ≡ false → unquoted (byte ∷ text) ≡ byte ∷ unquoted text
unfolding unquoted
one_stays byte text h = rw h refl

pub quotes_nothing : (text : Text) → list_any is_backslash text ≡ false → unquoted text ≡ text
unfolding unquoted
quotes_nothing [] none = refl
quotes_nothing (byte ∷ text) none = grind (arith, one_stays, or_parts, quotes_nothing text (or_parts (is_backslash byte) (list_any is_backslash text) none).1)

stands_nowhere : (text : Text) → list_any is_backslash text ≡ false → (k : ℕ) → 0 ≤ k → k < length text + 1
    → ¬ OccursAt text (92 ∷ 37 ∷ []) k
stands_nowhere text none k low high stands = grind (arith, get_or, length, true≢false, list_any_at, eq-eqb)

pub quotes_no_percent : (text : Text) → list_any is_backslash text ≡ false → quotes_percent text ≡ false
quotes_no_percent text none = sym (occurs_found text (92 ∷ 37 ∷ []) None (stands_nowhere text none))

uncut : (past : Bool) (byte : ℕ) (text : Text) → (byte == 58) ≡ false
    → cut_place Colon past (byte ∷ text) ≡ suc (cut_place Colon (byte == 92) text)
unfolding cut_place
uncut past byte text h = rw h refl

never_cut : (past : Bool) (text : Text) → list_any (is_byte 58) text ≡ false → cut_place Colon past text ≡ length text
unfolding cut_place
never_cut past [] none = refl
never_cut past (byte ∷ text) none = grind (arith, uncut, or_parts, never_cut (byte == 92) text (or_parts (byte == 58) (list_any (is_byte 58) text) none).1)

not_found : (text : Text) → IsFirstByte (is_byte 58) text None → list_any (is_byte 58) text ≡ false
not_found text found =
    let same : length text ≡ position_or_len (is_byte 58) text = first_byte_place (is_byte 58) text None found in
    list_any-place (is_byte 58) text ∙ le-ltb _ _ (omega arith)

at_end : (place size : ℕ) (cut : Option (Text × Text)) → place ≡ size → (if place == size then None else cut) ≡ None
at_end place size cut h = rw (eq-eqb place size h) refl

pub never_colon : (text : Text) → list_any (is_byte 58) text ≡ false → colon_cut text ≡ None
unfolding colon_cut
never_colon text none = grind (arith, at_end, length, take, never_cut)

pub no_colon : (text : Text) → IsFirstByte (is_byte 58) text None → colon_cut text ≡ None
no_colon text found = never_colon text (not_found text found)

-- whether a text ends in a backslash up to a place, by the byte before it
last_tells : (past : Bool) (text : Text) (n : ℕ) → n < length text → ends_in_backslash past (take (suc n) text) ≡ (get_or text n 0 == 92)
last_tells past [] n within = absurd (omega (arith, within))
last_tells past (byte ∷ text) zero within = refl
last_tells past (byte ∷ text) (suc n) within = last_tells (byte == 92) text n (omega (arith, within))

pub marked_at : (text : Text) (place : ℕ) → 0 < place → place ≤ length text
    → ends_in_backslash false (take place text) ≡ (get_or text (place - 1) 0 == 92)
marked_at text place some within = grind (arith, last_tells, get_or, less_one)

-- a text is cut at its first colon, unless a backslash stands before that
cut_first : (past : Bool) (text : Text) (n : ℕ) → n < length text → ((k : ℕ) → k < n → (get_or text k 0 == 58) ≡ false)
    → get_or text n 0 ≡ 58 → ends_in_backslash past (take n text) ≡ false → cut_place Colon past text ≡ n
unfolding cut_place
cut_first past [] n within before is plain = absurd (omega (arith, within))
cut_first past (byte ∷ text) zero within before is plain = rw (is, plain) refl
cut_first past (byte ∷ text) (suc n) within before is plain =
    uncut past byte text (before 0 (omega arith))
    ∙ ap suc (cut_first (byte == 92) text n (omega (arith, within)) (λ k l. before (suc k) (omega (arith, l))) is plain)

not_at_end : (place size : ℕ) (cut : Text × Text) → place < size → (if place == size then None else Some cut) ≡ Some cut
not_at_end place size cut within = rw (ne_eqb place size (λ e. absurd (omega (arith, e, within)))) refl

pub first_colon : (text : Text) (place : ℕ) → IsFirstByte (is_byte 58) text (Some place) → ends_in_backslash false (take place text) ≡ false
    → colon_cut text ≡ Some (take place text, drop (place + 1) text)
unfolding colon_cut
first_colon text place found plain = grind (arith, length, cut_first, false_from_ne_true, eqb-true, not_at_end, take)

-- a word without a backslash spells itself
pub names_itself : (word : Text) → list_any is_backslash word ≡ false → name_of word ≡ without_dots word
unfolding name_of
names_itself word none = ap without_dots (quotes_nothing word none)
