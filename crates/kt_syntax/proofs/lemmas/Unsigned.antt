-- Texts without an equals sign, which each operator ends in: they hold no assignment.
use Rattle.std.proofs.Common.{arith, rules, ◌≡◌, ◌==◌, ℕ, zero, suc, Bool, true, false, List, [], ◌∷◌, Option, None, drop, refl, sym, ap, ◌∙◌, ⊎_elim, true≢false, codes, nat_eq}
use Rattle.kt_syntax.proofs.Common.{and_right, cases_Bool, eqb-true, false_from_ne_true, or_parts, list_any, starts_with, Text, assigns_after, colon_place, is_target_specific, assignment_parts, name_end, operator_of, parts_after}

abbrev is_sign : ℕ → Bool
is_sign byte = byte == 61

-- what a text without a sign begins with has none
beginless : (needle text : Text) → list_any is_sign text ≡ false → list_any is_sign needle ≡ true → starts_with nat_eq text needle ≡ false
beginless [] text none some = absurd (true≢false (sym some))
beginless (byte ∷ needle) [] none some = refl
beginless (byte ∷ needle) (first ∷ text) none some =
    ⊎_elim (λ (sign : is_sign byte ≡ true).
    let here = (or_parts (is_sign first) (list_any is_sign text) none).0 in
    let differ : nat_eq byte first ≡ false = false_from_ne_true (nat_eq byte first)
    (λ e. true≢false (sym (ap is_sign (sym (eqb-true byte first e)) ∙ sign) ∙ here)) in
    rw differ refl)
    (λ (other : is_sign byte ≡ false).
    let later : list_any is_sign needle ≡ true = rw other at some in
    and_right (nat_eq byte first) (starts_with nat_eq text needle)
    (beginless needle text (or_parts (is_sign first) (list_any is_sign text) none).1 later))
    (cases_Bool (is_sign byte))

pub no_sign_no_operator : (text : Text) → list_any is_sign text ≡ false → operator_of text ≡ None
unfolding operator_of
no_sign_no_operator text none = search (rules, beginless, codes)

none_dropped : (count : ℕ) (text : Text) → list_any is_sign text ≡ false → list_any is_sign (drop count text) ≡ false
none_dropped zero text none = none
none_dropped (suc count) [] none = none
none_dropped (suc count) (byte ∷ text) none = none_dropped count text (or_parts (is_sign byte) (list_any is_sign text) none).1

no_parts : (text : Text) (mask : List ℕ) (name : Option ℕ) → list_any is_sign text ≡ false → parts_after text mask name ≡ None
no_parts text mask name none = grind (arith, no_sign_no_operator, none_dropped)

pub no_assignment : (text : Text) (mask : List ℕ) (begin : ℕ) → list_any is_sign text ≡ false → None ≡ assignment_parts text mask begin
unfolding assignment_parts
no_assignment text mask begin none = sym (no_parts text mask (name_end begin (drop begin mask) (drop begin text)) none)

none_after : (text : Text) (mask : List ℕ) (colon : Option ℕ) → list_any is_sign text ≡ false → false ≡ assigns_after text mask colon
none_after text mask colon none = grind (arith, no_assignment)

pub unsigned_is_unspecific : (text : Text) (mask : List ℕ) → list_any is_sign text ≡ false → false ≡ is_target_specific text mask
unfolding is_target_specific
unsigned_is_unspecific text mask none = none_after text mask (colon_place 0 0 mask) none
