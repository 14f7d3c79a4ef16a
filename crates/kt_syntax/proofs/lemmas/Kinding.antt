-- Kinds of lines from the places of their parts.
use Rattle.std.proofs.Common.{arith, ◌≡◌, ◌≤◌, ◌-◌, ◌+◌, ◌==◌, ℕ, Bool, true, false, length, take, drop, refl, sym, ap, ◌∙◌, Option, Some}
use Rattle.kt_syntax.proofs.Common.{eq-eqb, false_from_ne_true, eqb-true, take_rest, slice_range, Text, Operator, mask_of, Parts, blank, comment_place, past_blanks, past_word, operator_of, name_end, assignment_parts, directive_of, kind_by_word, kind_by_parts, worded, kind_within, form_of}
use Rattle.kt_syntax.proofs.lemmas.Masking.{length-front}

pub parts_found : (text mask : Text) (begin name place : ℕ) (found : Operator × ℕ) (value : ℕ) → Some name ≡ name_end begin (drop begin mask) (drop begin text)
    → place ≡ past_blanks name mask → Some found ≡ operator_of (take (length text - place) (drop place text)) → value ≡ past_blanks (place + found.1) (mask_of text)
    → Some (record { name = name; operator = found.0; value = value }) ≡ assignment_parts text mask begin
unfolding assignment_parts
parts_found text mask begin name place found value n p o v = grind (arith, take_rest)

pub worded_by : (tab : Bool) (text mask : Text) (begin after rest : ℕ) → after ≡ past_word begin mask → rest ≡ past_blanks after (mask_of text)
    → kind_by_word (directive_of tab (slice_range text begin after)) (slice_range text begin after) (take (length text - rest) (drop rest text)) ≡ worded tab text mask begin
unfolding worded
worded_by tab text mask begin after rest a r = grind (arith, slice_range, take_rest)

-- the front of a line before its comment
within_comment : (text : Text) (tab : Bool) (end begin : ℕ) → end ≡ comment_place text → begin ≡ past_blanks 0 (take end (mask_of text))
    → kind_within tab text (take end (mask_of text)) begin ≡ form_of text tab
unfolding form_of
within_comment text tab end begin e b = grind (arith, take)

pub kind_blank : (text : Text) (tab : Bool) (end begin : ℕ) → end ≡ comment_place text → end ≤ length text → begin ≡ past_blanks 0 (take end (mask_of text)) → begin ≡ end
    → blank ≡ form_of text tab
unfolding kind_within
kind_blank text tab end begin e within b same =
    let at_end : (begin == length (take end (mask_of text))) ≡ true = eq-eqb begin (length (take end (mask_of text))) (same ∙ sym (length-front text end within)) in
    sym (rw at_end refl) ∙ within_comment text tab end begin e b

pub kind_other : (text : Text) (tab : Bool) (end begin : ℕ) (parts : Option Parts) → end ≡ comment_place text → end ≤ length text → begin ≡ past_blanks 0 (take end (mask_of text))
    → (begin ≡ end → ⊥) → parts ≡ assignment_parts text (take end (mask_of text)) begin
    → kind_by_parts tab text (take end (mask_of text)) begin parts ≡ form_of text tab
unfolding kind_within
kind_other text tab end begin parts e within b other p =
    let not_end : (begin == length (take end (mask_of text))) ≡ false =
    false_from_ne_true (begin == length (take end (mask_of text))) (λ h. other (eqb-true begin (length (take end (mask_of text))) h ∙ length-front text end within)) in
    ap (kind_by_parts tab text (take end (mask_of text)) begin) p ∙ sym (rw not_end refl) ∙ within_comment text tab end begin e b
