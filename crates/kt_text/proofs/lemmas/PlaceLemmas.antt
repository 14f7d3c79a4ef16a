-- Where a byte stands first, as the searches of `memchr` answer it and as std's words on lists say it.
use Rattle.std.proofs.Common.{◌≡◌, ◌==◌, ℕ, ◌+◌, ◌-◌, Bool, true, false, true≢false, List, ◌∷◌, Option, None, Some, length, get_or, add-sub_cancel, drop, refl, sym, ◌∙◌, ap, unwrap_or, is_some, not, ltb, position, ⊎_elim, arith}
use Rattle.kt_text.proofs.Common.{ltb-false, cases_Bool, eq-eqb, eqb-true, false_from_ne_true, position_or_len, prefix_len, suffix_len, position_or_len_is, suffix_len_is, prefix_len-le-length, IsFirstByte, IsLastByte, FindsNeedle, first_of, matches, is_nonempty, occurs}
use Rattle.memchr.proofs.lemmas.ValueLemmas.{FindsNeedle-value}

-- the answer of a search for the first byte that passes, with the length where there is none
pub first_byte_place : (test : ℕ → Bool) (text : List ℕ) (found : Option ℕ) → IsFirstByte test text found → unwrap_or found (length text) ≡ position_or_len test text
first_byte_place test text None h =
    sym (position_or_len_is test text (length text) 0 (omega arith) (λ k l. false_from_ne_true _ (h k (omega arith) l)) (λ l. absurd (omega arith)))
first_byte_place test text (Some place) h = grind (arith, length, position_or_len_is, false_from_ne_true)

-- bytes that differ, in either order
pub differ_turned : (byte other : ℕ) → (byte == other) ≡ false → (other == byte) ≡ false
differ_turned byte other h = false_from_ne_true (other == byte) (λ e. true≢false (sym (eq-eqb byte other (sym (eqb-true other byte e))) ∙ h))

-- a front of passing bytes, one byte at a time
pub drop-prefix_len : (test : ℕ → Bool) (byte : ℕ) (text : List ℕ) → test byte ≡ true → drop (prefix_len test (byte ∷ text)) (byte ∷ text) ≡ drop (prefix_len test text) text
drop-prefix_len test byte text h = rw h (grind arith)

-- the same of `position`
pub unwrap_or-position : (test : ℕ → Bool) (text : List ℕ) → unwrap_or (position test text) (length text) ≡ position_or_len test text
unwrap_or-position test text = grind (arith, length, prefix_len-le-length, not, ⊎_elim, ltb-false, cases_Bool, ltb)

-- an answer of a search for a needle says whether there is a match
is_some-first_of : (places : List ℕ) → is_some (first_of places) ≡ is_nonempty places
unfolding first_of
is_some-first_of places = grind arith

pub occurs_found : (text needle : List ℕ) (found : Option ℕ) → FindsNeedle text needle 0 found → is_some found ≡ occurs needle text
occurs_found text needle found h = ap is_some (FindsNeedle-value text needle found h) ∙ is_some-first_of (matches text needle 0)

-- how many bytes at the end don't pass, by the last that does
pub last_found : (test : ℕ → Bool) (text : List ℕ) (place : ℕ) → IsLastByte test text (Some place)
    → suffix_len (λ byte. not (test byte)) text ≡ length text - (place + 1)
last_found test text place found =
    suffix_len_is (λ byte. not (test byte)) text (place + 1) 0 (omega (arith, found.0.high))
    (λ k l m. rw (false_from_ne_true _ (found.0.after k l m)) refl)
    (λ l. ap (λ n. not (test (get_or text n 0))) (add-sub_cancel place 1) ∙ rw found.1 refl)

pub none_found_last : (test : ℕ → Bool) (text : List ℕ) → IsLastByte test text None → suffix_len (λ byte. not (test byte)) text ≡ length text
none_found_last test text found =
    suffix_len_is (λ byte. not (test byte)) text 0 0 (omega arith)
    (λ k l m. rw (false_from_ne_true _ (found k l m)) refl)
    (λ l. absurd (omega arith)) ∙ omega arith
