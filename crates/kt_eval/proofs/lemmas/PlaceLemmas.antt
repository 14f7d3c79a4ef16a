-- Texts cut at the first byte of a kind.
use Rattle.std.proofs.Common.{◌≡◌, ℕ, ◌+◌, true, false, List, None, Some, length, take, drop, ap, ◌∙◌, arith, nat_eq}
use Rattle.kt_eval.proofs.Common.{position_or_len, list_any, before_first, after_first, le-ltb, lt-ltb}
use Rattle.memchr.specs.Find.{IsFirstByte, is_byte}
use Rattle.kt_text.proofs.lemmas.PlaceLemmas.{first_byte_place}
use Rattle.kt_text.proofs.lemmas.MatchLemmas.{list_any-place}

-- where the byte was found
pub byte_found : (wanted : ℕ) (text : List ℕ) (place : ℕ) → IsFirstByte (is_byte wanted) text (Some place)
    → (list_any (λ byte. nat_eq byte wanted) text ≡ true) × (take place text ≡ before_first (λ byte. nat_eq byte wanted) text) × (drop (place + 1) text ≡ after_first (λ byte. nat_eq byte wanted) text)
byte_found wanted text place found =
    let same : place ≡ position_or_len (λ byte. nat_eq byte wanted) text = first_byte_place (λ byte. nat_eq byte wanted) text (Some place) found in
    (list_any-place (λ byte. nat_eq byte wanted) text ∙ lt-ltb _ _ (omega (arith, found.0.high)), ap (λ n. take n text) same, ap (λ n. drop (n + 1) text) same)

-- where it wasn't
pub no_byte_found : (wanted : ℕ) (text : List ℕ) → IsFirstByte (is_byte wanted) text None → list_any (λ byte. nat_eq byte wanted) text ≡ false
no_byte_found wanted text found =
    let same : length text ≡ position_or_len (λ byte. nat_eq byte wanted) text = first_byte_place (λ byte. nat_eq byte wanted) text None found in
    list_any-place (λ byte. nat_eq byte wanted) text ∙ le-ltb _ _ (omega arith)
