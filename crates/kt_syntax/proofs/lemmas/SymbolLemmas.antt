-- A byte that doesn't stand in a line doesn't stand in its mask either, unless as what stands for others.
use Rattle.std.proofs.Common.{◌≡◌, ◌==◌, ◌≤◌, ◌<◌, ◌+◌, ℕ, zero, suc, Bool, true, false, List, [], ◌∷◌, ◌++◌, None, length, take, refl, sym, ap, ◌∙◌, arith, ⊎_elim, ◌⊎◌, inr, append_assoc}
use Rattle.kt_syntax.proofs.Common.{cases_Bool, eqb-true, false_from_ne_true, or_parts, append-nil, replicate-append-replicate, list_any, position_or_len, IsFirstByte, Text, inside, goes_odd, mask_byte, more_masked, mask_from, mask_of, before_comment, comment_place, head_end, backslashes, uncommented, uncommented_of, first_byte_place}

-- what stands for other bytes
abbrev IsOther : ℕ → Type 0
IsOther symbol = (symbol ≡ 32) ⊎ (symbol ≡ inside)

abbrev IsShown : ℕ → ℕ → Type 0
IsShown symbol byte = (symbol ≡ byte) ⊎ IsOther symbol

-- each symbol is its byte, or stands for others
abbrev pub AreShown : List ℕ → Text → Type 0
AreShown [] [] = Unit {0}
AreShown [] (byte ∷ text) = ⊥
AreShown (symbol ∷ mask) [] = ⊥
AreShown (symbol ∷ mask) (byte ∷ text) = IsShown symbol byte × AreShown mask text

byte_shown : (byte more : ℕ) → IsShown (mask_byte byte more) byte
byte_shown byte more = grind (arith, ⊎_elim, cases_Bool)

other_shown : (byte more : ℕ) → 0 < more → IsOther (mask_byte byte more)
other_shown byte more some = grind (arith, ⊎_elim, false_from_ne_true, eqb-true, cases_Bool)

shown_from : (skip symbol : ℕ) (odd : Bool) (text : Text) → (0 < skip → IsOther symbol) → AreShown (mask_from skip symbol odd text) text
unfolding mask_from
shown_from zero symbol odd [] other = tt
shown_from (suc skip) symbol odd [] other = tt
shown_from zero symbol odd (byte ∷ text) other =
    let more = more_masked odd byte text in
    (byte_shown byte more, shown_from more (mask_byte byte more) (goes_odd odd byte) text (other_shown byte more))
shown_from (suc skip) symbol odd (byte ∷ text) other =
    (inr (other (omega arith)), shown_from skip symbol (goes_odd odd byte) text (λ some. other (omega arith)))

mask_shown : (text : Text) → AreShown (mask_of text) text
unfolding mask_of
mask_shown text = shown_from 0 0 false text (λ some. absurd (omega arith))

-- ---- a byte that stands nowhere

abbrev IsAbsent : ℕ → Text → Type 0
IsAbsent sought text = position_or_len (λ b. b == sought) text ≡ length text

pub not_found : (sought : ℕ) (text : Text) → IsFirstByte (λ b. b == sought) text None → IsAbsent sought text
not_found sought text h = sym (first_byte_place (λ b. b == sought) text None h)

pub not_there : (sought : ℕ) (text : Text) → list_any (λ b. b == sought) text ≡ false → IsAbsent sought text
not_there sought [] h = refl
not_there sought (byte ∷ text) h =
    let both = or_parts (byte == sought) (list_any (λ b. b == sought) text) h in
    let later = not_there sought text both.1 in
    rw both.0 (omega arith)

absent_first : (sought byte : ℕ) (text : Text) → IsAbsent sought (byte ∷ text) → (byte == sought) ≡ false
absent_first sought byte text absent = grind (arith, false_from_ne_true)

absent_rest : (sought byte : ℕ) (text : Text) → IsAbsent sought (byte ∷ text) → IsAbsent sought text
absent_rest sought byte text absent = grind (arith, absent_first)

pub nowhere_any : (sought : ℕ) (text : Text) → IsAbsent sought text → list_any (λ b. b == sought) text ≡ false
nowhere_any sought [] absent = refl
nowhere_any sought (byte ∷ text) absent = rw (absent_first sought byte text absent) (nowhere_any sought text (absent_rest sought byte text absent))

-- where none of many bytes stands, one of them doesn't
pub none_of : (test others : ℕ → Bool) (text : Text) → ((byte : ℕ) → test byte ≡ true → others byte ≡ true) → IsFirstByte others text None
    → IsFirstByte test text None
none_of test others text among none = λ k low within is. none k low within (among _ is)

not_shown : (sought symbol byte : ℕ) → (32 == sought) ≡ false → (256 == sought) ≡ false → IsShown symbol byte → (byte == sought) ≡ false → (symbol == sought) ≡ false
not_shown sought symbol byte space reference shown other = grind (arith, ⊎_elim)

no_sign : (odd : Bool) (mask text : Text) → AreShown mask text → IsAbsent 35 text → before_comment odd mask ≡ length text
unfolding before_comment
no_sign odd [] [] shown absent = refl
no_sign odd [] (byte ∷ text) shown absent = absurd shown
no_sign odd (symbol ∷ mask) [] shown absent = absurd shown
no_sign odd (symbol ∷ mask) (byte ∷ text) shown absent =
    let other = not_shown 35 symbol byte refl refl shown.0 (absent_first 35 byte text absent) in
    rw other (ap (λ n. suc n) (no_sign (goes_odd odd symbol) mask text shown.1 (absent_rest 35 byte text absent)))

-- a line without number sign has no comment
pub no_comment : (text : Text) → IsAbsent 35 text → length text ≡ comment_place text
no_comment text absent = sym (no_sign false (mask_of text) text (mask_shown text) absent)

no_symbol : (count sought : ℕ) (mask text : Text) → (32 == sought) ≡ false → (256 == sought) ≡ false → AreShown mask text → IsAbsent sought text
    → count ≤ length text → position_or_len (λ symbol. symbol == sought) (take count mask) ≡ count
no_symbol zero sought mask text space reference shown absent within = refl
no_symbol (suc count) sought [] [] space reference shown absent within = absurd (omega arith)
no_symbol (suc count) sought [] (byte ∷ text) space reference shown absent within = absurd shown
no_symbol (suc count) sought (symbol ∷ mask) [] space reference shown absent within = absurd shown
no_symbol (suc count) sought (symbol ∷ mask) (byte ∷ text) space reference shown absent within =
    let other = not_shown sought symbol byte space reference shown.0 (absent_first sought byte text absent) in
    let rest = no_symbol count sought mask text space reference shown.1 (absent_rest sought byte text absent) (omega arith) in
    rw other (omega arith)

-- the head of a line without semicolon ends where the comment begins
pub no_semicolon : (text : Text) (comment : ℕ) → IsAbsent 59 text → comment ≡ comment_place text → comment ≤ length text → comment ≡ head_end text
unfolding head_end
no_semicolon text comment absent e within =
    sym (no_symbol comment 59 (mask_of text) text refl refl (mask_shown text) absent within)
    ∙ ap (λ n. position_or_len (λ symbol. symbol == 59) (take n (mask_of text))) e

one_backslash : (run : ℕ) (text : Text) → backslashes (run + 1) ++ text ≡ backslashes run ++ 92 ∷ text
one_backslash run text = ap (λ t. t ++ text) (sym (replicate-append-replicate run 1 92)) ∙ append_assoc (backslashes run) (92 ∷ []) text

own_backslash : (symbol byte : ℕ) → IsShown symbol byte → (symbol == 92) ≡ true → 92 ≡ byte
own_backslash symbol byte shown h = grind (arith, eqb-true, ⊎_elim)

nothing_taken : (run : ℕ) (mask text : Text) → AreShown mask text → IsAbsent 35 text → uncommented run mask text ≡ backslashes run ++ text
unfolding uncommented
nothing_taken run [] [] shown absent = sym (append-nil (backslashes run))
nothing_taken run [] (byte ∷ text) shown absent = absurd shown
nothing_taken run (symbol ∷ mask) [] shown absent = absurd shown
nothing_taken run (symbol ∷ mask) (byte ∷ text) shown absent =
    let other = not_shown 35 symbol byte refl refl shown.0 (absent_first 35 byte text absent) in
    let later = absent_rest 35 byte text absent in
    ⊎_elim (λ (h : (symbol == 92) ≡ true).
    rw h (nothing_taken (run + 1) mask text shown.1 later ∙ one_backslash run text ∙ ap (λ b. backslashes run ++ b ∷ text) (own_backslash symbol byte shown.0 h)))
    (λ (h : (symbol == 92) ≡ false). rw (h, other) (ap (λ t. backslashes run ++ byte ∷ t) (nothing_taken 0 mask text shown.1 later)))
    (cases_Bool (symbol == 92))

-- a text without number sign is its own plain text
pub nothing_uncommented : (text : Text) → IsAbsent 35 text → text ≡ uncommented_of text
unfolding uncommented_of
nothing_uncommented text absent = sym (nothing_taken 0 (mask_of text) text (mask_shown text) absent)
