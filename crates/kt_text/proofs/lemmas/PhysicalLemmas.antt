-- The physical lines of a text.
use Rattle.std.proofs.Common.{◌≡◌, ℕ, ◌+◌, ◌-◌, ◌<◌, ◌≤◌, Bool, true, false, List, [], ◌∷◌, length, take, drop, length-take-le, refl, sym, ◌∙◌, ap, arith, Some, None, ◌==◌, if◌then◌else◌, ⊎_elim, slice_index}
use Rattle.kt_text.proofs.Common.{lt-ltb, le-ltb, eqb-true, eq-eqb, cases_Bool, false≢true, list_any, before_first, position_or_len, IsFirstByte, is_byte, line_len, is_ended, newline_pieces, line_len-at, line_len-none, line_len-bounds, lines-step}
use Rattle.kt_text.proofs.lemmas.PlaceLemmas.{first_byte_place}
use Rattle.kt_text.proofs.lemmas.MatchLemmas.{list_any-place}

-- the size of the first line, by where its newline stands
pub line_len-found : (text : List ℕ) (place : ℕ) → IsFirstByte (is_byte 10) text (Some place) → line_len text ≡ place + 1
line_len-found text place found = grind (arith, line_len-at, eqb-true, eq-eqb)

pub line_len-not_found : (text : List ℕ) → IsFirstByte (is_byte 10) text None → line_len text ≡ length text
line_len-not_found text found = line_len-none text (λ k l e. found k (omega arith) l (eq-eqb _ _ e))

-- a byte before a line changes nothing at its end
last-after : (byte : ℕ) (line : List ℕ) → 0 < length line → slice_index (byte ∷ line) (length (byte ∷ line) - 1) ≡ slice_index line (length line - 1)
last-after byte line some = grind (arith, length)

-- so it keeps its newline
is_ended-after : (byte : ℕ) (line : List ℕ) → 0 < length line → is_ended (byte ∷ line) ≡ is_ended line
unfolding is_ended
is_ended-after byte line some = grind (arith, last-after)

-- a line that another byte comes before
longer : (byte next : ℕ) (text : List ℕ) → is_ended (byte ∷ take (line_len (next ∷ text)) (next ∷ text)) ≡ is_ended (take (line_len (next ∷ text)) (next ∷ text))
longer byte next text = grind (arith, line_len-bounds, is_ended-after, take, length-take-le)

-- a line of one byte
ended_alone : (byte : ℕ) (ended : Bool) → (byte == 10) ≡ ended → is_ended (byte ∷ []) ≡ ended
unfolding is_ended
ended_alone byte ended h = h

-- an empty line
pub empty_line : (text : List ℕ) → 1 ≤ length text → slice_index text 0 ≡ 10 → 1 ≡ line_len text
unfolding line_len
empty_line [] some is = absurd (omega (arith, some))
empty_line (byte ∷ text) some is = rw is refl

-- the first piece of a text is its first line
pub pieces-step : (text : List ℕ) → 0 < length text
    → newline_pieces text ≡ take (line_len text) text ∷ (if is_ended (take (line_len text) text) then newline_pieces (drop (line_len text) text) else [])
unfolding newline_pieces line_len
pieces-step [] some = absurd (omega arith)
pieces-step (byte ∷ []) some = grind (arith, ⊎_elim, ended_alone, cases_Bool)
pieces-step (byte ∷ next ∷ text) some =
    let inner = pieces-step (next ∷ text) (omega arith) in
    ⊎_elim (λ h. rw h (rw (ended_alone byte true h) refl)) (λ h. rw h (rw (longer byte next text, inner) refl)) (cases_Bool (byte == 10))

-- a first line without newline is the whole text
pub last-line : (text : List ℕ) → is_ended (take (line_len text) text) ≡ false → length (drop (line_len text) text) ≡ 0
unfolding line_len
last-line [] unended = refl
last-line (byte ∷ []) unended = ⊎_elim (λ h. rw h refl) (λ h. rw h refl) (cases_Bool (byte == 10))
last-line (byte ∷ next ∷ text) unended =
    ⊎_elim (λ h. absurd (false≢true (sym (rw h at unended) ∙ ended_alone byte true h))) (λ h. rw h (last-line (next ∷ text) (rw (h, longer byte next text) at unended))) (cases_Bool (byte == 10))

pub ruleset line_sizes = (line_len-found, line_len-not_found, lines-step, pieces-step, last-line)

-- the first NUL, as a search of `memchr` finds it
pub nul_found : (text : List ℕ) (place : ℕ) → IsFirstByte (is_byte 0) text (Some place)
    → (list_any (λ byte. byte == 0) text ≡ true) × (take place text ≡ before_first (λ byte. byte == 0) text)
nul_found text place found =
    let same : place ≡ position_or_len (λ byte. byte == 0) text = first_byte_place (λ byte. byte == 0) text (Some place) found in
    (list_any-place (λ byte. byte == 0) text ∙ lt-ltb _ _ (omega (arith, found.0.high)), ap (λ n. take n text) same)

pub no_nul_found : (text : List ℕ) → IsFirstByte (is_byte 0) text None → list_any (λ byte. byte == 0) text ≡ false
no_nul_found text found =
    let same : length text ≡ position_or_len (λ byte. byte == 0) text = first_byte_place (λ byte. byte == 0) text None found in
    list_any-place (λ byte. byte == 0) text ∙ le-ltb _ _ (omega arith)

pub ruleset nul_places = (nul_found, no_nul_found)
