-- Texts as the printer writes them: each piece as its own bytes.
use Rattle.std.proofs.Common.{arith, ◌≡◌, ◌∙◌, ℕ, List, [], ◌∷◌, ◌++◌, refl, sym, ap₂, subst, map, eqb-true, Bool, true, false, not, ◌==◌, ◌&&◌, ◌||◌, Some, codes, if◌then◌else◌}
use Rattle.kt_ninja_reader.proofs.Common.{list_all, flat_map, and_from, and_parts, not-true, list_all-append, flat_map-append, escaped, Bytes, ends_in_dollar, Piece, Plain, Escaped, Variable, is_escapable, outside, pieces_from, Spelling, bound_text, piece_text, is_command_byte}

-- what the printer writes for a piece; it writes no variables
abbrev pub piece_written : Piece → Bytes
piece_written (Plain b) = b ∷ []
piece_written (Escaped b) = 36 ∷ b ∷ []
piece_written (Variable name) = []

abbrev pub written : Spelling → Bytes
written ps = flat_map piece_written ps

-- a piece that it writes: a byte that needs no dollar, or one after a dollar that can stand there
abbrev pub is_printed : Piece → Bool
is_printed (Plain b) = not (b == 36) && is_command_byte b
is_printed (Escaped b) = is_escapable b
is_printed (Variable name) = false

-- ---- tests

-- neither part of a disjunction that is false holds
pub neither : (a b : Bool) → not (a || b) ≡ true → (a ≡ false) × (b ≡ false)
neither a b e = grind arith

-- the pieces of a written text are these
pub pieces_from_written : (ps : Spelling) → list_all is_printed ps ≡ true → pieces_from outside (written ps) ≡ Some ps
unfolding pieces_from
pieces_from_written [] e = refl
pieces_from_written (Plain b ∷ ps) e =
    let both = and_parts (is_printed (Plain b)) (list_all is_printed ps) e in
    let plain = not-true (b == 36) (and_parts (not (b == 36)) (is_command_byte b) both.0).0 in
    let later = pieces_from_written ps both.1 in
    rw (plain, later) refl
pieces_from_written (Escaped b ∷ ps) e =
    let both = and_parts (is_escapable b) (list_all is_printed ps) e in
    let later = pieces_from_written ps both.1 in
    rw (both.0, later) refl
pieces_from_written (Variable name ∷ ps) e = absurd (cc e)

-- ---- what bytes and pieces pass

-- what passes one test passes another that it implies
pub all_implies : {A : Type 0} (p q : A → Bool) → ((x : A) → p x ≡ true → q x ≡ true) → (xs : List A) → list_all p xs ≡ true → list_all q xs ≡ true
all_implies p q implies [] e = refl
all_implies p q implies (x ∷ xs) e =
    let both = and_parts (p x) (list_all p xs) e in
    and_from (q x) (list_all q xs) (implies x both.0) (all_implies p q implies xs both.1)

-- both of two lists pass
pub all_both : {A : Type 0} (p : A → Bool) (xs ys : List A) → list_all p xs ≡ true → list_all p ys ≡ true → list_all p (xs ++ ys) ≡ true
all_both p xs ys one two = list_all-append p xs ys ∙ and_from (list_all p xs) (list_all p ys) one two

-- a disjunction by its parts
pub either_case : (a b : Bool) {P : Type 0} → (a || b) ≡ true → (a ≡ true → P) → (b ≡ true → P) → P
either_case true b e one two = one refl
either_case false b e one two = two e

-- what holds of a dollar, a space and a colon holds of each escapable byte
by_escapable : (P : ℕ → Type 0) (b : ℕ) → is_escapable b ≡ true → P 36 → P 32 → P 58 → P b
by_escapable P b e dollar space colon =
    either_case (b == 36) (b == 32 || b == 58) e (λ h. subst P (sym (eqb-true b 36 h)) dollar) (λ other.
    either_case (b == 32) (b == 58) other (λ h. subst P (sym (eqb-true b 32 h)) space) (λ h. subst P (sym (eqb-true b 58 h)) colon))

-- a written text has no byte that a command can't hold
pub command_bytes : (ps : Spelling) → list_all is_printed ps ≡ true → list_all is_command_byte (written ps) ≡ true
command_bytes [] e = refl
command_bytes (Plain b ∷ ps) e =
    let both = and_parts (is_printed (Plain b)) (list_all is_printed ps) e in
    and_from (is_command_byte b) (list_all is_command_byte (written ps)) (and_parts (not (b == 36)) (is_command_byte b) both.0).1 (command_bytes ps both.1)
command_bytes (Escaped b ∷ ps) e =
    let both = and_parts (is_escapable b) (list_all is_printed ps) e in
    and_from (is_command_byte b) (list_all is_command_byte (written ps)) (by_escapable (λ x. is_command_byte x ≡ true) b both.0 refl refl refl)
    (command_bytes ps both.1)
command_bytes (Variable name ∷ ps) e = absurd (cc e)

-- no dollar at its end is left open
pub nothing_open : (ps : Spelling) → list_all is_printed ps ≡ true → ends_in_dollar false (written ps) ≡ false
unfolding ends_in_dollar
nothing_open [] e = refl
nothing_open (Plain b ∷ ps) e =
    let both = and_parts (is_printed (Plain b)) (list_all is_printed ps) e in
    let plain = not-true (b == 36) (and_parts (not (b == 36)) (is_command_byte b) both.0).0 in
    rw plain (nothing_open ps both.1)
nothing_open (Escaped b ∷ ps) e = nothing_open ps (and_parts (is_escapable b) (list_all is_printed ps) e).1
nothing_open (Variable name ∷ ps) e = absurd (cc e)

-- pieces are written one after another
pub written_append : (ps qs : Spelling) → written (ps ++ qs) ≡ written ps ++ written qs
written_append ps qs = flat_map-append piece_written ps qs

-- ---- escaped texts

abbrev pub piece_by : Bool → ℕ → Piece
piece_by special b = if special then Escaped b else Plain b

-- the pieces of an escaped text
abbrev pub pieces_by : (ℕ → Bool) → Bytes → Spelling
pieces_by test bytes = map (λ b. piece_by (test b) b) bytes

-- one byte of an escaped text
one_written : (special : Bool) (b : ℕ) → piece_written (piece_by special b) ≡ (if special then codes "$" ++ b ∷ [] else b ∷ [])
one_written special b = grind arith

-- the pieces of an escaped text, written, are that text
pub written_by : (test : ℕ → Bool) (bytes : Bytes) → written (pieces_by test bytes) ≡ escaped test bytes
written_by test [] = refl
written_by test (b ∷ bs) = ap₂ (λ one later. one ++ later) (one_written (test b) b) (written_by test bs)

-- one byte of it stands for itself
pub one_expanded : (value_of : Bytes → Bytes) (special : Bool) (b : ℕ) → piece_text value_of (piece_by special b) ≡ b ∷ []
one_expanded value_of special b = grind arith

-- they stand for the bytes without escapes
pub expanded_by : (value_of : Bytes → Bytes) (test : ℕ → Bool) (bytes : Bytes) → bound_text value_of (pieces_by test bytes) ≡ bytes
unfolding bound_text
expanded_by value_of test [] = refl
expanded_by value_of test (b ∷ bs) = ap₂ (λ one later. one ++ later) (one_expanded value_of (test b) b) (expanded_by value_of test bs)

-- each piece passes where those of each byte pass
pub by_passes : (q : Piece → Bool) (test ok : ℕ → Bool) → ((b : ℕ) → ok b ≡ true → q (piece_by (test b) b) ≡ true)
    → (bytes : Bytes) → list_all ok bytes ≡ true → list_all q (pieces_by test bytes) ≡ true
by_passes q test ok each [] e = refl
by_passes q test ok each (b ∷ bs) e =
    let both = and_parts (ok b) (list_all ok bs) e in
    and_from (q (piece_by (test b) b)) (list_all q (pieces_by test bs)) (each b both.0) (by_passes q test ok each bs both.1)
