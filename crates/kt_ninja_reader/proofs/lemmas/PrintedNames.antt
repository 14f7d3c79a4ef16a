-- What the printer writes for names, rules' names and commands, as pieces.
use Rattle.std.proofs.Common.{rules, ◌≡◌, ◌∙◌, ◌<◌, ℕ, zero, suc, ◌+◌, List, [], ◌∷◌, ◌++◌, refl, sym, ap, ap₂, map, get_or, eqb-true, arith, le-leb, append_assoc, append-nil, Bool, true, false, not, ◌==◌, ◌&&◌, ◌||◌, nat_le, Some, codes, if◌then◌else◌}
use Rattle.kt_ninja_reader.proofs.Common.{list_all, and_from, and_parts, or_left, or_right, Made, Bytes, Piece, Plain, Escaped, Variable, is_escapable, is_long_name_byte, Spelling, name_bytes, bound_text, names_one, refers_to, command_text, is_special_in_command, is_special_in_name, number_text, rule_name_text, is_command_byte, is_empty, is_name, is_path_byte}
use Rattle.std.specs.Int.Digits.{AllBelowBase, digits_of}
use Rattle.std.proofs.Math.Bool.{or_assoc}
use Rattle.std.proofs.lemmas.Int.Digits.{all_below_base_digits_of, first_digits_of, same_from_digits_of}
use Rattle.kt_ninja.proofs.Numbers.{number_more, number_zero}
use Rattle.kt_ninja_reader.proofs.lemmas.PrintedPieces.{by_passes, expanded_by, is_printed, neither, one_expanded, piece_by, piece_written, pieces_by, written, written_by}

-- ---- names

-- a piece of a printed name
abbrev pub is_name_piece : Piece → Bool
is_name_piece (Plain b) = not (is_escapable b) && is_path_byte b
is_name_piece (Escaped b) = is_escapable b
is_name_piece (Variable name) = false

-- one name or more pieces
abbrev pub is_word : Spelling → Bool
is_word ps = not (is_empty ps) && list_all is_name_piece ps

abbrev pub name_pieces : Bytes → Spelling
name_pieces name = pieces_by is_special_in_name name

-- what is special in a name is what a dollar can escape
same_special : (b : ℕ) → is_special_in_name b ≡ is_escapable b
same_special b = or_assoc (b == 36) (b == 32) (b == 58)

-- each byte of a name gives such a piece
name_piece_case : (b : ℕ) (special : Bool) → is_special_in_name b ≡ special → is_path_byte b ≡ true → is_name_piece (piece_by special b) ≡ true
name_piece_case b special is byte = grind (arith, same_special, and_from, not)

-- a name that can be written is a word
pub name_is_word : (name : Bytes) → is_name name ≡ true → is_word (name_pieces name) ≡ true
name_is_word name e = grind (arith, by_passes, name_piece_case)

-- so are all names of a list
pub names_are_words : (names : List Bytes) → list_all is_name names ≡ true → list_all is_word (map name_pieces names) ≡ true
names_are_words [] e = refl
names_are_words (n ∷ ns) e =
    let both = and_parts (is_name n) (list_all is_name ns) e in
    and_from (is_word (name_pieces n)) (list_all is_word (map name_pieces ns)) (name_is_word n both.0) (names_are_words ns both.1)

-- a byte of a name can stand in a command
command_byte : (b : ℕ) → is_path_byte b ≡ true → is_command_byte b ≡ true
command_byte b e = ap not (neither (b == 124) (b == 13 || (b == 10 || b == 0)) e).1

-- a piece of a name is one that the printer writes
pub name_printed : (p : Piece) → is_name_piece p ≡ true → is_printed p ≡ true
name_printed p e = grind (arith, and_parts, not, and_from, neither, command_byte)

-- ---- rules' names

-- a digit is a byte of a name
digit_byte : (d : ℕ) → d < 10 → is_long_name_byte (48 + d) ≡ true
digit_byte d h = grind (arith, and_from, nat_le, le-leb, or_left, or_right)

-- so are all digits
digits_bytes : (ds : List ℕ) → AllBelowBase 10 ds → list_all is_long_name_byte (map (λ d. 48 + d) ds) ≡ true
digits_bytes [] h = refl
digits_bytes (d ∷ ds) h = and_from _ _ (digit_byte d h.0) (digits_bytes ds h.1)

-- also of zero
number_case : (zero : Bool) (ds : List ℕ) → AllBelowBase 10 ds → list_all is_long_name_byte (if zero then codes "0" else map (λ d. 48 + d) ds) ≡ true
number_case b ds h = grind (arith, digits_bytes)

-- the text of a number is made of bytes that a name has
number_bytes : (n : ℕ) → list_all is_long_name_byte (number_text n) ≡ true
unfolding number_text
number_bytes n = number_case (n == 0) (digits_of 10 n) (all_below_base_digits_of 10 n (omega arith))

-- no other number is written as zero is
zero_differs : (ds : List ℕ) → 0 < get_or ds 0 0 → codes "0" ≡ map (λ d. 48 + d) ds → ⊥
zero_differs [] h e = omega arith
zero_differs (d ∷ ds) h e = omega (arith, ap (λ (l : List ℕ). get_or l 0 0) e)

-- the digits by their bytes
same_digits : (ds es : List ℕ) → map (λ d. 48 + d) ds ≡ map (λ d. 48 + d) es → ds ≡ es
same_digits [] [] e = refl
same_digits [] (x ∷ xs) e = absurd (cc e)
same_digits (x ∷ xs) [] e = absurd (cc e)
same_digits (x ∷ xs) (y ∷ ys) e =
    let head : x ≡ y = omega (arith, ap (λ (l : List ℕ). get_or l 0 0) e) in
    let tail = same_digits xs ys (cc e) in cc

-- different numbers have different texts
pub number_once : (m n : ℕ) → number_text m ≡ number_text n → m ≡ n
number_once zero zero e = refl
number_once zero (suc n) e =
    absurd (zero_differs (digits_of 10 (suc n)) (first_digits_of 10 (suc n) (omega arith) (omega arith)) (sym number_zero ∙ e ∙ number_more n))
number_once (suc m) zero e =
    absurd (zero_differs (digits_of 10 (suc m)) (first_digits_of 10 (suc m) (omega arith) (omega arith)) (sym number_zero ∙ sym e ∙ number_more m))
number_once (suc m) (suc n) e =
    same_from_digits_of 10 (suc m) (suc n) (omega arith) (same_digits (digits_of 10 (suc m)) (digits_of 10 (suc n)) (sym (number_more m) ∙ e ∙ number_more n))

-- a rule's name is made of bytes that a name has
pub rule_name_bytes : (number : ℕ) (made : Made) → list_all is_long_name_byte (rule_name_text number made) ≡ true
rule_name_bytes number made = grind (arith, append-nil, number_bytes)

-- such a name is read from plain pieces
pub name_bytes_plain : (bs : Bytes) → list_all is_long_name_byte bs ≡ true → name_bytes (map Plain bs) ≡ Some bs
unfolding name_bytes
name_bytes_plain [] e = refl
name_bytes_plain (b ∷ bs) e =
    let both = and_parts (is_long_name_byte b) (list_all is_long_name_byte bs) e in
    rw (both.0, name_bytes_plain bs both.1) refl

-- plain pieces are written as they are
pub written_plain : (bs : Bytes) → written (map Plain bs) ≡ bs
written_plain [] = refl
written_plain (b ∷ bs) = ap (λ later. b ∷ later) (written_plain bs)

-- a byte that a name has is no other byte
other_byte : (c : ℕ) → is_long_name_byte c ≡ false → (b : ℕ) (same : Bool) → (b == c) ≡ same → is_long_name_byte b ≡ true → same ≡ false
other_byte c none b same is e = grind (arith, eqb-true)

-- so that it stands in a name's text as it is
long_piece : (b : ℕ) → is_long_name_byte b ≡ true → is_name_piece (Plain b) ≡ true
long_piece b e = search (rules, other_byte)

-- and so does the whole name
pub plain_pieces : (bs : Bytes) → list_all is_long_name_byte bs ≡ true → list_all is_name_piece (map Plain bs) ≡ true
plain_pieces [] e = refl
plain_pieces (b ∷ bs) e =
    let both = and_parts (is_long_name_byte b) (list_all is_long_name_byte bs) e in
    and_from (is_name_piece (Plain b)) (list_all is_name_piece (map Plain bs)) (long_piece b both.0) (plain_pieces bs both.1)

-- ---- commands

-- the pieces of a printed command: a first space stands after a dollar too
abbrev pub command_pieces : Bytes → Spelling
command_pieces [] = []
command_pieces (b ∷ bs) = piece_by (b == 32 || b == 36) b ∷ pieces_by is_special_in_command bs

-- the first byte of a command
first_written : (b : ℕ) (space dollar : Bool) → (b == 32) ≡ space → (b == 36) ≡ dollar
    → piece_written (piece_by (space || dollar) b) ≡ (if space then codes "$" else []) ++ (if dollar then codes "$" ++ b ∷ [] else b ∷ [])
first_written b space dollar s d = grind (arith, eqb-true)

-- a command, written, is its text
pub command_written : (c : Bytes) → written (command_pieces c) ≡ command_text c
command_written c = grind (arith, ap₂, first_written, written_by, append_assoc)

-- it stands for the command
pub command_expanded : (value_of : Bytes → Bytes) (c : Bytes) → bound_text value_of (command_pieces c) ≡ c
unfolding bound_text
command_expanded value_of [] = refl
command_expanded value_of (b ∷ bs) =
    ap₂ (λ one later. one ++ later) (one_expanded value_of (b == 32 || b == 36) b) (expanded_by value_of is_special_in_command bs)

-- each byte of a command is printed
command_piece : (b : ℕ) (special : Bool) → (b == 36) ≡ special → is_command_byte b ≡ true → is_printed (piece_by special b) ≡ true
command_piece b special is byte = grind (arith, or_left, and_from, not)

-- the first one too
first_piece : (b : ℕ) (space dollar : Bool) → (b == 32) ≡ space → (b == 36) ≡ dollar → is_command_byte b ≡ true
    → is_printed (piece_by (space || dollar) b) ≡ true
first_piece b space dollar s d byte = grind (arith, or_right, or_left, command_piece)

-- and so is the whole command
pub command_printed : (c : Bytes) → list_all is_command_byte c ≡ true → list_all is_printed (command_pieces c) ≡ true
command_printed c e = grind (arith, and_parts, and_from, first_piece, by_passes, is_printed, command_piece)

-- a byte is no variable
unnamed : (test : Bytes → Bool) (special : Bool) (b : ℕ) → names_one test (piece_by special b) ≡ false
unnamed test special b = grind arith

-- no byte of an escaped text is
by_unnamed : (test : Bytes → Bool) (special : ℕ → Bool) (bs : Bytes) → refers_to test (pieces_by special bs) ≡ false
by_unnamed test special [] = refl
by_unnamed test special (b ∷ bs) = ap₂ (λ one later. one || later) (unnamed test (special b) b) (by_unnamed test special bs)

-- a printed command refers to no variable
pub command_alone : (test : Bytes → Bool) (c : Bytes) → refers_to test (command_pieces c) ≡ false
command_alone test [] = refl
command_alone test (b ∷ bs) = ap₂ (λ one later. one || later) (unnamed test (b == 32 || b == 36) b) (by_unnamed test is_special_in_command bs)
