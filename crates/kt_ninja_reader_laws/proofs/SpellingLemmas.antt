-- Pieces and their spellings.
use Rattle.std.proofs.Common.{arith, ◌≡◌, ℕ, Bool, true, false, ◌==◌, List, [], ◌∷◌, ◌++◌, refl, sym, ◌∙◌, ap, subst, append_assoc, append-nil, Option, Some, None, option_map, ⊎_elim, inl, inr}
use Rattle.kt_ninja_reader.proofs.Common.{cases_Bool, false≢true, eqb-true, false_from_ne_true, and_from, and_parts, append_cancel_left, list_all-append, concat, list_all, Bytes, is_empty, Piece, Plain, Escaped, Variable, Where, after_dollar, in_braces, in_name, is_escapable, is_long_name_byte, is_short_name_byte, outside, pieces, pieces_from}
use Rattle.kt_ninja_reader_laws.specs.Spellings.{AreSpelled, IsNameOf, IsSpelled, PieceLaw}
use Rattle.kt_ninja_reader.specs.views.Spellings.{name_goes_on}
use Rattle.kt_ninja_reader.proofs.lemmas.PieceLemmas.{none_before, escape-brace, escape-escapable, escape-nil, escape-none, escape-short, outside-dollar, outside-plain, name_ended, not_brace}
use Rattle.kt_ninja_reader_laws.proofs.PieceLemmas.{outside-nil}

-- ---- bytes

-- a byte of a name is no dollar, space, colon or brace
short_is_no : (byte : ℕ) → is_short_name_byte byte ≡ false → (b : ℕ) → is_short_name_byte b ≡ true
    → (b == byte) ≡ false
short_is_no byte none b h = grind (arith, false_from_ne_true, false≢true, eqb-true)

short_is_not_escapable : (b : ℕ) → is_short_name_byte b ≡ true → is_escapable b ≡ false
short_is_not_escapable b h = rw (short_is_no 36 refl b h, short_is_no 32 refl b h, short_is_no 58 refl b h) refl

-- ---- runs of names

name_run : (bs before after : Bytes) → list_all is_short_name_byte bs ≡ true → name_goes_on after ≡ false
    → pieces_from (in_name before) (bs ++ after)
    ≡ option_map (λ later. Variable (before ++ bs) ∷ later) (pieces_from outside after)
unfolding pieces_from
name_run [] before [] all ends = rw (append-nil before) refl
name_run [] before (c ∷ cs) all ends = rw (append-nil before) (rw ends (name_ended before c cs (c == 36) refl))
name_run (b ∷ bs) before after all ends =
    let both = and_parts (is_short_name_byte b) (list_all is_short_name_byte bs) all in
    rw both.0 (none_before (pieces_from (in_name (before ++ b ∷ [])) (bs ++ after))
    ∙ name_run bs (before ++ b ∷ []) after both.1 ends
    ∙ ap (λ (name : Bytes). option_map (λ later. Variable name ∷ later) (pieces_from outside after))
    (append_assoc before (b ∷ []) bs))

brace_run : (bs before after : Bytes) → list_all is_long_name_byte bs ≡ true → is_empty (before ++ bs) ≡ false
    → pieces_from (in_braces before) (bs ++ 125 ∷ after)
    ≡ option_map (λ later. Variable (before ++ bs) ∷ later) (pieces_from outside after)
unfolding pieces_from
brace_run [] before after all some = grind (arith, append-nil)
brace_run (b ∷ bs) before after all some =
    let both = and_parts (is_long_name_byte b) (list_all is_long_name_byte bs) all in
    let same = append_assoc before (b ∷ []) bs in
    rw (not_brace b both.0, both.0)
    (none_before (pieces_from (in_braces (before ++ b ∷ [])) (bs ++ 125 ∷ after))
    ∙ brace_run bs (before ++ b ∷ []) after both.1 (ap is_empty same ∙ some)
    ∙ ap (λ (name : Bytes). option_map (λ later. Variable name ∷ later) (pieces_from outside after)) same)

-- ---- a spelling is read as its piece

short_is_read : (name after : Bytes) → IsNameOf is_short_name_byte name → name_goes_on after ≡ false
    → pieces_from outside ((36 ∷ name) ++ after)
    ≡ option_map (λ later. Variable name ∷ later) (pieces_from outside after)
short_is_read name after h ends = grind (arith, false≢true, and_parts, outside-dollar, escape-short, short_is_not_escapable, short_is_no, name_run)

long_is_read : (name after : Bytes) → IsNameOf is_long_name_byte name
    → pieces_from outside ((36 ∷ 123 ∷ name ++ 125 ∷ []) ++ after)
    ≡ option_map (λ later. Variable name ∷ later) (pieces_from outside after)
long_is_read name after h = grind (arith, append_assoc, outside-dollar, escape-brace, brace_run)

spelling_is_read : (piece : Piece) (spelling after : Bytes) → IsSpelled piece spelling after
    → pieces_from outside (spelling ++ after) ≡ option_map (λ later. piece ∷ later) (pieces_from outside after)
spelling_is_read piece spelling after h = grind (arith, outside-plain, outside-dollar, escape-escapable, short_is_read, long_is_read)

are_read : (found : List Piece) (spellings : List Bytes) → AreSpelled found spellings
    → pieces_from outside (concat spellings) ≡ Some found
are_read [] [] h = outside-nil
are_read [] (s ∷ ss) h = absurd h
are_read (p ∷ ps) [] h = absurd h
are_read (p ∷ ps) (s ∷ ss) h =
    spelling_is_read p s (concat ss) h.0 ∙ ap (option_map (λ later. p ∷ later)) (are_read ps ss h.1)

-- ---- there is one cutting

abbrev second_byte : Bytes → ℕ
second_byte [] = 0
second_byte (b ∷ []) = 0
second_byte (b ∷ c ∷ text) = c

-- a name without braces isn't one with them
no_both : {P : Type 0} (name other after past : Bytes) → IsNameOf is_short_name_byte name
    → (36 ∷ name) ++ after ≡ (36 ∷ 123 ∷ other) ++ past → P
no_both [] other after past h e = absurd (false≢true (sym h.0))
no_both (b ∷ bs) other after past h e =
    let brace : b ≡ 123 = ap second_byte e in
    let short = (and_parts (is_short_name_byte b) (list_all is_short_name_byte bs) h.1).0 in
    absurd (false≢true (subst (λ c. is_short_name_byte c ≡ true) brace short))

one_spelling : (piece : Piece) (one two after past : Bytes) → IsSpelled piece one after
    → IsSpelled piece two past → one ++ after ≡ two ++ past → one ≡ two
one_spelling piece one two after past h k e = grind (arith, no_both)

same_spellings : (found : List Piece) (spellings others : List Bytes) → AreSpelled found spellings
    → AreSpelled found others
    → concat spellings ≡ concat others → spellings ≡ others
same_spellings [] [] [] h k e = refl
same_spellings [] [] (t ∷ ts) h k e = absurd k
same_spellings [] (s ∷ ss) ts h k e = absurd h
same_spellings (p ∷ ps) [] ts h k e = absurd h
same_spellings (p ∷ ps) (s ∷ ss) [] h k e = absurd k
same_spellings (p ∷ ps) (s ∷ ss) (t ∷ ts) h k e =
    let first : s ≡ t = one_spelling p s t (concat ss) (concat ts) h.0 k.0 e in
    let rest : concat ss ≡ concat ts = append_cancel_left t _ _ (ap (λ (x : Bytes). x ++ concat ss) (sym first) ∙ e) in
    rw first (ap (λ later. t ∷ later) (same_spellings ps ss ts h.1 k.1 rest))

one_cutting : (first second : List Piece) (spellings others : List Bytes) → AreSpelled first spellings
    → AreSpelled second others
    → concat spellings ≡ concat others → (first ≡ second) × (spellings ≡ others)
one_cutting first second spellings others h k e = grind (arith, are_read, same_spellings)

-- ---- what is read has spellings

abbrev HasSpellings : Bytes → List Piece → Type 0
HasSpellings text found = (spellings : List Bytes) × (concat spellings ≡ text) × AreSpelled found spellings

none_has : HasSpellings [] []
none_has = ([], refl, tt)

one_more : (piece : Piece) (spelling after : Bytes) (found : List Piece) → IsSpelled piece spelling after
    → HasSpellings after found
    → HasSpellings (spelling ++ after) (piece ∷ found)
one_more piece spelling after found h (spellings, is, are) = (
  spelling ∷ spellings,
  ap (λ (t : Bytes). spelling ++ t) is,
  (subst (λ t. IsSpelled piece spelling t) (sym is) h, are),
)

mapped : (piece : Piece) (rest : Option (List Piece)) (found : List Piece)
    → option_map (λ later. piece ∷ later) rest ≡ Some found
    → (later : List Piece) × (rest ≡ Some later) × (piece ∷ later ≡ found)
mapped piece rest found e = grind arith

-- one more piece in front of what is read after it
read_more : (piece : Piece) (spelling after : Bytes) (found : List Piece) → IsSpelled piece spelling after
    → ((later : List Piece) → pieces_from outside after ≡ Some later → HasSpellings after later)
    → option_map (λ later. piece ∷ later) (pieces_from outside after) ≡ Some found
    → HasSpellings (spelling ++ after) found
read_more piece spelling after found h by e =
    let (later, is, are) = mapped piece (pieces_from outside after) found e in
    subst (HasSpellings (spelling ++ after)) are (one_more piece spelling after later h (by later is))

-- what stands in front of a place, of what isn't a piece yet
abbrev begun : Where → Bytes
begun outside = []
begun after_dollar = 36 ∷ []
begun (in_name name) = 36 ∷ name
begun (in_braces name) = 36 ∷ 123 ∷ name

abbrev IsPlace : Where → Type 0
IsPlace outside = Unit {0}
IsPlace after_dollar = Unit {0}
IsPlace (in_name name) = IsNameOf is_short_name_byte name
IsPlace (in_braces name) = list_all is_long_name_byte name ≡ true

abbrev Reads : Bytes → Type 0
Reads text = (place : Where) (found : List Piece) → IsPlace place → pieces_from place text ≡ Some found
    → HasSpellings (begun place ++ text) found

from_outside : (b : ℕ) (bs : Bytes) → Reads bs → (found : List Piece) → pieces_from outside (b ∷ bs) ≡ Some found
    → HasSpellings (b ∷ bs) found
from_outside b bs later found e =
    ⊎_elim
    (λ h. subst (λ c. HasSpellings (c ∷ bs) found) (sym (eqb-true b 36 h))
    (later after_dollar found tt (sym (outside-dollar b bs h) ∙ e)))
    (λ h. read_more (Plain b) (b ∷ []) bs found (refl, h) (λ f. later outside f tt) (sym (outside-plain b bs h) ∙ e))
    (cases_Bool (b == 36))

short_begins : (b : ℕ) (bs : Bytes) → is_escapable b ≡ false → (b == 123) ≡ false → is_short_name_byte b ≡ true
    → pieces_from after_dollar (b ∷ bs) ≡ pieces_from (in_name (b ∷ [])) bs
unfolding pieces_from
short_begins b bs h i j = rw (h, i, j) (none_before (pieces_from (in_name (b ∷ [])) bs))

from_dollar : (b : ℕ) (bs : Bytes) → Reads bs → (found : List Piece)
    → pieces_from after_dollar (b ∷ bs) ≡ Some found → HasSpellings (36 ∷ b ∷ bs) found
from_dollar b bs later found e =
    ⊎_elim
    (λ h. read_more (Escaped b) (36 ∷ b ∷ []) bs found (refl, h) (λ f. later outside f tt)
    (sym (escape-escapable b bs h) ∙ e))
    (λ h. ⊎_elim
    (λ i. subst (λ c. HasSpellings (36 ∷ c ∷ bs) found) (sym (eqb-true b 123 i))
    (later (in_braces []) found refl (sym (escape-brace b bs h i) ∙ e)))
    (λ i. ⊎_elim
    (λ j. later (in_name (b ∷ [])) found (refl, and_from (is_short_name_byte b) true j refl)
    (sym (short_begins b bs h i j) ∙ e))
    (λ j. let none = sym (escape-none b bs h i j) ∙ e in absurd (cc none))
    (cases_Bool (is_short_name_byte b)))
    (cases_Bool (b == 123)))
    (cases_Bool (is_escapable b))

not_empty : (name : Bytes) (b : ℕ) → is_empty (name ++ b ∷ []) ≡ false
not_empty [] b = refl
not_empty (c ∷ name) b = refl

all_with : (test : ℕ → Bool) (name : Bytes) (b : ℕ) → list_all test name ≡ true → test b ≡ true
    → list_all test (name ++ b ∷ []) ≡ true
all_with test name b all h = grind (arith, list_all-append, and_from)

name_more : (name : Bytes) (b : ℕ) (bs : Bytes) → is_short_name_byte b ≡ true
    → pieces_from (in_name name) (b ∷ bs) ≡ pieces_from (in_name (name ++ b ∷ [])) bs
unfolding pieces_from
name_more name b bs h = rw h (none_before (pieces_from (in_name (name ++ b ∷ [])) bs))

name_ends : (name after : Bytes) → name_goes_on after ≡ false
    → pieces_from (in_name name) after ≡ option_map (λ later. Variable name ∷ later) (pieces_from outside after)
name_ends name after ends =
    name_run [] name after refl ends
    ∙ ap (λ (n : Bytes). option_map (λ later. Variable n ∷ later) (pieces_from outside after)) (append-nil name)

from_name : (name : Bytes) (b : ℕ) (bs : Bytes) → Reads bs → (found : List Piece) → IsNameOf is_short_name_byte name
    → pieces_from (in_name name) (b ∷ bs) ≡ Some found → HasSpellings ((36 ∷ name) ++ b ∷ bs) found
from_name name b bs later found named e =
    ⊎_elim
    (λ h. subst (λ t. HasSpellings (36 ∷ t) found) (append_assoc name (b ∷ []) bs)
    (later (in_name (name ++ b ∷ [])) found (not_empty name b, all_with is_short_name_byte name b named.1 h)
    (sym (name_more name b bs h) ∙ e)))
    (λ h. read_more (Variable name) (36 ∷ name) (b ∷ bs) found (inl (refl, named, h)) (from_outside b bs later)
    (sym (name_ends name (b ∷ bs) h) ∙ e))
    (cases_Bool (is_short_name_byte b))

brace_more : (name : Bytes) (b : ℕ) (bs : Bytes) → (b == 125) ≡ false → is_long_name_byte b ≡ true
    → pieces_from (in_braces name) (b ∷ bs) ≡ pieces_from (in_braces (name ++ b ∷ [])) bs
unfolding pieces_from
brace_more name b bs h i = rw (h, i) (none_before (pieces_from (in_braces (name ++ b ∷ [])) bs))

brace_none : (name : Bytes) (b : ℕ) (bs : Bytes) → (b == 125) ≡ false → is_long_name_byte b ≡ false
    → pieces_from (in_braces name) (b ∷ bs) ≡ None
unfolding pieces_from
brace_none name b bs h i = rw (h, i) refl

brace_ends : (name : Bytes) (b : ℕ) (bs : Bytes) → (b == 125) ≡ true → is_empty name ≡ false
    → pieces_from (in_braces name) (b ∷ bs) ≡ option_map (λ later. Variable name ∷ later) (pieces_from outside bs)
unfolding pieces_from
brace_ends name b bs h i = rw (h, i) refl

brace_unnamed : (name : Bytes) (b : ℕ) (bs : Bytes) → (b == 125) ≡ true → is_empty name ≡ true
    → pieces_from (in_braces name) (b ∷ bs) ≡ None
unfolding pieces_from
brace_unnamed name b bs h i = rw (h, i) refl

brace_nil : (name : Bytes) → pieces_from (in_braces name) [] ≡ None
unfolding pieces_from
brace_nil name = refl

from_braces : (name : Bytes) (b : ℕ) (bs : Bytes) → Reads bs → (found : List Piece)
    → list_all is_long_name_byte name ≡ true
    → pieces_from (in_braces name) (b ∷ bs) ≡ Some found → HasSpellings ((36 ∷ 123 ∷ name) ++ b ∷ bs) found
from_braces name b bs later found all e =
    ⊎_elim
    (λ h. ⊎_elim
    (λ i. let none = sym (brace_unnamed name b bs h i) ∙ e in absurd (cc none))
    (λ i. subst (λ t. HasSpellings (36 ∷ 123 ∷ t) found)
    (append_assoc name (125 ∷ []) bs ∙ ap (λ c. name ++ c ∷ bs) (sym (eqb-true b 125 h)))
    (read_more (Variable name) (36 ∷ 123 ∷ name ++ 125 ∷ []) bs found (inr (refl, (i, all)))
    (λ f. later outside f tt) (sym (brace_ends name b bs h i) ∙ e)))
    (cases_Bool (is_empty name)))
    (λ h. ⊎_elim
    (λ i. subst (λ t. HasSpellings (36 ∷ 123 ∷ t) found) (append_assoc name (b ∷ []) bs)
    (later (in_braces (name ++ b ∷ [])) found (all_with is_long_name_byte name b all i)
    (sym (brace_more name b bs h i) ∙ e)))
    (λ i. let none = sym (brace_none name b bs h i) ∙ e in absurd (cc none))
    (cases_Bool (is_long_name_byte b)))
    (cases_Bool (b == 125))

outside_end : (found : List Piece) → pieces_from outside [] ≡ Some found → HasSpellings [] found
outside_end found e = grind (arith, outside-nil, none_has)

at_end : Reads []
at_end outside found h e = outside_end found e
at_end after_dollar found h e = let none = sym escape-nil ∙ e in absurd (cc none)
at_end (in_name name) found h e =
    read_more (Variable name) (36 ∷ name) [] found (inl (refl, h, refl)) outside_end
    (sym (name_ends name [] refl) ∙ e)
at_end (in_braces name) found h e = let none = sym (brace_nil name) ∙ e in absurd (cc none)

by_first : (b : ℕ) (bs : Bytes) → Reads bs → Reads (b ∷ bs)
by_first b bs later outside found h e = from_outside b bs later found e
by_first b bs later after_dollar found h e = from_dollar b bs later found e
by_first b bs later (in_name name) found h e = from_name name b bs later found h e
by_first b bs later (in_braces name) found h e = from_braces name b bs later found h e

reads : (text : Bytes) → Reads text
reads [] = at_end
reads (b ∷ bs) = by_first b bs (reads bs)

pub piece_law : PieceLaw
unfolding pieces
piece_law = record {
  some = λ text found e. reads text outside found tt e;
  only = are_read;
  one = one_cutting;
}
