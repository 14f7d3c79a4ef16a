-- The text functions of GNU make that expand nothing: one equation for each, on lists of words or on bytes.
-- Each is called as in the GNU make manual, "Functions for String Substitution and Analysis" and, from `dir` on,
-- "Functions for File Names". That results without bytes are left out of a list is kati's own.
-- Notes of the form [Section] name that manual's section.
use Rattle.std.specs.Prelude.{ℕ, ◌-◌, Bool, ◌||◌, ◌&&◌, ◌==◌, nat_le, not, List, [], ◌∷◌, ◌++◌, length, map, filter}
use Rattle.std.specs.Prelude.{fold, take, drop, Option, Some, None, unwrap_or, is_some, if◌then◌else◌}
use Rattle.kt_text.specs.Prelude.{list_any, list_all, slice_get, slice_range, suffix_len, bytes_eq, nat_cmp, slice_cmp}
use Rattle.kt_text.specs.Prelude.{replaced_at, Text, is_nonempty, words_of, list_text, trimmed_start, trimmed_end}
use Rattle.std.specs.Option.{option_and_then}
use Rattle.std.specs.Char.{is_ascii_digit}
use Rattle.std.specs.Str.Parse.{digits_value}
use Rattle.std.specs.Fmt.{decimal}
use Rattle.std.specs.BTreeSet.{insert_key}
use Rattle.memchr.specs.Find.{matches}
use Rattle.kt_text.specs.Match.{has_percent, pattern_front, pattern_back, stem_span}

-- whether the needle stands somewhere in the text
abbrev pub occurs : Text → Text → Bool
occurs needle text = is_nonempty (matches text needle 0)

-- `subst` [Functions for String Substitution and Analysis]: each match of `from`, none overlapping, from the left, is
-- replaced; an empty one matches once, at the end
unfoldable pub subst_of : Text → Text → Text → Text
subst_of from to text = if is_nonempty from then replaced_at text (length from) to 0 (matches text from 0)
    else text ++ to

-- `findstring` [Functions for String Substitution and Analysis]
unfoldable pub findstring_of : Text → Text → Text
findstring_of needle text = if occurs needle text then needle else []

-- `strip` [Functions for String Substitution and Analysis]
unfoldable pub strip_of : Text → Text
strip_of text = list_text (words_of text)

-- `\%`, which is refused in a pattern and in a replacement (kati's own)
abbrev pub quotes_percent : Text → Bool
quotes_percent text = occurs (92 ∷ 37 ∷ []) text

-- the replacement with the stem in place of its first percent sign
abbrev pub with_stem : Text → Text → Text
with_stem replacement stem =
    if has_percent replacement then pattern_front replacement ++ (stem ++ pattern_back replacement) else replacement

-- the replacement of a word of which the stem is known to stand from the first place up to the second
abbrev pub replaced_between : Text → Text → Option (ℕ × ℕ) → Text
replaced_between replacement word None = word
replaced_between replacement word (Some place) = with_stem replacement (slice_range word place.0 place.1)

-- one word under `patsubst` [Functions for String Substitution and Analysis]: a pattern without percent sign matches
-- the equal word, and the replacement then stands as it is
unfoldable pub patsubst_word : Text → Text → Text → Text
patsubst_word pattern replacement word =
    if has_percent pattern then replaced_between replacement word (stem_span pattern word)
    else (if bytes_eq pattern word then replacement else word)

-- `patsubst`, which refuses `\%` [Functions for String Substitution and Analysis]
unfoldable pub patsubst_of : Text → Text → Text → Option Text
patsubst_of pattern replacement text =
    if quotes_percent pattern || quotes_percent replacement then None
    else Some (list_text (map (patsubst_word pattern replacement) (words_of text)))

-- whether the pattern matches the word: without percent sign, where they are equal
unfoldable pub matches_word : Text → Text → Bool
matches_word pattern word =
    if has_percent pattern then is_some (stem_span pattern word) else bytes_eq pattern word

-- whether one of the patterns matches the word
abbrev pub matches_some : List Text → Text → Bool
matches_some patterns word = list_any (λ pattern. matches_word pattern word) patterns

-- `filter`, which refuses `\%` [Functions for String Substitution and Analysis]
unfoldable pub filter_of : Text → Text → Option Text
filter_of patterns text =
    if quotes_percent patterns then None
    else Some (list_text (filter (λ word. matches_some (words_of patterns) word) (words_of text)))

-- `filter-out`, which refuses `\%` [Functions for String Substitution and Analysis]
unfoldable pub filter_out_of : Text → Text → Option Text
filter_out_of patterns text =
    if quotes_percent patterns then None
    else Some (list_text (filter (λ word. not (matches_some (words_of patterns) word)) (words_of text)))

-- the words as a set, in byte order
unfoldable pub word_set : List Text → List Text
word_set texts = fold (insert_key (slice_cmp nat_cmp)) [] texts

-- `sort` [Functions for String Substitution and Analysis]
unfoldable pub sort_of : Text → Text
sort_of text = list_text (word_set (words_of text))

-- one to eighteen decimal digits
abbrev pub is_number : Text → Bool
is_number digits = nat_le 1 (length digits) && (nat_le (length digits) 18 && list_all is_ascii_digit digits)

-- the number that a text is, with blanks round it (kati's own bounds)
unfoldable pub number_of : Text → Option ℕ
number_of text = let digits = trimmed_end (trimmed_start text) in if is_number digits
    then Some (digits_value 10 digits) else None

-- a number from 1 on
abbrev pub ordinal_of : Text → Option ℕ
ordinal_of text = option_and_then (λ n. if n == 0 then None else Some n) (number_of text)

-- the word at a place, counted from 0, or no byte
abbrev pub word_at : List Text → ℕ → Text
word_at texts i = unwrap_or (slice_get texts i) []

-- `word`, places counted from 1; a bad number is refused [Functions for String Substitution and Analysis]
unfoldable pub word_of : Text → Text → Option Text
word_of at text = option_and_then (λ place. Some (word_at (words_of text) (place - 1))) (ordinal_of at)

-- `wordlist`, from the first place, 1 or more, through the second; none where the first is greater [Functions for
-- String Substitution and Analysis]
unfoldable pub wordlist_of : Text → Text → Text → Option Text
wordlist_of first last text =
    option_and_then (λ start. option_and_then
    (λ end. Some (list_text (slice_range (words_of text) (start - 1) end))) (number_of last)) (ordinal_of first)

-- `words`: their number in decimal [Functions for String Substitution and Analysis]
unfoldable pub words_count_of : Text → Text
words_count_of text = decimal (length (words_of text))

-- `firstword` [Functions for String Substitution and Analysis]
unfoldable pub firstword_of : Text → Text
firstword_of text = word_at (words_of text) 0

-- `lastword` [Functions for String Substitution and Analysis]
unfoldable pub lastword_of : Text → Text
lastword_of text = word_at (words_of text) (length (words_of text) - 1)

-- where the part after the last slash begins
abbrev pub name_place : Text → ℕ
name_place word = length word - suffix_len (λ byte. not (byte == 47)) word

-- the part of a name after its last slash
abbrev pub name_part : Text → Text
name_part word = drop (name_place word) word

-- the part of a name through its last slash, or `./` where there is none
abbrev pub dir_part : Text → Text
dir_part word = if name_place word == 0 then 46 ∷ 47 ∷ [] else take (name_place word) word

-- where the last dot of the part after the last slash stands, or the end where there is none
abbrev pub suffix_place : Text → ℕ
suffix_place word =
    let after = suffix_len (λ byte. not (byte == 46)) (name_part word) in
    if after == length (name_part word) then length word else length word - after - 1

-- `dir` [Functions for File Names]
unfoldable pub dir_of : Text → Text
dir_of text = list_text (map dir_part (words_of text))

-- `notdir` [Functions for File Names]
unfoldable pub notdir_of : Text → Text
notdir_of text = list_text (map name_part (words_of text))

-- `suffix`: from the last dot of the part after the last slash on [Functions for File Names]
unfoldable pub suffix_of : Text → Text
suffix_of text = list_text (map (λ word. drop (suffix_place word) word) (words_of text))

-- `basename`: each name without its suffix [Functions for File Names]
unfoldable pub basename_of : Text → Text
basename_of text = list_text (map (λ word. take (suffix_place word) word) (words_of text))

-- `addsuffix` [Functions for File Names]
unfoldable pub addsuffix_of : Text → Text → Text
addsuffix_of suffix text = list_text (map (λ word. word ++ suffix) (words_of text))

-- `addprefix` [Functions for File Names]
unfoldable pub addprefix_of : Text → Text → Text
addprefix_of prefix text = list_text (map (λ word. prefix ++ word) (words_of text))

-- the words of two lists joined pair by pair; the longer list's rest follows
unfoldable pub joined_pairs : List Text → List Text → List Text
joined_pairs [] seconds = seconds
joined_pairs (first ∷ firsts) [] = first ∷ firsts
joined_pairs (first ∷ firsts) (second ∷ seconds) = (first ++ second) ∷ joined_pairs firsts seconds

-- `join` [Functions for File Names]
unfoldable pub join_of : Text → Text → Text
join_of first second = list_text (joined_pairs (words_of first) (words_of second))
