-- How the head of a rule line is cut into words, trimmed and unquoted, as facts about the parts of a text (POSIX.1-2024
-- make, "Target Rules": names separated by blanks). That a backslash quotes only a space or colon directly after it is
-- kati's own.
use Rattle.std.specs.Prelude.{◌≡◌, ℕ, Bool, true, false, not, ◌-◌, ◌==◌, ◌&&◌, List, [], ◌∷◌, ◌++◌, length, take, map}
use Rattle.std.specs.Prelude.{flat_map}
use Rattle.std.specs.List.{All, list_all}
use Rattle.kt_rules.specs.Prelude.{Text}
use Rattle.kt_text.specs.Words.{is_nonempty, is_separator}
use Rattle.kt_rules.specs.Names.{is_quotable, begins_quotable, written_words, without_outer_separators, unquoted}
use Rattle.kt_rules.specs.views.Cuts.{ends_in_backslash}

-- whether a byte separates words: a separator, unless it is a space with a backslash directly before it
abbrev pub separates : Bool → ℕ → Bool
separates after_backslash byte = is_separator byte && not (after_backslash && byte == 32)

-- no byte of a text separates words; a backslash may be directly before the text
abbrev pub HoldsNoSeparator : Bool → Text → Type 0
HoldsNoSeparator before text = (front back : Text) (byte : ℕ) → text ≡ front ++ byte ∷ back
    → separates (ends_in_backslash before front) byte ≡ false

abbrev pub begins_with_space : Text → Bool
begins_with_space [] = false
begins_with_space (byte ∷ text) = byte == 32

-- separators alone after a text, whose last byte doesn't quote the first of them
pub record IsWordGap (text gap : Text) : Type 0 where
  pub separators : list_all is_separator gap ≡ true
  pub unquoted : (ends_in_backslash false text && begins_with_space gap) ≡ false

-- a word with the separators after it
pub record HeadWord : Type 0 where
  pub word : Text
  pub gap : Text

abbrev pub part_text : HeadWord → Text
part_text part = part.word ++ part.gap

abbrev pub part_word : HeadWord → Text
part_word part = part.word

-- a word isn't empty and has no byte that separates; only separators are after it
pub record IsPart (part : HeadWord) : Type 0 where
  pub some : is_nonempty part.word ≡ true
  pub whole : HoldsNoSeparator false part.word
  pub past : IsWordGap part.word part.gap

abbrev pub HasGap : HeadWord → Type 0
HasGap part = is_nonempty part.gap ≡ true

-- each part but the last has separators after it
abbrev pub AreSeparated : List HeadWord → Type 0
AreSeparated parts = All HasGap (take (length parts - 1) parts)

-- a text is separators and its words, each with the separators after it
pub record AreWords (text : Text) (words : List Text) : Type 0 where
  pub leading : Text
  pub parts : List HeadWord
  pub together : text ≡ leading ++ flat_map part_text parts
  pub are_words : words ≡ map part_word parts
  pub before : IsWordGap [] leading
  pub each : All IsPart parts
  pub apart : AreSeparated parts

-- the written words of a text are such words, and no others are
pub record WrittenWordsLaw : Type 0 where
  pub some : (text : Text) → AreWords text (written_words text)
  pub only : (text : Text) (words : List Text) → AreWords text words → words ≡ written_words text

-- the first byte of a text, if there is one, is no separator
abbrev pub BeginsWithNone : Text → Type 0
BeginsWithNone text = (back : Text) (byte : ℕ) → text ≡ byte ∷ back → is_separator byte ≡ false

-- its last byte, if there is one, doesn't separate words; a backslash may be directly before the text
abbrev pub EndsWithNone : Bool → Text → Type 0
EndsWithNone before text = (front : Text) (byte : ℕ) → text ≡ front ++ byte ∷ []
    → separates (ends_in_backslash before front) byte ≡ false

-- a text is separators, a middle that neither begins nor ends with one, and more separators
pub record IsMiddle (text middle : Text) : Type 0 where
  pub leading : Text
  pub trailing : Text
  pub together : text ≡ leading ++ (middle ++ trailing)
  pub before : IsWordGap [] leading
  pub past : IsWordGap middle trailing
  pub begin : BeginsWithNone middle
  pub end : EndsWithNone false middle

-- a text without its outer separators is such a middle, and no other text is
pub record OuterLaw : Type 0 where
  pub some : (text : Text) → IsMiddle text (without_outer_separators text)
  pub only : (text middle : Text) → IsMiddle text middle → middle ≡ without_outer_separators text

-- no backslash of a text quotes: none is directly before a space or colon
abbrev pub HoldsNoQuote : Text → Type 0
HoldsNoQuote text = (front back : Text) (byte : ℕ) → text ≡ front ++ 92 ∷ byte ∷ back → is_quotable byte ≡ false

-- a piece with the backslash before it
abbrev pub quoted_text : Text → Text
quoted_text piece = 92 ∷ piece

abbrev pub head_piece_text : Text → Text
head_piece_text piece = piece

-- a text is pieces with a backslash before each but the first, and `left` is the same pieces without these backslashes:
-- each quotes the byte directly after it, and no other backslash does
pub record IsUnquoted (text left : Text) : Type 0 where
  pub first : Text
  pub pieces : List Text
  pub together : text ≡ first ++ flat_map quoted_text pieces
  pub stays : left ≡ first ++ flat_map head_piece_text pieces
  pub quoted : list_all begins_quotable pieces ≡ true
  pub no_other : All HoldsNoQuote (first ∷ pieces)

-- the unquoted text is such a `left`, and no other text is
pub record UnquotedLaw : Type 0 where
  pub some : (text : Text) → IsUnquoted text (unquoted text)
  pub only : (text left : Text) → IsUnquoted text left → left ≡ unquoted text
