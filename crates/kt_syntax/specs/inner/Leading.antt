-- Words of blocks at the begin of a line (kati's own).
use Rattle.std.specs.Prelude.{◌≡◌, ◌<◌, ℕ, Bool, true, false, not, ◌==◌, ◌||◌, [], ◌∷◌, ◌++◌, codes, length, Some}
use Rattle.kt_syntax.specs.inner.Prelude.{list_all, is_blank, block_word}
use Rattle.kt_syntax.specs.Prelude.{Text, Directive}
use Rattle.kt_syntax.specs.declared.form.Directive.TheVariants.{Ifdef, Ifndef, Ifeq, Ifneq, Else, Endif, Define, Endef}
use Rattle.kt_syntax.specs.declared.form.Directive.TheVariants.{Include, OptionalInclude}
use Rattle.kt_syntax.specs.inner.OwnRuns.{begins_operator, ends_own_name}

-- the text of a word of blocks; the words of included files are none
abbrev pub block_text : Directive → Text
block_text Ifdef = codes "ifdef"
block_text Ifndef = codes "ifndef"
block_text Ifeq = codes "ifeq"
block_text Ifneq = codes "ifneq"
block_text Else = codes "else"
block_text Endif = codes "endif"
block_text Define = codes "define"
block_text Endef = codes "endef"
block_text Include = []
block_text OptionalInclude = []

-- the text begins with that word of blocks, and this comes after it
abbrev pub IsLed : Directive → Text → Text → Type 0
IsLed word text after = (text ≡ block_text word ++ after) × (block_word (block_text word) ≡ Some word)

-- whether a word before this text ends there
abbrev pub is_apart : Text → Bool
is_apart [] = true
is_apart (byte ∷ text) = is_blank byte

-- whether the text begins as an operator does, or with a backslash
abbrev pub may_assign : Text → Bool
may_assign [] = false
may_assign (byte ∷ text) = begins_operator byte || byte == 92

-- a byte that may end the name of an assignment or begin a comment
abbrev pub is_loud : ℕ → Bool
is_loud byte = ends_own_name byte || byte == 35

-- the text is a word without such a byte, and what comes after it
abbrev pub IsQuietWord : Text → Text → Text → Type 0
IsQuietWord word after text =
    (text ≡ word ++ after) × (list_all (λ byte. not (is_loud byte)) word ≡ true) × (0 < length word)

abbrev pub begins_slash : Text → Bool
begins_slash [] = false
begins_slash (byte ∷ text) = byte == 92

abbrev pub begins_colon : Text → Bool
begins_colon [] = false
begins_colon (byte ∷ text) = byte == 58

-- whether a word begins as one that counts does, of blocks, of included files or of refused forms
abbrev pub may_be_word : Text → Bool
may_be_word [] = false
may_be_word (byte ∷ word) = byte == 45 || byte == 100 || byte == 101 || byte == 105 || byte == 108 || byte == 111
    || byte == 112 || byte == 115 || byte == 117 || byte == 118

-- whether a line begins with a blank, with a backslash, which may be that of a continuation, with a byte of a line's
-- end, or with a letter that words of blocks begin with
abbrev pub may_open : Text → Bool
may_open [] = false
may_open (byte ∷ text) = byte == 32 || byte == 9 || byte == 92 || byte == 10 || byte == 13 || byte == 100 || byte == 101
    || byte == 105
