-- The text functions (GNU make manual, "Functions for String Substitution and Analysis" and, from `dir` on, "Functions
-- for File Names").
use Rattle.std.specs.Prelude.{ℕ, Bool, List, [], ◌∷◌, Option, Some, find, codes, bytes_eq}
use Rattle.kt_text.specs.Words.{Text}
use Rattle.kt_text.specs.Functions.{subst_of, patsubst_of, strip_of, findstring_of, filter_of, filter_out_of, sort_of}
use Rattle.kt_text.specs.Functions.{word_of, wordlist_of, words_count_of, firstword_of, lastword_of, dir_of, notdir_of}
use Rattle.kt_text.specs.Functions.{suffix_of, basename_of, addsuffix_of, addprefix_of, join_of}
use Rattle.kt_text.specs.declared.functions.text_function.TextFunction.{TextFunction}
use Rattle.kt_text.specs.declared.functions.text_function.TextFunction.TheVariants.{Subst, Patsubst, Strip, Findstring}
use Rattle.kt_text.specs.declared.functions.text_function.TextFunction.TheVariants.{Filter, FilterOut, Sort, Word}
use Rattle.kt_text.specs.declared.functions.text_function.TextFunction.TheVariants.{Wordlist, Words, Firstword}
use Rattle.kt_text.specs.declared.functions.text_function.TextFunction.TheVariants.{Lastword, Dir, Notdir, Suffix}
use Rattle.kt_text.specs.declared.functions.text_function.TextFunction.TheVariants.{Basename, Addsuffix, Addprefix}
use Rattle.kt_text.specs.declared.functions.text_function.TextFunction.TheVariants.{Join}

-- all text functions
abbrev pub text_functions : List TextFunction
text_functions =
    Subst ∷ Patsubst ∷ Strip ∷ Findstring ∷ Filter ∷ FilterOut ∷ Sort ∷ Word ∷ Wordlist ∷ Words ∷ Firstword
    ∷ Lastword ∷ Dir ∷ Notdir ∷ Suffix ∷ Basename ∷ Addsuffix ∷ Addprefix ∷ Join ∷ []

-- the name of each text function, and the number of its arguments
abbrev pub function_row : TextFunction → Text × ℕ
function_row Subst = (codes "subst", 3)
function_row Patsubst = (codes "patsubst", 3)
function_row Strip = (codes "strip", 1)
function_row Findstring = (codes "findstring", 2)
function_row Filter = (codes "filter", 2)
function_row FilterOut = (codes "filter-out", 2)
function_row Sort = (codes "sort", 1)
function_row Word = (codes "word", 2)
function_row Wordlist = (codes "wordlist", 3)
function_row Words = (codes "words", 1)
function_row Firstword = (codes "firstword", 1)
function_row Lastword = (codes "lastword", 1)
function_row Dir = (codes "dir", 1)
function_row Notdir = (codes "notdir", 1)
function_row Suffix = (codes "suffix", 1)
function_row Basename = (codes "basename", 1)
function_row Addsuffix = (codes "addsuffix", 2)
function_row Addprefix = (codes "addprefix", 2)
function_row Join = (codes "join", 2)

-- the name of a text function
abbrev pub text_function_name : TextFunction → Text
text_function_name function = (function_row function).0

-- the number of arguments of a text function
abbrev pub arity : TextFunction → ℕ
arity function = (function_row function).1

-- whether a text function has this name
abbrev pub has_name : Text → TextFunction → Bool
has_name name function = bytes_eq name (text_function_name function)

-- the function with this name
unfoldable pub text_function : Text → Option TextFunction
text_function name = find (has_name name) text_functions

-- the result of each text function, if it accepts its arguments; of the three, as many count as it has
abbrev pub applied : TextFunction → Text → Text → Text → Option Text
applied Subst from to text = Some (subst_of from to text)
applied Patsubst pattern replacement text = patsubst_of pattern replacement text
applied Strip text second third = Some (strip_of text)
applied Findstring needle text third = Some (findstring_of needle text)
applied Filter patterns text third = filter_of patterns text
applied FilterOut patterns text third = filter_out_of patterns text
applied Sort text second third = Some (sort_of text)
applied Word at text third = word_of at text
applied Wordlist first last text = wordlist_of first last text
applied Words text second third = Some (words_count_of text)
applied Firstword text second third = Some (firstword_of text)
applied Lastword text second third = Some (lastword_of text)
applied Dir names second third = Some (dir_of names)
applied Notdir names second third = Some (notdir_of names)
applied Suffix names second third = Some (suffix_of names)
applied Basename names second third = Some (basename_of names)
applied Addsuffix suffix names third = Some (addsuffix_of suffix names)
applied Addprefix prefix names third = Some (addprefix_of prefix names)
applied Join first second third = Some (join_of first second)
