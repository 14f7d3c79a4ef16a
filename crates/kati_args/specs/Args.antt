-- What the words of the command line ask for (kati's own). Which words are options and which are their values is
-- clap's.
use Rattle.std.specs.Prelude.{◌≡◌, ◌≢◌, ℕ, ◌-◌, ◌==◌, ◌&&◌, ◌||◌, ⊤, Bool, true, false, not, List, [], ◌∷◌, map, filter}
use Rattle.std.specs.Prelude.{find, codes, length, slice_get, Some, None, option_map, unwrap_or, Result, Ok, Err}
use Rattle.std.specs.Prelude.{string_bytes, Option}
use Rattle.std.specs.List.{list_any, before_first, after_first}
use Rattle.std.specs.Option.{option_map_or}
use Rattle.std.specs.Str.Parse.{digits_value, without_leading_plus}
use Rattle.kati_args.specs.Prelude.{Text, is_separator, is_equals, new_rule, takes, with_rule, Args, MacroWord}
use Rattle.kati_args.specs.Prelude.{ArgFault}
use Rattle.clap.specs.Words.{App, IsAmong, Row, Rule, all_of, fault_of, first_of, matches_of, new_app}
use Rattle.clap.specs.declared.builder.action.ArgAction.TheVariants.{Append, Set, SetTrue}
use Rattle.clap.specs.declared.builder.value_parser.ValueParser.TheVariants as parser
use Rattle.clap.specs.declared.error.kind.ErrorKind.{ErrorKind}
use Rattle.clap.specs.declared.error.kind.ErrorKind.TheVariants.{DisplayHelp}
use Rattle.kati_args.specs.declared.fault.ArgFault.TheVariants.{BadMacro, Help, Memory, Usage}

-- ---- the command, as clap has it

-- the option `-f FILE`, as clap has it
abbrev pub makefile_rule : Rule
makefile_rule = record (new_rule (codes "makefile")) { short = Some 102; action = Some Set; value_names = 1 }

-- the option `--ninja`, as clap has it
abbrev pub ninja_rule : Rule
ninja_rule = record (new_rule (codes "ninja")) { long = Some (codes "ninja"); action = Some SetTrue }

-- an option that takes one value
abbrev pub option_rule : Text → Rule
option_rule name = record (new_rule name) { long = Some name; action = Some Set; value_names = 1 }

-- the option `--depth N`, as clap has it: a number from 1 to 400
abbrev pub depth_rule : Rule
depth_rule = record (option_rule (codes "depth")) { parser = Some (parser.Unsigned 1 400) }

-- the words that are no option: goals and macros, any number of them
abbrev pub words_rule : Rule
words_rule = record (new_rule (codes "words")) { action = Some Append; value_names = 1 }

-- `kati [-f FILE] [--ninja] [--files FILE] [--check FILE] [--depth N] [GOAL|NAME=VALUE]..`
abbrev pub kati_app : App
kati_app =
    with_rule (with_rule (with_rule (with_rule (with_rule (with_rule (new_app (codes "kati"))
    makefile_rule) ninja_rule) (option_rule (codes "files"))) (option_rule (codes "check"))) depth_rule) words_rule

-- ---- words that are no option

-- the words that are no option, in order
abbrev pub words_in : List Row → List Text
words_in rows = unwrap_or (all_of (codes "words") rows) []

-- whether a word is a macro: a word with an equals sign is one, and all others are goals
abbrev pub is_macro : Text → Bool
is_macro word = list_any is_equals word

-- what stands before the first equals sign
abbrev pub name_before_equals : Text → Text
name_before_equals word = before_first is_equals word

-- the macro that a word sets: its name is before the first equals sign, and its value after it
abbrev pub macro_of_word : Text → MacroWord
macro_of_word word = record { name = name_before_equals word; value = after_first is_equals word }

-- whether a word is empty
abbrev pub is_empty_word : Text → Bool
is_empty_word [] = true
is_empty_word (byte ∷ bytes) = false

-- `:`, `?`, `+` or `!`, with which an equals sign makes another operator of makefiles
abbrev pub is_operator : ℕ → Bool
is_operator byte = byte == 58 || (byte == 63 || (byte == 43 || byte == 33))

-- whether a name ends in `:`, `?`, `+` or `!`
abbrev pub ends_in_operator : Text → Bool
ends_in_operator name = option_map_or is_operator (slice_get name (length name - 1)) false

-- a name that no macro can have
abbrev pub is_bad_macro_name : Text → Bool
is_bad_macro_name name = is_empty_word name || (list_any is_separator name || ends_in_operator name)

-- whether a word sets a macro with a name that no macro can have
abbrev pub is_bad_macro : Text → Bool
is_bad_macro word = is_macro word && is_bad_macro_name (name_before_equals word)

-- the goals among words: those without an equals sign
abbrev pub goals_in : List Text → List Text
goals_in words = filter (λ word. not (is_macro word)) words

-- the macros among words: those with an equals sign
abbrev pub macros_in : List Text → List MacroWord
macros_in words = map macro_of_word (filter is_macro words)

-- ---- what they ask for

-- the number that decimal digits are, perhaps after a plus sign
abbrev pub number_in : Text → ℕ
number_in text = digits_value 10 (without_leading_plus text)

-- what clap found in the words, as arguments: those of options that aren't there are none, and 100 levels
abbrev pub args_in : List Row → Args
args_in rows = record {
  makefile = first_of (codes "makefile") rows;
  files = first_of (codes "files") rows;
  check = first_of (codes "check") rows;
  limit = unwrap_or (option_map number_in (first_of (codes "depth") rows)) 100;
  goals = goals_in (words_in rows);
  macros = macros_in (words_in rows);
}

-- ---- answers

-- the arguments, or the word that sets a bad macro if there is one
abbrev pub unless_bad : Args → Option Text → Result Args Text
unless_bad args None = Ok args
unless_bad args (Some word) = Err word

-- what clap found in the words, as arguments, or the first macro whose name no macro can have
abbrev pub answer_to : List Row → Result Args Text
answer_to rows = unless_bad (args_in rows) (find is_bad_macro (words_in rows))

-- what may be returned where clap found this in the words: that, or that there isn't memory enough
abbrev pub AnswersFound : List Row → Result Args ArgFault → Type 0
AnswersFound rows (Ok args) = answer_to rows ≡ Ok args
AnswersFound rows (Err (BadMacro word)) = answer_to rows ≡ Err (string_bytes word)
AnswersFound rows (Err Memory) = ⊤
AnswersFound rows (Err (Help text)) = ⊥
AnswersFound rows (Err (Usage text)) = ⊥

-- clap takes all of the words: it knows each option and accepts each value, and its help isn't asked for
abbrev pub IsTaken : List Text → Type 0
IsTaken words = takes kati_app words ≡ true

-- what may be returned for the words: arguments and a bad macro only where clap takes them, help and usage only where
-- it doesn't, help only where clap shows it, and usage only where clap finds another fault
abbrev pub AnswersWords : List Text → Result Args ArgFault → Type 0
AnswersWords words (Err (Help text)) = (takes kati_app words ≡ false) × IsAmong DisplayHelp (fault_of kati_app words)
AnswersWords words (Err (Usage text)) =
    (takes kati_app words ≡ false) × ((kind : ErrorKind) × (kind ≢ DisplayHelp)
    × IsAmong kind (fault_of kati_app words))
AnswersWords words (Err Memory) = ⊤
AnswersWords words result = IsTaken words × AnswersFound (matches_of kati_app words) result
