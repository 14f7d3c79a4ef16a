-- Worked command lines, as facts that compute. The forms of options are those of clap.
use Rattle.std.specs.Prelude.{◌≡◌, ⊤, List, [], ◌∷◌, Option, Some, None, Result, Ok, Err, if◌then◌else◌, codes}
use Rattle.kati_args.specs.Prelude.{Text, takes}
use Rattle.clap.specs.Words.{fault_of, matches_of}
use Rattle.kati_args.specs.declared.args.Args.{Args}
use Rattle.kati_args.specs.declared.args.MacroWord.{MacroWord}
use Rattle.kati_args.specs.declared.fault.ArgFault.{ArgFault}
use Rattle.clap.specs.declared.error.kind.ErrorKind.TheVariants.{ArgumentConflict, DisplayHelp, InvalidValue, TooManyValues, UnknownArgument, ValueValidation}
use Rattle.kati_args.specs.declared.fault.ArgFault.TheVariants.{Memory, Usage}
use Rattle.kati_args.specs.Args.{AnswersWords, answer_to, kati_app}

-- the words of a command line, after the program's name
abbrev pub program_words : List Text → List Text
program_words words = codes "kati" ∷ words

-- what is returned for words that clap takes
abbrev pub asked : List Text → Option (Result Args Text)
asked words =
    if takes kati_app (program_words words) then Some (answer_to (matches_of kati_app (program_words words))) else None

abbrev pub plain : Args
plain = record { makefile = None; files = None; check = None; limit = 100; goals = []; macros = [] }

abbrev pub macro : Text → Text → MacroWord
macro name value = record { name = name; value = value }

pub record RowsOfWords : Type 0 where
  pub nothing : asked [] ≡ Some (Ok plain)
  pub usual : asked (codes "-f" ∷ codes "lib.mk" ∷ codes "CC=clang" ∷ codes "all" ∷ [])
      ≡ Some (Ok (record plain {
        makefile = Some (codes "lib.mk");
        goals = codes "all" ∷ [];
        macros = macro
            (codes "CC") (codes "clang") ∷ [];
      }))
  pub attached : asked (codes "t" ∷ codes "--ninja" ∷ codes "-f=Makefile" ∷ [])
      ≡ Some (Ok (record plain { makefile = Some (codes "Makefile"); goals = codes "t" ∷ [] }))
  pub files : asked (codes "--files=l" ∷ codes "--check" ∷ codes "n" ∷ [])
      ≡ Some (Ok (record plain { files = Some (codes "l"); check = Some (codes "n") }))
  pub depth : asked (codes "--depth" ∷ codes "+007" ∷ []) ≡ Some (Ok (record plain { limit = 7 }))
  pub dashes : asked (codes "--" ∷ codes "-f" ∷ codes "A=1" ∷ [])
      ≡ Some (Ok (record plain { goals = codes "-f" ∷ []; macros = macro (codes "A") (codes "1") ∷ [] }))
  pub dash : asked (codes "-" ∷ []) ≡ Some (Ok (record plain { goals = codes "-" ∷ [] }))
  pub twice : asked (codes "A=1" ∷ codes "A=x=y" ∷ [])
      ≡ Some (Ok (record plain { macros = macro (codes "A") (codes "1") ∷ macro (codes "A") (codes "x=y") ∷ [] }))
  pub bad : asked (codes "t" ∷ codes "A:=x" ∷ codes "=x" ∷ []) ≡ Some (Err (codes "A:=x"))
  pub no_name : asked (codes "=x" ∷ []) ≡ Some (Err (codes "=x"))
  pub two_words : asked (codes "A B=x" ∷ []) ≡ Some (Err (codes "A B=x"))

-- words that clap doesn't take, and why
pub record RowsOfFaults : Type 0 where
  pub help : fault_of kati_app (program_words (codes "t" ∷ codes "--help" ∷ [])) ≡ DisplayHelp ∷ []
  pub short_help : fault_of kati_app (program_words (codes "-h" ∷ codes "--nothing" ∷ [])) ≡ DisplayHelp ∷ []
  pub unknown : fault_of kati_app (program_words (codes "--nothing" ∷ codes "--help" ∷ [])) ≡ UnknownArgument ∷ []
  pub no_value : fault_of kati_app (program_words (codes "-f" ∷ codes "--ninja" ∷ [])) ≡ InvalidValue ∷ []
  pub again : fault_of kati_app (program_words (codes "-f" ∷ codes "m" ∷ codes "-f" ∷ codes "m" ∷ []))
      ≡ ArgumentConflict ∷ []
  pub value : fault_of kati_app (program_words (codes "--ninja=x" ∷ [])) ≡ TooManyValues ∷ []
  pub too_deep : fault_of kati_app (program_words (codes "A:=x" ∷ codes "--depth=401" ∷ [])) ≡ ValueValidation ∷ []

-- usage, or that there isn't memory enough
abbrev pub IsUsage : Result Args ArgFault → Type 0
IsUsage (Err (Usage text)) = ⊤
IsUsage (Err Memory) = ⊤
IsUsage result = ⊥

-- nothing else may be returned for the words
abbrev pub AsksUsage : List Text → Type 0
AsksUsage words = (result : Result Args ArgFault) → AnswersWords (program_words words) result → IsUsage result

pub record RowsOfUsage : Type 0 where
  pub unknown : AsksUsage (codes "--nothing" ∷ [])
  pub later : AsksUsage (codes "t" ∷ codes "A=1" ∷ codes "-x" ∷ [])
  -- clap refuses a word after a bad macro
  pub too_deep : AsksUsage (codes "A:=x" ∷ codes "--depth=401" ∷ [])
  pub no_value : AsksUsage (codes "=x" ∷ codes "-f" ∷ [])
