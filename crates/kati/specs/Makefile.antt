-- The makefile that is read, and the macros of the command line (POSIX.1-2024 make, "Makefile Syntax", "Macros"; GNU
-- make manual, "Overriding Variables").
use Rattle.std.specs.Prelude.{List, [], ◌∷◌, fold, Option, Some, None, codes}
use Rattle.kati.specs.Prelude.{Text, trimmed_start, Store, Macros, put, Makefile, Trace, predefined, read_of, reading, Args}
use Rattle.kt_eval.specs.declared.macros.Macro.{Macro}
use Rattle.kt_eval.specs.declared.macros.Flavour.TheVariants.{Deferred}
use Rattle.kt_eval.specs.declared.macros.Origin.TheVariants.{CommandLine}
use Rattle.kt_eval.specs.Outcome.{StepOver}
use Rattle.kati_args.specs.declared.args.MacroWord.{MacroWord}

-- `-f FILE`, or the default names of a makefile, in this order
abbrev pub makefile_names : Option Text → List Text
makefile_names None = codes "makefile" ∷ codes "Makefile" ∷ []
makefile_names (Some name) = name ∷ []

-- a macro of the command line is deferred, and its value has no blanks before it
abbrev pub set_by_command_line : Text → Macro
set_by_command_line value = record { flavour = Deferred; origin = CommandLine; value = trimmed_start value }

-- of two macros with one name the later one counts
abbrev pub with_macro : Macros → MacroWord → Macros
with_macro table entry = put entry.name (set_by_command_line entry.value) table

-- the macros of the command line, as they are before any makefile is read
unfoldable pub command_line_table : List MacroWord → Macros
command_line_table entries = fold with_macro [] entries

-- the reading of the makefile
abbrev pub makefile_read : Args → Store → StepOver Trace Makefile
makefile_read args store = reading store (makefile_names args.makefile) args.limit
    (read_of (predefined (command_line_table args.macros)) [])
