-- The result of reading makefiles (kati's own; GNU make manual, "What Name to Give Your Makefile").
use Rattle.std.specs.Prelude.{ℕ, true, List, [], Option, Some, None, codes}
use Rattle.kt_eval.specs.Prelude.{Text, Entry, Deferred, Macro, Store, World, Step}
use Rattle.kt_eval.specs.macros.Macros.{Macros, find, put, set_by_makefile}
use Rattle.kt_eval.specs.Outcome.{Gave, StepOver, ◌>>◌, leaving}
use Rattle.kt_eval.specs.expanding.Expansion.{Evaluator}
use Rattle.kt_eval.specs.expanding.Levels.{evaluator}
use Rattle.kt_eval.specs.reading.Reading.{read_first}

-- a deferred macro, unless it is set
abbrev pub default_by : Text → Text → Macros → Option Macro → Macros
default_by name value table None = put name (set_by_makefile Deferred value) table
default_by name value table (Some entry) = table

-- the macros, with this deferred macro unless the name is set already
unfoldable pub with_default : Text → Text → Macros → Macros
with_default name value table = default_by name value table (find name table)

-- the macros that are there before any makefile is read
abbrev pub predefined : Macros → Macros
predefined table =
    with_default (codes "MAKE") (codes "make")
    (with_default (codes ".SHELLFLAGS") (codes "-c") (with_default (codes "SHELL") (codes "/bin/sh") table))

-- what a run shows: its messages, and the names that it asks for
pub record Trace : Type 0 where
  pub said : List Text
  pub asked : List Text

-- what a run shows, from its messages and the names asked for
abbrev pub traced : List Text → List Text → Trace
traced said asked = record { said = said; asked = asked }

-- what a run shows, from its world
abbrev pub trace_of : World → Trace
trace_of w = traced w.said w.asked

-- the macros and rules of a makefile
pub record Makefile : Type 0 where
  pub table : Macros
  pub book : List Entry

-- a makefile, from its macros and its rules
abbrev pub read_of : Macros → List Entry → Makefile
read_of table book = record { table = table; book = book }

-- the world before the first line of a reading: it has what was read before, and no line
abbrev pub first_world : Makefile → Trace → World
first_world before trace = record {
  table = before.table;
  automatic = [];
  frames = [];
  said = trace.said;
  asked = trace.asked;
  place = None;
  book = before.book;
  rule = None;
}

-- reads the first of these files that exists, and returns what is known then
abbrev pub first_read : Store → Evaluator → List Text → Step Makefile
first_read store e names = do
  read_first store e names
  λ w. Gave w (read_of w.table w.book)

-- the reading of the first of these files that exists, with these macros and rules before it
abbrev pub reading : Store → List Text → ℕ → Makefile → StepOver Trace Makefile
reading store names limit before trace =
    leaving trace_of (first_read store (evaluator true store limit) names (first_world before trace))
