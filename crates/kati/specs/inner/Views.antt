-- The code's own types as those of the definitions (kati's own).
use Rattle.kati.specs.Prelude.{ℕ, Text, Plan, Store, Makefile}
use Rattle.kati.specs.inner.Prelude.{Bool, true, false, List, Obstacle, bad_name, bad_command, StepEnd}
use Rattle.kati.specs.Prelude.{Trace, read_of, Args, known_names}
use Rattle.kati.specs.Meaning.{Means, MeansGoals, WantedGoals, meaning_of}
use Rattle.kt_eval.specs.declared.macros.scope.Makefile.{Makefile as HeldMakefile}
use Rattle.kati.specs.declared.translating.ReadSources.{ReadSources}

abbrev pub read_view : HeldMakefile → Makefile
read_view makefile = read_of makefile.macros makefile.book

-- the goals with the makefile that was read, given the list of files that exist
abbrev pub goals_view : ReadSources → List Text → WantedGoals
goals_view found goals = record {
  read = read_view found.makefile;
  known = known_names found.makefile.book found.list.items;
  goals = goals;
}

-- an end that is a meaning of goals, after what was left before them
abbrev pub GoalsEnd : ℕ → WantedGoals → Trace → StepEnd Trace Plan → Type 0
GoalsEnd limit want trace end = MeansGoals limit want trace (meaning_of end)

-- an end that is a meaning of the whole, after these names were asked for
abbrev pub EndMeans : Args → Store → List Text → StepEnd Trace Plan → Type 0
EndMeans args store asked end = Means args store asked (meaning_of end)

-- whether a name or a command can't be written
abbrev pub is_text_trouble : Obstacle → Bool
is_text_trouble (bad_name name) = true
is_text_trouble (bad_command number) = true
is_text_trouble other = false
