-- What kati-asked writes, and how it ends (kati's own).
use Rattle.std.specs.Prelude.{◌≡◌, ℕ, List, ◌∷◌, ◌++◌, Result, Ok, Err, codes}
use Rattle.kati.specs.Prelude.{flat_map, Rises, Text, AgreeWith, Store, Args, RunFault, Status, Devices}
use Rattle.kt_ninja.specs.Written.{GrowsByFront, SinkSeen, Takes}
use Rattle.kati.specs.declared.faults.RunFault.TheVariants as faults
use Rattle.kati.specs.Exits.{exit_code}
use Rattle.kati.specs.AfterRun.{BlamesDevice, Exits, Leaves, LeavesOut}
use Rattle.kati.specs.ErrorOutput.{ReportsEnd}

-- each name on a line of its own
abbrev pub name_lines : List Text → Text
name_lines names = flat_map (λ name. name ++ codes "\n") names

-- what stands behind the output of a run: a NUL, which no makefile and so no Ninja text has, and the names
abbrev pub behind_output : List Text → Text
behind_output names = 0 ∷ name_lines names

-- the names after a run with this status: the output has all of them, or it failed and has a prefix of that text, or
-- memory ran out and it has nothing more
abbrev pub PutsNames : Status → Result Status RunFault → List Text → SinkSeen → SinkSeen → Type 0
PutsNames status (Ok status') names old new = (status' ≡ status) × (new.failed ≡ old.failed)
    × Takes old new (behind_output names)
PutsNames status (Err faults.WriteOut) names old new = Rises old.failed new.failed
    × GrowsByFront old new (behind_output names)
PutsNames status (Err faults.Memory) names old new = new ≡ old
PutsNames status (Err faults.WriteErr) names old new = ⊥
PutsNames status (Err (faults.Read name)) names old new = ⊥

-- how the program ends after a run: the names are written if the run came to its end, and otherwise nothing more is
abbrev pub NamesAfter : Result Status RunFault → Result Status RunFault → List Text → SinkSeen → SinkSeen → Type 0
NamesAfter (Ok status) ended names old new = PutsNames status ended names old new
NamesAfter (Err fault) ended names old new = (ended ≡ Err fault) × (new ≡ old)

-- a run of kati with these arguments; then the names that were asked for; then the exit status, and the line on the
-- error output if the program didn't come to its end
pub record NamingExits (args : Args) (code : ℕ) (old new : Devices) : Type 0 where
  pub run : Result Status RunFault
  pub ran : Devices
  pub leaves : (store : Store) → AgreeWith store new.files.answers → Leaves args store run old ran
  pub output : LeavesOut args.check run old.out ran.out
  pub ended : Result Status RunFault
  pub named : Devices
  pub names : NamesAfter run ended ran.files.names ran.out named.out
  pub rest : (named.files ≡ ran.files) × (named.err ≡ ran.err)
  pub blames : BlamesDevice ended old named
  pub exit : code ≡ exit_code ended
  pub told : ReportsEnd ended named new

-- the line before kati's help
abbrev pub help_lead : Text
help_lead = codes "kati-asked runs kati, and writes the names that it asks for behind a NUL:\n\n"

-- kati-asked as a whole program: like kati, but for its run and the line before the help
abbrev pub AskedExits : List Text → ℕ → Devices → Devices → Type 0
AskedExits words code old new = Exits NamingExits help_lead words code old new
