-- The state of the devices after a run, and after the program (kati's own).
use Rattle.std.specs.Prelude.{◌≡◌, ◌⊎◌, ℕ, List, [], Option, Some, None, Result, Ok, Err, IfOk, IsOk}
use Rattle.kati.specs.Prelude.{string_bytes, Rises, Text, Plan, plan_text, IsWritable, GrowsByFront, SinkSeen, Takes}
use Rattle.kati.specs.Prelude.{Fault, AgreeWith, Store, Args, ArgFault, RunFault, Status, Devices}
use Rattle.kt_list.specs.Prefixes.{IsPrefix, last}
use Rattle.kati_args.specs.Args.{AnswersWords}
use Rattle.kati.specs.declared.faults.RunFault.TheVariants as faults
use Rattle.kati.specs.declared.status.Status.TheVariants as statuses
use Rattle.kati.specs.Checking.{AskedAtCheck, HasStatus, IsReadAs, names_with_check}
use Rattle.kati.specs.Exact.{IsGraphOf}
use Rattle.kati.specs.Exits.{exit_code}
use Rattle.kati.specs.Meaning.{Meaning, Means, names_asked}
use Rattle.kati.specs.Sound.{IsSoundPlan}
use Rattle.kati.specs.ErrorOutput.{RefusesBy, ReportsEnd, err_text}

-- the output has taken the plan's text, which is read by Ninja's rules as the plan
pub record WritesPlan (plan : Plan) (old new : SinkSeen) : Type 0 where
  pub taken : Takes old new (plan_text plan)
  pub read : IsReadAs (plan_text plan) plan

-- what the output has taken: a plan's text, or nothing if a file is to be checked or the makefile has a fault
abbrev pub HasOutput : Option Text → Result Plan Fault → SinkSeen → SinkSeen → Type 0
HasOutput None (Ok plan) old new = WritesPlan plan old new
HasOutput None (Err fault) old new = new ≡ old
HasOutput (Some checked) result old new = new ≡ old

-- the run came to its end: messages, plan or fault, and names asked for are those of the meaning; a plan is exactly the
-- graph of its goals, and its text is on the output
pub record EndsInFull (args : Args) (store : Store) (status : Status) (old new : Devices) : Type 0 where
  pub meaning : Meaning
  pub means : Means args store old.files.names meaning
  pub graph : IfOk meaning.result (IsGraphOf args store old.files.names)
  pub sound : IfOk meaning.result IsSoundPlan
  pub ends : HasStatus store args.check meaning.result status
  pub names : new.files.names ≡ names_with_check args.check meaning.result meaning.asked
  pub written : HasOutput args.check meaning.result old.out new.out
  pub told : Takes old.err new.err (err_text meaning)

-- the output failed: the makefile has a plan, the output has a prefix of its text, and the error output has all of its
-- own
pub record EndsAtOut (args : Args) (store : Store) (old new : Devices) : Type 0 where
  pub meaning : Meaning
  pub means : Means args store old.files.names meaning
  pub names : new.files.names ≡ meaning.asked
  pub plan : Plan
  pub planned : meaning.result ≡ Ok plan
  pub graph : IsGraphOf args store old.files.names plan
  pub sound : IsSoundPlan plan
  pub unchecked : args.check ≡ None
  pub written : GrowsByFront old.out new.out (plan_text plan)
  pub told : Takes old.err new.err (err_text meaning)

-- the error output failed: it has a prefix of its text, and the output has nothing
pub record EndsAtErr (args : Args) (store : Store) (old new : Devices) : Type 0 where
  pub meaning : Meaning
  pub means : Means args store old.files.names meaning
  pub names : new.files.names ≡ meaning.asked
  pub written : new.out ≡ old.out
  pub told : GrowsByFront old.err new.err (err_text meaning)

-- the translation was stopped: nothing was written, and the names asked for are a prefix of those of a translation that
-- isn't stopped
pub record EndsEarly (args : Args) (store : Store) (old new : Devices) : Type 0 where
  pub names : IsPrefix new.files.names (names_asked args store old.files.names)
  pub written : new.out ≡ old.out
  pub told : new.err ≡ old.err

-- the file to be checked couldn't be read: the error output has the messages, and the output has nothing
pub record EndsAtCheck (args : Args) (store : Store) (fault : RunFault) (old new : Devices) : Type 0 where
  pub meaning : Meaning
  pub means : Means args store old.files.names meaning
  pub planned : IsOk meaning.result
  pub name : Text
  pub checks : args.check ≡ Some name
  pub names : AskedAtCheck fault name meaning.asked new.files.names
  pub written : new.out ≡ old.out
  pub told : Takes old.err new.err (err_text meaning)

-- the run didn't come to its end: nothing was written, or the file to be checked wasn't read
abbrev pub IsUntouched : Args → Store → RunFault → Devices → Devices → Type 0
IsUntouched args store fault old new = EndsEarly args store old new ⊎ EndsAtCheck args store fault old new

-- the devices after a run over these files, by how it ended
abbrev pub Leaves : Args → Store → Result Status RunFault → Devices → Devices → Type 0
Leaves args store (Ok status) old new = EndsInFull args store status old new
Leaves args store (Err faults.WriteOut) old new = EndsAtOut args store old new
Leaves args store (Err faults.WriteErr) old new = EndsAtErr args store old new
Leaves args store (Err (faults.Read name)) old new = IsUntouched args store (faults.Read name) old new
Leaves args store (Err faults.Memory) old new = IsUntouched args store faults.Memory old new

-- ---- the output after a run, whatever the files hold

-- an output has a plan's text, or a prefix of that text, as `Has` says; the plan can be written and is sound
pub record HasPlanText (Has : SinkSeen → SinkSeen → Text → Type 0) (old new : SinkSeen) : Type 0 where
  pub plan : Plan
  pub writable : IsWritable plan
  pub sound : IsSoundPlan plan
  pub has : Has old new (plan_text plan)

-- what the output has after a run, whatever the files hold: a plan's text if the run wrote one, a prefix of it if the
-- output failed, and otherwise nothing. If a file is to be checked, nothing is written
abbrev pub LeavesOut : Option Text → Result Status RunFault → SinkSeen → SinkSeen → Type 0
LeavesOut (Some checked) result old new = new ≡ old
LeavesOut None (Ok statuses.Done) old new = HasPlanText Takes old new
LeavesOut None (Ok statuses.Differs) old new = ⊥
LeavesOut None (Ok statuses.Fault) old new = new ≡ old
LeavesOut None (Err faults.WriteOut) old new = HasPlanText GrowsByFront old new
LeavesOut None (Err faults.WriteErr) old new = new ≡ old
LeavesOut None (Err (faults.Read name)) old new = new ≡ old
LeavesOut None (Err faults.Memory) old new = new ≡ old

-- what caused a fault of a run: the failures of that device rose, and a file is reported with the name asked for last;
-- where an output failed or memory ran out, no file failed; a run that comes to its end has met no failure
abbrev pub BlamesDevice : Result Status RunFault → Devices → Devices → Type 0
BlamesDevice (Ok status) old new = (new.files.failed ≡ old.files.failed) × (new.out.failed ≡ old.out.failed)
    × (new.err.failed ≡ old.err.failed)
BlamesDevice (Err (faults.Read name)) old new = Rises old.files.failed new.files.failed
    × (last new.files.names ≡ Some (string_bytes name))
BlamesDevice (Err faults.Memory) old new = new.files.failed ≡ old.files.failed
BlamesDevice (Err faults.WriteOut) old new = Rises old.out.failed new.out.failed × (new.files.failed ≡ old.files.failed)
BlamesDevice (Err faults.WriteErr) old new = Rises old.err.failed new.err.failed × (new.files.failed ≡ old.files.failed)

-- a run with these arguments, and the exit status; after it, only the reason why it didn't come to its end is written;
-- what the run left is told of each store that agrees with all that was answered
pub record RunExits (args : Args) (code : ℕ) (old new : Devices) : Type 0 where
  pub run : Result Status RunFault
  pub ended : Devices
  pub leaves : (store : Store) → AgreeWith store new.files.answers → Leaves args store run old ended
  pub output : LeavesOut args.check run old.out ended.out
  pub blames : BlamesDevice run old ended
  pub exit : code ≡ exit_code run
  pub told : ReportsEnd run ended new

-- how a program ends, by what its words ask for; words that ask for no run ask for no file, either
abbrev pub ExitsBy : (Args → ℕ → Devices → Devices → Type 0) → Text → Result Args ArgFault → ℕ → Devices → Devices
    → Type 0
ExitsBy Runs lead (Ok args) code old new = Runs args code old new
ExitsBy Runs lead (Err fault) code old new = (new.files ≡ old.files)
    × RefusesBy lead fault code old.out new.out old.err new.err

-- a whole program: what its words ask for, and how that ends, given what a run is and what comes before the help
pub record Exits (Runs : Args → ℕ → Devices → Devices → Type 0) (lead : Text) (words : List Text) (code : ℕ)
    (old new : Devices) : Type 0 where
  pub answered : Result Args ArgFault
  pub answers : AnswersWords words answered
  pub exits : ExitsBy Runs lead answered code old new

-- kati as a whole program: its words, its exit status, and the devices before and after it
abbrev pub KatiExits : List Text → ℕ → Devices → Devices → Type 0
KatiExits words code old new = Exits RunExits [] words code old new
