-- What a run means: its messages, its plan or its first fault, and the names that it asks for (kati's own).
use Rattle.std.specs.Prelude.{◌≡◌, ℕ, List, [], Some, None, ◌⊎◌, Result, Ok, Err}
use Rattle.kati.specs.Prelude.{Text, Fault, Store, Makefile, Trace, traced, fault_at, known_names, Node, Trouble}
use Rattle.kati.specs.Prelude.{ComesFirst, IsSoundGraph, trouble_number, trouble_words, Plan, Args}
use Rattle.kt_eval.specs.Outcome.{StepEnd, Gave, Stopped, StepOver, ◌>>=◌, done, left_of}
use Rattle.kati.specs.Steps.{telling}
use Rattle.kati.specs.Listing.{listed}
use Rattle.kati.specs.Makefile.{makefile_read}
use Rattle.kati.specs.Goals.{chosen_goals}
use Rattle.kati.specs.plan.Planning.{planned}

-- what a run means: its messages, its plan or first fault, and the names asked for, those from before the run included
pub record Meaning : Type 0 where
  pub messages : List Text
  pub result : Result Plan Fault
  pub asked : List Text

-- the meaning of a run that ended so: the messages and names asked for that it left, and its plan or its fault
abbrev pub meaning_of : StepEnd Trace Plan → Meaning
meaning_of (Gave trace plan) = record { messages = trace.said; result = Ok plan; asked = trace.asked }
meaning_of (Stopped trace fault) = record { messages = trace.said; result = Err fault; asked = trace.asked }

-- ---- first the files are listed, the makefile is read, and the goals are chosen

-- the goals, with the makefile and the known names that make them
pub record WantedGoals : Type 0 where
  pub read : Makefile
  pub known : List Text
  pub goals : List Text

-- the goals of a makefile that was read, with the names that the list of files and the rules make known
abbrev pub wanted_by : Args → Text → Makefile → StepOver (List Text) WantedGoals
wanted_by args list read = do
  goals ← chosen_goals args.limit read args.goals
  done (record { read = read; known = known_names read.book list; goals = goals })

-- the first steps of a run: the list of files and the makefile are read, and the goals are chosen
abbrev pub prepared : Args → Store → StepOver Trace WantedGoals
prepared args store = do
  list ← listed store args.files
  read ← makefile_read args store
  telling (wanted_by args list read)

-- ---- then the plan of the graph that the goals need, or the first thing that is wrong with it

-- nothing is wrong with the graph of the goals: the run means the plan of its nodes, or the fault of a plan that can't
-- be written
pub record MeansPlan (limit : ℕ) (want : WantedGoals) (trace : Trace) (m : Meaning) : Type 0 where
  pub nodes : List Node
  pub graph : IsSoundGraph want.read.book want.known want.goals nodes
  pub means : m ≡ meaning_of (telling (planned want.read.book want.read.table limit want.goals nodes) trace)

-- something is wrong with the graph of the goals: the run means the fault of the trouble that comes first
pub record MeansTrouble (want : WantedGoals) (trace : Trace) (m : Meaning) : Type 0 where
  pub trouble : Trouble
  pub first : ComesFirst want.read.book want.known want.goals (Some trouble)
  pub means : m ≡ meaning_of (Stopped trace (fault_at None (trouble_number trouble) (trouble_words trouble)))

-- what a run means once its goals are chosen, whether something is wrong with their graph or not
abbrev pub MeansGoals : ℕ → WantedGoals → Trace → Meaning → Type 0
MeansGoals limit want trace m = MeansPlan limit want trace m ⊎ MeansTrouble want trace m

-- ---- the whole

-- steps that came to what is wanted have its meaning, and those that stopped mean their fault
abbrev pub MeansAfter : ℕ → StepEnd Trace WantedGoals → Meaning → Type 0
MeansAfter limit (Gave trace want) m = MeansGoals limit want trace m
MeansAfter limit (Stopped trace fault) m = m ≡ meaning_of (Stopped trace fault)

-- what a run with these arguments over these files means, after these names were asked for
abbrev pub Means : Args → Store → List Text → Meaning → Type 0
Means args store asked m = MeansAfter args.limit (prepared args store (traced [] asked)) m

-- ---- the names that a run asks for

-- the names asked for until the goals are chosen, with those from before the run; after that a run only asks for the
-- file to be checked
abbrev pub names_asked : Args → Store → List Text → List Text
names_asked args store asked = (left_of (prepared args store (traced [] asked))).asked
