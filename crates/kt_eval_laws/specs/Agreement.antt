-- What it says that a store agrees with answers, and for which answers there is such a store.
use Rattle.std.specs.Prelude.{◌≡◌, ℕ, List, [], ◌∷◌, ◌++◌, Option, Some, None}
use Rattle.std.specs.List.{All, Contains}
use Rattle.kt_eval.specs.files.Files.{AgreeWith, Answer}
use Rattle.kt_eval.specs.views.files.Files.{AnswersGrow}
use Rattle.kt_eval.specs.Prelude.{Store, look}
use Rattle.kt_eval.specs.views.files.Memory.{MemFiles, seen_of}

-- a store holds what was answered, each time
abbrev pub HoldsEach : Store → List Answer → Type 0
HoldsEach store answers = All (λ answer. look store answer.0 ≡ answer.1) answers

-- it agrees exactly if it does
abbrev pub AgreeingHolds : Type 0
AgreeingHolds = (store : Store) (answers : List Answer) → AgreeWith store answers → HoldsEach store answers

abbrev pub HoldingAgrees : Type 0
HoldingAgrees = (store : Store) (answers : List Answer) → HoldsEach store answers → AgreeWith store answers

-- what is added to answers makes them grow
abbrev pub AddedGrow : Type 0
AddedGrow = (old added : List Answer) → AnswersGrow old (old ++ added)

-- the files that were there, each with its bytes
abbrev pub with_found : List ℕ → Option (List ℕ) → Store → Store
with_found name None store = store
with_found name (Some bytes) store = (name, bytes) ∷ store

abbrev pub store_of : List Answer → Store
store_of [] = []
store_of (answer ∷ answers) = with_found answer.0 answer.1 (store_of answers)

-- no name was answered in two ways
abbrev pub AreSteady : List Answer → Type 0
AreSteady answers = (one other : Answer) → Contains answers one → Contains answers other → one.0 ≡ other.0
    → one.1 ≡ other.1

-- then there is a store that agrees, and otherwise there is none
abbrev pub SteadyAgree : Type 0
SteadyAgree = (answers : List Answer) → AreSteady answers → AgreeWith (store_of answers) answers

abbrev pub AgreeingAreSteady : Type 0
AgreeingAreSteady = (store : Store) (answers : List Answer) → AgreeWith store answers → AreSteady answers

-- files in memory agree with what they hold, at any time
abbrev pub MemoryAgrees : Type 0
MemoryAgrees = (memory : MemFiles) → AgreeWith memory.store (seen_of memory).answers
