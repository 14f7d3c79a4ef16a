-- That a run has a meaning, and only one (kati's own).
use Rattle.std.specs.Prelude.{◌≡◌, List}
use Rattle.kati.specs.Prelude.{Text, Store}
use Rattle.kati_args.specs.declared.args.Args.{Args}
use Rattle.kati.specs.Meaning.{Meaning, Means}

-- two meanings of one run are equal: messages, plan or fault, and names asked for
abbrev pub HasOneMeaning : Type 0
HasOneMeaning = (args : Args) (store : Store) (asked : List Text) (m n : Meaning) → Means args store asked m
    → Means args store asked n → m ≡ n

-- each run has a meaning, whatever its arguments are and its files hold
abbrev pub HasAMeaning : Type 0
HasAMeaning = (args : Args) (store : Store) (asked : List Text) → (m : Meaning) × Means args store asked m
