-- Which names a run asks for (kati's own).
use Rattle.std.specs.Prelude.{◌≡◌, List}
use Rattle.kati.specs.Prelude.{Text, Store}
use Rattle.kati_args.specs.declared.args.Args.{Args}
use Rattle.kati.specs.Meaning.{Meaning, Means, names_asked}

-- a run asks for exactly these names, whatever its goals need
abbrev pub NamesAreAsked : Type 0
NamesAreAsked = (args : Args) (store : Store) (asked : List Text) (m : Meaning) → Means args store asked m
    → m.asked ≡ names_asked args store asked
