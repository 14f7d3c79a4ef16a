-- Places in makefiles, as messages and faults name them; the form is kati's own.
use Rattle.std.specs.Prelude.{ℕ, List, ◌++◌, codes, decimal}
use Rattle.kt_rules.specs.declared.place.Place.{Place}

-- the file's name, a colon, and the number of the line
abbrev pub place_text : Place → List ℕ
place_text p = p.file ++ (codes ":" ++ decimal p.line)
