-- The files of made names, as the code counts and spells them (kati's own).
use Rattle.std.specs.Prelude.{◌≡◌, Bool, not, ◌||◌, ◌==◌, nat_eq, nat_lt, bytes_eq, if◌then◌else◌}
use Rattle.std.specs.Prelude.{false, [], ◌∷◌}
use Rattle.kt_graph.specs.views.Prelude.{List}
use Rattle.kt_graph.specs.Prelude.{None, slice_split, Text}
use Rattle.kt_graph.specs.inner.Prelude.{Option, Some, list_all}
use Rattle.std.specs.Map.{lookup}
use Rattle.kt_graph.specs.declared.faults.files.FileSpellings.{FileSpellings}
use Rattle.kt_graph.specs.faults.Paths.{above_name, is_idle}
use Rattle.kt_graph.specs.views.faults.Files.{spelling_count}

-- whether several of these names are names of a file, if any is
abbrev pub several_in : List Text → Text → Option Bool
several_in names file =
    if nat_eq (spelling_count names file) 0 then None else Some (nat_lt 1 (spelling_count names file))

abbrev pub held_for : List (Text × Bool) → Text → Option Bool
held_for entries file = lookup (λ key. bytes_eq file key) entries

-- the code holds this for each file
abbrev pub HasFiles : FileSpellings → List Text → Type 0
HasFiles files names = (file : Text) → held_for files.several.entries file ≡ several_in names file

-- ---- names with plain components only: each is the canonical spelling of its file

-- a component that isn't empty, `.` or `..`
abbrev pub is_proper_component : Text → Bool
is_proper_component part = not (is_idle part || bytes_eq part above_name)

-- whether each component of a name is such a one
unfoldable pub has_names_only : Text → Bool
has_names_only name = list_all is_proper_component (slice_split (λ byte. byte == 47) name)

-- whether the last component is a name; the last one comes first in the list
abbrev pub ends_in_name : List Text → Bool
ends_in_name [] = false
ends_in_name (last ∷ parts) = not (bytes_eq last above_name)
