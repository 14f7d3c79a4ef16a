-- What was noted at names (kati's own).
use Rattle.kt_rules.specs.views.Prelude.{List, [], unwrap_or, option_map, bytes_eq, Vec, Global}
use Rattle.kt_rules.specs.Prelude.{Text}
use Rattle.std.specs.Map.{lookup}
use Rattle.kt_rules.specs.declared.index.Index.{Index}

-- what was noted at a name in the entries of a map
abbrev pub noted_in : {A : Type 0} → List (Text × Vec A Global) → Text → List A
noted_in entries name =
    unwrap_or (option_map (λ noted. noted.items) (lookup (λ key. bytes_eq name key) entries)) []

-- what was noted at a name
abbrev pub noted_at : {A : Type 0} → Index A → Text → List A
noted_at index name = noted_in index.lists.entries name
