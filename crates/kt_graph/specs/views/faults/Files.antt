-- How often a file is named by the names that are made (kati's own).
use Rattle.std.specs.Prelude.{ℕ, Bool, nat_lt, length, filter, bytes_eq}
use Rattle.kt_graph.specs.views.Prelude.{List}
use Rattle.kt_graph.specs.Prelude.{Text}
use Rattle.kt_graph.specs.faults.Paths.{canon_of}

-- the number of names that are names of a file
abbrev pub spelling_count : List Text → Text → ℕ
spelling_count names file = length (filter (λ name. bytes_eq (canon_of name) file) names)

-- the file of a name has another of these names, too
abbrev pub is_repeated : List Text → Text → Bool
is_repeated names name = nat_lt 1 (spelling_count names (canon_of name))
