-- The names that the search takes to exist (GNU make manual, "Implicit Rule Search Algorithm", on files that exist or
-- can be made). kati looks at no file: a list says which exist, and this is kati's own.
use Rattle.std.specs.Prelude.{not, List, ◌++◌, map, filter, flat_map}
use Rattle.bstr.specs.Text.{lines_of, without_terminator}
use Rattle.kt_text.specs.Words.{Text, is_nonempty}
use Rattle.kt_rules.specs.Names.{is_among, without_dots, without_repeats}
pub use Rattle.kt_rules.specs.Known.{named_by, named_with}
use Rattle.kt_rules.specs.Entry.{Entry}
use Rattle.kt_rules.specs.Suffixes.{suffixes_of}

-- the names of a list of files, one per line; empty lines are ignored, and no line is continued
unfoldable pub listed_names : Text → List Text
listed_names files = map without_dots (filter is_nonempty (map without_terminator (lines_of files)))

-- the known names, each once
unfoldable pub known_names : List Entry → Text → List Text
known_names rules files = without_repeats (listed_names files ++ flat_map (named_by (suffixes_of rules)) rules)

-- the names that aren't known
abbrev pub unknown_of : List Text → List Text → List Text
unknown_of known names = filter (λ name. not (is_among known name)) names
