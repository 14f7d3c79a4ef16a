-- Which names are names of one file (POSIX.1-2024, "Pathname Resolution", without looking at any file), and which name
-- is reserved for kati (kati's own).
use Rattle.std.specs.Prelude.{Bool, true, false, ◌||◌, ◌==◌, List, [], ◌∷◌, ◌++◌, fold, reverse, codes, bytes_eq}
use Rattle.std.specs.Prelude.{if◌then◌else◌}
use Rattle.kt_graph.specs.Prelude.{slice_split, join_with_byte, Text}

-- the component `.`, the folder itself
abbrev pub here_name : Text
here_name = 46 ∷ []

-- the component `..`, the folder above
abbrev pub above_name : Text
above_name = 46 ∷ 46 ∷ []

-- whether a name begins with a slash
abbrev pub is_rooted : Text → Bool
is_rooted [] = false
is_rooted (byte ∷ name) = byte == 47

-- a component that changes nothing
abbrev pub is_idle : Text → Bool
is_idle part = bytes_eq part [] || bytes_eq part here_name

-- `..` after components, the last one first: it removes the one before it, unless that is `..`, too; without one before
-- it, it stays, except directly under the root
abbrev pub step_up : Bool → List Text → List Text
step_up true [] = []
step_up false [] = above_name ∷ []
step_up rooted (last ∷ parts) = if bytes_eq last above_name then above_name ∷ last ∷ parts else parts

-- a component added to others, the last one first
abbrev pub with_part : Bool → List Text → Text → List Text
with_part rooted parts part =
    if is_idle part then parts else (if bytes_eq part above_name then step_up rooted parts else part ∷ parts)

-- the components of a name's file
unfoldable pub components_of : Text → List Text
components_of name = reverse (fold (with_part (is_rooted name)) [] (slice_split (λ byte. byte == 47) name))

-- Canon: the canonical spelling of a name's file (POSIX.1-2024, "Pathname Resolution", without looking at any file;
-- that `..` removes a name is kati's own)
unfoldable pub canon_of : Text → Text
canon_of name = (if is_rooted name then 47 ∷ [] else []) ++ join_with_byte 47 (components_of name)

-- the input of the statements of phony targets with commands (kati's own)
abbrev pub always_name : Text
always_name = codes "_kati_always_build_"

-- Reserved: a name whose canonical spelling is `always_name`
abbrev pub is_reserved : Text → Bool
is_reserved name = bytes_eq (canon_of name) always_name
