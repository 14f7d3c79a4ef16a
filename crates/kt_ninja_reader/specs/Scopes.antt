-- Variables and what they stand for (Ninja manual, "Variables", "Evaluation and scoping", and "Rule variables" for
-- `in`, `in_newline` and `out`; how paths are quoted for the shell is kati's own).
use Rattle.std.specs.Prelude.{ℕ, Bool, false, ◌==◌, ◌||◌, List, [], ◌∷◌, ◌++◌, map, Option, Some, None, unwrap_or}
use Rattle.std.specs.Prelude.{codes, if◌then◌else◌}
use Rattle.kt_ninja_reader.specs.Prelude.{list_all, list_any, flat_map, join_with_byte, bytes_eq, Bytes}
use Rattle.kt_ninja_reader.specs.Pieces.{Piece, Plain, Escaped, Variable, is_letter_or_digit}
use Rattle.kt_ninja_reader.specs.Forms.{Spelling}

-- a finite map from names, as entries; no name stands twice
abbrev pub ScopeTable : Type 0 → Type 0
ScopeTable X = List (Bytes × X)

-- what the map has at a name
unfoldable pub find_in : {X : Type 0} → ScopeTable X → Bytes → Option X
find_in [] name = None
find_in (e ∷ es) name = if bytes_eq name e.0 then Some e.1 else find_in es name

-- the map with a value at a name, in place of what it had there
unfoldable pub put_in : {X : Type 0} → ScopeTable X → Bytes → X → ScopeTable X
put_in [] name value = (name, value) ∷ []
put_in (e ∷ es) name value = if bytes_eq name e.0 then (e.0, value) ∷ es else e ∷ put_in es name value

-- a scope: the values of its variables
abbrev pub Scope : Type 0
Scope = ScopeTable Bytes

-- the value of a variable, empty where it is unknown
abbrev pub value_in : Scope → Bytes → Bytes
value_in scope name = unwrap_or (find_in scope name) []

-- the value of a variable where an inner scope goes before an outer one, empty where it is unknown
abbrev pub value_within : Scope → Scope → Bytes → Bytes
value_within inner outer name = unwrap_or (find_in inner name) (value_in outer name)

-- what a piece stands for
abbrev pub piece_text : (Bytes → Bytes) → Piece → Bytes
piece_text value_of (Plain b) = b ∷ []
piece_text value_of (Escaped b) = b ∷ []
piece_text value_of (Variable name) = value_of name

-- what pieces stand for, where variables have these values
unfoldable pub bound_text : (Bytes → Bytes) → Spelling → Bytes
bound_text value_of ps = flat_map (piece_text value_of) ps

-- whether a piece is a variable whose name passes the test
abbrev pub names_one : (Bytes → Bool) → Piece → Bool
names_one test (Plain b) = false
names_one test (Escaped b) = false
names_one test (Variable name) = test name

-- whether a variable whose name passes the test is among the pieces
abbrev pub refers_to : (Bytes → Bool) → Spelling → Bool
refers_to test ps = list_any (names_one test) ps

-- a byte that a shell takes as it is
abbrev pub is_shell_safe : ℕ → Bool
is_shell_safe b = is_letter_or_digit b || (b == 95 || (b == 43 || (b == 45 || (b == 46 || b == 47))))

-- a byte in single quotes, which a single quote ends and begins again
abbrev pub byte_in_quotes : ℕ → Bytes
byte_in_quotes b = if b == 39 then 39 ∷ 92 ∷ 39 ∷ 39 ∷ [] else b ∷ []

-- a path as one word of a shell
unfoldable pub shell_word : Bytes → Bytes
shell_word path =
    if list_all is_shell_safe path then path else codes "'" ++ (flat_map byte_in_quotes path ++ codes "'")

-- paths as shell words, joined by a byte
unfoldable pub shell_words : ℕ → List Bytes → Bytes
shell_words between paths = join_with_byte between (map shell_word paths)

-- the variables of a rule's command: its statement's paths, then the block of the statement, then the file
unfoldable pub command_value : List Bytes → List Bytes → Scope → Scope → Bytes → Bytes
command_value inputs outs block file name =
    if bytes_eq name (codes "in") then shell_words 32 inputs
    else (if bytes_eq name (codes "in_newline") then shell_words 10 inputs
    else (if bytes_eq name (codes "out") then shell_words 32 outs else value_within block file name))
