-- Files of made names, counted as they come.
use Rattle.std.proofs.Common.{◌≡◌, ℕ, ◌+◌, Bool, true, false, not, ◌&&◌, cond, if◌then◌else◌, List, [], ◌∷◌, ◌++◌, length, find, All, nat_eq, nat_lt, Option, None, Some, is_some, sym, ap, ◌∙◌, arith}
use Rattle.std.specs.Map.{lookup, KeepsOthers}
use Rattle.kt_graph.proofs.Common.{bytes_eq, ne_eqb, lt-ltb, nat_list_eq_equiv, append-nil, append_assoc, length-append, All-append, filter-append, bytes_eq-Decides, Text, held_for, made_names, several_in, Node, is_leaf, canon_of}
use Rattle.kt_graph.specs.views.faults.Files.{spelling_count}
use Rattle.kt_rules.proofs.lemmas.IndexLemmas.{apart}

-- ---- what is held of files

-- one file got another value, and all others keep theirs
pub held_after : (old new : List (Text × Bool)) (file : Text) (value : Bool)
    → KeepsOthers (λ (x y : Text). bytes_eq x y) (λ (key : Text). bytes_eq file key) old new
    → lookup (λ (key : Text). bytes_eq file key) new ≡ Some value
    → (other : Text) → held_for new other ≡ (if bytes_eq other file then Some value else held_for old other)
unfolding KeepsOthers
held_after old new file value others found other = grind (arith, bytes_eq-Decides, apart)

-- one more name of a file
count_more : (names : List Text) (name file : Text) → spelling_count (names ++ name ∷ []) file ≡ spelling_count names file + cond (bytes_eq (canon_of name) file) 1 0
count_more names name file = grind (arith, length, filter-append, length-append, cond)

abbrev several_at : ℕ → Option Bool
several_at count = if nat_eq count 0 then None else Some (nat_lt 1 count)

-- the second name of a file makes them several
several_more : (count : ℕ) → several_at (count + 1) ≡ Some (is_some (several_at count))
several_more count = grind (arith, nat_lt, ne_eqb, lt-ltb)

pub several_with : (names : List Text) (name file : Text)
    → several_in (names ++ name ∷ []) file ≡ (if bytes_eq file (canon_of name) then Some (is_some (several_in names file)) else several_in names file)
several_with names name file =
    ap several_at (count_more names name file) ∙ by (bytes_eq (canon_of name) file)
    ∙ ap (λ b. if b then Some (is_some (several_in names file)) else several_in names file) (nat_list_eq_equiv.symm (canon_of name) file)
  where
    by : (b : Bool) → several_at (spelling_count names file + cond b 1 0) ≡ (if b then Some (is_some (several_in names file)) else several_in names file)
    by true = several_more (spelling_count names file)
    by false = ap several_at (omega arith)

-- so what is held is right after one more name
pub files_with : (old new : List (Text × Bool)) (names : List Text) (name file : Text) → file ≡ canon_of name
    → ((other : Text) → held_for new other ≡ (if bytes_eq other file then Some (is_some (held_for old file)) else held_for old other))
    → ((other : Text) → held_for old other ≡ several_in names other)
    → (other : Text) → held_for new other ≡ several_in (names ++ name ∷ []) other
files_with old new names name file is added held other = grind (arith, several_with, bytes_eq-Decides)

-- ---- names that come one by one

pub made_first : (node : Node) (nodes : List Node) → made_names (node ∷ nodes) ≡ made_names (node ∷ []) ++ made_names nodes
made_first node nodes = grind (arith, not, cond)

pub made_one : (node : Node) (b : Bool) → not (is_leaf node.kind) ≡ b → made_names (node ∷ []) ≡ (if b then node.name ∷ [] else [])
made_one node b e = grind (arith, cond)

pub found_first : (test : Text → Bool) (node : Node) (nodes : List Node) (b : Bool) → b ≡ (not (is_leaf node.kind) && test node.name)
    → find test (made_names (node ∷ nodes)) ≡ (if b then Some node.name else find test (made_names nodes))
found_first test node nodes b is = grind (arith, not, cond)

-- ---- the steps of loops over nodes

pub made_more : (before : List Text) (node : Node) (nodes : List Node) (all : List Text) → before ++ made_names (node ∷ nodes) ≡ all
    → (before ++ made_names (node ∷ [])) ++ made_names nodes ≡ all
made_more before node nodes all e = grind (arith, append_assoc, made_first)

pub made_end : (before all : List Text) → before ++ [] ≡ all → before ≡ all
made_end before all e = sym (append-nil before) ∙ e

abbrev AreCanonical : List Text → Type 0
AreCanonical names = All (λ (name : Text). canon_of name ≡ name) names

pub canonical_more : (node : Node) (nodes : List Node) → AreCanonical (made_names (node ∷ [])) → AreCanonical (made_names nodes) → AreCanonical (made_names (node ∷ nodes))
canonical_more node nodes one rest = grind (arith, made_first, All-append)
