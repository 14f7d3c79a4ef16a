-- Reached names by their numbers among all names, as the code holds them (kati's own).
use Rattle.std.specs.Prelude.{◌≡◌, ℕ, zero, suc, ◌≤◌, List, [], ◌∷◌, ◌++◌, length, get_or, slice_get, bytes_eq}
use Rattle.kt_graph.specs.inner.Prelude.{Option, Some, IsDistinct, AreBelow, place_of, with_name}
use Rattle.kt_graph.specs.Prelude.{None, Text}
use Rattle.std.specs.Borrow.{Bor}
use Rattle.kt_graph.specs.declared.nodes.reached.ReachedNumbers.{ReachedNumbers}
use Rattle.kt_graph.specs.declared.nodes.reached_name.ReachedName.{ReachedName}
use Rattle.kt_graph.specs.declared.nodes.reached_name.ReachedName.TheVariants.{InTables, Other}
use Rattle.kt_list.specs.views.Names.{names_at}

-- the bytes of a name
abbrev pub reached_text : ReachedName → Text
reached_text (InTables name number) = name.now
reached_text (Other name) = name

-- the names of a list, if there is one
abbrev pub listed_in : Option (Bor (List Text)) → List Text
listed_in None = []
listed_in (Some names) = names.now

-- the place that a mark stands for
abbrev pub place_marked : ℕ → Option ℕ
place_marked zero = None
place_marked (suc place) = Some place

-- the place of a number, if there is one and it has one
abbrev pub place_held : List ℕ → Option ℕ → Option ℕ
place_held marks None = None
place_held marks (Some number) = place_marked (get_or marks number 0)

-- each number has the same mark
abbrev pub HasSame : List ℕ → List ℕ → Type 0
HasSame old new = (number : ℕ) → get_or new number 0 ≡ get_or old number 0

-- a number has come after the others, and has the mark of its place
pub record IsPushed (old : ReachedNumbers) (number : ℕ) (new : ReachedNumbers) (place : ℕ) : Type 0 where
  pub last : place ≡ length old.numbers.items
  pub numbers : new.numbers.items ≡ old.numbers.items ++ number ∷ []
  pub marked : get_or new.marks.items number 0 ≡ suc place
  pub others : (other : ℕ) → ¬ (other ≡ number) → get_or new.marks.items other 0 ≡ get_or old.marks.items other 0

-- each name has its place among those that were reached; no two of these are equal
pub record IsPlaced (names : List Text) (numbers marks : List ℕ) : Type 0 where
  pub told : (name : Text) → place_of (names_at names numbers) name ≡ place_held marks (place_of names name)
  pub differ : IsDistinct bytes_eq (names_at names numbers)
  pub below : AreBelow (length names) numbers
  pub free : (number : ℕ) → length names ≤ number → get_or marks number 0 ≡ 0

-- a name is reached, if it wasn't before, and has a place
pub record IsReachedAt (names : List Text) (numbers : List ℕ) (name : Text) (reached : ReachedNumbers) (place : ℕ)
    : Type 0 where
  pub placed : IsPlaced names reached.numbers.items reached.marks.items
  pub grown : names_at names reached.numbers.items ≡ with_name (names_at names numbers) name
  pub at : slice_get (names_at names reached.numbers.items) place ≡ Some name

-- whatever name has the number is reached
abbrev pub ReachesNumber : ReachedNumbers → ℕ → ReachedNumbers → ℕ → Type 0
ReachesNumber old number new place =
    (names : List Text) (name : Text) → IsPlaced names old.numbers.items old.marks.items
    → place_of names name ≡ Some number → IsReachedAt names old.numbers.items name new place

-- names that had their places have them
abbrev pub StaysPlaced : ReachedNumbers → ReachedNumbers → Type 0
StaysPlaced old new =
    (names : List Text) → IsPlaced names old.numbers.items old.marks.items
    → IsPlaced names new.numbers.items new.marks.items
