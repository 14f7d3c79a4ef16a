-- What files hold, and what is seen of the reads (kati's own).
use Rattle.std.specs.Prelude.{◌≡◌, ◌+◌, Bool, true, false, ℕ, List, [], ◌∷◌, nat_eq, Option, Some, None, if◌then◌else◌}
use Rattle.std.specs.Cmp.Lexicographic.{pointwise}

-- a finite map from names to bytes: the first pair of a name counts, and a name without one is absent
abbrev pub Store : Type 0
Store = List (List ℕ × List ℕ)

-- the bytes that a store has for a name, if it has the name
abbrev pub look : Store → List ℕ → Option (List ℕ)
look [] name = None
look (e ∷ es) name = if pointwise nat_eq e.0 name then Some e.1 else look es name

-- a name that was read, and the bytes of its file, or that there was no file
abbrev pub Answer : Type 0
Answer = List ℕ × Option (List ℕ)

-- whether a store holds what was answered
abbrev pub same_found : Option (List ℕ) → Option (List ℕ) → Bool
same_found None None = true
same_found None (Some answered) = false
same_found (Some bytes) None = false
same_found (Some bytes) (Some answered) = pointwise nat_eq bytes answered

-- how many answers aren't the store's
unfoldable pub differing : Store → List Answer → ℕ
differing store [] = 0
differing store (answer ∷ answers) = (if same_found (look store answer.0) answer.1 then 0 else 1) + differing store
    answers

-- a store agrees with answers: each of them is what the store has
abbrev pub AgreeWith : Store → List Answer → Type 0
AgreeWith store answers = differing store answers ≡ 0

-- what is seen of files: what each read answered, the names that were asked for, in order, and how often a read failed;
-- at the greatest `u64` the count stays
pub record FilesSeen : Type 0 where
  pub answers : List Answer
  pub names : List (List ℕ)
  pub failed : ℕ
