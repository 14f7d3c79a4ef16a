-- The hashes of names and of lists of numbers, and where a row stands (kati's own).
use Rattle.std.specs.Prelude.{ℕ, ◌+◌, ◌*◌, ◌/◌, ◌%◌, ◌^◌, Bool, false, List, [], ◌∷◌, length}
use Rattle.std.specs.List.{slice_get}
use Rattle.std.specs.Option.{option_map_or}
use Rattle.std.specs.Str.{bytes_eq}
use Rattle.std.specs.Hash.FoldHasher.{initial, write}

-- the hash of a name
unfoldable pub name_hash : List ℕ → ℕ
name_hash name = (write initial name).state % 2 ^ 32

-- a list's hash after one more number
abbrev pub hash_with : ℕ → ℕ → ℕ
hash_with hash number = (hash * 11400714819323198485 % 2 ^ 64 + number) % 2 ^ 64

-- the hash of a list after what was hashed before it, two numbers at a time
abbrev pub hash_from : ℕ → List ℕ → ℕ
hash_from hash [] = hash
hash_from hash (one ∷ []) = hash_with hash one
hash_from hash (one ∷ two ∷ list) = hash_from (hash_with hash (one + two * 4294967296)) list

-- the hash of a list: of what its numbers give, times a large odd number, the upper half
unfoldable pub list_hash : List ℕ → ℕ
list_hash list = hash_with (hash_from (length list) list) 0 / 2 ^ 32

-- whether a row stands at a place
abbrev pub is_at : List (List ℕ) → List ℕ → ℕ → Bool
is_at rows row place = option_map_or (λ other. bytes_eq other row) (slice_get rows place) false
