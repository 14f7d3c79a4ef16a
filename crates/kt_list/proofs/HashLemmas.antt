-- The hash of a list, two numbers at a time.
use Rattle.std.proofs.Common.{◌≡◌, ℕ, ◌+◌, ◌-◌, ◌*◌, ◌≤◌, List, [], ◌∷◌, length, get_or, take, drop, arith, take_all}
use Rattle.kt_list.specs.inner.Hashes.{hash_from, hash_with}

pub two_hashed : (hash next all : ℕ) (left : List ℕ) → 2 ≤ length left → hash_from hash left ≡ all
    → next ≡ hash_with hash (get_or left 0 0 + get_or left 1 0 * 4294967296)
    → hash_from next (take (length left - 2) (drop 2 left)) ≡ all
two_hashed hash next all [] long is step = absurd (omega (arith, long))
two_hashed hash next all (one ∷ []) long is step = absurd (omega (arith, long))
two_hashed hash next all (one ∷ two ∷ list) long is step = grind (arith, take, length, take_all)
