-- Numbers in chains, by their hashes (kati's own). A chain has the numbers whose hashes leave the same remainder.
use Rattle.std.specs.Prelude.{◌≡◌, ℕ, suc, ◌*◌, ◌%◌, ◌<◌, ◌≤◌, List, length, get_or, map, slice_get, Some}
use Rattle.std.specs.List.{IsDistinct}
use Rattle.std.specs.Str.{bytes_eq}
use Rattle.kt_list.specs.declared.hash_chains.HashLink.{HashLink}

-- the hashes of the numbers from 0 on
abbrev pub hashes_of : List HashLink → List ℕ
hashes_of links = map (λ link. link.hash) links

-- what is kept of a hash's chain: one more than the chain's last number, or 0
abbrev pub last_of : List ℕ → ℕ → ℕ
last_of lasts hash = get_or lasts (hash % length lasts) 0

-- one of so many chains has none of the numbers with these hashes from a first one to a bound
abbrev pub HasNone : ℕ → List ℕ → ℕ → ℕ → ℕ → Type 0
HasNone count hashes chain first bound =
    (number hash : ℕ) → first ≤ number → number < bound → slice_get hashes number ≡ Some hash → hash % count ≡ chain → ⊥

-- `next` is one more than a chain's last number below a bound, or 0
abbrev pub EndsChain : ℕ → List ℕ → ℕ → ℕ → ℕ → Type 0
EndsChain count hashes bound chain next =
    (next ≤ bound) × HasNone count hashes chain next bound
    × ((number hash : ℕ) → next ≡ suc number → slice_get hashes number ≡ Some hash → hash % count ≡ chain)

-- the last number below a bound is kept of each chain
abbrev pub AreLasts : List ℕ → ℕ → List ℕ → Type 0
AreLasts hashes bound lasts =
    (chain last : ℕ) → slice_get lasts chain ≡ Some last → EndsChain (length lasts) hashes bound chain last

-- each number below a bound has the one before it in its chain, of so many
abbrev pub AreBefores : ℕ → ℕ → List HashLink → Type 0
AreBefores count bound links =
    (number : ℕ) (link : HashLink) → number < bound → slice_get links number ≡ Some link
    → EndsChain count (hashes_of links) number (link.hash % count) link.before

-- the numbers below a bound are in chains
abbrev pub AreChained : ℕ → List HashLink → List ℕ → Type 0
AreChained bound links lasts = AreLasts (hashes_of links) bound lasts × AreBefores (length lasts) bound links

-- all are, at most twice as many as chains
abbrev pub AreAllChained : List HashLink → List ℕ → Type 0
AreAllChained links lasts =
    AreChained (length links) links lasts × (length links ≤ 2 * length lasts) × (length links ≤ 4294967295)

-- rows, each once, and their hashes
abbrev pub AreRowsOnce : (List ℕ → ℕ) → List (List ℕ) → List ℕ → Type 0
AreRowsOnce hash_of rows hashes = (hashes ≡ map hash_of rows) × IsDistinct bytes_eq rows
