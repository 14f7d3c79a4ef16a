use Rattle.std.proofs.Common.{◌≡◌, length, take}
use Rattle.kt_list.specs.inner.HashChains.{AreAllChained, hashes_of}
use Rattle.kt_list.proofs.hash_chains.HashChains.truncate.Given as goal

abbrev pub invariant-loop-self : goal.invariant-loop-self
invariant-loop-self l =
    AreAllChained l.self-inside.links.items l.self-inside.lasts.items
    × (take l.len (hashes_of l.self-inside.links.items) ≡ take l.len (hashes_of l.initial.self-inside.links.items))

abbrev pub decreases-loop-self : goal.decreases-loop-self
decreases-loop-self l = length l.self-inside.links.items
