use Rattle.std.proofs.Common.{◌≡◌, length}
use Rattle.kt_list.specs.inner.HashChains.{AreChained, hashes_of}
use Rattle.kt_list.proofs.hash_chains.grow.Given as goal

abbrev pub invariant-loop-number : goal.invariant-loop-number
invariant-loop-number l =
    AreChained l.number l.links.items l.lasts.items
    × (hashes_of l.links.items ≡ hashes_of l.initial.links.items)
    × (length l.lasts.items ≡ length l.initial.lasts.items)
