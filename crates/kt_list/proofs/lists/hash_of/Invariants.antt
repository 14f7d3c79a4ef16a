use Rattle.std.proofs.Common.{◌≡◌, length}
use Rattle.kt_list.specs.inner.Hashes.{hash_from}
use Rattle.kt_list.proofs.lists.hash_of.Given as goal

abbrev pub invariant-loop-left : goal.invariant-loop-left
invariant-loop-left l = hash_from l.hash l.left ≡ hash_from (length l.list) l.list

abbrev pub decreases-loop-left : goal.decreases-loop-left
decreases-loop-left l = length l.left
