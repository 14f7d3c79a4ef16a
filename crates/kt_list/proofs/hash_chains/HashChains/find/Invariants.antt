use Rattle.std.proofs.Common.{false}
use Rattle.kt_list.proofs.HashChainLemmas.{IsLeft}
use Rattle.kt_list.proofs.hash_chains.HashChains.find.Given as goal

abbrev pub invariant-loop-link : goal.invariant-loop-link
invariant-loop-link g l = IsLeft (λ number. goal.F-post g l.is_it number false) l.self-inside.links.items l.self-inside.lasts.items l.hash l.left

abbrev pub decreases-loop-link : goal.decreases-loop-link
decreases-loop-link g l = l.left
