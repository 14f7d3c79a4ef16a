use Rattle.std.proofs.Common.{◌≡◌, ◌<◌, ℕ, Some, length, slice_get}
use Rattle.kt_list.proofs.hash_chains.empty_chains.Given as goal

abbrev pub invariant-loop-chain : goal.invariant-loop-chain
invariant-loop-chain l =
    (length l.lasts.items ≡ length l.fn.lasts.items)
    × ((chain last : ℕ) → chain < l.chain → slice_get l.lasts.items chain ≡ Some last → last ≡ 0)
