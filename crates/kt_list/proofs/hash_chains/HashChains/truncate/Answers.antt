use Rattle.std.proofs.Common.{length, arith}
use Rattle.std.proofs.lemmas.List.{length-append}
use Rattle.kt_list.proofs.HashChainLemmas.{all_popped, fewer_hashes}
use Rattle.kt_list.proofs.hash_chains.HashChains.truncate.Goals as goal

pub loop-self-preserved-in-Some : goal.loop-self-preserved-in-Some
loop-self-preserved-in-Some c = grind (arith, length, length-append, all_popped, fewer_hashes)
