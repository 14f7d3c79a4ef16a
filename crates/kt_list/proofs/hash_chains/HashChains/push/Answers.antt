use Rattle.std.proofs.Common.{◌≡◌, arith, length}
use Rattle.kt_list.proofs.Common.{length-append}
use Rattle.kt_list.specs.declared.hash_chains.HashLink.{HashLink}
use Rattle.kt_list.proofs.HashChainLemmas.{all_chained, lengths_alike, pushed}
use Rattle.kt_list.proofs.hash_chains.HashChains.push.Goals as goal

pub chain_up-requires-clause-chained : goal.chain_up-requires-clause-chained
chain_up-requires-clause-chained c =
    let alike = lengths_alike c.self.inside.links.items c.grow.new.links.items c.in_ok-grow.ensures.same in
    let is : c.len-number.result ≡ length c.grow.new.links.items = omega (arith, alike, c.self.inside.links.ok, c.len-number.ensures) in
    let link : HashLink = record { hash = c.args.hash; before = 0 } in
    pushed c.grow.new.links.items c.push.new.self.items c.grow.new.lasts.items link c.len-number.result c.in_ok-grow.ensures.chained
    c.in_ok-push.ensures.items is

pub invariant_of-self-2 : goal.invariant_of-self-2
invariant_of-self-2 c = grind (arith, lengths_alike, length, length-append, all_chained)
