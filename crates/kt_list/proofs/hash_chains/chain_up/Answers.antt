use Rattle.std.proofs.Common.{arith, ◌≡◌, ◌∙◌, ℕ, ◌+◌, List, set, Some, slice_get, refl, ap, subst, sym}
use Rattle.std.proofs.lemmas.Option.{slice_get-get_or}
use Rattle.kt_list.specs.declared.hash_chains.HashLink.{HashLink}
use Rattle.kt_list.specs.inner.HashChains.{last_of, AreChained}
use Rattle.kt_list.proofs.HashChainLemmas.{chained_up, hashes_set}
use Rattle.kt_list.proofs.hash_chains.chain_up.Goals as goal

pub returns-clause-same : goal.returns-clause-same
returns-clause-same c = grind (arith, slice_get-get_or, hashes_set)

pub returns-clause-chained : goal.returns-clause-chained
returns-clause-chained c =
    let links = c.args.links.now.items in
    let link = c.index.result.now in
    let at : slice_get links c.args.number ≡ Some link = slice_get-get_or links c.args.number link c.requires.within ∙ ap Some (sym c.index.ensures) in
    let before = c.last_of-before.ensures ∙ ap (λ (lasts : List ℕ). last_of lasts link.hash) c.as_slice.ensures.value in
    let new : HashLink = record { hash = link.hash; before = c.last_of-before.result } in
    subst (λ (lasts : List ℕ). AreChained (c.args.number + 1) (set links c.args.number new) lasts) (sym c.set_last.ensures)
    (chained_up links c.args.lasts.now.items c.args.number link new c.args.next
    at refl c.requires.chains before c.requires.next c.requires.chained)
