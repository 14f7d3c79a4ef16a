use Rattle.std.proofs.Common.{◌∙◌, ◌-◌, ℕ, List, ap, false, slice_get, subst, sym}
use Rattle.kt_list.specs.declared.hash_chains.HashLink.{HashLink}
use Rattle.kt_list.specs.inner.HashChains.{last_of}
use Rattle.kt_list.proofs.HashChainLemmas.{left_at_first, left_after, IsLeft}
use Rattle.kt_list.proofs.hash_chains.HashChains.find.Goals as goal
use Rattle.kt_list.proofs.hash_chains.HashChains.find.Goals.{else-link-hash-via-then-link-hash+else-is_it, else-link-hash-via-else-link-hash}

pub loop-link-init : goal.loop-link-init
loop-link-init g c =
    let links = c.self.inside.links.items in
    let lasts = c.self.inside.lasts.items in
    subst (λ (left : ℕ). IsLeft (λ number. goal.F-post g c.args.is_it number false) links lasts c.args.hash left)
    (sym (c.last_of-left.ensures ∙ ap (λ (all : List ℕ). last_of all c.args.hash) c.as_slice.ensures.value))
    (left_at_first (λ number. goal.F-post g c.args.is_it number false) links lasts c.args.hash c.self.invariant)

pub loop-link-preserved : goal.loop-link-preserved
loop-link-preserved g c =
    left_after (λ number. goal.F-post g c.args.is_it number false) c.self.inside.links.items c.self.inside.lasts.items c.args.hash
    c.self.invariant c.loop-link.left c.in-Some.link.now c.in-Some.ensures.some.0
    (ap (λ (links : List HashLink). slice_get links (c.loop-link.left - 1)) (sym c.as_slice-in-loop-link.ensures.value) ∙ c.in-Some.ensures.some.1)
    (elim c.else-link-hash.branch [
      | else-link-hash-via-then-link-hash+else-is_it w ↦ (λ _. w.if-is_it.ensures)
      | else-link-hash-via-else-link-hash w ↦ (λ same. absurd (w.if-link-hash.false same))
    ]) c.loop-link.invariant
