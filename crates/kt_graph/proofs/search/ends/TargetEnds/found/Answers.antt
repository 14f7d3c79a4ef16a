use Rattle.std.proofs.Common.{◌≡◌, ◌<◌, ◌∙◌, ℕ, List, length, sym, subst, take, arith, rules}
use Rattle.kt_graph.proofs.Common.{take_all, take_more, HasAll}
use Rattle.kt_graph.proofs.lemmas.search.NotingLemmas.{none_found}
use Rattle.kt_graph.proofs.search.ends.TargetEnds.found.Goals as goal

pub loop-length-init : goal.loop-length-init
loop-length-init c = none_found c.args.self.now c.args.name.now _

pub loop-length-preserved : goal.loop-length-preserved
loop-length-preserved c =
    let i = c.loop-length.length-index in
    let within : i < length c.as_slice-length-items.result.now = omega arith in
    subst (λ (lengths : List ℕ). HasAll c.args.self.now c.args.name.now lengths c.add_found.new.found.items)
    (sym (take_more c.as_slice-length-items.result.now i 0 within))
    (c.in_ok-add_found.ensures (take i c.as_slice-length-items.result.now) c.loop-length.invariant)

pub returns : goal.returns
returns c =
    let all : c.as_slice-length-items.result.now ≡ c.args.self.now.lengths.keys = search rules in
    subst (λ (lengths : List ℕ). HasAll c.args.self.now c.args.name.now lengths c.loop-length.found.items)
    (take_all c.loop-length.length-index c.as_slice-length-items.result.now (omega arith) ∙ all) c.loop-length.invariant
