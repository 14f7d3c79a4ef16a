use Rattle.std.proofs.Common.{arith, ◌∙◌, Some, ap, sym, true}
use Rattle.kt_graph.proofs.Common.{Text, is_repeated}
use Rattle.kt_graph.proofs.lemmas.faults.FileLemmas.{found_first}
use Rattle.kt_graph.proofs.faults.files.FileSpellings.first_repeated.Goals as goal

pub returns-then-branch : goal.returns-then-branch
returns-then-branch c = λ names held.
    let left = c.in-Some.ensures.steps in
    let before = c.loop-node.invariant names held in
    ap (λ (name : Text). Some name) c.name.ensures
    ∙ sym (found_first (is_repeated names) c.in-Some.node c.next.new.self true (sym c.if-branch.true ∙ c.in_ok-is_repeated.ensures names held))
    ∙ (rw left at before)

pub returns : goal.returns
returns c = grind arith
