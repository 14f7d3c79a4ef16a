use Rattle.std.proofs.Common.{◌≡◌, ◌++◌, ◌∷◌, [], List, rules, subst}
use Rattle.kt_graph.proofs.Common.{Text, HasFiles, made_names}
use Rattle.kt_graph.proofs.lemmas.faults.FileLemmas.{made_end, made_more}
use Rattle.kt_graph.proofs.faults.files.FileSpellings.of.Goals as goal

pub loop-node-preserved : goal.loop-node-preserved
loop-node-preserved c =
    let left = c.in-Some.ensures.steps in
    let before = rw left at c.loop-node.invariant in (
      before.0 ++ made_names (c.in-Some.node ∷ []),
      c.in_ok-add.ensures before.0 before.1,
      made_more before.0 c.in-Some.node c.next.new.self _ before.2,
    )

pub returns : goal.returns
returns c =
    let none : c.loop-node.node-iterator ≡ [] = search rules in
    let before = rw none at c.loop-node.invariant in
    subst (λ (names : List Text). HasFiles c.loop-node.files names) (made_end before.0 _ before.2) before.1
