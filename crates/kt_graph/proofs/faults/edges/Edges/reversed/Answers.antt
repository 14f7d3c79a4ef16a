use Rattle.std.proofs.Common.{◌≤◌, ℕ, List, length, sym, ap, ◌∙◌, arith}
use Rattle.kt_graph.proofs.Common.{drop_all, edge_rows, rows_held, with_edges}
use Rattle.kt_graph.proofs.lemmas.faults.CircleLemmas.{length-rows}
use Rattle.kt_graph.proofs.lemmas.faults.EdgeLemmas.{turned_are, turned_from, turned_more, turned_parts}
use Rattle.kt_graph.proofs.faults.edges.Edges.reversed.Goals as goal

pub loop-vertex-preserved : goal.loop-vertex-preserved
loop-vertex-preserved c = grind (arith, length-rows, length, turned_more, turned_parts)

pub returns : goal.returns
returns c =
    let long = length-rows c.args.self.now in
    let past : length (edge_rows c.args.self.now) ≤ c.loop-vertex.vertex = omega (arith, c.count-vertex-end.ensures) in
    rw c.requires.none (turned_are c.args.self.now (rows_held c.loop-vertex.rows.items) c.requires.within
    (sym (ap (λ (rows : List (List ℕ)). with_edges (rows_held c.loop-vertex.rows.items) (turned_from c.loop-vertex.vertex rows)) (drop_all c.loop-vertex.vertex (edge_rows c.args.self.now) past))
    ∙ c.loop-vertex.invariant))
