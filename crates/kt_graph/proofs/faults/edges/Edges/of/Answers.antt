use Rattle.std.proofs.Common.{◌+◌, ◌<◌, ℕ, Global, Vec, length, subst}
use Rattle.kt_graph.proofs.Common.{length-map, rows_held}
use Rattle.kt_graph.proofs.lemmas.faults.EdgeLemmas.{edges_are, edges_within}
use Rattle.kt_graph.proofs.faults.edges.Edges.of.Goals as goal

pub returns-clause-edges : goal.returns-clause-edges
returns-clause-edges c =
    edges_are c.args.nodes.now c.args.instances c.in_ok-makings.makings.items (rows_held c.in_ok-rows.rows.items) c.requires.made
    (rw c.len.ensures.len at c.in_ok-makings.ensures) c.in_ok-rows.ensures

pub returns-clause-within : goal.returns-clause-within
returns-clause-within c = λ from to has.
    subst (λ count. to < length c.args.nodes.now + count) (length-map c.in_ok-rows.rows.items (λ (row : Vec ℕ Global). row.items))
    (edges_within c.args.nodes.now c.args.instances c.in_ok-makings.makings.items (rows_held c.in_ok-rows.rows.items) c.requires.made
    (rw c.len.ensures.len at c.in_ok-makings.ensures) c.in_ok-rows.ensures c.requires.needed from to has)
