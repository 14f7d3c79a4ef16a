use Rattle.std.proofs.Common.{◌<◌, ◌∙◌, arith, length, sym}
use Rattle.kt_graph.proofs.Common.{edge_row, get_or_default, rows_held, stored_at}
use Rattle.kt_graph.proofs.lemmas.faults.EdgeLemmas.{row_in_front}
use Rattle.kt_graph.proofs.faults.edges.Edges.next.Goals as goal

pub returns-then-vertex-len : goal.returns-then-vertex-len
returns-then-vertex-len c =
    let nodes = c.args.self.now.nodes.now in
    let within : c.args.vertex < length nodes = omega arith in
    c.next_by.ensures
    ∙ sym (row_in_front (edge_row c.args.self.now.makings.items) nodes (rows_held c.args.self.now.rows.items) c.args.vertex (stored_at nodes c.args.vertex) within
    (get_or_default nodes c.args.vertex _ (stored_at nodes c.args.vertex) within))
