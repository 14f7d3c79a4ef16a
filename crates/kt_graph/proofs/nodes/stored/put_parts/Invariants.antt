use Rattle.kt_graph.specs.inner.nodes.Stored.{Grew, PutsParts, parts_held}
use Rattle.kt_graph.proofs.nodes.stored.put_parts.Given as goal

abbrev pub invariant-loop-one : goal.invariant-loop-one
invariant-loop-one l = record {
  grew : Grew l.fn.held.items l.fn.rows l.held.items l.rows;
  put : PutsParts l.fn.held.items l.held.items l.rows (parts_held l.yielded);
}
