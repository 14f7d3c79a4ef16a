use Rattle.std.proofs.Common.{◌≡◌, filter, fold, map}
use Rattle.kt_graph.proofs.Common.{is_nonempty, with_name, without_dots, listed_names}
use Rattle.kt_graph.specs.inner.EndMarks.{with_end}
use Rattle.kt_graph.proofs.known.add_listed.Given as goal

abbrev pub invariant-loop-name : goal.invariant-loop-name
invariant-loop-name l = record {
  added : fold with_name l.names (map without_dots (filter is_nonempty l.name-iterator)) ≡ fold with_name l.fn.names (listed_names l.fn.files);
  marked : fold with_end l.ends.marks.items (map without_dots (filter is_nonempty l.name-iterator))
      ≡ fold with_end l.fn.ends.marks.items (listed_names l.fn.files);
}
