use Rattle.std.proofs.Common.{◌≡◌, drop}
use Rattle.kt_graph.proofs.Common.{list_all, is_among, needed_names}
use Rattle.kt_graph.proofs.search.knowing.knows_each.Given as goal

-- whether all is known from here on is whether all is
abbrev pub invariant-loop-name : goal.invariant-loop-name
invariant-loop-name l =
    list_all (is_among l.known) (needed_names l.stemming.directory.now l.stemming.stem.now (drop l.name-index l.names))
    ≡ list_all (is_among l.known) (needed_names l.stemming.directory.now l.stemming.stem.now l.names)
