use Rattle.std.proofs.Common.{◌≡◌, ◌++◌, drop}
use Rattle.kt_graph.specs.search.Candidates.{needed_names}
use Rattle.kt_graph.proofs.search.stemming.Stemming.names.Given as goal

abbrev pub invariant-loop-name : goal.invariant-loop-name
invariant-loop-name l =
    l.made.items ++ needed_names l.self.directory.now l.self.stem.now (drop l.name-index l.names)
    ≡ needed_names l.self.directory.now l.self.stem.now l.names
