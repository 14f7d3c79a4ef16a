use Rattle.std.proofs.Common.{◌≡◌, drop, fold}
use Rattle.kt_graph.proofs.Common.{with_name, needed_names, unknown_of}
use Rattle.kt_graph.proofs.search.chains.Chains.add_unknown.Given as goal

-- what remains to be added from here is what was to be added from the start
abbrev pub invariant-loop-name : goal.invariant-loop-name
invariant-loop-name l =
    let left = unknown_of l.self.known.now (needed_names l.stemming.directory.now l.stemming.stem.now (drop l.name-index l.names)) in
    let all = unknown_of l.self.known.now (needed_names l.stemming.directory.now l.stemming.stem.now l.names) in
    fold with_name l.unknown left ≡ fold with_name l.fn.unknown all
