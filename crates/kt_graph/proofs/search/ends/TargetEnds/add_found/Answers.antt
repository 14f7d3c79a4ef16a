use Rattle.std.proofs.Common.{ap, ◌∙◌, length, ◌-◌, arith}
use Rattle.kt_graph.proofs.Common.{take_rest, numbers_at}
use Rattle.kt_graph.proofs.lemmas.search.NotingLemmas.{found_more, found_same}
use Rattle.kt_graph.proofs.search.ends.TargetEnds.add_found.Goals as goal

pub returns-in_ok-extend_from_slice : goal.returns-in_ok-extend_from_slice
returns-in_ok-extend_from_slice c = λ lengths before.
    found_more c.args.self.now c.args.name.now lengths c.args.found.now.items c.extend_from_slice.new.self.items c.noted.result.now c.args.length before
    c.in_ok-extend_from_slice.ensures.items
    (λ fits. c.noted.ensures ∙ ap (numbers_at c.args.self.now) (take_rest c.args.name.now (length c.args.name.now - c.args.length)))

pub returns-else-length-name : goal.returns-else-length-name
returns-else-length-name c = λ lengths before.
    found_same c.args.self.now c.args.name.now lengths c.args.found.now.items c.args.length before (omega arith)
