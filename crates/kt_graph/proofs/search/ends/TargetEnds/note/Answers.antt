use Rattle.std.proofs.lemmas.Result.{on_ok_weaker}
use Rattle.kt_graph.proofs.lemmas.search.NotingLemmas.{notes}
use Rattle.kt_graph.proofs.search.ends.TargetEnds.note.Goals as goal

pub returns : goal.returns
returns c =
    on_ok_weaker c.note.result (notes c.args.self.now _ c.args.end.now c.args.number c.in_ok-insert.ensures.keys)
    c.note.ensures.noted
