use Rattle.std.proofs.Common.{rules}
use Rattle.kt_graph.proofs.lemmas.nodes.StemLemmas.{lie_together}
use Rattle.kt_graph.proofs.nodes.stem.lie_at.Goals as goal

pub returns : goal.returns
returns c = record {
  quick = λ yes.
      lie_together c.args.name.now c.args.front.now c.args.back.now c.args.place (search rules) (search rules);
}
