use Rattle.std.proofs.Common.{◌≡◌, ◌∙◌, ap, length, rules}
use Rattle.kati.proofs.lemmas.plan.SketchLemmas.{all_size}
use Rattle.kati.proofs.plan.sketch.Sketch.len.Goals as goal

pub returns : goal.returns
returns c =
    let sketch = c.self.inside in
    let many : c.len.result ≡ length sketch.always.items = search rules in
    many ∙ all_size sketch.commands sketch.joined sketch.always.items c.self.invariant.0 c.self.invariant.1 ∙ ap length c.self.view_is
