use Rattle.std.proofs.Common.{◌∙◌, ap}
use Rattle.kati.specs.inner.plan.Drawn.{GroupSketch, first_joined}
use Rattle.kati.proofs.lemmas.plan.SketchLemmas.{one_is}
use Rattle.kati.proofs.plan.sketch.Sketch.joined.Goals as goal

pub returns : goal.returns
returns c =
    let sketch = c.self.inside in
    c.first_of.ensures ∙ ap first_joined c.row_at.ensures
    ∙ ap (λ (drawn : GroupSketch). drawn.joined)
    (one_is sketch.commands sketch.joined sketch.always.items c.args.place c.args.self.now c.self.invariant.0 c.self.invariant.1 c.self.view_is)
