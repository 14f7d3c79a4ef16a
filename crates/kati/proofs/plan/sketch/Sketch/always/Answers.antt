use Rattle.std.proofs.Common.{◌∙◌, ap}
use Rattle.kati.specs.inner.plan.Drawn.{GroupSketch}
use Rattle.kati.proofs.lemmas.plan.SketchLemmas.{one_is}
use Rattle.kati.proofs.plan.sketch.Sketch.always.Goals as goal

pub returns : goal.returns
returns c =
    let sketch = c.self.inside in
    rw c.as_slice.ensures.value at c.flag_at.ensures
    ∙ ap (λ (drawn : GroupSketch). drawn.always)
    (one_is sketch.commands sketch.joined sketch.always.items c.args.place c.args.self.now c.self.invariant.0 c.self.invariant.1 c.self.view_is)
