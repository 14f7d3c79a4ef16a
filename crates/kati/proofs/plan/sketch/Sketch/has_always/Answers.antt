use Rattle.std.proofs.Common.{◌∙◌, ap}
use Rattle.std.specs.List.{list_any}
use Rattle.kati.proofs.lemmas.plan.SketchLemmas.{any_drawn}
use Rattle.kati.proofs.plan.sketch.Sketch.has_always.Goals as goal

pub returns : goal.returns
returns c =
    let sketch = c.self.inside in
    rw c.as_slice.ensures.value at c.any_always.ensures
    ∙ any_drawn sketch.commands sketch.joined sketch.always.items c.self.invariant.0 c.self.invariant.1
    ∙ ap (list_any (λ drawn. drawn.always)) c.self.view_is
