use Rattle.std.proofs.Common.{◌∙◌, ap}
use Rattle.kt_recipe.specs.views.Commands.{command_in}
use Rattle.kati.specs.inner.plan.Drawn.{GroupSketch}
use Rattle.kati.proofs.lemmas.plan.SketchLemmas.{one_is}
use Rattle.kati.proofs.plan.sketch.Sketch.command.Goals as goal

pub returns : goal.returns
returns c =
    let sketch = c.self.inside in
    ap command_in c.row_at.ensures
    ∙ ap (λ (drawn : GroupSketch). drawn.command)
    (one_is sketch.commands sketch.joined sketch.always.items c.args.place c.args.self.now c.self.invariant.0 c.self.invariant.1 c.self.view_is)
