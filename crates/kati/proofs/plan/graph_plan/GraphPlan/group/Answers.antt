use Rattle.std.proofs.Common.{◌<◌, ◌≤◌, arith, get_or, length, sym}
use Rattle.kati.proofs.Common.{slice_get-get_or, slice_get_past}
use Rattle.kati.specs.inner.plan.Drawn.{no_drawn}
use Rattle.kati.proofs.lemmas.plan.GraphPlanLemmas.{drawn_gone, group_gone, group_there}
use Rattle.kati.proofs.plan.graph_plan.GraphPlan.group.Goals as goal

pub returns-then-place-len : goal.returns-then-place-len
returns-then-place-len c =
    let sketch = c.args.self.now.sketch in
    let within : c.args.place < length sketch = omega (arith, c.if-place-len.true, c.len.ensures) in
    group_there c.args.self.now.groups sketch c.args.place c.in-Some.nodes.now (get_or sketch c.args.place no_drawn) c.in-Some.ensures
    (sym (slice_get-get_or sketch c.args.place no_drawn within))

pub returns-else-place-len : goal.returns-else-place-len
returns-else-place-len c =
    let sketch = c.args.self.now.sketch in
    let past : length sketch ≤ c.args.place = omega (arith, c.if-place-len.false, c.len.ensures) in
    drawn_gone c.args.self.now.groups sketch c.args.place (sym (slice_get_past sketch c.args.place past))

pub returns-in-None : goal.returns-in-None
returns-in-None c = group_gone c.args.self.now.groups c.args.self.now.sketch c.args.place c.in-None.ensures
