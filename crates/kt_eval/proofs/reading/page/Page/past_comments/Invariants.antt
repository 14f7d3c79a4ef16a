use Rattle.std.proofs.Common.{◌≤◌, ◌-◌, length}
use Rattle.kt_eval.specs.inner.Doing.{IsStepAt, ReadsAlike}
use Rattle.kt_eval.proofs.reading.page.Page.past_comments.Given as goal

abbrev pub invariant-loop-at : goal.invariant-loop-at
invariant-loop-at l = record {
  step : IsStepAt l.self.blocks.steps l.at l.fn.step;
  after : l.place ≤ l.at;
  same : ReadsAlike l.self l.place l.at;
}

abbrev pub decreases-loop-at : goal.decreases-loop-at
decreases-loop-at l = length l.self.blocks.steps - l.at
