use Rattle.std.proofs.Common.{◌≡◌, ◌≤◌, drop}
use Rattle.kt_eval.specs.reading.Conditions.{bare_place}
use Rattle.kt_eval.proofs.reading.conditions.bare_place.Given as goal

abbrev pub invariant-loop-place : goal.invariant-loop-place
invariant-loop-place l = record {
  shallow : l.depth ≤ l.place;
  rest : bare_place l.wanted l.depth l.place (drop l.place l.text) ≡ bare_place l.wanted 0 0 l.text;
}
