use Rattle.std.proofs.Common.{None, sym, ap, ◌∙◌, option_map}
use Rattle.kt_eval.specs.State.{innermost_value}
use Rattle.kt_eval.proofs.lemmas.expanding.FrameLemmas.{innermost_says, innermost_silent, none_seen}
use Rattle.kt_eval.proofs.expanding.frames.innermost.Goals as goal

pub returns-in-Some-seen : goal.returns-in-Some-seen
returns-in-Some-seen c =
    innermost_says c.args.name.now c.loop-frame.left.now c.in-Some.outer.now c.in-Some.frame.now c.in-Some-seen.value.now (innermost_value c.args.name.now None c.args.frames.now)
    c.in-Some.ensures.cases.0 (ap (option_map (λ value. value.now)) (sym c.in-Some-seen.is) ∙ c.seen.ensures) c.loop-frame.invariant

pub loop-frame-preserved : goal.loop-frame-preserved
loop-frame-preserved c =
    innermost_silent c.args.name.now c.loop-frame.left.now c.in-Some.outer.now c.in-Some.frame.now (option_map (λ value. value.now) c.seen.result) (innermost_value c.args.name.now None c.args.frames.now)
    c.in-Some.ensures.cases.0 c.seen.ensures (none_seen c.seen.result c.in_default-seen.not-Some) c.loop-frame.invariant
