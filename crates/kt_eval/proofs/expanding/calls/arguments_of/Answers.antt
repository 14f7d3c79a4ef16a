use Rattle.std.proofs.Common.{◌∙◌, sym, arith}
use Rattle.kt_eval.proofs.lemmas.expanding.ArgumentLemmas.{uncut, cut_here, one_more}
use Rattle.kt_eval.proofs.expanding.calls.arguments_of.Goals.{then-cuts+in_ok-push, else-cuts}
use Rattle.kt_eval.proofs.expanding.calls.arguments_of.Goals as goal

pub loop-place-preserved : goal.loop-place-preserved
loop-place-preserved c =
    let text = c.args.text.now in
    let place = c.loop-place.place in
    elim c.if-cuts.branch [
      | then-cuts+in_ok-push w ↦
          let found = cut_here c.args.mark c.loop-place.left c.loop-place.depth text c.loop-place.start place c.loop-place.invariant.begun c.loop-place-test.true (sym c.cuts.ensures ∙ w.if-cuts.true) in
          record {
            begun = omega (arith, w.start-is);
            shallow = omega (arith, w.depth-is, c.loop-place.invariant.shallow);
            rest = rw (w.arguments-is, w.left-is, w.depth-is, w.start-is, w.one_less-left.ensures, w.in_ok-push.ensures) (one_more _ _ _ _ _ found c.loop-place.invariant.rest);
          }
      | else-cuts w ↦
          let found = uncut c.args.mark c.loop-place.left c.loop-place.depth text c.loop-place.start place c.loop-place.invariant.begun c.loop-place-test.true (sym c.cuts.ensures ∙ w.if-cuts.false) in
          record {
            begun = omega (arith, w.start-is, c.loop-place.invariant.begun);
            shallow = omega (arith, w.depth-is, w.nested-depth.ensures.bound, c.loop-place.invariant.shallow);
            rest = rw (w.arguments-is, w.left-is, w.depth-is, w.start-is, w.nested-depth.ensures.value) (rw found c.loop-place.invariant.rest);
          }
    ]
