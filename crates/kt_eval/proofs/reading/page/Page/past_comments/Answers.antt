use Rattle.std.proofs.Common.{◌≡◌, Some, ap, arith, sym, ◌∙◌}
use Rattle.kt_syntax.specs.declared.step.BlockStep.TheVariants as step
use Rattle.kt_eval.proofs.lemmas.reading.CommentLemmas.{comment_passed, one_step}
use Rattle.kt_eval.proofs.reading.page.Page.past_comments.Goals as goal

pub loop-at-preserved : goal.loop-at-preserved
loop-at-preserved c =
    let passed = c.is_passed.ensures in
    let test = c.loop-at-test.true in
    let is : c.args.step ≡ step.Line = one_step c.args.self.now.blocks.steps c.loop-at.at c.args.step step.Line c.loop-at.invariant.step.is (passed.quick_line test) in
    record {
      step = record {
        is = passed.quick_next test ∙ ap Some (sym is);
        reads = rw is (passed.quick_reads test);
        ahead = rw is tt;
        within = passed.quick_within test;
      };
      after = omega (arith, c.loop-at.invariant.after);
      same = λ e w.
          c.loop-at.invariant.same e w
          ∙ comment_passed c.args.self.now c.loop-at.at (rw is at c.loop-at.invariant.step.reads) (passed.quick_reads test) (passed.quick_tab test) (passed.quick_blank test) e w;
    }
