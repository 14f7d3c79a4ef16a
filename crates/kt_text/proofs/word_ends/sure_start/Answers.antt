use Rattle.std.proofs.Common.{◌≡◌, ℕ, List, drop, take, ap, arith, ◌∙◌}
use Rattle.kt_text.proofs.Common.{prefix_len, take_rest}
use Rattle.kt_text.specs.inner.Sure.{is_sure}
use Rattle.kt_text.proofs.lemmas.SureLemmas.{run_on}
use Rattle.kt_text.proofs.word_ends.sure_start.Goals as goal

pub returns-then-run-lt16-clause-sure : goal.returns-then-run-lt16-clause-sure
returns-then-run-lt16-clause-sure c =
    let text = c.args.text.now in
    let passed = c.loop-passed.passed in
    let run : c.sure_run-run.result ≡ prefix_len is_sure (take 16 (drop passed text))
    = c.sure_run-run.ensures.value ∙ ap (λ (rest : List ℕ). prefix_len is_sure (take 16 rest)) (take_rest text passed) in
    omega (arith, run, run_on is_sure passed 16 text c.loop-passed.invariant.0)

pub loop-passed-preserved : goal.loop-passed-preserved
loop-passed-preserved c =
    let text = c.args.text.now in
    let passed = c.loop-passed.passed in
    let run : c.sure_run-run.result ≡ prefix_len is_sure (take 16 (drop passed text))
    = c.sure_run-run.ensures.value ∙ ap (λ (rest : List ℕ). prefix_len is_sure (take 16 rest)) (take_rest text passed) in
    (omega (arith, run, run_on is_sure passed 16 text c.loop-passed.invariant.0), omega arith)
