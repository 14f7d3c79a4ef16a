use Rattle.kt_eval.proofs.Common.{arith, subst, err_from_is_err_and, StepEnd, World}
use Rattle.kt_eval.proofs.lemmas.EarlyLemmas.{Early, file_at_fails}
use Rattle.kt_eval.proofs.evaluation.Evaluation.read_first.Goals as goal

pub returns-in_err-text-clause-gives : goal.returns-in_err-text-clause-gives
returns-in_err-text-clause-gives g c = λ store agrees.
    let p = err_from_is_err_and c.from_residual.result c.from_residual.ensures.1 in
    let h = c.in_err-text.ensures.gives in
    let k = c.in_err-text.ensures.cut in
    rw (p.1, p.2)
    (subst (λ (o : StepEnd World (Unit {0})). Early c.in_err-text.field-0.0 c.read_bytes.new.self.world o) (c.loop-name.invariant.rest store (omega (arith, c.in_err-text.ensures.kept.0 store)))
    (file_at_fails g.M.MacroScope.writable store c.args.limit c.in_err-text.field-0.0 c.loop-name.self.world c.read_bytes.new.self.world c.args.names.now c.loop-name.name-index _ c.loop-name-test.true (h store agrees, k store agrees))).0

pub returns-in_err-text-clause-cut : goal.returns-in_err-text-clause-cut
returns-in_err-text-clause-cut g c = λ store agrees.
    let p = err_from_is_err_and c.from_residual.result c.from_residual.ensures.1 in
    let h = c.in_err-text.ensures.gives in
    let k = c.in_err-text.ensures.cut in
    rw (p.1, p.2)
    (subst (λ (o : StepEnd World (Unit {0})). Early c.in_err-text.field-0.0 c.read_bytes.new.self.world o) (c.loop-name.invariant.rest store (omega (arith, c.in_err-text.ensures.kept.0 store)))
    (file_at_fails g.M.MacroScope.writable store c.args.limit c.in_err-text.field-0.0 c.loop-name.self.world c.read_bytes.new.self.world c.args.names.now c.loop-name.name-index _ c.loop-name-test.true (h store agrees, k store agrees))).1
