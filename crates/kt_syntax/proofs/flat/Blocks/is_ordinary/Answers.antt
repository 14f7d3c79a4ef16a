use Rattle.std.proofs.Common.{sym}
use Rattle.kt_syntax.specs.declared.step.BlockStep.TheVariants as step
use Rattle.kt_syntax.proofs.flat.Blocks.is_ordinary.Goals as goal

pub returns-then-is_unput-clause-reads : goal.returns-then-is_unput-clause-reads
returns-then-is_unput-clause-reads c = λ _.
    rw (sym c.self.view_is) (c.self.invariant.reads c.args.line step.Line (c.is_unput.ensures.quick c.if-is_unput.true))
