use Rattle.std.proofs.Common.{arith}
use Rattle.std.proofs.lemmas.Bool.{eqb-true, false_from_ne_true}
use Rattle.kt_syntax.proofs.lemmas.Masking.{step-inside, step-outside}
use Rattle.kt_syntax.proofs.lemmas.OwnSymbols.{own_step}
use Rattle.kt_syntax.proofs.mask.first_symbol.Goals as goal

pub returns-then-skip-gt0 : goal.returns-then-skip-gt0
returns-then-skip-gt0 c = rw c.copy.ensures (step-inside c.args.skip c.args.symbol.now c.args.odd c.args.byte c.args.text.now (omega arith))

pub returns-then-byte-ne92 : goal.returns-then-byte-ne92
returns-then-byte-ne92 c = grind (arith, own_step, false_from_ne_true, eqb-true)

pub returns : goal.returns
returns c = grind (arith, step-outside)
