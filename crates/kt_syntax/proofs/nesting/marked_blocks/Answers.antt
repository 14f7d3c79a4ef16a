use Rattle.std.proofs.Common.{arith}
use Rattle.kt_syntax.proofs.Common.{length-map}
use Rattle.kt_syntax.specs.Parts.{block_parts}
use Rattle.kt_syntax.specs.Roles.{heads_of}
use Rattle.kt_syntax.proofs.lemmas.NestingLemmas.{length-parts}
use Rattle.kt_syntax.proofs.lemmas.ReadingOn.{length-steps, steps_are_readable}
use Rattle.kt_syntax.proofs.nesting.marked_blocks.Goals as goal

pub new-requires : goal.new-requires
new-requires c = rw (c.in_ok-steps.ensures, c.in_ok-parts.ensures.parts) (steps_are_readable (block_parts (heads_of c.args.text.now c.args.lines.now)))

pub returns-clause-lines : goal.returns-clause-lines
returns-clause-lines c = grind (arith, length-steps, length-parts, length-map)
