use Rattle.kt_ninja_reader.specs.Scopes.{command_value}
use Rattle.kt_ninja_reader.proofs.lemmas.ScopeLemmas.{expanded_end}
use Rattle.kt_ninja_reader.proofs.scopes.command_line.Goals as goal

pub returns-in_default : goal.returns-in_default
returns-in_default c =
    expanded_end (command_value c.args.scopes.inputs.now c.args.scopes.outs.now c.args.scopes.scopes.block.now c.args.scopes.scopes.file.now) c.loop-text.text.items _ c.run-run.result.plain.now c.run-run.result.after c.loop-text.rest c.args.command.now
    (rw c.in_default.is at c.run-run.ensures.whole) (rw c.in_default.is at c.run-run.ensures.end) c.in_ok-extend_from_slice.ensures.items c.loop-text.invariant
