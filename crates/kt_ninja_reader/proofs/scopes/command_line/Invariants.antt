use Rattle.std.proofs.Common.{◌≡◌, ◌++◌, length}
use Rattle.kt_ninja_reader.specs.Scopes.{bound_text, command_value}
use Rattle.kt_ninja_reader.proofs.scopes.command_line.Given as goal

abbrev pub invariant-loop-text : goal.invariant-loop-text
invariant-loop-text l = l.text.items ++ bound_text (command_value l.scopes.inputs.now l.scopes.outs.now l.scopes.scopes.block.now l.scopes.scopes.file.now) l.rest ≡ bound_text (command_value l.scopes.inputs.now l.scopes.outs.now l.scopes.scopes.block.now l.scopes.scopes.file.now) l.command

abbrev pub decreases-loop-text : goal.decreases-loop-text
decreases-loop-text l = length l.rest
