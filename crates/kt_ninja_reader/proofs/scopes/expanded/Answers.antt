use Rattle.kt_ninja_reader.specs.Scopes.{value_within}
use Rattle.kt_ninja_reader.proofs.lemmas.ScopeLemmas.{expanded_end}
use Rattle.kt_ninja_reader.proofs.scopes.expanded.Goals as goal

pub returns-in_default : goal.returns-in_default
returns-in_default c =
    expanded_end (value_within c.args.scopes.block.now c.args.scopes.file.now) c.loop-text.text.items _ c.run-run.result.plain.now c.run-run.result.after c.loop-text.rest c.args.spelling.now
    (rw c.in_default.is at c.run-run.ensures.whole) (rw c.in_default.is at c.run-run.ensures.end) c.in_ok-extend_from_slice.ensures.items c.loop-text.invariant
