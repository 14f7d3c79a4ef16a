use Rattle.std.proofs.Common.{◌≡◌, [], length, map, fold}
use Rattle.kt_rules.specs.Names.{name_of, with_name, written_words}
use Rattle.kt_rules.proofs.line.head_names.several_targets.Given as goal

abbrev pub invariant-loop-word : goal.invariant-loop-word
invariant-loop-word l =
    fold with_name l.names.keys (map name_of (written_words l.rest)) ≡ fold with_name [] (map name_of (written_words l.text))

abbrev pub decreases-loop-word : goal.decreases-loop-word
decreases-loop-word l = length (written_words l.rest)
