use Rattle.std.proofs.Common.{◌≡◌, [], map, fold}
use Rattle.kt_rules.specs.Names.{name_of, with_name, without_dots, written_words}
use Rattle.kt_rules.proofs.line.head_names.plain_targets.Given as goal

abbrev pub invariant-loop-word : goal.invariant-loop-word
invariant-loop-word l =
    fold with_name l.names.keys (map without_dots l.word-iterator) ≡ fold with_name [] (map name_of (written_words l.text))
