use Rattle.std.proofs.Common.{◌≡◌, fold}
use Rattle.kt_rules.proofs.Common.{with_name, start_suffixes}
use Rattle.kt_rules.proofs.book.special.start_names.Given as goal

abbrev pub invariant-loop-suffix : goal.invariant-loop-suffix
invariant-loop-suffix l = fold with_name l.names l.suffix-iterator ≡ start_suffixes
