use Rattle.std.proofs.Common.{◌≡◌, drop}
use Rattle.kt_rules.specs.Names.{is_among}
use Rattle.kt_rules.proofs.book.special.is_one_of.Given as goal

abbrev pub invariant-loop-number : goal.invariant-loop-number
invariant-loop-number l = is_among (drop l.number l.names) l.name ≡ is_among l.names l.name
