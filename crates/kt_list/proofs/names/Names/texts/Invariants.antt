use Rattle.std.proofs.Common.{◌≡◌, take}
use Rattle.kt_list.proofs.names.Names.texts.Given as goal

abbrev pub invariant-loop-number : goal.invariant-loop-number
invariant-loop-number l = l.texts.items ≡ take l.number l.self
