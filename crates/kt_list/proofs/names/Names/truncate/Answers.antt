use Rattle.std.proofs.Common.{rules}
use Rattle.kt_list.proofs.ListLemmas.{fewer}
use Rattle.kt_list.proofs.names.Names.truncate.Goals as goal

pub invariant_of-self : goal.invariant_of-self
invariant_of-self c = search (rules, fewer)
