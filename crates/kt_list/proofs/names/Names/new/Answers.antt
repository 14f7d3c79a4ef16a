use Rattle.kt_list.specs.inner.Hashes.{name_hash}
use Rattle.kt_list.proofs.ListLemmas.{none_once}
use Rattle.kt_list.proofs.names.Names.new.Goals as goal

pub invariant_of-result : goal.invariant_of-result
invariant_of-result c = none_once name_hash c.new.result c.new-2.result c.new.ensures c.new-2.ensures
