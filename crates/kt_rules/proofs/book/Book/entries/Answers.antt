use Rattle.kt_rules.proofs.Common.{subst, GroupsStandAlone}
use Rattle.kt_rules.proofs.book.Book.entries.Goals as goal

pub returns-clause-groups : goal.returns-clause-groups
returns-clause-groups c = subst GroupsStandAlone c.self.view_is c.self.invariant.kept.apart
