use Rattle.kt_rules.specs.inner.Heads.{head_view}
use Rattle.kt_rules.proofs.lemmas.line.SignLemmas.{plain_text_of_needs, plain_text_of_targets}
use Rattle.kt_rules.proofs.line.head_names.HeadNames.of.Goals as goal

pub targets-requires : goal.targets-requires
targets-requires c = plain_text_of_targets (head_view c.args.head.now) c.args.signs c.requires

pub needs-requires : goal.needs-requires
needs-requires c = plain_text_of_needs (head_view c.args.head.now) c.args.signs c.requires
