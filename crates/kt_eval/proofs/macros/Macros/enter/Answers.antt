use Rattle.std.proofs.Common.{◌∙◌}
use Rattle.kt_eval.specs.macros.Macros.{put}
use Rattle.kt_eval.proofs.lemmas.macros.TableLemmas.{put_entries}
use Rattle.kt_eval.proofs.macros.Macros.enter.Goals as goal

pub returns-clause-set : goal.returns-clause-set
returns-clause-set c =
    c.in_ok-insert.ensures.entries
    ∙ put_entries c.self.inside.entries.entries c.args.name c.args.value
    ∙ (λ i. put c.args.name c.args.value (c.self.view_is i))
