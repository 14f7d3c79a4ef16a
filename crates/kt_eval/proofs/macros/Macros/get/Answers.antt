use Rattle.std.proofs.Common.{ap, ◌∙◌}
use Rattle.kt_eval.specs.macros.Macros.{find}
use Rattle.kt_eval.proofs.lemmas.macros.TableLemmas.{seen, find_entries}
use Rattle.kt_eval.proofs.macros.Macros.get.Goals as goal

pub returns : goal.returns
returns c =
    seen c.get.result ∙ c.get.ensures.value
    ∙ find_entries c.args.name.now c.self.inside.entries.entries ∙ ap (find c.args.name.now) c.self.view_is
