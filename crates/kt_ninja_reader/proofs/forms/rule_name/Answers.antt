use Rattle.std.proofs.Common.{◌∙◌}
use Rattle.kt_ninja_reader.proofs.lemmas.LineLemmas.{rule_by}
use Rattle.kt_ninja_reader.proofs.forms.rule_name.Goals as goal

pub returns-in-Some : goal.returns-in-Some
returns-in-Some c = rule_by c.args.line.now c.as_slice.result.now (c.as_slice.ensures.value ∙ c.in_ok-words.ensures) ∙ c.in-Some.ensures

pub returns : goal.returns
returns c = rule_by c.args.line.now c.as_slice.result.now (c.as_slice.ensures.value ∙ c.in_ok-words.ensures) ∙ c.in-None.ensures
