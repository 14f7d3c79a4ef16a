use Rattle.std.proofs.Common.{None, ◌∙◌}
use Rattle.kt_ninja_reader.proofs.lemmas.LineLemmas.{key_by}
use Rattle.kt_ninja_reader.proofs.forms.key.Goals as goal

pub returns-in_default : goal.returns-in_default
returns-in_default c = key_by c.args.front.now _ None (c.as_slice.ensures.value ∙ c.in_ok-words.ensures) c.in_default.ensures
