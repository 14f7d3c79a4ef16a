use Rattle.std.proofs.Common.{◌∙◌}
use Rattle.kt_ninja_reader.proofs.lemmas.SpelledParts.{empty_length}
use Rattle.kt_ninja_reader.proofs.spelling.Spelling.is_empty.Goals as goal

pub returns : goal.returns
returns c = c.is_empty.ensures ∙ empty_length c.self.inside.text.now c.args.self.now c.self.invariant c.self.view_is
