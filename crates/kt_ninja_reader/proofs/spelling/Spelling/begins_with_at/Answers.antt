use Rattle.std.proofs.Common.{ap, sym, ◌∙◌}
use Rattle.kt_ninja_reader.specs.Forms.{begins_with_at}
use Rattle.kt_ninja_reader.proofs.lemmas.SpelledParts.{at_first, at_none}
use Rattle.kt_ninja_reader.proofs.spelling.Spelling.begins_with_at.Goals as goal

pub returns-in-Some : goal.returns-in-Some
returns-in-Some c =
    sym (at_first c.self.inside.text.now c.in-Some.byte c.in-Some.field-0-1.now c.in-Some.ensures c.self.invariant) ∙ ap begins_with_at c.self.view_is

pub returns-in-None : goal.returns-in-None
returns-in-None c = sym (at_none c.self.inside.text.now c.in-None.ensures) ∙ ap begins_with_at c.self.view_is
