use Rattle.std.proofs.Common.{ap, ◌∙◌}
use Rattle.kt_ninja_reader.specs.Forms.{without_lead}
use Rattle.kt_ninja_reader.specs.inner.Spelled.{pieces_in}
use Rattle.kt_ninja_reader.proofs.lemmas.SpelledParts.{lead_cut}
use Rattle.kt_ninja_reader.proofs.spelling.Spelling.without_lead.Goals as goal

pub invariant_of-result : goal.invariant_of-result
invariant_of-result c = rw c.without_indent.ensures (lead_cut c.self.inside.text.now c.self.invariant).0

pub returns : goal.returns
returns c = ap pieces_in c.without_indent.ensures ∙ (lead_cut c.self.inside.text.now c.self.invariant).1 ∙ ap without_lead c.self.view_is
