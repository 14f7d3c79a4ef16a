use Rattle.std.proofs.Common.{◌∙◌, ◌==◌}
use Rattle.kt_text.proofs.lemmas.PlaceLemmas.{first_byte_place}
use Rattle.kt_syntax.proofs.next_term.literal_length.Goals as goal

pub returns-clause-value : goal.returns-clause-value
returns-clause-value c = c.unwrap_or.ensures ∙ first_byte_place (λ b. b == 36) c.args.text.now c.memchr.result c.memchr.ensures
