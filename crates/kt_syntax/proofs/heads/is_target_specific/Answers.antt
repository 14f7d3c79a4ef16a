use Rattle.std.proofs.Common.{sym, take, ◌∙◌}
use Rattle.kt_syntax.proofs.lemmas.Unsigned.{unsigned_is_unspecific}
use Rattle.kt_syntax.specs.Mask.{mask_of}
use Rattle.kt_syntax.proofs.heads.is_target_specific.Goals as goal

pub returns : goal.returns
returns c = unsigned_is_unspecific c.args.text.now (take c.args.end (mask_of c.args.text.now)) (sym c.has_byte.ensures ∙ c.if-has_byte.false)
