use Rattle.kt_syntax.proofs.Common.{refl, mask_of}
use Rattle.kt_syntax.proofs.lemmas.Masking.{length-front, whole_mask}
use Rattle.kt_syntax.proofs.mask.Mask.new.Goals as goal

pub returns-clause-value : goal.returns-clause-value
unfolding mask_of
returns-clause-value c = rw c.of.ensures refl

pub returns-clause-size : goal.returns-clause-size
unfolding mask_of
returns-clause-size c = rw c.of.ensures (length-front c.args.text.now c.args.left)

pub returns-clause-whole : goal.returns-clause-whole
unfolding mask_of
returns-clause-whole c = rw c.of.ensures (whole_mask c.args.text.now c.args.left)
