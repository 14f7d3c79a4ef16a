use Rattle.kt_ninja_reader.proofs.lemmas.FormLemmas.{parts_last, parts_more}
use Rattle.kt_ninja_reader.proofs.forms.parts.Goals as goal

pub loop-part-preserved : goal.loop-part-preserved
loop-part-preserved c =
    rw c.in_ok-push.ensures.items
    (parts_more c.args.mark c.loop-part.parts.items c.in-Some.part c.in-Some.after c.loop-part.rest _ c.in-Some.ensures.cut.0 c.in-Some.ensures.cut.1 c.loop-part.invariant)

pub returns : goal.returns
returns c = rw c.in_ok-push-2.ensures.items (parts_last c.args.mark c.loop-part.parts.items c.loop-part.rest _ c.in_default.ensures.cut c.loop-part.invariant)
