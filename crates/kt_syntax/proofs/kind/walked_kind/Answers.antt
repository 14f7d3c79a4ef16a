use Rattle.std.proofs.Common.{arith, Some, None, ap, ◌∙◌, List, ℕ}
use Rattle.kt_syntax.proofs.Common.{take_rest, slice_range, assignment}
use Rattle.kt_syntax.proofs.lemmas.Kinding.{kind_blank, kind_other}
use Rattle.kt_syntax.proofs.kind.walked_kind.Goals as goal

pub returns-then-begin-end : goal.returns-then-begin-end
returns-then-begin-end c = grind (arith, kind_blank)

pub returns-in-Some : goal.returns-in-Some
returns-in-Some c =
    ap (λ (value : List ℕ). assignment (slice_range c.args.text.now c.past_blanks-begin.result c.in-Some.parts.name) c.in-Some.parts.operator value) (take_rest c.args.text.now c.in-Some.parts.value)
    ∙ kind_other c.args.text.now c.args.tab c.comment_place-end.result c.past_blanks-begin.result
    (Some (record { name = c.in-Some.parts.name; operator = c.in-Some.parts.operator; value = c.in-Some.parts.value })) c.comment_place-end.ensures.value c.comment_place-end.ensures.bound
    c.past_blanks-begin.ensures.value c.if-begin-end.false c.in-Some.ensures.value

pub returns-in-None : goal.returns-in-None
returns-in-None c =
    c.worded.ensures
    ∙ kind_other c.args.text.now c.args.tab c.comment_place-end.result c.past_blanks-begin.result None c.comment_place-end.ensures.value c.comment_place-end.ensures.bound
    c.past_blanks-begin.ensures.value c.if-begin-end.false c.in-None.ensures.value
