use Rattle.std.proofs.Common.{arith, ◌≡◌, sym, ◌∙◌, ap, map, false}
use Rattle.kt_ninja_reader.proofs.Common.{err_from_is_err_and, is_blank_line, is_comment, binding_view}
use Rattle.kt_ninja_reader.specs.inner.Reading.{line_binding}
use Rattle.kt_ninja_reader.proofs.lemmas.PieceLemmas.{refuses_too}
use Rattle.kt_ninja_reader.proofs.lemmas.ReaderLemmas.{binding_adds, binding_stops, closed_stops, told_more}
use Rattle.kt_ninja_reader.proofs.ninja_read.add_line.Goals as goal

pub returns-then-closed : goal.returns-then-closed
returns-then-closed c = grind (arith, closed_stops)

pub returns-in_err-line_binding : goal.returns-in_err-line_binding
returns-in_err-line_binding c = grind (arith, err_from_is_err_and, binding_stops, refuses_too)

pub returns : goal.returns
returns c =
    let comment : is_comment c.args.line.now.text ≡ false = ap is_comment (sym c.text-text.ensures) ∙ (sym c.is_comment.ensures ∙ c.if-is_comment.false) in
    let blank : is_blank_line c.args.line.now.text ≡ false = ap is_blank_line (sym c.text-text.ensures) ∙ (sym c.is_blank.ensures ∙ c.if-is_blank.false) in
    let old = c.args.bindings.now.items in
    let new = c.push.new.self.items in
    binding_adds c.args.closed (map binding_view old) (map binding_view new) c.args.line.now (binding_view c.in_ok-line_binding.field-0) comment blank c.if-closed.false
    (ap line_binding (sym c.text-text.ensures) ∙ c.in_ok-line_binding.ensures)
    (told_more binding_view old new c.in_ok-line_binding.field-0 c.in_ok-push.ensures.items)
