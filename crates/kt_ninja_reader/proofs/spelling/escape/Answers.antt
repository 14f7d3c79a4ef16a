use Rattle.std.proofs.Common.{length, ap, sym, ◌∙◌, arith}
use Rattle.kt_ninja_reader.proofs.Common.{ne_eqb, eq-eqb, after_dollar, pieces_from}
use Rattle.kt_ninja_reader.proofs.lemmas.PieceLemmas.{cuts_option, cuts_too, escape-brace, escape-escapable, escape-nil, no_short_of, short_of}
use Rattle.kt_ninja_reader.proofs.spelling.escape.Goals as goal

pub returns-in_err-byte : goal.returns-in_err-byte
returns-in_err-byte c = rw c.from_residual.ensures (ap (pieces_from after_dollar) c.in_err-byte.ensures ∙ escape-nil)

pub returns-then-is_escapable : goal.returns-then-is_escapable
returns-then-is_escapable c = grind (arith, escape-escapable, length)

pub returns-then-byte-eq123 : goal.returns-then-byte-eq123
returns-then-byte-eq123 c = grind (arith, escape-brace, eq-eqb, length, cuts_option, cuts_too)

pub returns-else-byte-eq123 : goal.returns-else-byte-eq123
returns-else-byte-eq123 c =
    cuts_option c.short_variable.result c.short_variable.ensures
    (λ none. no_short_of c.args.text.now c.in_ok-byte.byte c.in_ok-byte.after.now c.in_ok-byte.ensures (sym c.if-is_escapable.ensures) (ne_eqb _ _ c.if-byte-eq123.false) none)
    (λ cut h. short_of c.args.text.now c.in_ok-byte.byte c.in_ok-byte.after.now cut c.in_ok-byte.ensures (sym c.if-is_escapable.ensures) (ne_eqb _ _ c.if-byte-eq123.false) h)
