use Rattle.std.proofs.Common.{◌≡◌, ◌++◌, ◌&&◌, ◌∙◌, ap, Bool, true, false, length, append-nil, refl, sym, arith, rules}
use Rattle.kt_text.proofs.Common.{nat_tests, is_nonempty, logical_lines_of}
use Rattle.kt_text.proofs.lemmas.LogicalLemmas.{line_ended, lines_start, lines_more, lines_end}
use Rattle.kt_text.proofs.logical.cut_lines.Goals as goal
use Rattle.kt_text.proofs.logical.cut_lines.Goals.{then-not-continued+in_ok-of+in_ok-push, else-not-continued}

pub loop-rest-init : goal.loop-rest-init
loop-rest-init c = record {
  cut = rw c.new-lines.ensures.items (lines_start (record { start = 0; number = 1; tab = false }) c.args.text.now);
  place = omega arith;
  numbered = omega arith;
}

pub loop-rest-preserved : goal.loop-rest-preserved
loop-rest-preserved c =
    let line = c.first_line.result.0.now in
    let added : c.if-not-continued.lines.items ≡ c.loop-rest.lines.items ++ line_ended c.goes_on-continued.result c.or_at-begin.result c.loop-rest.at line =
    elim c.if-not-continued.branch [
      | then-not-continued+in_ok-of+in_ok-push w ↦
          let off : c.goes_on-continued.result ≡ false = search rules in
          rw (off, w.lines-is, w.in_ok-push.ensures.items, w.in_ok-of.ensures.same, w.ended.ensures, c.of-end.ensures.kept) refl
      | else-not-continued w ↦
          let on : c.goes_on-continued.result ≡ true = search rules in
          rw (on, w.lines-is) (sym (append-nil c.loop-rest.lines.items))
    ] in
    record {
      cut = rw added (lines_more c.loop-rest.continued c.goes_on-continued.result c.loop-rest.begin c.or_at-begin.result c.loop-rest.at c.loop-rest.number line
          c.first_line.result.1.now _ c.loop-rest.lines.items (logical_lines_of c.args.text.now) c.or_at-begin.ensures (c.goes_on-continued.ensures ∙ ap (λ (b : Bool). b && is_nonempty c.first_line.result.1.now) c.of-end.ensures.continued) c.first_line.ensures.cut c.loop-rest.invariant.cut);
      place = omega (arith, c.loop-rest.invariant.place, c.first_line.ensures.whole);
      numbered = omega (arith, c.loop-rest.invariant.numbered, c.first_line.ensures.some);
    }

pub returns : goal.returns
returns c =
    let none : length c.loop-rest.rest.now ≡ 0 = grind (arith, nat_tests) in
    lines_end c.loop-rest.continued c.loop-rest.begin c.loop-rest.at c.loop-rest.number c.loop-rest.rest.now c.loop-rest.lines.items (logical_lines_of c.args.text.now) none c.loop-rest.invariant.cut
