use Rattle.std.proofs.Common.{◌≡◌, [], ◌∙◌, sym, refl, arith, true, false, length, append-nil}
use Rattle.kt_ninja_reader.proofs.Common.{false≢true, nil_from_length, file_lines, is_comment, joined_lines}
use Rattle.std.proofs.lemmas.Bool.Decides.{nat_tests}
use Rattle.kt_ninja_reader.proofs.lemmas.JoinedLemmas.{joined_step, lines_none, over, passed, pushed}
use Rattle.kt_ninja_reader.proofs.joined.joined_lines.Goals as goal
use Rattle.kt_ninja_reader.proofs.joined.joined_lines.Goals.{then-not-begun+in_ok-end, else-not-begun, then-begun+in_ok-end-2, else-begun}

pub loop-rest-init : goal.loop-rest-init
unfolding joined_lines is_comment
loop-rest-init c = grind arith

pub loop-rest-preserved : goal.loop-rest-preserved
unfolding is_comment
loop-rest-preserved c =
    let joins = c.in_ok-join.ensures.joined in
    let later = file_lines c.first_line-line.result.after.now in
    let step = joined_step c.loop-rest.next c.loop-rest.begun c.first_line-line.result later c.join.new.self joins c.loop-rest.invariant.numbered c.loop-rest.invariant.fresh in
    elim c.if-not-begun.branch [
      | then-not-begun+in_ok-end w ↦ rw (w.lines-is, w.begun-is) (record {
        cut = pushed c.loop-rest.next c.loop-rest.lines.items w.end.new.lines.items c.loop-rest.begun c.join.new.self w.end.new.self c.first_line-line.result (file_lines c.loop-rest.rest.now) later (joined_lines c.args.text.now)
            step c.first_line-line.ensures.cut c.loop-rest.invariant.cut w.if-not-begun.true w.in_ok-end.ensures.line w.end.ensures.begun.2;
        numbered = λ _. w.end.ensures.begun.0;
        fresh = λ _. w.end.ensures.empty;
        blank = rw (w.end.ensures.begun.1, w.end.ensures.empty) refl;
        plain = rw w.end.ensures.empty refl;
        bound = omega (arith, c.first_line-line.ensures.less, c.loop-rest.invariant.bound);
      })
      | else-not-begun w ↦ rw (w.lines-is, w.begun-is) (record {
        cut = passed c.loop-rest.next c.loop-rest.lines.items c.loop-rest.begun c.join.new.self c.first_line-line.result (file_lines c.loop-rest.rest.now) later (joined_lines c.args.text.now)
            step c.first_line-line.ensures.cut c.loop-rest.invariant.cut w.if-not-begun.false;
        numbered = λ off. absurd (false≢true (sym off ∙ w.if-not-begun.false));
        fresh = λ off. absurd (false≢true (sym off ∙ w.if-not-begun.false));
        blank = joins.blank;
        plain = joins.plain w.if-not-begun.false;
        bound = omega (arith, c.first_line-line.ensures.less, c.loop-rest.invariant.bound);
      })
    ]

pub returns : goal.returns
returns c =
    let empty : length c.loop-rest.rest.now ≡ 0 = grind (arith, nat_tests) in
    let none : file_lines c.loop-rest.rest.now ≡ [] = lines_none c.loop-rest.rest.now (nil_from_length c.loop-rest.rest.now empty) in
    elim c.if-begun.branch [
      | then-begun+in_ok-end-2 w ↦ rw (w.lines-is, w.in_ok-end-2.ensures.line)
          (over true c.loop-rest.next c.loop-rest.lines.items c.loop-rest.begun (file_lines c.loop-rest.rest.now) (joined_lines c.args.text.now) w.if-begun.true none c.loop-rest.invariant.cut)
      | else-begun w ↦ rw w.lines-is
          (sym (append-nil c.loop-rest.lines.items) ∙ over false c.loop-rest.next c.loop-rest.lines.items c.loop-rest.begun (file_lines c.loop-rest.rest.now) (joined_lines c.args.text.now) w.if-begun.false none c.loop-rest.invariant.cut)
    ]
