use Rattle.kt_ninja_reader.proofs.lemmas.SpelledLemmas.{scan_begin, scan_dollar, scan_end, scan_no_end, scan_sides, scan_stop, stop_dollar}
use Rattle.kt_ninja_reader.proofs.spelling.sides.Goals as goal

pub loop-byte-init : goal.loop-byte-init
loop-byte-init c = scan_begin c.args.mark c.args.text.now

pub returns-in_err-byte : goal.returns-in_err-byte
returns-in_err-byte c =
    rw c.from_residual.ensures
    (scan_end c.args.mark c.args.text.now c.cut_run.result.1.now c.in_err-byte.ensures c.requires.spelled
    (scan_stop c.args.mark c.args.text.now c.loop-byte.rest.now c.cut_run.result.0.now c.cut_run.result.1.now c.cut_run.ensures.whole c.cut_run.ensures.free c.requires.spelled c.loop-byte.invariant))

pub returns-then-byte-mark : goal.returns-then-byte-mark
returns-then-byte-mark c =
    scan_sides c.args.mark c.args.text.now c.cut_run.result.1.now c.in_ok-byte.after.now c.split_at.result.0.now c.in_ok-byte.byte c.in_ok-byte.ensures c.if-byte-mark.true c.requires.mark c.requires.spelled
    (scan_stop c.args.mark c.args.text.now c.loop-byte.rest.now c.cut_run.result.0.now c.cut_run.result.1.now c.cut_run.ensures.whole c.cut_run.ensures.free c.requires.spelled c.loop-byte.invariant)
    c.split_at.ensures.front

pub returns-in_err-later : goal.returns-in_err-later
returns-in_err-later c =
    absurd (scan_no_end c.args.mark c.args.text.now c.cut_run.result.1.now c.in_ok-byte.after.now c.in_ok-byte.byte c.in_ok-byte.ensures c.in_err-later.ensures
    (stop_dollar c.args.mark c.in_ok-byte.byte (rw c.in_ok-byte.ensures at c.cut_run.ensures.stop) c.if-byte-mark.false) c.requires.spelled
    (scan_stop c.args.mark c.args.text.now c.loop-byte.rest.now c.cut_run.result.0.now c.cut_run.result.1.now c.cut_run.ensures.whole c.cut_run.ensures.free c.requires.spelled c.loop-byte.invariant))

pub loop-byte-preserved : goal.loop-byte-preserved
loop-byte-preserved c =
    scan_dollar c.args.mark c.args.text.now c.cut_run.result.1.now c.in_ok-byte.after.now c.in_ok-later.later.now c.in_ok-byte.byte c.in_ok-later.field-0-0 c.in_ok-byte.ensures c.in_ok-later.ensures
    (stop_dollar c.args.mark c.in_ok-byte.byte (rw c.in_ok-byte.ensures at c.cut_run.ensures.stop) c.if-byte-mark.false) c.requires.spelled
    (scan_stop c.args.mark c.args.text.now c.loop-byte.rest.now c.cut_run.result.0.now c.cut_run.result.1.now c.cut_run.ensures.whole c.cut_run.ensures.free c.requires.spelled c.loop-byte.invariant)
