use Rattle.std.proofs.Common.{◌∙◌, ◌++◌, ap, codes}
use Rattle.kt_text.proofs.lemmas.BegunLemmas.{begun, begun_front}
use Rattle.kt_list.proofs.general.Results.{on_err}
use Rattle.kt_eval.specs.Faults.{two_digits}
use Rattle.kt_eval.proofs.lemmas.FaultLemmas.{from_brace, from_words, placing, marked, worded, braced, numbered}
use Rattle.kt_eval.proofs.fault.Fault.append_to.Goals as goal

pub returns-in_err-append_place-clause-refused : goal.returns-in_err-append_place-clause-refused
returns-in_err-append_place-clause-refused c =
    on_err c.from_residual.result (placing c.args.self.now c.args.text.now.items c.append_place.new.text.items c.in_err-append_place.ensures.refused)

pub returns-in_err-extend_from_slice-2-clause-refused : goal.returns-in_err-extend_from_slice-2-clause-refused
returns-in_err-extend_from_slice-2-clause-refused c =
    on_err c.from_residual-in_err-extend_from_slice-2.result
    (marked c.args.self.now c.args.text.now.items c.append_place.new.text.items c.extend_from_slice.new.self.items c.extend_from_slice-2.new.self.items
    c.in_ok-append_place.ensures.appended c.in_ok-extend_from_slice.ensures.items
    (begun (from_words c.args.self.now) c.extend_from_slice.new.self.items c.extend_from_slice-2.new.self.items c.in_err-extend_from_slice-2.ensures.items))

pub returns-in_err-extend_from_slice-3-clause-refused : goal.returns-in_err-extend_from_slice-3-clause-refused
returns-in_err-extend_from_slice-3-clause-refused c =
    on_err c.from_residual-in_err-extend_from_slice-3.result
    (worded c.args.self.now c.args.text.now.items c.append_place.new.text.items c.extend_from_slice.new.self.items c.extend_from_slice-2.new.self.items
    c.extend_from_slice-3.new.self.items c.in_ok-append_place.ensures.appended c.in_ok-extend_from_slice.ensures.items
    (c.in_ok-extend_from_slice-2.ensures.items ∙ ap (λ words. c.extend_from_slice.new.self.items ++ words) c.as_slice.ensures)
    (begun (from_brace c.args.self.now) c.extend_from_slice-2.new.self.items c.extend_from_slice-3.new.self.items c.in_err-extend_from_slice-3.ensures.items))

pub returns-in_err-append_number-clause-refused : goal.returns-in_err-append_number-clause-refused
returns-in_err-append_number-clause-refused c =
    on_err c.from_residual-in_err-append_number.result
    (braced c.args.self.now c.args.text.now.items c.append_place.new.text.items c.extend_from_slice.new.self.items c.extend_from_slice-2.new.self.items
    c.extend_from_slice-3.new.self.items c.append_number.new.text.items c.in_ok-append_place.ensures.appended c.in_ok-extend_from_slice.ensures.items
    (c.in_ok-extend_from_slice-2.ensures.items ∙ ap (λ words. c.extend_from_slice.new.self.items ++ words) c.as_slice.ensures)
    c.in_ok-extend_from_slice-3.ensures.items
    (begun_front (two_digits c.args.self.now.number) (codes "]") c.extend_from_slice-3.new.self.items c.append_number.new.text.items c.in_err-append_number.ensures.refused))

pub returns-in_err-push-clause-refused : goal.returns-in_err-push-clause-refused
returns-in_err-push-clause-refused c =
    on_err c.from_residual-in_err-push.result
    (numbered c.args.self.now c.args.text.now.items c.append_place.new.text.items c.extend_from_slice.new.self.items c.extend_from_slice-2.new.self.items
    c.extend_from_slice-3.new.self.items c.append_number.new.text.items c.push.new.self.items c.in_ok-append_place.ensures.appended
    c.in_ok-extend_from_slice.ensures.items
    (c.in_ok-extend_from_slice-2.ensures.items ∙ ap (λ words. c.extend_from_slice.new.self.items ++ words) c.as_slice.ensures)
    c.in_ok-extend_from_slice-3.ensures.items c.in_ok-append_number.ensures.appended
    (begun (codes "]") c.append_number.new.text.items c.push.new.self.items c.in_err-push.ensures.items))
