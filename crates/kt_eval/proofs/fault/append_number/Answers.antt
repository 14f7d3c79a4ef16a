use Rattle.std.proofs.Common.{◌≡◌, ◌++◌, true, false, append-nil, arith, nat_lt, refl, sym}
use Rattle.std.proofs.lemmas.Bool.Decides.{nat_tests}
use Rattle.kt_eval.proofs.lemmas.FaultLemmas.{number_cut, zero_before}
use Rattle.kt_eval.proofs.fault.append_number.Goals.{then-number-lt10+in_ok-push, else-number-lt10}
use Rattle.kt_eval.proofs.fault.append_number.Goals as goal

pub returns-clause-refused : goal.returns-clause-refused
returns-clause-refused c =
    let number = c.args.number in
    let grown : c.if-number-lt10.text.items ≡ c.args.text.now.items ++ zero_before number =
    elim c.if-number-lt10.branch [
      | then-number-lt10+in_ok-push w ↦
          let less : nat_lt number 10 ≡ true = grind (arith, nat_tests) in
          rw (less, w.text-is, w.in_ok-push.ensures.items) refl
      | else-number-lt10 w ↦
          let not_less : nat_lt number 10 ≡ false = grind (arith, nat_tests) in
          rw (not_less, w.text-is) (sym (append-nil c.args.text.now.items))
    ] in
    number_cut c.extend_from_slice.result number c.args.text.now.items c.if-number-lt10.text.items _ c.extend_from_slice.new.self.items grown c.extend_from_slice.ensures.items
