use Rattle.std.proofs.Common.{◌≡◌, find}
use Rattle.kt_rules.proofs.Common.{bytes_eq, entry_view}
use Rattle.kt_rules.proofs.lemmas.book.NumberedLemmas.{targets_from}
use Rattle.kt_rules.proofs.book.special.named_target.Given as goal

abbrev pub invariant-loop-number : goal.invariant-loop-number
invariant-loop-number l =
    find (λ target. bytes_eq target.name l.name) (targets_from l.rule l.number-index)
    ≡ find (λ target. bytes_eq target.name l.name) (entry_view l.rule).targets
