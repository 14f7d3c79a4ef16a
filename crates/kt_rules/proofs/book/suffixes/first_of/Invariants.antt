use Rattle.std.proofs.Common.{◌≡◌, drop, find, nat_eq}
use Rattle.std.specs.List.{ends_with}
use Rattle.kt_rules.proofs.book.suffixes.first_of.Given as goal

abbrev pub invariant-loop-number : goal.invariant-loop-number
invariant-loop-number l =
    find (λ suffix. ends_with nat_eq l.name suffix) (drop l.number l.suffixes)
    ≡ find (λ suffix. ends_with nat_eq l.name suffix) l.suffixes
