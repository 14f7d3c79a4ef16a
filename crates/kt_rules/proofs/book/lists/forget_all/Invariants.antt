use Rattle.std.proofs.Common.{◌≡◌, ℕ, length}
use Rattle.kt_rules.specs.inner.Lists.{list_at}
use Rattle.kt_rules.proofs.lemmas.book.SpotLemmas.{forgot_before}
use Rattle.kt_rules.proofs.book.lists.forget_all.Given as goal

abbrev pub invariant-loop-number : goal.invariant-loop-number
invariant-loop-number l = record {
  forgotten : (other : ℕ) → list_at l.lists.items other ≡ forgot_before l.place l.number l.fn.lists.items other;
  many : length l.lists.items ≡ length l.fn.lists.items;
}
