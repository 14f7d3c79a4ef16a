use Rattle.std.proofs.Common.{◌-◌, ◌+◌, ◌<◌, ◌≤◌, ℕ, length}
use Rattle.kt_rules.specs.inner.Lists.{SameAt}
use Rattle.kt_rules.proofs.book.lists.reach.Given as goal

abbrev pub invariant-loop-lists : goal.invariant-loop-lists
invariant-loop-lists l = record {
  same : SameAt l.fn.lists.items l.lists.items;
  within : (count : ℕ) → length l.fn.lists.items ≤ count → l.number < count → length l.lists.items ≤ count;
}

abbrev pub decreases-loop-lists : goal.decreases-loop-lists
decreases-loop-lists l = l.number + 1 - length l.lists.items
