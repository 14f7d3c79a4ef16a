use Rattle.std.proofs.Common.{◌≡◌, ◌++◌, flat_map, length}
use Rattle.kt_recipe.specs.Quoting.{quoted_byte}
use Rattle.kt_recipe.proofs.quoting.put_between_quotes.Given as goal

abbrev pub invariant-loop-at : goal.invariant-loop-at
invariant-loop-at l = l.command.items ++ flat_map quoted_byte l.rest ≡ l.fn.command.items ++ flat_map quoted_byte l.text

abbrev pub decreases-loop-at : goal.decreases-loop-at
decreases-loop-at l = length l.rest
