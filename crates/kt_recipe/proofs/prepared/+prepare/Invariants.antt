-- The order of the cycle: a text is expanded one level deeper with one level less. The loops: the terms that are left
-- are added to what was added for those before them, and arguments after those that are known.
use Rattle.std.proofs.Common.{[], false, ◌+◌, ◌-◌, ◌*◌, drop, length, map}
use Rattle.kt_recipe.proofs.Common.{terms_of, evaluator}
use Rattle.kt_recipe.proofs.PreparedLemmas.{AddsUpTo}
use Rattle.kt_recipe.proofs.PreparedCallLemmas.{AreKnownUpTo}
use Rattle.kt_recipe.proofs.prepared.+prepare.Given as goal

abbrev pub decreases-put_text : goal.decreases-put_text
decreases-put_text l = 8 * l.limit + 7

abbrev pub decreases-put_term : goal.decreases-put_term
decreases-put_term l = 8 * l.limit + 6

abbrev pub decreases-put_asked : goal.decreases-put_asked
decreases-put_asked l = 8 * l.limit + 5

abbrev pub decreases-put_call : goal.decreases-put_call
decreases-put_call l = 8 * l.limit + 4

abbrev pub decreases-put_applied : goal.decreases-put_applied
decreases-put_applied l = 8 * l.limit + 3

abbrev pub decreases-known_arguments : goal.decreases-known_arguments
decreases-known_arguments l = 8 * l.limit + 2

abbrev pub decreases-put_if : goal.decreases-put_if
decreases-put_if l = 8 * l.limit + 2

abbrev pub decreases-known_text : goal.decreases-known_text
decreases-known_text l = 8 * l.limit + 1

abbrev pub decreases-put_name : goal.decreases-put_name
decreases-put_name l = 8 * l.limit + 2

abbrev pub decreases-put_value : goal.decreases-put_value
decreases-put_value l = 8 * l.limit + 1

abbrev pub decreases-put_deeper : goal.decreases-put_deeper
decreases-put_deeper l = 8 * l.limit

abbrev pub invariant-put_text-terms : goal.invariant-put_text-terms
invariant-put_text-terms l = AddsUpTo l.macros (evaluator false [] l.limit) (terms_of l.text) l.rest l.fn.pieces l.pieces

abbrev pub decreases-put_text-terms : goal.decreases-put_text-terms
decreases-put_text-terms l = length l.rest

abbrev pub invariant-known_arguments-arguments : goal.invariant-known_arguments-arguments
invariant-known_arguments-arguments l =
    AreKnownUpTo l.macros (evaluator false [] l.limit) (map (λ a. a.now) l.texts) (map (λ a. a.now) (drop l.place l.texts)) l.values.items

abbrev pub decreases-known_arguments-arguments : goal.decreases-known_arguments-arguments
decreases-known_arguments-arguments l = length l.texts - l.place
