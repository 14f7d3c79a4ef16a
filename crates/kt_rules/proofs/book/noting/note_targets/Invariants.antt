use Rattle.std.proofs.Common.{true, is_some, length, drop, ◌≤◌}
use Rattle.kt_rules.proofs.Common.{GrewIn, entry_view}
use Rattle.kt_rules.proofs.lemmas.book.NoteLemmas.{IsNotedFrom}
use Rattle.kt_rules.proofs.book.noting.note_targets.Given as goal

abbrev pub invariant-loop-position : goal.invariant-loop-position
invariant-loop-position l =
    let names = l.rule.names.now in
    let rule = entry_view l.rule in record {
      targets : IsNotedFrom true rule l.place l.position (drop l.position rule.targets) (names, l.fn.spots.targets) (names, l.spots.targets);
      recipes : IsNotedFrom (is_some rule.recipe) rule l.place l.position (drop l.position rule.targets) (names, l.fn.spots.recipes) (names, l.spots.recipes);
      targets_grown : GrewIn l.place (names, l.fn.spots.targets) (names, l.spots.targets);
      recipes_grown : GrewIn l.place (names, l.fn.spots.recipes) (names, l.spots.recipes);
      targets_within : length l.fn.spots.targets ≤ length names → length l.spots.targets ≤ length names;
      recipes_within : length l.fn.spots.recipes ≤ length names → length l.spots.recipes ≤ length names;
    }
