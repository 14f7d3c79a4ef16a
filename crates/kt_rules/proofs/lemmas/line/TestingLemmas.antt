-- Searches of lists put together.
use Rattle.std.proofs.lemmas.List.Folds.{find-append, list_any-append}

pub ruleset search_steps = (find-append, list_any-append)
