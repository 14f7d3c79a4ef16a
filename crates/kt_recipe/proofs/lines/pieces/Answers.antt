use Rattle.kt_recipe.proofs.Common.{rules, tests, pieces_of_line}
use Rattle.std.proofs.lemmas.Iterator.Consumers.{map_from_collect}
use Rattle.std.proofs.lemmas.Iterator.Splits.{YieldsList-from_slice_split}
use Rattle.kt_recipe.proofs.lines.pieces.Goals as goal

pub returns : goal.returns
unfolding pieces_of_line
returns c = map_from_collect _ c.collect.ensures.ran (YieldsList-from_slice_split _ _ c.args.text.now c.split.ensures.rest c.split.ensures.done c.split.ensures.closure (λ x r q k. search (rules, tests)))
