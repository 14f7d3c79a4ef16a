use Rattle.std.proofs.lemmas.List.Splits.{join_with_byte-slice_split}
use Rattle.kt_recipe.specs.Lines.{pieces_of_line}
use Rattle.kt_recipe_laws.proofs.laws.pieces_are_the_line.Goals as goal

pub returns : goal.returns
unfolding pieces_of_line
returns c text = join_with_byte-slice_split 10 text
