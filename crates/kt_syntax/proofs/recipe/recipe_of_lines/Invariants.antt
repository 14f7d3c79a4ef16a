use Rattle.std.proofs.Common.{◌≡◌, ◌≤◌, ◌++◌, length}
use Rattle.kt_text.specs.Lines.{newline_pieces}
use Rattle.kt_syntax.specs.Recipes.{recipe_lines, recipe_of}
use Rattle.kt_syntax.proofs.recipe.recipe_of_lines.Given as goal

abbrev pub invariant-loop-place : goal.invariant-loop-place
invariant-loop-place l = record {
  bound : length l.rest ≤ length l.text;
  value : l.recipe.items ++ recipe_lines l.before l.mask (newline_pieces l.rest) ≡ recipe_of l.text;
}

abbrev pub decreases-loop-place : goal.decreases-loop-place
decreases-loop-place l = length l.rest
