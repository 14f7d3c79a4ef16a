use Rattle.std.proofs.Common.{length, refl, arith, length-drop}
use Rattle.kt_syntax.specs.Recipes.{recipe_of}
use Rattle.kt_syntax.proofs.lemmas.RecipeLemmas.{recipe_more, recipe_end, recipe_of-start}
use Rattle.kt_syntax.proofs.recipe.recipe_of_lines.Goals as goal

pub loop-place-init : goal.loop-place-init
loop-place-init c = record { bound = omega arith; value = rw (c.new-recipe.ensures.items, c.new-mask.ensures.whole refl) (recipe_of-start c.args.text.now) }

pub loop-place-preserved : goal.loop-place-preserved
loop-place-preserved c = grind (arith, length, length-drop, recipe_more)

pub returns : goal.returns
returns c =
    rw c.in_ok-add_line-2.ensures
    (recipe_end c.loop-place.before c.loop-place.mask c.loop-place.rest.now (recipe_of c.args.text.now) c.loop-place.recipe.items
    c.in_default.ensures c.loop-place.invariant.value)
