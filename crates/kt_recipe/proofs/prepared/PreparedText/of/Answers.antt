use Rattle.std.proofs.Common.{◌≡◌, [], false, true, rules}
use Rattle.kt_recipe.proofs.Common.{expanded, evaluator}
use Rattle.kt_recipe.proofs.PreparedLemmas.{added_to_none}
use Rattle.kt_recipe.proofs.prepared.PreparedText.of.Goals as goal

pub returns-then-branch : goal.returns-then-branch
returns-then-branch c = record {
  quick =
      let yes : c.in_ok-put_text.field-0 ≡ true = search rules in
      added_to_none c.args.macros.now (expanded (evaluator false [] c.args.limit) c.args.text.now) c.none-pieces.result
      c.put_text.new.pieces c.none-pieces.ensures.gaps c.none-pieces.ensures.end (c.in_ok-put_text.ensures.quick yes);
}
