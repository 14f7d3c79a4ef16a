-- Reading with a given number of levels left, beside the same with one more, like the lemmas of GrowingLemmas on
-- expanding; and one more level.
use Rattle.std.proofs.Common.{ℕ, suc, Bool, List}
use Rattle.kt_eval.proofs.Common.{Text, Items, Store, apply, Page, read_items, read_text, read_first, evaluator}
use Rattle.kt_eval.specs.declared.expanding.function.Function.{Function}
use Rattle.kt_eval.specs.declared.reading.page.Source.{Source}
use Rattle.kt_eval.specs.views.Growing.{TakesNothingBack}
use Rattle.kt_eval.proofs.lemmas.GrowingLemmas.{apply_related}
use Rattle.kt_eval.proofs.lemmas.GrowingReads.{read_items_related, read_text_related, read_first_related, one_more_level}

module _ (reads : Bool) (store : Store) where
  pub applying_grows : (levels : ℕ) (f : Function) (arguments : List Text) → TakesNothingBack (apply (evaluator reads store levels) f arguments)
  applying_grows levels f arguments w = (apply_related (evaluator reads store levels) (evaluator reads store (suc levels)) (one_more_level reads store levels) f arguments w).0

  pub reading_grows : (levels : ℕ) (names : List Text) → TakesNothingBack (read_first store (evaluator reads store levels) names)
  reading_grows levels names w = (read_first_related (evaluator reads store levels) (evaluator reads store (suc levels)) (one_more_level reads store levels) store names w).0

  pub tree_grows : (levels : ℕ) (sheet : Page) (items : Items) → TakesNothingBack (read_items (evaluator reads store levels) sheet items)
  tree_grows levels sheet items w = (read_items_related (evaluator reads store levels) (evaluator reads store (suc levels)) (one_more_level reads store levels) sheet items w).0

  pub text_grows : (levels : ℕ) (source : Source) (text : Text) → TakesNothingBack (read_text (evaluator reads store levels) source text)
  text_grows levels source text w = (read_text_related (evaluator reads store levels) (evaluator reads store (suc levels)) (one_more_level reads store levels) source text w).0
