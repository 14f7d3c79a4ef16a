use Rattle.kt_eval.proofs.lemmas.GrowingReads.{expanding_grows}
use Rattle.kt_eval_laws.proofs.GrowingReads.{applying_grows, reading_grows, tree_grows, text_grows}
use Rattle.kt_eval_laws.proofs.laws.nothing_is_taken_back.Goals as goal

pub returns-clause-expanding : goal.returns-clause-expanding
returns-clause-expanding c = expanding_grows

pub returns-clause-applying : goal.returns-clause-applying
returns-clause-applying c = applying_grows

pub returns-clause-reading : goal.returns-clause-reading
returns-clause-reading c = reading_grows

pub returns-clause-tree : goal.returns-clause-tree
returns-clause-tree c = tree_grows

pub returns-clause-text : goal.returns-clause-text
returns-clause-text c = text_grows
