use Rattle.kt_eval.proofs.lemmas.GrowingReads.{expanding_stays, applying_stays, reading_stays, tree_stays, text_stays}
use Rattle.kt_eval.proofs.laws.one_deeper.Goals as goal

pub returns-clause-expanding : goal.returns-clause-expanding
returns-clause-expanding c = expanding_stays

pub returns-clause-applying : goal.returns-clause-applying
returns-clause-applying c = applying_stays

pub returns-clause-reading : goal.returns-clause-reading
returns-clause-reading c = reading_stays

pub returns-clause-tree : goal.returns-clause-tree
returns-clause-tree c = tree_stays

pub returns-clause-text : goal.returns-clause-text
returns-clause-text c = text_stays
