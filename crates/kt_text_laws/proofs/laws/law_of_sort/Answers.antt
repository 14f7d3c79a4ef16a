use Rattle.kt_text_laws.proofs.SortLemmas.{sort_law}
use Rattle.kt_text_laws.proofs.laws.law_of_sort.Goals as goal

pub returns : goal.returns
returns c = sort_law
