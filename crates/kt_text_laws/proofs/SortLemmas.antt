-- What `sort` gives, and that nothing else is it.
use Rattle.kt_text_laws.specs.Sorted.{SortLaw}
use Rattle.kt_text.proofs.lemmas.SortLemmas.{word_set-sorts, sorting_is}

pub sort_law : SortLaw
sort_law = record { sorts = word_set-sorts; only = sorting_is }
