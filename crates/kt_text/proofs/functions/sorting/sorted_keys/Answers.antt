use Rattle.std.proofs.Common.{◌≡◌, rules}
use Rattle.std.proofs.lemmas.List.Filters.{dedup_is}
use Rattle.kt_text.specs.Words.{words_of}
use Rattle.kt_text.proofs.lemmas.SortLemmas.{sorted_once}
use Rattle.kt_text.proofs.functions.sorting.sorted_keys.Goals as goal

pub returns : goal.returns
returns c =
    let all : c.loop-word.keys.items ≡ words_of c.args.text.now = search rules in
    sorted_once (words_of c.args.text.now) c.sort_unstable.new.self.items c.dedup.new.self.items
    (rw all at c.sort_unstable.ensures.permutation) c.sort_unstable.ensures.sorted (dedup_is _ _ _ c.dedup.ensures.filtered)
