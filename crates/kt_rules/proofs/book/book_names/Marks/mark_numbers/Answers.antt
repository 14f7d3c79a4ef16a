use Rattle.std.proofs.Common.{◌≡◌, ◌∙◌, ◌∷◌, ◌+◌, ◌<◌, Some, true, length, drop, set, get_or, refl, sym, ap, subst, arith}
use Rattle.kt_rules.proofs.Common.{with_item, drop_more, named_at, place_of, Marks, name_at, names_at}
use Rattle.std.proofs.Math.ListN.{length-set}
use Rattle.kt_rules.proofs.lemmas.book.MarkLemmas.{marked_one, number_marked}
use Rattle.kt_rules.proofs.lemmas.book.NoteLemmas.{place_at}
use Rattle.kt_rules.proofs.book.book_names.Marks.mark_numbers.Goals as goal

pub index_mut-requires : goal.index_mut-requires
index_mut-requires c = grind (arith, get_or, length)

pub loop-number-preserved : goal.loop-number-preserved
loop-number-preserved c =
    let names = c.args.names.now in
    let numbers = c.args.numbers.now in
    let i = c.loop-number.number-index in
    let number = get_or numbers i 0 in
    let one = name_at names number in
    let now = c.loop-number.self in
    let new : Marks = record { alloc = now.alloc; numbers = with_item now.numbers number true; others = now.others } in
    let below : number < length names = c.requires.below i 0 c.loop-number-test.true in
    let within : number < length now.numbers.items = subst (λ n. number < n) (sym (c.loop-number.invariant.many ∙ c.requires.count)) below in
    let at : place_of names one ≡ Some number = place_at names one number c.len-count.ensures.differ (named_at names number below) in
    let first : names_at names (drop i numbers) ≡ one ∷ names_at names (drop (i + 1) numbers) = ap (names_at names) (drop_more numbers i 0 c.loop-number-test.true) in
    let same : length (set now.numbers.items number true) ≡ length now.numbers.items = simp length-set in
    record {
      marked = marked_one names (names_at names numbers) (names_at names (drop i numbers)) (names_at names (drop (i + 1) numbers)) one
          c.args.self.now now new first (number_marked names now new one number at within refl refl) c.loop-number.invariant.marked;
      many = same ∙ c.loop-number.invariant.many;
    }
