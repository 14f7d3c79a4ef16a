use Rattle.std.proofs.Common.{◌≡◌, ◌<◌, Some, true, length, refl, sym, subst}
use Rattle.kt_rules.proofs.Common.{with_item, name_at, named_at, place_of, Marks}
use Rattle.kt_rules.proofs.lemmas.book.MarkLemmas.{number_marked}
use Rattle.kt_rules.proofs.lemmas.book.NoteLemmas.{place_at}
use Rattle.kt_rules.proofs.book.book_names.Marks.mark_number.Goals as goal

pub returns-clause-marked : goal.returns-clause-marked
returns-clause-marked c =
    let names = c.args.names.now in
    let old = c.args.self.now in
    let number = c.args.number in
    let one = name_at names number in
    let at : place_of names one ≡ Some number = place_at names one number c.len-count.ensures.differ (named_at names number c.requires.below) in
    let within : number < length old.numbers.items = subst (λ n. number < n) (sym c.requires.count) c.requires.below in
    let new : Marks = record { alloc = old.alloc; numbers = with_item old.numbers number true; others = old.others } in
    number_marked names old new one number at within refl refl
