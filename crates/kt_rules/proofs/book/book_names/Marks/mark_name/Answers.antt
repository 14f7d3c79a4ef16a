use Rattle.std.proofs.Common.{◌≡◌, ◌<◌, Some, true, length, refl, sym, subst}
use Rattle.kt_rules.proofs.Common.{with_item, slice_get_within, place_of, number_found, Marks}
use Rattle.kt_rules.proofs.lemmas.book.MarkLemmas.{number_marked}
use Rattle.kt_rules.proofs.book.book_names.Marks.mark_name.Goals as goal

pub returns-in-Some-clause-marked : goal.returns-in-Some-clause-marked
returns-in-Some-clause-marked c =
    let names = c.args.names.now in
    let old = c.args.self.now in
    let number = c.in-Some.number in
    let at : place_of names c.args.name.now ≡ Some number = sym c.in-Some.ensures.place in
    let within : number < length old.numbers.items
    = subst (λ n. number < n) (sym c.requires) (slice_get_within names number c.args.name.now (number_found names c.args.name.now number at)) in
    let new : Marks = record { alloc = old.alloc; numbers = with_item old.numbers number true; others = old.others } in
    number_marked names old new c.args.name.now number at within refl refl
