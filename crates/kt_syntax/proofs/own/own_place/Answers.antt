use Rattle.kt_syntax.proofs.lemmas.OwnPlaces.{byte_found}
use Rattle.kt_syntax.proofs.own.own_place.Goals as goal

pub returns-clause-quick_value : goal.returns-clause-quick_value
returns-clause-quick_value c =
    byte_found c.args.byte c.args.end c.first_place-place.result c.args.text.now c.requires.unmarked c.first_place-place.ensures.value (c.has_mark.ensures.quick c.if-has_mark.false)
