use Rattle.kt_rules.proofs.Common.{refl, on_err}
use Rattle.kt_rules.proofs.lemmas.book.NoteLemmas.{grew_at_one}
use Rattle.kt_rules.proofs.book.spots.Spots.note.Goals as goal

pub returns-in_err-note-2-clause-targets_refused : goal.returns-in_err-note-2-clause-targets_refused
returns-in_err-note-2-clause-targets_refused c =
    on_err c.from_residual-in_err-note-2.result
    (grew_at_one c.args.spot.entry c.args.number c.args.self.now.targets c.note.new.self c.args.spot refl c.in_ok-note.ensures.noted)
