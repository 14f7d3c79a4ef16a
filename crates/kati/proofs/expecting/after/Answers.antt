use Rattle.kati.proofs.Common.{rules, refl, take_rest}
use Rattle.kati.proofs.lemmas.ExpectingLemmas.{taken_next}
use Rattle.kati.proofs.expecting.after.Goals as goal

pub returns-then-starts_with : goal.returns-then-starts_with
returns-then-starts_with c = record {
  quick =
      let next = taken_next c.args.text.now _ c.args.piece.now c.args.taken c.starts_with.result (take_rest c.args.text.now c.args.taken) (search rules) c.starts_with.ensures.value c.if-starts_with.true in
      (refl, next.0, next.1);
}
