use Rattle.std.proofs.Common.{◌≡◌, List, rules, subst}
use Rattle.kati.proofs.Common.{Text, known_names}
use Rattle.kati.specs.inner.Stops.{IsFirstStop}
use Rattle.kati.proofs.lemmas.MeaningLemmas.{first_stop}
use Rattle.kati.proofs.translating.sound_graph.Goals as goal

pub returns-in-Err-clause-first : goal.returns-in-Err-clause-first
returns-in-Err-clause-first c =
    let book = c.args.found.now.makefile.book in
    let is : c.in_ok-known.known.now ≡ known_names book c.args.found.now.list.items = search rules in
    subst (λ (known : List Text). IsFirstStop book known c.args.goals.now c.stop_of.result) is
    (first_stop book c.in_ok-known.known.now c.args.goals.now c.in-Err.fault c.stop_of.result c.in-Err.ensures.fault c.stop_of.ensures)
