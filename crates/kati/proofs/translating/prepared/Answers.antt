use Rattle.std.proofs.Common.{◌≡◌, Ok, arith, rules}
use Rattle.kati.specs.inner.Views.{read_view}
use Rattle.kati.proofs.lemmas.AskedLemmas.{list_read, list_stops}
use Rattle.kati.proofs.lemmas.OutcomeLemmas.{chosen_after}
use Rattle.kati.proofs.translating.prepared.Goals as goal

pub returns-in_err-list-clause-asked : goal.returns-in_err-list-clause-asked
returns-in_err-list-clause-asked g c = λ store agrees.
    list_stops c.args.args.now store (g.F.Files.seen c.args.files.now).names (g.F.Files.seen c.listed.new.files).names (c.in_err-list.ensures.asked store agrees)

pub returns-clause-gives : goal.returns-clause-gives
returns-clause-gives g c = λ store agrees.
    let ok : c.makefile_read-told.result.1 ≡ Ok c.in_ok-makefile.makefile = search rules in
    let reads = rw ok at c.makefile_read-told.ensures.gives in
    let chosen = c.chosen.ensures.gives in
    let is = c.in_ok-list.ensures.gives store (omega (arith, c.makefile_read-told.ensures.grows store)) in
    (chosen_after _ c.args.args.now store (g.F.Files.seen c.args.files.now).names (g.F.Files.seen c.listed.new.files).names
    (g.F.Files.seen c.makefile_read-told.new.files).names c.makefile_read-told.result.0.items c.chosen.new.messages.items c.in_ok-list.list.items
    (read_view c.in_ok-makefile.makefile) c.chosen.result is (reads store agrees) chosen)

pub returns-clause-asked : goal.returns-clause-asked
returns-clause-asked g c = λ store agrees.
    (list_read c.args.args.now store (g.F.Files.seen c.args.files.now).names (g.F.Files.seen c.listed.new.files).names
    (g.F.Files.seen c.makefile_read-told.new.files).names c.in_ok-list.list.items
    (c.in_ok-list.ensures.gives store (omega (arith, c.makefile_read-told.ensures.grows store))) (c.makefile_read-told.ensures.asked store agrees))
