use Rattle.kt_eval.proofs.Common.{map, refl, rules, AgreeWith, told, asked_for}
use Rattle.kt_eval.specs.reading.Machine.{read_of, traced}
use Rattle.kt_eval.proofs.lemmas.reading.MachineLemmas.{cut_when, reads_when}
use Rattle.kt_eval.proofs.lemmas.expanding.PureLemmas.{front_by}
use Rattle.kt_eval.proofs.lemmas.TrailLemmas.{front_of}
use Rattle.kt_eval.proofs.reading.machine.read_once.Goals as goal

pub returns-clause-reads : goal.returns-clause-reads
returns-clause-reads g c = λ store agrees.
    let here : AgreeWith store c.read_first-result.new.self.answers = search rules in
    reads_when (map (λ name. name.now) c.args.names.now) c.args.limit (read_of c.args.makefile.macros c.args.makefile.book)
    (traced c.args.messages.items (g.F.Files.seen c.args.files.now).names) c.new.result.items c.read_first-result.result c.read_first-result.new.self.world
    _ _ _ _ c.new.ensures.items (search rules) (search rules) (search rules) (search rules) store (c.read_first-result.ensures.gives store here)

pub returns-clause-cut : goal.returns-clause-cut
returns-clause-cut g c = λ store agrees.
    let here : AgreeWith store c.read_first-result.new.self.answers = search rules in
    let left = c.read_first-result.new.self.world in
    cut_when (map (λ name. name.now) c.args.names.now) c.args.limit (read_of c.args.makefile.macros c.args.makefile.book)
    (traced c.args.messages.items (g.F.Files.seen c.args.files.now).names) c.new.result.items c.read_first-result.result left
    left.table left.book _ _ c.new.ensures.items refl refl (search rules) (search rules) store (c.read_first-result.ensures.cut store here)

pub returns-clause-said : goal.returns-clause-said
returns-clause-said g c =
    let kept = c.read_first-result.ensures.kept.3 in
    front_by c.args.messages.items c.read_first-result.new.self.world.said _ _ refl (search rules) (front_of _ _ (kept told))

pub returns-clause-asked : goal.returns-clause-asked
returns-clause-asked g c =
    let kept = c.read_first-result.ensures.kept.3 in
    front_by (g.F.Files.seen c.args.files.now).names c.read_first-result.new.self.world.asked _ _ refl (search rules) (front_of _ _ (kept asked_for))
