use Rattle.std.proofs.Common.{◌++◌, ap, map, sym, ◌∙◌}
use Rattle.kt_ninja_reader.specs.Pieces.{Plain}
use Rattle.kt_ninja_reader.specs.inner.Spelled.{pieces_in}
use Rattle.kt_ninja_reader.proofs.lemmas.SpelledLemmas.{run_read}
use Rattle.kt_ninja_reader.proofs.lemmas.SpelledParts.{nothing_in}
use Rattle.kt_ninja_reader.proofs.spelling.Spelling.run.Goals as goal

pub next-requires-clause-spelled : goal.next-requires-clause-spelled
next-requires-clause-spelled c = (run_read c.self.inside.text.now c.cut_run.result.0.now c.cut_run.result.1.now c.cut_run.ensures.whole c.cut_run.ensures.free c.self.invariant).0

pub invariant_of-result-in-None : goal.invariant_of-result-in-None
invariant_of-result-in-None c = (run_read c.self.inside.text.now c.cut_run.result.0.now c.cut_run.result.1.now c.cut_run.ensures.whole c.cut_run.ensures.free c.self.invariant).0

pub returns-in-Some-clause-whole : goal.returns-in-Some-clause-whole
returns-in-Some-clause-whole c =
    sym c.self.view_is
    ∙ (run_read c.self.inside.text.now c.cut_run.result.0.now c.cut_run.result.1.now c.cut_run.ensures.whole c.cut_run.ensures.free c.self.invariant).1
    ∙ ap (λ l. map Plain c.cut_run.result.0.now ++ l) c.in-Some.ensures.1

pub returns-in-None-clause-whole : goal.returns-in-None-clause-whole
returns-in-None-clause-whole c =
    sym c.self.view_is
    ∙ (run_read c.self.inside.text.now c.cut_run.result.0.now c.cut_run.result.1.now c.cut_run.ensures.whole c.cut_run.ensures.free c.self.invariant).1

pub returns-in-None-clause-end : goal.returns-in-None-clause-end
returns-in-None-clause-end c = ap pieces_in c.in-None.ensures ∙ nothing_in
