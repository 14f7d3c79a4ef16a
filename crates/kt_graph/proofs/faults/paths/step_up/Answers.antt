use Rattle.std.proofs.Common.{sym, ◌∙◌, ap, rules, reverse}
use Rattle.kt_graph.specs.inner.faults.Files.{ends_in_name}
use Rattle.kt_graph.proofs.lemmas.faults.PartLemmas.{taken_up, told}
use Rattle.kt_graph.proofs.faults.paths.step_up.Goals as goal

pub returns-then-ends_in_name : goal.returns-then-ends_in_name
returns-then-ends_in_name c =
    taken_up c.args.rooted c.args.parts.now.items c.pop.new.self.items c.pop.result
    (sym (c.if-ends_in_name.ensures ∙ ap (λ parts. ends_in_name (reverse (told parts))) c.as_slice.ensures.value))
    c.pop.ensures.items (search rules)
