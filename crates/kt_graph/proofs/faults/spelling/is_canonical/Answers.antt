use Rattle.std.proofs.Common.{sym, ◌∙◌, ap}
use Rattle.std.proofs.lemmas.List.{take_rest}
use Rattle.kt_graph.specs.inner.faults.Files.{has_names_only}
use Rattle.kt_graph.proofs.lemmas.faults.SpellingLemmas.{rooted_spelling}
use Rattle.kt_graph.proofs.faults.spelling.is_canonical.Goals as goal

pub returns-then-is_rooted : goal.returns-then-is_rooted
returns-then-is_rooted c = record {
  quick = λ h.
      rooted_spelling c.args.name.now (sym c.is_rooted.ensures ∙ c.if-is_rooted.true)
      (ap has_names_only (sym (take_rest c.args.name.now 1)) ∙ sym c.has_names_only.ensures ∙ h);
}
