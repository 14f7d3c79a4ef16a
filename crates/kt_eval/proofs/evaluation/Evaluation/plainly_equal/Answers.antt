use Rattle.std.proofs.Common.{sym, ◌∙◌}
use Rattle.kt_eval.specs.inner.Views.{compared_view}
use Rattle.kt_eval.proofs.lemmas.expanding.SoleLemmas.{plainly_when}
use Rattle.kt_eval.proofs.evaluation.Evaluation.plainly_equal.Goals as goal

pub returns : goal.returns
returns g c = record {
  quick =
      let found = c.in_ok-name.ensures.quick in
      rw c.in-Some.is
      (plainly_when c.args.below found.0 c.in_ok-name.name.now c.args.self.now.world (compared_view c.in-Some.compared) c.has_value.result found.1 found.2
      (sym c.has_dollar.ensures ∙ c.if-has_dollar.false) c.has_value.ensures.quick_plain c.has_value.ensures.quick_same);
}
