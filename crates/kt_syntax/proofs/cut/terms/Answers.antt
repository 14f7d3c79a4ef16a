use Rattle.std.proofs.Common.{sym, subst, ◌∙◌, ◌≤◌, length, List}
use Rattle.kt_syntax.specs.Terms.{Term}
use Rattle.kt_syntax.specs.views.Terms.{IsSplitting}
use Rattle.kt_syntax.proofs.lemmas.Splitting.{one_splitting, text_count_bound}
use Rattle.kt_syntax.proofs.cut.terms.Goals as goal

pub returns-clause-splits : goal.returns-clause-splits
returns-clause-splits c = subst (λ (pieces : List Term). IsSplitting c.args.text.now pieces) (sym c.new.ensures) (one_splitting c.args.text.now).0

pub returns-clause-one : goal.returns-clause-one
returns-clause-one c = λ pieces s. (one_splitting c.args.text.now).1 pieces s ∙ sym c.new.ensures

pub returns-clause-count : goal.returns-clause-count
returns-clause-count c = subst (λ (pieces : List Term). length pieces ≤ length c.args.text.now) (sym c.new.ensures) (text_count_bound c.args.text.now)
