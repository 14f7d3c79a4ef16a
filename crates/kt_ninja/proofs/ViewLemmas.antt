-- A statement that is seen by its place, and its texts.
use Rattle.std.proofs.Common.{◌≡◌, ℕ, List, Some, Option, ap, ◌∙◌, subst}
use Rattle.kt_ninja.proofs.Common.{Block, Statement, marked_text, names_text, rule_name_text, rule_text}
use Rattle.kt_ninja.specs.declared.plan.Made.{Made}
use Rattle.kt_ninja.specs.inner.Blocks.{Puts}
use Rattle.kt_ninja.specs.views.View.{made_at, statement_names}
use Rattle.kt_ninja.specs.Plan.{made_by}
use Rattle.kt_ninja.specs.Written.{SinkSeen}

module _ {S : Type 0} (seen : S → SinkSeen) (old new : Block S) (found : Option Statement) (s : Statement) (is : found ≡ Some s) where
  pub names_put : (names : Statement → List (List ℕ)) (list : List (List ℕ)) → list ≡ statement_names names found → Puts seen old new (names_text list)
      → Puts seen old new (names_text (names s))
  names_put names list same h = subst (λ (l : List (List ℕ)). Puts seen old new (names_text l)) (same ∙ ap (statement_names names) is) h

  pub marked_put : (mark : List ℕ) (names : Statement → List (List ℕ)) (list : List (List ℕ)) → list ≡ statement_names names found
      → Puts seen old new (marked_text mark list) → Puts seen old new (marked_text mark (names s))
  marked_put mark names list same h = subst (λ (l : List (List ℕ)). Puts seen old new (marked_text mark l)) (same ∙ ap (statement_names names) is) h

  pub rule_name_put : (number : ℕ) (command : Option (List ℕ)) → made_by command ≡ made_at found → Puts seen old new (rule_name_text number (made_by command))
      → Puts seen old new (rule_name_text number s.made)
  rule_name_put number command same h = subst (λ (made : Made). Puts seen old new (rule_name_text number made)) (same ∙ ap made_at is) h

  pub rule_put : (number : ℕ) (command : Option (List ℕ)) → made_by command ≡ made_at found → Puts seen old new (rule_text number (made_by command))
      → Puts seen old new (rule_text number s.made)
  rule_put number command same h = subst (λ (made : Made). Puts seen old new (rule_text number made)) (same ∙ ap made_at is) h

-- ---- the statement at a place, list by list

abbrev pub shown_at : Option Statement → Statement
shown_at found = record {
  outs = statement_names (λ s. s.outs) found;
  made = made_at found;
  inputs = statement_names (λ s. s.inputs) found;
  implicit = statement_names (λ s. s.implicit) found;
  order_only = statement_names (λ s. s.order_only) found;
}

pub shown_there : (found : Option Statement) (s : Statement) → found ≡ Some s → shown_at found ≡ s
shown_there found s is = ap shown_at is
