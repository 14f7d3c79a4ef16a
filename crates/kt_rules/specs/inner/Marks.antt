-- Names that are marked by number, or by name (kati's own).
use Rattle.std.specs.Prelude.{◌≡◌, ℕ, Bool, false, true, Option, Some, None, List, get_or, length}
use Rattle.kt_rules.specs.inner.Prelude.{AreBelow, place_of}
use Rattle.kt_rules.specs.Prelude.{is_among, Text}
use Rattle.kt_rules.specs.views.Prelude.{BookRule}
use Rattle.kt_rules.specs.declared.book.book_names.Marks.{Marks}
use Rattle.kt_rules.specs.Suffixes.{all_needs}
use Rattle.kt_rules.specs.views.Targets.{entry_view}

-- the mark of a name: at its number, if it has one, or else among the other names
abbrev pub mark_at : Marks → Text → Option ℕ → Bool
mark_at marks name (Some number) = get_or marks.numbers.items number false
mark_at marks name None = is_among marks.others name

-- whether a name is marked
abbrev pub is_marked : List Text → Marks → Text → Bool
is_marked names marks name = mark_at marks name (place_of names name)

-- a rule's names are this many, and its numbers are numbers of them
pub record IsOf (count : ℕ) (rule : BookRule) : Type 0 where
  pub many : count ≡ length rule.names.now
  pub targets : AreBelow (length rule.names.now) rule.targets.now
  pub prerequisites : AreBelow (length rule.names.now) rule.prerequisites.now
  pub order_only : AreBelow (length rule.names.now) rule.order_only.now

-- the prerequisites that all targets of a rule share are marked
abbrev pub HasShared : BookRule → Marks → Type 0
HasShared rule marks = (name : Text) → is_among (all_needs (entry_view rule).needs) name ≡ true
    → is_marked rule.names.now marks name ≡ true
