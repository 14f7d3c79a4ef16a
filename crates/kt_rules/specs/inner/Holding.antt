-- The prerequisites of an entry, which others may hold, too (kati's own).
use Rattle.kt_rules.specs.declared.line.entry.Needs.{Needs}
use Rattle.kt_rules.specs.declared.line.held_needs.NeedsStorage.{NeedsStorage}
use Rattle.kt_rules.specs.declared.line.held_needs.NeedsStorage.TheVariants.{Own, Shared}

-- those that the entry alone holds, or those that several do
abbrev pub needs_in : NeedsStorage → Needs
needs_in (Own needs) = needs
needs_in (Shared needs) = needs.value.1
