-- The names that stand in a rule (kati's own).
use Rattle.std.specs.Prelude.{List, ◌++◌, map}
use Rattle.kt_rules.specs.Prelude.{Text, Entry}
use Rattle.kt_rules.specs.Suffixes.{all_needs}

-- the names that stand in a rule: its targets, and what those need that no static pattern gives anything
abbrev pub names_in : Entry → List Text
names_in rule = map (λ target. target.name) rule.targets ++ all_needs rule.needs
