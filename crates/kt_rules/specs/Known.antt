-- The names that rules make known: those of explicit rules, and the phony ones (kati's own).
use Rattle.std.specs.Prelude.{List, [], ◌∷◌, ◌++◌, flat_map, if◌then◌else◌}
use Rattle.kt_rules.specs.Prelude.{Text, Target, Entry, needs_for}
use Rattle.kt_rules.specs.Suffixes.{all_needs}
use Rattle.kt_rules.specs.Book.{is_explicit, phony_of}

-- a target of an explicit rule, and all its prerequisites
abbrev pub named_with : List Text → Entry → Target → List Text
named_with suffixes rule target =
    if is_explicit suffixes (rule, target) then target.name ∷ all_needs (needs_for rule target) else []

-- the names that one rule mentions: those of explicit rules, and the phony ones
abbrev pub named_by : List Text → Entry → List Text
named_by suffixes rule = flat_map (named_with suffixes rule) rule.targets ++ phony_of rule
