-- The rules of a target, by their numbers (POSIX.1-2024 make, "Target Rules"; GNU make manual, "Rules").
use Rattle.std.specs.Prelude.{◌≡◌, List, map, Some, slice_get}
use Rattle.kt_rules.specs.Prelude.{Text, Entry}
use Rattle.kt_rules.specs.Book.{explicit_rules}
use Rattle.kt_rules.specs.views.Book.{explicit_numbers}

-- the rules at the numbers of a target are its explicit rules, one by one
abbrev pub NumbersTellRules : Type 0
NumbersTellRules = (rules : List Entry) (name : Text)
    → map (λ made. Some made.0) (explicit_rules rules name) ≡ map (slice_get rules) (explicit_numbers rules name)
