-- Logical lines as they are held (kati's own).
use Rattle.std.specs.Prelude.{ℕ, true, false, nat_lt, if◌then◌else◌}
use Rattle.kt_text.specs.declared.line.Line.{Line}

-- the line of two places and a number: one that begins with a tab has its end first
abbrev pub marked_line : ℕ → ℕ → ℕ → Line
marked_line first second number =
    if nat_lt second first
    then record { span = record { start = second; end = first }; number = number; tab = true }
    else record { span = record { start = first; end = second }; number = number; tab = false }
