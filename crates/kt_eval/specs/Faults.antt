-- The line that reports a fault (kati's own).
use Rattle.std.specs.Prelude.{ℕ, ◌++◌, codes, decimal, nat_lt, if◌then◌else◌}
use Rattle.kt_eval.specs.Prelude.{Text, Fault, message_place}

-- a number with at least two digits
abbrev pub two_digits : ℕ → Text
two_digits number = if nat_lt number 10 then codes "0" ++ decimal number else decimal number

-- `FILE:LINE: *** WORDS [Enn]`, with the program's name if there is no place
abbrev pub fault_line : Fault → Text
fault_line fault =
    message_place fault.place ++ (codes ": *** "
    ++ (fault.words ++ (codes " [E" ++ (two_digits fault.number ++ codes "]"))))
