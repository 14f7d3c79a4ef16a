-- Bytes that end no word, told by one comparison (kati's own).
use Rattle.std.specs.Prelude.{ℕ, Bool, nat_le, not}

-- beyond a space
abbrev pub is_sure : ℕ → Bool
is_sure byte = not (nat_le byte 32)
