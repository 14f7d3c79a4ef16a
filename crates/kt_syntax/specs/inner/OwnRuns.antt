-- Bytes that are their own symbols, and where a run of them ends (kati's own).
use Rattle.std.specs.Prelude.{ℕ, Bool, ◌==◌, ◌||◌}
use Rattle.kt_text.specs.Words.{is_blank}

-- a dollar or a backslash: any other byte outside references is its own symbol
abbrev pub is_mark : ℕ → Bool
is_mark byte = byte == 36 || byte == 92

-- a byte that ends a word, or that a walk over symbols has to look at
abbrev pub ends_own_word : ℕ → Bool
ends_own_word byte = is_blank byte || is_mark byte

abbrev pub begins_operator : ℕ → Bool
begins_operator byte = byte == 61 || byte == 58 || byte == 63 || byte == 43 || byte == 33

-- a byte that may end the name of an assignment
abbrev pub ends_own_name : ℕ → Bool
ends_own_name byte = ends_own_word byte || begins_operator byte
