-- Texts that more was to be put after, where that was cut off.
use Rattle.std.specs.Prelude.{◌≡◌, ◌++◌}
use Rattle.kt_text.specs.Words.{Text}

-- a text has got a prefix of another one more, perhaps none of it or all of it
abbrev pub HasBegun : Text → Text → Text → Type 0
HasBegun whole old new = (more : Text) × (rest : Text) × (new ≡ old ++ more) × (more ++ rest ≡ whole)
