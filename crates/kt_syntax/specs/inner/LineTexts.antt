-- Lines and their texts (kati's own).
use Rattle.kt_syntax.specs.inner.Prelude.{Option, None, Some}
use Rattle.kt_syntax.specs.Prelude.{Text}

-- the text that is held beside a line, or the line itself
abbrev pub text_beside : Text → Option Text → Text
text_beside line None = line
text_beside line (Some text) = text
