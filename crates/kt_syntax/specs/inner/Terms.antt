-- That a text has one splitting into terms (kati's own).
use Rattle.std.specs.Prelude.{◌≡◌, List}
use Rattle.kt_text.specs.Words.{Text}
use Rattle.kt_syntax.specs.Terms.{Term, terms_of}
use Rattle.kt_syntax.specs.views.Terms.{IsSplitting}

-- each text has exactly one splitting, which `terms_of` computes
abbrev pub OneSplitting : (Text → List Term) → Type 0
OneSplitting terms_of = (text : Text) → IsSplitting text (terms_of text)
    × ((pieces : List Term) → IsSplitting text pieces → pieces ≡ terms_of text)
