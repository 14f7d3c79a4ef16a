-- Words that are put together (kati's own).
use Rattle.std.specs.Prelude.{[], ◌∷◌, ◌++◌}
use Rattle.kt_text.specs.Words.{Text}

-- one more word after a list of words as a text
abbrev pub put_word : Text → Text → Text
put_word list [] = list
put_word [] (byte ∷ word) = byte ∷ word
put_word (first ∷ list) (byte ∷ word) = (first ∷ list) ++ (32 ∷ byte ∷ word)
