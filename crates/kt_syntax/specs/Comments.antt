-- Texts without their comments (GNU make manual, "What Makefiles Contain"; runs of backslashes before a number sign are
-- kati's own).
use Rattle.std.specs.Prelude.{ℕ, ◌+◌, ◌/◌, ◌%◌, ◌==◌, List, [], ◌∷◌, ◌++◌, replicate, if◌then◌else◌}
use Rattle.kt_syntax.specs.Prelude.{Text, condensed_of, mask_of}

-- a run of this many backslashes
abbrev pub backslashes : ℕ → Text
backslashes run = replicate run 92

-- a text without its comment, with the mask beside it, after a given number of backslashes outside references: of a run
-- of them before a number sign half stay, and an odd run makes the number sign literal
unfoldable pub uncommented : ℕ → List ℕ → Text → Text
uncommented run [] text = backslashes run
uncommented run (symbol ∷ mask) [] = backslashes run
uncommented run (symbol ∷ mask) (byte ∷ text) =
    if symbol == 92 then uncommented (run + 1) mask text
    else (if symbol == 35 then backslashes (run / 2) ++ (if run % 2 == 1 then 35 ∷ uncommented 0 mask text else [])
    else backslashes run ++ byte ∷ uncommented 0 mask text)

-- a text without continuations and without its comment. Its mask takes a backslash, carriage return and newline for a
-- continuation, which makes no difference here: no number sign stands directly after any of them
unfoldable pub uncommented_of : Text → Text
uncommented_of text = uncommented 0 (mask_of text) text

-- the text of a line's part: its continuations are condensed, and then its comment goes (the order is kati's own)
abbrev pub plain_of : Text → Text
plain_of part = uncommented_of (condensed_of part)
