-- Answers that no file was found (kati's own).
use Rattle.std.specs.Prelude.{ℕ, List, map, None}
use Rattle.kt_eval.specs.files.Files.{Answer}

-- the answers that no file has one of these names
abbrev pub absent : List (List ℕ) → List Answer
absent names = map (λ name. (name, None)) names
