-- Lists of names that aren't empty stand after their mark.
use Rattle.std.proofs.Common.{◌≡◌, ◌<◌, ℕ, List, [], ◌∷◌, ◌++◌, length, codes, arith}
use Rattle.kt_ninja.proofs.Common.{concat, defaults_text, marked_text, names_text}

pub marked_text-some : (mark : List ℕ) (names : List (List ℕ)) → 0 < length names → marked_text mark names ≡ mark ++ names_text names
marked_text-some mark names some = grind arith

pub defaults_text-some : (names : List (List ℕ)) → 0 < length names
    → defaults_text names ≡ concat (codes "default" ∷ names_text names ∷ codes "\n" ∷ [])
defaults_text-some names some = grind arith
