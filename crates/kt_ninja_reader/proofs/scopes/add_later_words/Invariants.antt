use Rattle.std.proofs.Common.{◌≡◌, ◌∷◌, ◌++◌, drop}
use Rattle.kt_ninja_reader.proofs.Common.{flat_map, shell_word}
use Rattle.kt_ninja_reader.proofs.scopes.add_later_words.Given as goal

abbrev pub invariant-loop-path : goal.invariant-loop-path
invariant-loop-path l =
    l.text.items ++ flat_map (λ path. l.between ∷ shell_word path) (drop l.path-index l.paths) ≡ l.fn.text.items ++ flat_map (λ path. l.between ∷ shell_word path) l.paths
