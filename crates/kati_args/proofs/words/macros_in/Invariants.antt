use Rattle.std.proofs.Common.{◌≡◌, ◌++◌, drop, map}
use Rattle.kati_args.specs.Args.{macros_in}
use Rattle.kati_args.proofs.words.macros_in.Given as goal

abbrev pub invariant-loop-word : goal.invariant-loop-word
invariant-loop-word l = l.macros.items ++ macros_in (map (λ word. word.now) (drop l.word-index l.words)) ≡ macros_in (map (λ word. word.now) l.words)
