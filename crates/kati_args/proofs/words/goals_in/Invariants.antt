use Rattle.std.proofs.Common.{◌≡◌, ◌++◌, drop, map}
use Rattle.kati_args.specs.Args.{goals_in}
use Rattle.kati_args.proofs.words.goals_in.Given as goal

abbrev pub invariant-loop-word : goal.invariant-loop-word
invariant-loop-word l = l.goals.items ++ goals_in (map (λ word. word.now) (drop l.word-index l.words)) ≡ goals_in (map (λ word. word.now) l.words)
