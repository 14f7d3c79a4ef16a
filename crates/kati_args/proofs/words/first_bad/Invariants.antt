use Rattle.std.proofs.Common.{◌≡◌, drop, map, find}
use Rattle.kati_args.specs.Args.{is_bad_macro}
use Rattle.kati_args.proofs.words.first_bad.Given as goal

abbrev pub invariant-loop-word : goal.invariant-loop-word
invariant-loop-word l = find is_bad_macro (map (λ word. word.now) (drop l.word-index l.words)) ≡ find is_bad_macro (map (λ word. word.now) l.words)
