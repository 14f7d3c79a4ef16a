use Rattle.std.proofs.Common.{◌≡◌, drop, map, string_bytes}
use Rattle.kt_eval.specs.files.Files.{look}
use Rattle.kt_eval.proofs.files.memory.find.Given as goal

abbrev pub invariant-loop-other : goal.invariant-loop-other
invariant-loop-other l =
    look (map (λ p. (string_bytes p.0, p.1.items)) (drop l.other-index l.pairs)) l.name ≡ look (map (λ p. (string_bytes p.0, p.1.items)) l.pairs) l.name
