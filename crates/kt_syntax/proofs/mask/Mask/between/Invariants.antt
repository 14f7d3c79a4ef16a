use Rattle.std.proofs.Common.{◌≡◌, drop, take}
use Rattle.kt_syntax.specs.Mask.{mask_of}
use Rattle.kt_syntax.proofs.mask.Mask.between.Given as goal

abbrev pub invariant-loop-place : goal.invariant-loop-place
invariant-loop-place l = l.mask ≡ drop l.place (take l.fn.end (mask_of l.fn.text))
