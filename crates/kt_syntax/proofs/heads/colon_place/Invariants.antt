use Rattle.std.proofs.Common.{◌≡◌, ◌+◌, length, take}
use Rattle.kt_syntax.proofs.Common.{colon_place, mask_of}
use Rattle.kt_syntax.proofs.heads.colon_place.Given as goal

abbrev pub invariant-loop-symbol : goal.invariant-loop-symbol
invariant-loop-symbol l = record {
  size : l.place + length l.symbol-iterator ≡ l.end;
  value : colon_place l.place l.previous l.symbol-iterator ≡ colon_place 0 0 (take l.end (mask_of l.text));
}
