use Rattle.std.proofs.Common.{◌≡◌, ◌≤◌, ◌+◌, length, take, drop}
use Rattle.kt_syntax.proofs.Common.{name_end, mask_of}
use Rattle.kt_syntax.proofs.kind.masked_name_end.Given as goal

abbrev pub invariant-loop-symbol : goal.invariant-loop-symbol
invariant-loop-symbol l = record {
  low : l.begin ≤ l.place;
  size : l.place + length l.symbol-iterator ≡ l.end;
  value : name_end l.place l.symbol-iterator (drop l.place l.text) ≡ name_end l.begin (drop l.begin (take l.end (mask_of l.text))) (drop l.begin l.text);
}
