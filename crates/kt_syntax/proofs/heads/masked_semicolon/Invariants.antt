use Rattle.std.proofs.Common.{◌≡◌, ◌+◌, ◌==◌, length}
use Rattle.kt_syntax.proofs.Common.{position_or_len, head_end}
use Rattle.kt_syntax.proofs.heads.masked_semicolon.Given as goal

abbrev pub invariant-loop-symbol : goal.invariant-loop-symbol
invariant-loop-symbol l = record {
  size : l.place + length l.symbol-iterator ≡ l.comment;
  value : l.place + position_or_len (λ symbol. symbol == 59) l.symbol-iterator ≡ head_end l.text;
}
