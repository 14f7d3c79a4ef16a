use Rattle.std.proofs.Common.{◌≡◌, ◌≤◌, ◌+◌, length, not, take}
use Rattle.kt_syntax.proofs.Common.{prefix_len, is_blank, past_word, mask_of}
use Rattle.kt_syntax.proofs.places.past_masked_word.Given as goal

abbrev pub invariant-loop-symbol : goal.invariant-loop-symbol
invariant-loop-symbol l = record {
  low : l.from ≤ l.place;
  size : l.place + length l.symbol-iterator ≡ l.end;
  value : l.place + prefix_len (λ symbol. not (is_blank symbol)) l.symbol-iterator ≡ past_word l.from (take l.end (mask_of l.text));
}
