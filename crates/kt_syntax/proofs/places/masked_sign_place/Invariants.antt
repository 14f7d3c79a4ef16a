use Rattle.std.proofs.Common.{◌≡◌, ◌+◌, length}
use Rattle.kt_syntax.specs.Kinds.{before_comment, comment_place}
use Rattle.kt_syntax.proofs.places.masked_sign_place.Given as goal

abbrev pub invariant-loop-symbol : goal.invariant-loop-symbol
invariant-loop-symbol l = record {
  size : l.place + length l.symbol-iterator ≡ length l.text;
  value : l.place + before_comment l.odd l.symbol-iterator ≡ comment_place l.text;
}
