-- How many groups of physical lines there are.
use Rattle.std.proofs.Common.{◌≡◌, ◌<◌, List, length, arith}
use Rattle.kt_text.proofs.Common.{onto_first, Text}

pub length-onto : (line : Text) (found : List (List Text)) → 0 < length found → length (onto_first line found) ≡ length found
length-onto line found l = grind arith
