-- No pieces of an empty text.
use Rattle.std.proofs.Common.{◌≡◌, [], refl, Some}
use Rattle.kt_ninja_reader.proofs.Common.{outside, pieces_from}

pub outside-nil : pieces_from outside [] ≡ Some []
unfolding pieces_from
outside-nil = refl
