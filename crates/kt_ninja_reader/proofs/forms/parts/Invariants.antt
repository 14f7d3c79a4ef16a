use Rattle.std.proofs.Common.{◌≡◌, ◌++◌, length}
use Rattle.kt_ninja_reader.proofs.Common.{slice_split, is_plain_byte}
use Rattle.kt_ninja_reader.proofs.forms.parts.Given as goal

abbrev pub invariant-loop-part : goal.invariant-loop-part
invariant-loop-part l = l.parts.items ++ slice_split (is_plain_byte l.mark) l.rest ≡ slice_split (is_plain_byte l.mark) l.line

abbrev pub decreases-loop-part : goal.decreases-loop-part
decreases-loop-part l = length l.rest
