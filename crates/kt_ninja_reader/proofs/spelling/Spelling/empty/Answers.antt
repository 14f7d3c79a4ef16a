use Rattle.kt_ninja_reader.proofs.lemmas.SpelledParts.{nothing_in, spelled_nil}
use Rattle.kt_ninja_reader.proofs.spelling.Spelling.empty.Goals as goal

pub invariant_of-result : goal.invariant_of-result
invariant_of-result c = spelled_nil

pub returns : goal.returns
returns c = nothing_in
