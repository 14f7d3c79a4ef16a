use Rattle.kt_ninja_reader_laws.proofs.ContinuedLemmas.{joined_law}
use Rattle.kt_ninja_reader_laws.proofs.laws.law_of_joined_lines.Goals as goal

pub returns : goal.returns
returns c = joined_law
