use Rattle.kt_ninja_reader_laws.proofs.SpellingLemmas.{piece_law}
use Rattle.kt_ninja_reader_laws.proofs.laws.law_of_pieces.Goals as goal

pub returns : goal.returns
returns c = piece_law
