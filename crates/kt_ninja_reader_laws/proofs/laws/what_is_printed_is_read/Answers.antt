use Rattle.kt_ninja_reader.proofs.lemmas.PrintThenRead.{printed_is_read}
use Rattle.kt_ninja_reader_laws.proofs.laws.what_is_printed_is_read.Goals as goal

pub returns : goal.returns
returns c = printed_is_read
