use Rattle.kt_ninja_reader_laws.proofs.LayoutLemmas.{layout_law}
use Rattle.kt_ninja_reader_laws.proofs.laws.law_of_layout.Goals as goal

pub returns : goal.returns
returns c = layout_law
