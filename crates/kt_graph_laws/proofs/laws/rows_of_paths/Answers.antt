use Rattle.kt_graph.proofs.Common.{refl, components_of, canon_of}
use Rattle.kt_graph_laws.proofs.laws.rows_of_paths.Goals as goal

pub returns : goal.returns
unfolding components_of canon_of
returns c = record { doubled = refl; idle = refl; up = refl; front = refl; root = refl; reserved = refl }
