-- A component `..` that stays.
use Rattle.std.proofs.Common.{◌≡◌, Bool, false, not, List, ◌∷◌, arith}
use Rattle.kt_graph.proofs.Common.{bytes_eq, false≢true, Text, above_name, step_up}

pub above_stays : (rooted : Bool) (last : Text) (parts : List Text) → not (bytes_eq last above_name) ≡ false → step_up rooted (last ∷ parts) ≡ above_name ∷ last ∷ parts
above_stays rooted last parts h = grind (arith, false≢true)
