-- Targets and their prerequisites, as their entry has them.
use Rattle.std.proofs.Common.{◌≡◌, false, List, [], ◌∷◌, length, Option, refl, arith}
use Rattle.kt_rules.proofs.Common.{Bor, Text, has_percent, with_stem, length-map, stemmed_names, without_dots, has_no_names, name_put, names_put}

-- the first of some prerequisites, and the others
pub first_put : (stem : Option (Bor Text)) (name : Text) (names : List Text) → names_put stem (name ∷ names) ≡ name_put stem name ∷ names_put stem names
unfolding stemmed_names
first_put stem name names = grind arith

pub none_put : (stem : Option (Bor Text)) → names_put stem [] ≡ []
unfolding stemmed_names
none_put stem = grind arith

-- a stem removes no name
pub empty_put : (stem : Option (Bor Text)) (names : List Text) → has_no_names (names_put stem names) ≡ has_no_names names
unfolding stemmed_names
empty_put stem names = grind arith

-- and adds none
pub count_put : (stem : Option (Bor Text)) (names : List Text) → length (names_put stem names) ≡ length names
unfolding stemmed_names
count_put stem names = grind (arith, length-map)

-- a name without percent sign takes no stem
pub plain_put : (stem name : Text) → has_percent name ≡ false → without_dots name ≡ without_dots (with_stem name stem)
plain_put stem name plain = rw plain refl
