-- The map of the code and the table of the definitions.
use Rattle.std.proofs.Common.{◌≡◌, ℕ, Bool, true, false, true≢false, cond, bytes_eq, List, [], ◌∷◌, Option, Some, None, option_map, is_some, Bor, refl, sym, ap, nat_eq, option_copied}
use Rattle.std.specs.Cmp.Lexicographic.{pointwise}
use Rattle.std.specs.Map.{lookup, set_value}
use Rattle.indexmap.specs.IndexMap.{insert_entry}
use Rattle.kt_eval.proofs.Common.{Macro, Macros, find, put}

-- what a reference shows is a copy of what it refers to
pub seen : (r : Option (Bor Macro)) → option_map (λ m. m.now) r ≡ option_copied r
seen None = refl
seen (Some m) = refl

-- the map finds what the table does
pub find_entries : (name : List ℕ) (es : Macros) → lookup (bytes_eq name) es ≡ find name es
unfolding find
find_entries name [] = refl
find_entries name (e ∷ es) = ap (cond (bytes_eq name e.0) (Some e.1)) (find_entries name es)

-- and sets what the table does
pub put_entries : (es : Macros) (k : List ℕ) (v : Macro) → insert_entry (pointwise nat_eq) es k v ≡ put k v es
unfolding put
put_entries [] k v = refl
put_entries (e ∷ es) k v = ap (λ rest. cond (bytes_eq k e.0) ((e.0, v) ∷ es) (e ∷ rest)) (put_entries es k v)

set_cond : (b : Bool) (e : List ℕ × Macro) (es left right : Macros) (v old : Macro) (found : Option Macro)
    → (found ≡ Some old → left ≡ right) → cond b (Some e.1) found ≡ Some old
    → cond b ((e.0, v) ∷ es) (e ∷ left) ≡ cond b ((e.0, v) ∷ es) (e ∷ right)
set_cond true e es left right v old found rest at = refl
set_cond false e es left right v old found rest at = ap (λ l. e ∷ l) (rest at)

-- and so does overwriting the value of a name that is there
pub set_entries : (name : List ℕ) (es : Macros) (v old : Macro) → lookup (bytes_eq name) es ≡ Some old
    → set_value (bytes_eq name) es v ≡ put name v es
unfolding put
set_entries name [] v old at = absurd (true≢false (ap is_some (sym at)))
set_entries name (e ∷ es) v old at = set_cond (bytes_eq name e.0) e es _ _ v old _ (set_entries name es v old) at
