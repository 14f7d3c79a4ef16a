-- Names that are added to a set and looked up there, as they are borrowed.
use Rattle.std.proofs.Common.{arith, ◌≡◌, Bool, ◌||◌, if◌then◌else◌, List, [], ◌∷◌, ◌++◌, map, refl, ap, ◌∙◌, nat_eq}
use Rattle.kt_recipe.proofs.Common.{list_any, pointwise, map-append, Text, is_among, with_name}
use Rattle.indexmap.specs.IndexSet.{insert_key}
use Rattle.kt_list.specs.declared.key.Key.{Key}

-- whether a name is a key
pub among_keys : (keys : List Key) (name : Text)
    → list_any (λ (key : Key). pointwise nat_eq name key.0.now) keys ≡ is_among (map (λ (key : Key). key.0.now) keys) name
among_keys [] name = refl
among_keys (key ∷ keys) name = ap (λ rest. pointwise nat_eq name key.0.now || rest) (among_keys keys name)

either : (b : Bool) (keys : List Key) (name : Key)
    → map (λ (key : Key). key.0.now) (if b then keys else keys ++ name ∷ [])
    ≡ (if b then map (λ (key : Key). key.0.now) keys else map (λ (key : Key). key.0.now) keys ++ name.0.now ∷ [])
either b keys name = grind (arith, map-append)

-- a name that is inserted is added at the end, unless it is there
pub name_inserted : (keys : List Key) (name : Key)
    → map (λ (key : Key). key.0.now) (insert_key (λ (x y : Key). pointwise nat_eq x.0.now y.0.now) keys name)
    ≡ with_name (map (λ (key : Key). key.0.now) keys) name.0.now
name_inserted keys name =
    either (list_any (λ (key : Key). pointwise nat_eq name.0.now key.0.now) keys) keys name
    ∙ ap (λ b. if b then map (λ (key : Key). key.0.now) keys else map (λ (key : Key). key.0.now) keys ++ name.0.now ∷ []) (among_keys keys name.0.now)
