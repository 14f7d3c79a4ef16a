-- Maps from names, as lists.
use Rattle.std.proofs.Common.{arith, ◌≡◌, ℕ, List, [], ◌∷◌, refl, map, ⊎_elim}
use Rattle.kt_ninja_reader.proofs.Common.{cases_Bool, bytes_eq, find_in, put_in}
use Rattle.std.specs.Map.{lookup}
use Rattle.indexmap.specs.IndexMap.{insert_entry}
use Rattle.kt_list.specs.declared.key.Key.{Key}

pub find_in_entries : {V : Type 0} (entries : List (List ℕ × V)) (name : List ℕ) → find_in entries name ≡ lookup (bytes_eq name) entries
unfolding find_in
find_in_entries [] name = refl
find_in_entries (e ∷ es) name = ⊎_elim (λ h. rw h refl) (λ h. rw h (find_in_entries es name)) (cases_Bool (bytes_eq name e.0))

pub put_in_entries : {V : Type 0} (entries : List (List ℕ × V)) (name : List ℕ) (value : V)
    → insert_entry bytes_eq entries name value ≡ put_in entries name value
unfolding put_in
put_in_entries [] name value = refl
put_in_entries (e ∷ es) name value = grind (arith, ⊎_elim, cases_Bool, put_in_entries es name value)

-- the same where the names are borrowed
pub find_in_borrowed : {V : Type 0} (entries : List (Key × V)) (name : List ℕ)
    → find_in (map (λ e. (e.0.0.now, e.1)) entries) name ≡ lookup (λ k. bytes_eq name k.0.now) entries
unfolding find_in
find_in_borrowed [] name = refl
find_in_borrowed (e ∷ es) name = ⊎_elim (λ h. rw h refl) (λ h. rw h (find_in_borrowed es name)) (cases_Bool (bytes_eq name e.0.0.now))

pub put_in_borrowed : {V : Type 0} (entries : List (Key × V)) (name : Key) (value : V)
    → map (λ e. (e.0.0.now, e.1)) (insert_entry (λ j k. bytes_eq j.0.now k.0.now) entries name value) ≡ put_in (map (λ e. (e.0.0.now, e.1)) entries) name.0.now value
unfolding put_in
put_in_borrowed [] name value = refl
put_in_borrowed (e ∷ es) name value = grind (arith, ⊎_elim, cases_Bool, put_in_borrowed es name value)
