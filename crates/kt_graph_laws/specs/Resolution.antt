-- What the canonical spelling of a file is, as a law of `canon_of` (POSIX.1-2024, "Pathname Resolution", without
-- looking at any file; that `..` removes a name is kati's own).
use Rattle.std.specs.Prelude.{◌≡◌, ◌⊎◌, ◌==◌, ℕ, zero, Bool, true, false, List, [], ◌∷◌, ◌++◌, All, bytes_eq, replicate}
use Rattle.kt_graph.specs.Prelude.{slice_split, Text}
use Rattle.kt_graph.specs.faults.Paths.{above_name, components_of, is_idle, is_rooted}
use Rattle.kt_graph.specs.Reach.{Reaches}

-- the components of a name as it is written
abbrev pub components : Text → List Text
components name = slice_split (λ byte. byte == 47) name

-- a component that isn't empty, `.` or `..`
pub record IsComponent (part : Text) : Type 0 where
  pub filled : is_idle part ≡ false
  pub plain : bytes_eq part above_name ≡ false

-- what may be removed after other components: an empty one or `.`; a name with the `..` after it; `..` directly under
-- the root
abbrev pub MayGo : Bool → List Text → List Text → Type 0
MayGo rooted front gone =
    ((part : Text) × (gone ≡ part ∷ []) × (is_idle part ≡ true))
    ⊎ (((part : Text) × (gone ≡ part ∷ above_name ∷ []) × IsComponent part)
    ⊎ ((rooted ≡ true) × (front ≡ []) × (gone ≡ above_name ∷ [])))

-- one list of components is another without something that may be removed
pub record Cancels (rooted : Bool) (one other : List Text) : Type 0 where
  pub front : List Text
  pub gone : List Text
  pub back : List Text
  pub may : MayGo rooted front gone
  pub before : one ≡ front ++ (gone ++ back)
  pub after : other ≡ front ++ back

-- nothing more may be removed: `..` is only at the start and never directly under the root, and all others are names
pub record IsReduced (rooted : Bool) (parts : List Text) : Type 0 where
  pub count : ℕ
  pub names : List Text
  pub shape : parts ≡ replicate count above_name ++ names
  pub named : All IsComponent names
  pub under_root : rooted ≡ true → count ≡ zero

-- what remains of components when all that may be removed is
pub record IsResolved (rooted : Bool) (parts resolved : List Text) : Type 0 where
  pub cancelled : Reaches (Cancels rooted) parts resolved
  pub reduced : IsReduced rooted resolved

-- this remains of a name's components, and nothing else can
pub record IsResolution (name : Text) : Type 0 where
  pub resolved : IsResolved (is_rooted name) (components name) (components_of name)
  pub only : (other : List Text) → IsResolved (is_rooted name) (components name) other → other ≡ components_of name
