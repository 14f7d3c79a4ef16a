-- What the cuts of a rule line find, as facts about the parts of a text (POSIX.1-2024 make, "Target Rules"). That a
-- backslash quotes only the byte directly after it is kati's own.
use Rattle.std.specs.Prelude.{◌≡◌, ℕ, Bool, true, false, ◌==◌, ◌&&◌, List, [], ◌∷◌, ◌++◌, flat_map, Option, Some, None}
use Rattle.std.specs.List.{list_all}
use Rattle.kt_rules.specs.Prelude.{Text}
use Rattle.kt_rules.specs.Names.{after_dots}
use Rattle.kt_rules.specs.RuleLine.{colon_cut}
use Rattle.kt_rules.specs.views.Cuts.{ends_in_backslash}

-- each colon of a text has a backslash directly before it
abbrev pub HasQuotedColons : Bool → Text → Type 0
HasQuotedColons before text = (front back : Text) → text ≡ front ++ 58 ∷ back → ends_in_backslash before front ≡ true

-- a text is cut at its first colon without a backslash directly before it
pub record IsCutAtColon (before : Bool) (text front back : Text) : Type 0 where
  pub parts : text ≡ front ++ 58 ∷ back
  pub unquoted : ends_in_backslash before front ≡ false
  pub first : HasQuotedColons before front

-- what a cut at the colon found, or that there is no such colon
abbrev pub FindsColon : Bool → Text → Option (Text × Text) → Type 0
FindsColon before text None = HasQuotedColons before text
FindsColon before text (Some cut) = IsCutAtColon before text cut.0 cut.1

-- the cut of a head is at its first colon without a backslash directly before it
abbrev pub CutsAtFirstColon : Type 0
CutsAtFirstColon = (text : Text) → FindsColon false text (colon_cut text)

abbrev pub is_slash : ℕ → Bool
is_slash byte = byte == 47

-- a leading `./` with the slashes after it
abbrev pub dot_slash : Text → Text
dot_slash slashes = 46 ∷ 47 ∷ slashes

abbrev pub begins_with_slash : Text → Bool
begins_with_slash [] = false
begins_with_slash (byte ∷ text) = is_slash byte

abbrev pub begins_with_dot_slash : Text → Bool
begins_with_dot_slash [] = false
begins_with_dot_slash (byte ∷ text) = byte == 46 && begins_with_slash text

abbrev pub is_some_text : List Text → Bool
is_some_text [] = false
is_some_text (text ∷ texts) = true

-- a name consists of its leading `./`, each with all slashes after it, and the rest
pub record IsLeft (name left : Text) : Type 0 where
  pub slashes : List Text
  pub parts : name ≡ flat_map dot_slash slashes ++ left
  pub are_slashes : list_all (list_all is_slash) slashes ≡ true
  pub no_dot_slash : begins_with_dot_slash left ≡ false
  pub no_slash : (is_some_text slashes && begins_with_slash left) ≡ false

-- each leading `./` is removed with all slashes after it, and nothing else is
abbrev pub DropsDots : Type 0
DropsDots = (name : Text) → IsLeft name (after_dots false name)
