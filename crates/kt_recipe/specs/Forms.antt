-- Names as an automatic macro lists them: whole, or only their directories or their files (GNU make manual,
-- "Automatic Variables").
use Rattle.std.specs.Prelude.{◌-◌, ◌==◌, List, [], ◌∷◌, map, take, if◌then◌else◌}
use Rattle.std.specs.List.{join_with_byte}
use Rattle.kt_text.specs.Words.{Text, list_text}
use Rattle.kt_text.specs.Functions.{name_place, name_part}
use Rattle.kt_recipe.specs.declared.forms.NamePart.{NamePart}
use Rattle.kt_recipe.specs.declared.forms.NamePart.TheVariants.{Whole, Directory, File}

-- the part of a name before its last slash; `.` without a slash, `/` if nothing is before the slash (kati's own)
abbrev pub directory_of : Text → Text
directory_of name =
    if name_place name == 0 then 46 ∷ []
    else (if name_place name == 1 then 47 ∷ [] else take (name_place name - 1) name)

-- the names of a list in a form, joined by spaces; names aren't split at spaces, and an empty part is left out (kati's
-- own)
unfoldable pub names_text_in : NamePart → List Text → Text
names_text_in Whole names = join_with_byte 32 names
names_text_in Directory names = list_text (map directory_of names)
names_text_in File names = list_text (map name_part names)
