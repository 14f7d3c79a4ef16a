-- What reading and expanding know and change: macros, bindings, the rules so far, messages, the names asked for, the
-- place (kati's own).
use Rattle.std.specs.Prelude.{◌-◌, Bool, false, ◌==◌, ◌&&◌, List, [], ◌∷◌, ◌++◌, length, take, Option, Some, None}
use Rattle.std.specs.Prelude.{option_map, unwrap_or, codes, bytes_eq, if◌then◌else◌}
use Rattle.std.specs.List.{list_all, slice_get}
use Rattle.std.specs.Char.{is_ascii_digit}
use Rattle.std.specs.Str.Parse.{digits_value}
use Rattle.kt_text.specs.Words.{Text, is_nonempty}
use Rattle.kt_rules.specs.declared.place.Place.{Place}
use Rattle.kt_rules.specs.Places.{place_text}
use Rattle.kt_rules.specs.Entry.{Entry}
use Rattle.kt_eval.specs.declared.macros.Flavour.TheVariants.{Immediate}
use Rattle.kt_eval.specs.declared.macros.Macro.{Macro}
use Rattle.kt_eval.specs.declared.state.FoundValue.{FoundValue}
use Rattle.kt_eval.specs.declared.state.Frame.{Frame}
use Rattle.kt_eval.specs.declared.state.Frame.TheVariants.{Loop, Call}
use Rattle.kt_eval.specs.files.Files.{Store, look}
use Rattle.kt_eval.specs.macros.Macros.{Macros, find, put}

-- what reading and expanding know and change: the innermost binding is the last one, `automatic` has the automatic
-- macros of a recipe, `book` the rules that are closed, `rule` the open one
pub record World : Type 0 where
  pub table : Macros
  pub automatic : Store
  pub frames : List Frame
  pub said : List Text
  pub asked : List Text
  pub place : Option Place
  pub book : List Entry
  pub rule : Option Entry

-- a name of digits alone
abbrev pub is_digits : Text → Bool
is_digits name = is_nonempty name && list_all is_ascii_digit name

-- a number with a leading zero, which is the name of no argument (kati's own)
abbrev pub is_padded : Text → Bool
is_padded [] = false
is_padded (first ∷ rest) = first == 48 && is_nonempty rest

-- the argument with this number, or an empty text after the last
abbrev pub numbered_argument : Text → List Text → Text
numbered_argument name arguments =
    if is_padded name then [] else unwrap_or (slice_get arguments (digits_value 10 name)) []

-- the value of a name in a binding; a call has one for each name of digits (kati's own)
unfoldable pub seen : Text → Frame → Option Text
seen name (Loop bound word) = if bytes_eq bound name then Some word else None
seen name (Call arguments) = if is_digits name then Some (numbered_argument name arguments) else None

-- the second, unless it is missing
abbrev pub newer : {A : Type 0} → Option A → Option A → Option A
newer found None = found
newer found (Some other) = Some other

-- the value of a name in the innermost binding that has one, or what was found before
unfoldable pub innermost_value : Text → Option Text → List Frame → Option Text
innermost_value name found [] = found
innermost_value name found (frame ∷ frames) = innermost_value name (newer found (seen name frame)) frames

-- a value that isn't expanded again
abbrev pub fixed : Text → FoundValue
fixed value = record { flavour = Immediate; value = value }

-- what is found for the name of this macro: its value, and whether the value is expanded when it is used
abbrev pub found_of : Macro → FoundValue
found_of entry = record { flavour = entry.flavour; value = entry.value }

-- a value that isn't expanded again, or else what was found elsewhere
abbrev pub fixed_or : Option Text → Option FoundValue → Option FoundValue
fixed_or None other = other
fixed_or (Some value) other = Some (fixed value)

-- the value of a name without a binding: an automatic macro comes before the table (GNU make manual, "Automatic
-- Variables")
abbrev pub unbound : Text → Store → Macros → Option FoundValue
unbound name automatic table = fixed_or (look automatic name) (option_map found_of (find name table))

-- the value of a name: bindings from the innermost on, then automatic macros, then the table (kati's own)
unfoldable pub lookup : Text → World → Option FoundValue
lookup name w =
    fixed_or (innermost_value name None w.frames) (unbound name w.automatic w.table)

-- the unexpanded value, or nothing for a name that isn't defined (GNU make manual, "The value Function")
abbrev pub raw_value : Option FoundValue → Text
raw_value None = []
raw_value (Some found) = found.value

-- the place of a message, or the program's name if there is no place (kati's own)
abbrev pub message_place : Option Place → Text
message_place None = codes "kati"
message_place (Some place) = place_text place

-- the world of a recipe: macros and automatic ones, a place, and the messages so far
abbrev pub frozen_world : Macros → Store → Option Place → List Text → World
frozen_world table automatic place said =
    record {
      table = table;
      automatic = automatic;
      frames = [];
      said = said;
      asked = [];
      place = place;
      book = [];
      rule = None;
    }

-- the world with one more binding, which is the innermost then
abbrev pub bind : Frame → World → World
bind frame w = record w { frames = w.frames ++ frame ∷ [] }

-- the world without its innermost binding
abbrev pub unbind : World → World
unbind w = record w { frames = take (length w.frames - 1) w.frames }

-- the world with one more message
abbrev pub say : Text → World → World
say message w = record w { said = w.said ++ message ∷ [] }

-- the world with one more message, which names the current place
abbrev pub warn : Text → World → World
warn message w = say (message_place w.place ++ (codes ": " ++ message)) w

-- the world after one more file name was asked for
abbrev pub ask : Text → World → World
ask name w = record w { asked = w.asked ++ name ∷ [] }

-- the world at this place
abbrev pub move_to : Option Place → World → World
move_to place w = record w { place = place }

-- the world in which this name has this macro
abbrev pub set_macro : Text → Macro → World → World
set_macro name value w = record w { table = put name value w.table }

-- the world with this rule open, or with none
abbrev pub set_rule : Option Entry → World → World
set_rule rule w = record w { rule = rule }
