-- The names of a rule line: how they are cut, quoted and spelled, and which are refused (POSIX.1-2024 make, "Target
-- Rules"; GNU make manual, "Using Wildcard Characters in File Names" on quoting).
use Rattle.std.specs.Prelude.{ℕ, suc, ◌+◌, ◌-◌, Bool, true, false, not, ◌==◌, ◌&&◌, ◌||◌, nat_eq, List, [], ◌∷◌}
use Rattle.std.specs.Prelude.{length, take, drop, filter, codes, slice_index, if◌then◌else◌}
use Rattle.std.specs.List.{list_any, onto_first, suffix_len, starts_with, ends_with}
use Rattle.kt_text.specs.Words.{Text, is_nonempty, is_separator, stripped_start}
use Rattle.kt_text.specs.Functions.{quotes_percent}
pub use Rattle.kt_list.specs.Names.{is_among, with_name}
unfoldable pub use Rattle.kt_list.specs.Names.{without_repeats}
use Rattle.kt_rules.specs.declared.line.cutting.Cut.{Cut}
use Rattle.kt_rules.specs.declared.line.cutting.Cut.TheVariants.{Colon, Separator}

-- a byte that a backslash directly before it quotes: a space or a colon (kati's own)
abbrev pub is_quotable : ℕ → Bool
is_quotable byte = byte == 32 || byte == 58

-- the bytes that texts are cut at: colons or separators
abbrev pub is_cut : Cut → ℕ → Bool
is_cut Colon byte = byte == 58
is_cut Separator byte = is_separator byte

-- whether a text is cut at a byte, given whether a backslash is directly before it: no quoted byte cuts
abbrev pub cuts : Cut → Bool → ℕ → Bool
cuts cut after_backslash byte = is_cut cut byte && not (after_backslash && is_quotable byte)

-- the number of bytes before the first cut, or of the whole text without one; a backslash may be directly before the
-- text
unfoldable pub cut_place : Cut → Bool → Text → ℕ
cut_place cut after_backslash [] = 0
cut_place cut after_backslash (byte ∷ text) =
    if cuts cut after_backslash byte then 0 else suc (cut_place cut (byte == 92) text)

-- the pieces of a text that is cut
unfoldable pub cut_pieces : Cut → Bool → Text → List Text
cut_pieces cut after_backslash [] = [] ∷ []
cut_pieces cut after_backslash (byte ∷ text) =
    if cuts cut after_backslash byte then [] ∷ cut_pieces cut false text
    else onto_first byte (cut_pieces cut (byte == 92) text)

-- the words as they are written: the maximal runs without an unquoted separator
unfoldable pub written_words : Text → List Text
written_words text = filter is_nonempty (cut_pieces Separator false text)

-- the number of a text's bytes before the separators at its end, of which the first may be quoted
abbrev pub end_place : Text → ℕ
end_place text =
    let end = length text - suffix_len is_separator text in
    if slice_index text (end - 1) == 92 && slice_index text end == 32 then end + 1 else end

-- a text without the unquoted separators at both ends
unfoldable pub without_outer_separators : Text → Text
without_outer_separators text = take (end_place (stripped_start text)) (stripped_start text)

-- whether a text begins with a byte that a backslash quotes
abbrev pub begins_quotable : Text → Bool
begins_quotable [] = false
begins_quotable (byte ∷ text) = is_quotable byte

-- a text without the backslashes that quote a byte; all other backslashes stay (kati's own)
unfoldable pub unquoted : Text → Text
unquoted [] = []
unquoted (byte ∷ text) = if byte == 92 && begins_quotable text then unquoted text else byte ∷ unquoted text

-- a name without each leading `./` and the slashes after it; `drops_slashes` drops slashes at the start, too
unfoldable pub after_dots : Bool → Text → Text
after_dots drops_slashes [] = []
after_dots drops_slashes (byte ∷ []) = if drops_slashes && byte == 47 then [] else byte ∷ []
after_dots drops_slashes (byte ∷ next ∷ text) =
    if drops_slashes && byte == 47 then after_dots true (next ∷ text)
    else (if byte == 46 && next == 47 then after_dots true text else byte ∷ next ∷ text)

-- a name without its leading `./`; a name that is nothing else is `./` (kati's own; GNU make removes it, too)
unfoldable pub without_dots : Text → Text
without_dots name =
    let left = after_dots false name in
    if length left == 0 && not (length name == 0) then 46 ∷ 47 ∷ [] else left

-- the name that a word spells
unfoldable pub name_of : Text → Text
name_of word = without_dots (unquoted word)

-- a byte of file name patterns (GNU make manual, "Using Wildcard Characters in File Names")
unfoldable pub is_wildcard : ℕ → Bool
is_wildcard byte = byte == 42 || (byte == 63 || byte == 91)

-- `LIBRARY(MEMBER)` (GNU make manual, "Archive Members as Targets")
unfoldable pub is_member : Text → Bool
is_member name = ends_with nat_eq name (41 ∷ []) && list_any (λ byte. byte == 40) (drop 1 name)

-- a name that kati refuses: with a file name pattern, with `\%`, of a home folder, or an archive member
unfoldable pub is_refused_name : Text → Bool
is_refused_name name =
    list_any is_wildcard name || (quotes_percent name || (starts_with nat_eq name (126 ∷ []) || is_member name))

-- a special target that is accepted and does nothing (GNU make manual, "Special Built-in Target Names")
unfoldable pub is_without_effect : Text → Bool
is_without_effect name =
    is_among (codes ".POSIX" ∷ codes ".PRECIOUS" ∷ codes ".SECONDARY" ∷ codes ".INTERMEDIATE" ∷ codes ".SILENT"
    ∷ codes ".DELETE_ON_ERROR" ∷ codes ".NOTPARALLEL" ∷ []) name

-- a special target, which acts by its name (GNU make manual, "Special Built-in Target Names")
unfoldable pub is_special : Text → Bool
is_special name = is_among (codes ".PHONY" ∷ codes ".SUFFIXES" ∷ []) name || is_without_effect name

-- the name that orders prerequisites in GNU make, which kati refuses (GNU make manual, "Parallel Disable")
abbrev pub wait_name : Text
wait_name = codes ".WAIT"

-- a special target that kati refuses (GNU make manual, "Special Built-in Target Names"; "Parallel Disable")
unfoldable pub is_refused_target : Text → Bool
is_refused_target name =
    is_among (codes ".SECONDEXPANSION" ∷ codes ".ONESHELL" ∷ codes ".DEFAULT" ∷ codes ".IGNORE" ∷ wait_name
    ∷ codes ".EXPORT_ALL_VARIABLES" ∷ []) name
