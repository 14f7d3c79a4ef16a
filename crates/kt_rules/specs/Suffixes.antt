-- Suffixes, and the pattern rules that suffix rules are (POSIX.1-2024 make, "Inference Rules"; GNU make manual,
-- "Old-Fashioned Suffix Rules").
use Rattle.std.specs.Prelude.{ℕ, Bool, true, false, ◌&&◌, List, [], ◌∷◌, ◌++◌, length, take, drop, fold, find, codes}
use Rattle.std.specs.Prelude.{bytes_eq, Option, Some, option_map, is_some, if◌then◌else◌}
use Rattle.kt_rules.specs.Prelude.{range_with_len, option_map_or, Text, words_of, Kind, SingleColon, Needs, Target}
use Rattle.kt_rules.specs.Prelude.{is_among, with_name, Entry, needs_for}

-- all prerequisites, the order-only ones last
abbrev pub all_needs : Needs → List Text
all_needs needs = needs.prerequisites ++ needs.order_only

-- the prerequisites of a rule's special target with this name, if the rule has that target
abbrev pub special_needs : Text → Entry → Option (List Text)
special_needs special rule =
    option_map (λ target. all_needs (needs_for rule target)) (find
    (λ target. bytes_eq target.name special) rule.targets)

-- the suffixes before any rule is read (kati's own)
unfoldable pub start_suffixes : List Text
start_suffixes = words_of (codes ".o .c .cc .cpp .s .S .y .l .h .sh .a .f")

-- the suffixes with the new names of a `.SUFFIXES` at the end; a `.SUFFIXES` without names removes all
abbrev pub suffixes_with : List Text → List Text → List Text
suffixes_with suffixes [] = []
suffixes_with suffixes (name ∷ names) = fold with_name suffixes (name ∷ names)

-- the suffixes after one more rule
abbrev pub suffixes_after : List Text → Entry → List Text
suffixes_after suffixes rule = option_map_or (suffixes_with suffixes) (special_needs (codes ".SUFFIXES") rule) suffixes

-- the suffixes after all rules
abbrev pub suffixes_of : List Entry → List Text
suffixes_of rules = fold suffixes_after start_suffixes rules

-- whether cutting a name at a place gives two suffixes
abbrev pub is_cut_at : List Text → Text → ℕ → Bool
is_cut_at suffixes name place = is_among suffixes (take place name) && is_among suffixes (drop place name)

-- the first place at which a name is cut into two suffixes
abbrev pub suffix_cut : List Text → Text → Option ℕ
suffix_cut suffixes name = find (is_cut_at suffixes name) (range_with_len 0 (length name))

-- the pattern that is a percent sign alone
abbrev pub percent : Text
percent = 37 ∷ []

-- the pattern of the targets and that of the prerequisite, for a target that is a suffix (`.c`: `%` and `%.c`), or else
-- two suffixes (`.c.o`: `%.o` and `%.c`)
abbrev pub suffix_patterns : List Text → Text → Option (Text × Text)
suffix_patterns suffixes name =
    if is_among suffixes name then Some (percent, percent ++ name)
    else option_map (λ place. (percent ++ drop place name, percent ++ take place name)) (suffix_cut suffixes name)

-- whether a rule has a single colon, and is no group and no pattern rule
abbrev pub is_single : Kind → Bool
is_single SingleColon = true
is_single other = false

-- whether there is no name
abbrev pub has_no_names : List Text → Bool
has_no_names [] = true
has_no_names (name ∷ names) = false

-- whether there are no prerequisites, order-only ones included
abbrev pub needs_nothing : Needs → Bool
needs_nothing needs = has_no_names needs.prerequisites && has_no_names needs.order_only

-- whether a rule has the form of a suffix rule for one of its targets: one colon, a recipe, and no prerequisites
abbrev pub is_bare : Entry × Target → Bool
is_bare made = is_single made.0.kind && (is_some made.0.recipe && needs_nothing (needs_for made.0 made.1))

-- whether a rule is a suffix rule for its target of this name
abbrev pub is_suffix_rule : List Text → Text → Entry × Target → Bool
is_suffix_rule suffixes name made = is_bare made && is_some (suffix_patterns suffixes name)
