-- The expanded head of a rule line: its parts, the tests that refuse it, and their order (POSIX.1-2024 make, "Target
-- Rules"; GNU make manual, "Rule Syntax", "Double-Colon Rules", "Multiple Targets in a Rule", "Syntax of Static Pattern
-- Rules"). The order of the tests is kati's own.
use Rattle.std.specs.Prelude.{◌+◌, ◌-◌, Bool, true, false, not, ◌==◌, ◌&&◌, ◌||◌, nat_eq, List, [], ◌∷◌, ◌++◌, length}
use Rattle.std.specs.Prelude.{take, drop, map, find, Option, Some, None, option_map, is_some, Result, Ok, Err}
use Rattle.std.specs.Prelude.{if◌then◌else◌}
use Rattle.std.specs.List.{list_all, list_any, starts_with, ends_with, before_first, after_first}
use Rattle.std.specs.Option.{option_or}
use Rattle.std.specs.Cmp.Lexicographic.{pointwise}
use Rattle.kt_text.specs.Words.{Text}
use Rattle.kt_text.specs.Match.{has_percent, stem_span}
use Rattle.kt_rules.specs.declared.line.head.Separator.{Separator}
use Rattle.kt_rules.specs.declared.line.head.Separator.TheVariants.{Single, Double, Grouped}
use Rattle.kt_rules.specs.declared.line.head_names.HeadNames.{HeadNames}
use Rattle.kt_rules.specs.declared.line.entry.Needs.{Needs}
use Rattle.kt_rules.specs.Refusals.{Refusal, missing_separator, refused_name, bad_static_pattern, refused_target}
use Rattle.kt_rules.specs.Refusals.{bad_group}
use Rattle.kt_rules.specs.declared.line.cutting.Cut.TheVariants.{Colon}
use Rattle.kt_rules.specs.Names.{cut_place, written_words, without_outer_separators, name_of, without_repeats, is_among}
use Rattle.kt_rules.specs.Names.{is_refused_name, is_without_effect, is_special, is_refused_target, wait_name}

-- the parts of a head, as they are written
pub record Head : Type 0 where
  pub separator : Separator
  pub targets : Text
  -- the target pattern of a static pattern rule
  pub pattern : Option Text
  pub needs : Text

-- the text before the first unquoted colon and the text after it (POSIX.1-2024 make, "Target Rules")
unfoldable pub colon_cut : Text → Option (Text × Text)
colon_cut text =
    let place = cut_place Colon false text in
    if place == length text then None else Some (take place text, drop (place + 1) text)

-- the target pattern of a static pattern rule: the only word of its part, with a percent sign
abbrev pub pattern_word : List Text → Option Text
pattern_word [] = None
pattern_word (word ∷ []) = if has_percent word then Some word else None
pattern_word (word ∷ next ∷ words) = None

-- the head with its target pattern, or the refusal of that part if it isn't one
abbrev pub with_pattern : Separator → Text → Text → Text → Option Text → Result Head Refusal
with_pattern separator targets part needs None = Err (bad_static_pattern (without_outer_separators part))
with_pattern separator targets part needs (Some word) =
    Ok (record { separator = separator; targets = targets; pattern = Some word; needs = needs })

-- the head, from the text after the separator: with one more unquoted colon it is a static pattern rule
abbrev pub head_after : Separator → Text → Text → Option (Text × Text) → Result Head Refusal
head_after separator targets needs None = Ok (record {
  separator = separator;
  targets = targets;
  pattern = None;
  needs = needs;
})
head_after separator targets rest (Some cut) =
    if is_some (colon_cut cut.1) then Err missing_separator
    else with_pattern separator targets cut.0 cut.1 (pattern_word (written_words cut.0))

-- a group's head, in which no further colon is allowed
abbrev pub group_head : Text → Text → Result Head Refusal
group_head targets rest =
    if is_some (colon_cut rest) then Err bad_group
    else Ok (record { separator = Grouped; targets = targets; pattern = None; needs = rest })

-- the targets of a group: the text before an `&` directly before the separator
unfoldable pub group_targets : Text → Option Text
group_targets before = if ends_with nat_eq before (38 ∷ []) then Some (take (length before - 1) before) else None

-- the text after a double colon, whose second colon is directly after the first
unfoldable pub after_double : Text → Option Text
after_double after = if starts_with nat_eq after (58 ∷ []) then Some (drop 1 after) else None

-- the head, from the text before the separator and after its first colon; a group has no double colon
abbrev pub head_by : Text → Text → Option Text → Option Text → Result Head Refusal
head_by before after None None = head_after Single before after (colon_cut after)
head_by before after None (Some rest) = head_after Double before rest (colon_cut rest)
head_by before after (Some targets) None = group_head targets after
head_by before after (Some targets) (Some rest) = Err bad_group

-- the head, from the text before its first colon and after it
abbrev pub head_round : Text → Text → Result Head Refusal
head_round before after = head_by before after (group_targets before) (after_double after)

-- the head, by the cut at its first colon, if there is one
abbrev pub head_cut : Option (Text × Text) → Result Head Refusal
head_cut None = Err missing_separator
head_cut (Some cut) = head_round cut.0 cut.1

-- the parts of a head, or why it is refused
unfoldable pub head_of : Text → Result Head Refusal
head_of text = head_cut (colon_cut text)

-- the word after which prerequisites are order-only (GNU make manual, "Types of Prerequisites")
unfoldable pub is_bar : Text → Bool
is_bar word = pointwise nat_eq word (124 ∷ [])

-- the names of the words of prerequisites
unfoldable pub needs_of : List Text → Needs
needs_of words = record {
  prerequisites = map name_of (before_first is_bar words);
  order_only = map name_of (after_first is_bar words);
}

-- the names of a head
abbrev pub line_of : Head → HeadNames
line_of head = record {
  separator = head.separator;
  targets = without_repeats (map name_of (written_words head.targets));
  pattern = option_map name_of head.pattern;
  needs = needs_of (written_words head.needs);
}

-- the prerequisites that are tested: none if no target has an effect
unfoldable pub tested_needs : HeadNames → List Text
tested_needs line = if list_all is_without_effect line.targets then [] else line.needs.prerequisites
    ++ line.needs.order_only

-- an optional text as a list
abbrev pub option_list : Option Text → List Text
option_list None = []
option_list (Some text) = text ∷ []

-- the first name that is refused: of the targets, the static pattern, the prerequisites
unfoldable pub name_refusal : HeadNames → Option Text
name_refusal line = find is_refused_name (line.targets ++ (option_list line.pattern ++ tested_needs line))

-- a target with a percent sign in a static pattern rule, or beside a target without one
unfoldable pub mixes_patterns : HeadNames → Bool
mixes_patterns line =
    list_any has_percent line.targets && (is_some line.pattern || not (list_all has_percent line.targets))

-- whether the separator makes a group
abbrev pub makes_group : Separator → Bool
makes_group Single = false
makes_group Double = false
makes_group Grouped = true

-- a group with a target that is special or has a percent sign
unfoldable pub is_bad_group : HeadNames → Bool
is_bad_group line =
    makes_group line.separator && list_any (λ target. is_special target || has_percent target) line.targets

-- whether the static pattern, if there is one, matches a target
abbrev pub fits : Option Text → Text → Bool
fits None target = true
fits (Some pattern) target = is_some (stem_span pattern target)

-- why one target is refused, if it is
unfoldable pub target_refusal : Option Text → Text → Option Refusal
target_refusal pattern target =
    if is_refused_target target then Some (refused_target target)
    else (if fits pattern target then None else Some (bad_static_pattern target))

-- the first refusal in a list
unfoldable pub first_refusal : List (Option Refusal) → Option Refusal
first_refusal [] = None
first_refusal (refusal ∷ refusals) = option_or refusal (first_refusal refusals)

-- the refusal, if a test says that there is one
abbrev pub refused_if : Bool → Refusal → Option Refusal
refused_if is_refused refusal = if is_refused then Some refusal else None

-- why the names of a line are refused: the refusal of the first test that fails
unfoldable pub line_refusal : HeadNames → Option Refusal
line_refusal line =
    first_refusal (
    option_map refused_name (name_refusal line)
    ∷ refused_if (mixes_patterns line) missing_separator
    ∷ refused_if (is_bad_group line) bad_group
    ∷ first_refusal (map (target_refusal line.pattern) line.targets)
    ∷ refused_if (is_among (tested_needs line) wait_name) (refused_target wait_name)
    ∷ [])
