-- The prerequisites that a reader of rule lines remembers (kati's own).
use Rattle.std.specs.Prelude.{◌≡◌, ◌||◌, Bool, false, None, Some, map}
use Rattle.kt_rules.specs.Prelude.{list_any, Text, words_of, Needs}
use Rattle.kt_rules.specs.inner.Prelude.{has_percent, is_colon, Single, is_nil, head_names, tested_line, name_of}
use Rattle.kt_rules.specs.inner.Prelude.{wait_name, without_repeats, written_words}
use Rattle.kt_rules.specs.Prelude.{is_among}
use Rattle.kt_rules.specs.declared.line.reader.LongLine.{LongLine}
use Rattle.kt_rules.specs.RuleLine.{colon_cut, group_targets, needs_of}
use Rattle.kt_rules.specs.inner.Telling.{Tells, is_telling}

-- a text without a colon and without a telling byte
pub record IsPlain (text : Text) : Type 0 where
  pub uncut : list_any is_colon text ≡ false
  pub quiet : list_any is_telling text ≡ false

-- the text is plain, and these are its prerequisites
pub record NamesNeeds (text : Text) (needs : Needs) : Type 0 where
  pub plain : IsPlain text
  pub named : needs ≡ needs_of (written_words text)

-- whether `.WAIT` is a prerequisite
abbrev pub needs_wait : Needs → Bool
needs_wait needs = is_among needs.prerequisites wait_name || is_among needs.order_only wait_name

-- the text is plain, these are its prerequisites, and it is told whether `.WAIT` is one
pub record AreToldOf (text : Text) (needs : Needs) (waits : Bool) : Type 0 where
  pub named : NamesNeeds text needs
  pub told : waits ≡ needs_wait needs

-- reading the text comes down to the tests of the line, of which the signs tell
pub record ReadsAsLong (text : Text) (long : LongLine) : Type 0 where
  pub read : head_names text ≡ tested_line long.line
  pub told : Tells long.signs long.line

-- the text is cut at its first colon into these, and makes no group
pub record IsLongCut (text targets needs : Text) : Type 0 where
  pub filled : is_nil (words_of text) ≡ false
  pub cut : colon_cut text ≡ Some (targets, needs)
  pub ungrouped : group_targets targets ≡ None

-- the line of a text of targets with plain prerequisites
abbrev pub long_line : Text → Needs → LongLine
long_line text needs = record {
  line = record {
    separator = Single;
    targets = without_repeats (map name_of (written_words text));
    pattern = None;
    needs = needs;
  };
  signs = record { telling = list_any is_telling text; percent = has_percent text };
}
