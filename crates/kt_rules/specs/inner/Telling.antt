-- The bytes that tell of the names of a rule line (kati's own).
use Rattle.std.specs.Prelude.{◌≡◌, ℕ, Bool, false, ◌==◌, ◌||◌, None}
use Rattle.kt_rules.specs.Prelude.{list_any}
use Rattle.kt_rules.specs.inner.Prelude.{has_percent, HeadNames, is_wildcard, Head, name_refusal, option_list}
use Rattle.kt_rules.specs.declared.line.signs.Signs.{Signs}

abbrev pub is_backslash : ℕ → Bool
is_backslash byte = byte == 92

-- a byte of a file name pattern, a backslash or a closing parenthesis
abbrev pub tells_early : ℕ → Bool
tells_early byte = is_wildcard byte || byte == 92 || byte == 41

-- each refused name has one of these, or a tilde
abbrev pub is_telling : ℕ → Bool
is_telling byte = tells_early byte || byte == 126

-- whether a text of a head has a telling byte, and whether that of its targets has a percent sign
abbrev pub signs_of : Head → Signs
signs_of head = record {
  telling =
      list_any is_telling head.targets
      || (list_any is_telling head.needs || list_any (list_any is_telling) (option_list head.pattern));
  percent = has_percent head.targets;
}

-- without the signs no name of a line is refused, and no target has a percent sign
pub record Tells (signs : Signs) (line : HeadNames) : Type 0 where
  pub names : signs.telling ≡ false → name_refusal line ≡ None
  pub targets : signs.percent ≡ false → list_any has_percent line.targets ≡ false
