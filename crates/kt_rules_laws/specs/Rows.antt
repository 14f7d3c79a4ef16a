-- Worked values of the definitions, as facts that compute. The lines are those of the GNU make manual's sections on
-- rules, and of kati's own rules where it has some.
use Rattle.std.specs.Prelude.{◌≡◌, List, [], ◌∷◌, ◌++◌, Some, None, Ok, Err, codes}
use Rattle.kt_rules.specs.Prelude.{Text}
use Rattle.kt_rules.specs.Names.{without_dots}
use Rattle.kt_rules.specs.Entry.{empty_line, head_names, stemmed_of}
use Rattle.kt_rules.specs.declared.line.head.Separator.TheVariants.{Single, Double, Grouped}
use Rattle.kt_rules.specs.declared.line.head_names.HeadNames.{HeadNames}
use Rattle.kt_rules.specs.declared.line.head.Separator.{Separator}
use Rattle.kt_rules.specs.Refusals.{missing_separator, refused_name, bad_static_pattern, refused_target, bad_group}

-- a line without static pattern
abbrev pub names_by : Separator → List Text → List Text → List Text → HeadNames
names_by separator targets prerequisites order_only = record {
  separator = separator;
  targets = targets;
  pattern = None;
  needs = record { prerequisites = prerequisites; order_only = order_only };
}

-- lines that are accepted
pub record RowsOfRuleLines : Type 0 where
  pub order_only : head_names (codes "t: x | x y")
      ≡ Ok (names_by Single (codes "t" ∷ []) (codes "x" ∷ []) (codes "x" ∷ codes "y" ∷ []))
  pub double_colon : head_names (codes "a:: b") ≡ Ok (names_by Double (codes "a" ∷ []) (codes "b" ∷ []) [])
  pub group : head_names (codes "b.o a.o &: c") ≡ Ok (names_by Grouped (codes "b.o" ∷ codes "a.o" ∷ []) (codes "c" ∷ [])
      [])
  pub quoted : head_names (codes "a" ++ (92 ∷ codes " b: c" ++ (92 ∷ codes ":d")))
      ≡ Ok (names_by Single (codes "a b" ∷ []) (codes "c:d" ∷ []) [])
  pub repeated : head_names (codes "%.o ./%.o: %.c") ≡ Ok (names_by Single (codes "%.o" ∷ []) (codes "%.c" ∷ []) [])
  pub no_target : head_names (codes ": *.c") ≡ Ok empty_line

-- lines that are refused
pub record RowsOfRefusals : Type 0 where
  pub no_colon : head_names (codes "a") ≡ Err missing_separator
  pub no_pattern : head_names (codes "a ::: b") ≡ Err (bad_static_pattern [])
  pub two_patterns : head_names (codes "a.o: %.o  %.x: b") ≡ Err (bad_static_pattern (codes "%.o  %.x"))
  pub home : head_names (codes "./~x:") ≡ Err (refused_name (codes "~x"))
  pub mixed : head_names (codes ".DEFAULT %.o: x") ≡ Err missing_separator
  pub double_group : head_names (codes "a b &:: c") ≡ Err bad_group
  pub refused_first : head_names (codes ".IGNORE x: %.o: %.c") ≡ Err (refused_target (codes ".IGNORE"))
  pub no_match_first : head_names (codes "x .IGNORE: %.o: %.c") ≡ Err (bad_static_pattern (codes "x"))

-- names
pub record RowsOfNames : Type 0 where
  pub dots : without_dots (codes ".//././/x") ≡ codes "x"
  pub only_dots : without_dots (codes ".//") ≡ codes "./"
  pub stem : stemmed_of (Some (codes "%.o")) (record { prerequisites = codes "%.c" ∷ []; order_only = [] }) (codes
      "x.o")
      ≡ Some (record { stem = codes "x"; needs = record { prerequisites = codes "x.c" ∷ []; order_only = [] } })
