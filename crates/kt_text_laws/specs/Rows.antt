-- Worked values of the definitions, as facts that compute. The texts are those of the GNU make manual's sections on the
-- functions, and of kati's own rules where it has some.
use Rattle.std.specs.Prelude.{◌≡◌, ℕ, [], ◌∷◌, ◌++◌, Some, None, false, codes}
use Rattle.kt_text.specs.declared.line.Line.{Line}
use Rattle.kt_text.specs.Prelude.{words_of}
use Rattle.kt_text.specs.Match.{stem_span}
use Rattle.kt_text.specs.Lines.{logical_lines_of, nul_line, condensed_of}
use Rattle.kt_text.specs.Functions.{subst_of, patsubst_of, findstring_of, sort_of, word_of, wordlist_of, words_count_of, dir_of, basename_of, join_of}

abbrev pub line_between : ℕ → ℕ → ℕ → Line
line_between start end number = record { span = record { start = start; end = end }; number = number; tab = false }

-- words, patterns and lines
pub record RowsOfLines : Type 0 where
  pub words : words_of (codes " a  bc ") ≡ codes "a" ∷ codes "bc" ∷ []
  pub stem : stem_span (codes "%.c") (codes ".c") ≡ Some (0, 0)
  pub odd : logical_lines_of (97 ∷ 92 ∷ 10 ∷ 98 ∷ 10 ∷ 99 ∷ []) ≡ line_between 0 4 1 ∷ line_between 5 6 3 ∷ []
  pub even : logical_lines_of (97 ∷ 92 ∷ 92 ∷ 10 ∷ 98 ∷ []) ≡ line_between 0 3 1 ∷ line_between 4 5 2 ∷ []
  pub nul : nul_line (97 ∷ 10 ∷ 0 ∷ []) ≡ Some 2
  pub condensed : condensed_of (codes "x " ++ (92 ∷ 10 ∷ 92 ∷ 10 ∷ codes "y")) ≡ codes "x y"
  pub continued_end : condensed_of (120 ∷ 92 ∷ 10 ∷ []) ≡ codes "x "

-- text functions
pub record RowsOfFunctions : Type 0 where
  pub empty_subst : subst_of [] (codes "x") (codes "ab") ≡ codes "abx"
  pub subst : subst_of (codes "ee") (codes "EE") (codes "feet on the street") ≡ codes "fEEt on the strEEt"
  pub patsubst : patsubst_of (codes "%.c") (codes "%.o") (codes "x.c.c bar.c") ≡ Some (codes "x.c.o bar.o")
  pub found : findstring_of (codes "a") (codes "b a") ≡ codes "a"
  pub sort : sort_of (codes "b a b") ≡ codes "a b"
  pub word : word_of (codes "0") (codes "a") ≡ None
  pub wordlist : wordlist_of (codes "2") (codes "9") (codes "a b c") ≡ Some (codes "b c")
  pub count : words_count_of (codes "a b  c") ≡ codes "3"
  pub dir : dir_of (codes "a/b c") ≡ codes "a/ ./"
  pub basename : basename_of (codes "a/b.c d.e/f") ≡ codes "a/b d.e/f"
  pub join : join_of (codes "a b") (codes "1 2 3") ≡ codes "a1 b2 3"
