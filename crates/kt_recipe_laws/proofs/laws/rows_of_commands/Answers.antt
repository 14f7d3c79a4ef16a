use Rattle.kt_recipe.proofs.Common.{refl}
use Rattle.kt_recipe_laws.proofs.RowLemmas.{making, a_told, blank_told, canned_told, eval_told, first_told, hidden_told, info_told, lines_told, nothing_told, one_told, quotes_told, refusing_shell, second_told, shell_told, telling_shell, two_told, unclosed_told, undefined_told}
use Rattle.kt_recipe_laws.proofs.laws.rows_of_commands.Goals as goal

pub returns : goal.returns
unfolding making
returns c = record {
  quotes = rw quotes_told (rw shell_told refl);
  canned = rw canned_told (rw shell_told (rw shell_told refl));
  marked = rw a_told (rw shell_told refl);
  marked_line = rw lines_told (rw shell_told (rw shell_told refl));
  three_pieces = rw a_told (rw shell_told (rw canned_told (rw shell_told (rw shell_told refl))));
  trailing_blank = rw blank_told (rw shell_told (rw nothing_told refl));
  no_piece = rw undefined_told refl;
  double_colon = rw one_told (rw shell_told (rw two_told (rw shell_told refl)));
  message = rw info_told (rw shell_told refl);
  shell_anew = rw first_told (rw telling_shell (rw second_told (rw telling_shell refl)));
  fault_in_shell = rw a_told (rw refusing_shell refl);
  eval_refused = rw eval_told refl;
  first_fault = rw first_told (rw shell_told (rw unclosed_told refl));
  hidden_table = rw hidden_told (rw shell_told refl);
}
