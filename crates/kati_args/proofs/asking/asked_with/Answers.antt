use Rattle.std.proofs.Common.{◌∙◌, ap, sym, codes, find, option_map, unwrap_or, Option, List, ℕ}
use Rattle.kati_args.proofs.Common.{first_value-rows, found_of, rows_of}
use Rattle.kati_args.specs.Args.{goals_in, is_bad_macro, macros_in, number_in}
use Rattle.kati_args.proofs.Answering.{answers_args, args_are}
use Rattle.kati_args.proofs.asking.asked_with.Goals as goal

pub returns-clause-found : goal.returns-clause-found
returns-clause-found c =
    let found = found_of c.args.matches.now in
    let rows = rows_of found in
    answers_args rows _ (ap (find is_bad_macro) (sym c.requires.words) ∙ sym c.in_default.ensures)
    (args_are rows _
    (c.in_ok-word_of.ensures ∙ c.get_str.ensures ∙ first_value-rows found (codes "makefile"))
    (c.in_ok-word_of-2.ensures ∙ c.get_str-2.ensures ∙ first_value-rows found (codes "files"))
    (c.in_ok-word_of-3.ensures ∙ c.get_str-3.ensures ∙ first_value-rows found (codes "check"))
    (c.limit_of.ensures.value
    ∙ ap (λ (t : Option (List ℕ)). unwrap_or (option_map number_in t) 100) (c.get_str-4.ensures ∙ first_value-rows found (codes "depth")))
    (c.from.ensures ∙ c.in_ok-goals_in.ensures ∙ ap goals_in c.requires.words)
    (c.from-2.ensures ∙ c.in_ok-macros_in.ensures ∙ ap macros_in c.requires.words))
