use Rattle.std.proofs.Common.{◌∙◌, ap, List, ℕ, [], Option, codes, unwrap_or}
use Rattle.kati_args.proofs.Common.{found_of, raw_values-rows}
use Rattle.kati_args.proofs.asking.asked.Goals as goal

pub asked_with-requires-clause-words : goal.asked_with-requires-clause-words
asked_with-requires-clause-words c = ap (λ (o : Option (List (List ℕ))). unwrap_or o []) (c.in-Some.ensures ∙ raw_values-rows (found_of c.args.matches.now) (codes "words"))

pub asked_with-requires-in-None-clause-words : goal.asked_with-requires-in-None-clause-words
asked_with-requires-in-None-clause-words c = ap (λ (o : Option (List (List ℕ))). unwrap_or o []) (c.in-None.ensures ∙ raw_values-rows (found_of c.args.matches.now) (codes "words"))
