use Rattle.std.proofs.Common.{◌∙◌, [], List, ℕ, Option, ap, get_or}
use Rattle.kt_rules.proofs.Common.{unwrap_or, unwrap_or-slice_get, Text}
use Rattle.kt_rules.proofs.dictionary.Dictionary.list.Goals as goal

pub returns-in-None-clause-numbers : goal.returns-in-None-clause-numbers
returns-in-None-clause-numbers c =
    ap (λ (found : Option (List ℕ)). unwrap_or found []) c.in-None.ensures.list
    ∙ unwrap_or-slice_get c.self.inside.lists c.args.number []
    ∙ ap (λ (both : List Text × List (List ℕ)). get_or both.1 c.args.number []) c.self.view_is
