use Rattle.std.proofs.Common.{◌∙◌, [], List, Option, ap, unwrap_or}
use Rattle.std.proofs.lemmas.Option.{unwrap_or-slice_get}
use Rattle.kt_list.proofs.rows.Rows.row_at.Goals as goal

pub returns-in-None : goal.returns-in-None
returns-in-None g c =
    ap (λ (row : Option (List g.row.T.Denot)). unwrap_or row []) c.in-None.ensures
    ∙ unwrap_or-slice_get c.args.self.now c.args.place []
