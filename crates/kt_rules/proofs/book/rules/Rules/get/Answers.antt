use Rattle.std.proofs.Common.{◌∙◌, List, None, Some, ap, option_map, rules}
use Rattle.kt_rules.proofs.Common.{entry_view, rule_held, RecipeLine}
use Rattle.kt_rules.proofs.lemmas.book.HeldLemmas.{rule_told}
use Rattle.kt_rules.proofs.book.rules.Rules.get.Goals as goal

pub returns-in_err-row-clause-told : goal.returns-in_err-row-clause-told
returns-in_err-row-clause-told c =
    let held = c.self.inside in
    ap (option_map entry_view) c.from_residual.ensures
    ∙ rule_told c.args.self.now held.dictionary held.lines held.rows.items c.args.place None c.self.view_is c.self.invariant.many (search rules)

pub returns-clause-told : goal.returns-clause-told
returns-clause-told c =
    let held = c.self.inside in
    let row = c.in_ok-row.row in
    ap Some (c.rule_of.ensures.told ∙ ap (λ (lines : List RecipeLine). rule_held held.dictionary lines row.now) c.row_at.ensures)
    ∙ rule_told c.args.self.now held.dictionary held.lines held.rows.items c.args.place (Some row.now) c.self.view_is c.self.invariant.many (search rules)
