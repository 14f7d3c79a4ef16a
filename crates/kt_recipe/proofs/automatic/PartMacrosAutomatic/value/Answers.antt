use Rattle.std.proofs.Common.{◌≡◌, IfOk, option_map, sym, subst, ◌∙◌}
use Rattle.kt_recipe.proofs.Common.{IfOk-weaker, cow_slice_items, look, PartMacros, automatic_in}
use Rattle.kt_recipe.proofs.AskingLemmas.{found_by_name}
use Rattle.kt_recipe.proofs.automatic.PartMacrosAutomatic.value.Goals as goal

pub returns : goal.returns
returns c =
    let inside = c.self.inside in
    subst (λ (s : PartMacros). IfOk c.macro_in.result (λ found. option_map cow_slice_items found ≡ look (automatic_in s.node s.part) c.args.name.now))
    c.self.view_is
    (IfOk-weaker c.macro_in.result _ _ (λ found is. is ∙ sym (found_by_name inside.node.now inside.part c.args.name.now)) c.macro_in.ensures)
