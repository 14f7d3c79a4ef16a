use Rattle.std.proofs.Common.{[], ◌∷◌, ◌++◌, take, flat_map, sym, ap, ◌∙◌, append_assoc}
use Rattle.kt_text.specs.Words.{Text}
use Rattle.kt_recipe.specs.Quoting.{quoted_byte}
use Rattle.kt_recipe.proofs.QuotingLemmas.{first_quote}
use Rattle.kt_recipe.proofs.quoting.put_between_quotes.Goals as goal

pub loop-at-preserved : goal.loop-at-preserved
loop-at-preserved c =
    let front : Text = c.loop-at.command.items in
    let run : Text = take c.in-Some.at c.loop-at.rest.now in
    let quote : Text = 39 ∷ 92 ∷ 39 ∷ 39 ∷ [] in
    let left : Text = flat_map quoted_byte c.after-rest.result.now in
    ap (λ t. t ++ left) (c.in_ok-extend_from_slice-2.ensures.items ∙ ap (λ t. t ++ quote) c.in_ok-extend_from_slice.ensures.items)
    ∙ append_assoc (front ++ run) quote left ∙ append_assoc front run (quote ++ left)
    ∙ ap (λ t. front ++ t) (rw c.after-rest.ensures (sym (first_quote c.loop-at.rest.now c.in-Some.at c.in-Some.ensures)))
    ∙ c.loop-at.invariant
