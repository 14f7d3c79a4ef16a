use Rattle.kt_recipe.proofs.PreparedLemmas.{macro_added}
use Rattle.kt_recipe.proofs.prepared.put_gap.Goals as goal

pub returns : goal.returns
returns c =
    let old = c.args.pieces.now in
    macro_added c.args.subject c.args.form c.in_ok-before.before old (record { alloc = old.alloc; gaps = c.push.new.self; end = c.clear.new.self })
    (rw c.deref.ensures.value at c.in_ok-before.ensures) c.in_ok-push.ensures.items c.clear.ensures.items
