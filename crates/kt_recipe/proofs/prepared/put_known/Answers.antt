use Rattle.std.proofs.Common.{refl}
use Rattle.kt_recipe.proofs.PreparedLemmas.{text_added}
use Rattle.kt_recipe.proofs.prepared.put_known.Goals as goal

pub returns : goal.returns
returns c =
    let old = c.args.pieces.now in
    text_added c.args.bytes.now old (record { alloc = old.alloc; gaps = old.gaps; end = c.extend_from_slice.new.self }) refl
    c.in_ok-extend_from_slice.ensures.items
