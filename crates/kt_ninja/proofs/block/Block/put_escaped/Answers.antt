use Rattle.std.proofs.Common.{ℕ, List, [], ◌∷◌, ◌++◌, take, refl, sym, subst, slice_index}
use Rattle.kt_ninja.specs.Text.{escaped}
use Rattle.kt_ninja.specs.inner.Escaping.{is_escaped}
use Rattle.kt_ninja.specs.inner.Blocks.{Puts}
use Rattle.kt_ninja.proofs.Putting.{up_to_more, up_to_all}
use Rattle.kt_ninja.proofs.Escaping.{escaped-first, escaped-none}
use Rattle.kt_ninja.proofs.block.Block.put_escaped.Goals as goal

pub loop-at-preserved : goal.loop-at-preserved
loop-at-preserved g c =
    let test = is_escaped c.args.escapes in
    let rest = c.loop-at.rest.now in
    let special : List ℕ = 36 ∷ slice_index rest c.in-Some.at ∷ [] in
    let left : List ℕ = escaped test c.after-rest.result.now in
    let plain = up_to_more _ (take c.in-Some.at rest) (special ++ left)
    (escaped-first test rest c.in-Some.at c.after-rest.result.now c.in-Some.ensures.first c.after-rest.ensures)
    c.loop-at.invariant c.put.ensures in
    up_to_more _ special left refl plain c.put-in-Some.ensures

pub returns : goal.returns
returns g c =
    let test = is_escaped c.args.escapes in
    let none = escaped-none test c.loop-at.rest.now (c.in_default.ensures.first) in
    let P : List ℕ → Type 0 = λ t. Puts g.W.Sink.seen c.loop-at.self c.put-2.new.self t in
    up_to_all _ c.loop-at.invariant (subst P (sym none) c.put-2.ensures)
