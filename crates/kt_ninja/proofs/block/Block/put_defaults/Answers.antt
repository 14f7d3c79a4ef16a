use Rattle.std.proofs.Common.{rules, ◌<◌, ℕ, List, length, codes, subst}
use Rattle.kt_ninja.specs.inner.Blocks.{Puts}
use Rattle.kt_ninja.specs.Text.{defaults_text}
use Rattle.kt_ninja.proofs.Putting.{puts_none, puts_then}
use Rattle.kt_ninja.proofs.Marks.{defaults_text-some}
use Rattle.kt_ninja.proofs.block.Block.put_defaults.Goals as goal

pub returns-then-count-gt0 : goal.returns-then-count-gt0
returns-then-count-gt0 g c =
    let names = g.V.Names.NamesView.names c.names-defaults.result in
    let some : 0 < length names = search rules in
    let P : List (List ℕ) → Type 0 = λ l. Puts g.W.Sink.seen c.args.self.now c.put-then-count-gt0.new.self (defaults_text l) in
    subst P c.names-defaults.ensures (rw (defaults_text-some names some) (puts_then (codes "default") _ c.put.ensures
    (puts_then _ _ c.put_names.ensures
    (puts_then (codes "\n") _ c.put-then-count-gt0.ensures (puts_none _)))))
