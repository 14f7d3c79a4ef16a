use Rattle.std.proofs.Common.{◌≡◌, ◌++◌, ◌∷◌, [], false, rules}
use Rattle.std.specs.Result.{is_err}
use Rattle.kati.proofs.lemmas.plan.SketchLemmas.{if_ok, pushed}
use Rattle.kati.proofs.plan.sketch.Sketch.push.Goals as goal

pub returns : goal.returns
returns c =
    let sketch = c.self.inside in
    let ok : is_err c.push_joined.result ≡ false = search rules in
    let adds : c.push_reserved.new.self.items ≡ sketch.always.items ++ c.args.always ∷ [] = search rules in
    pushed sketch.commands c.push_row.new.self sketch.joined c.push_joined.new.rows sketch.always.items c.push_reserved.new.self.items
    c.args.command.now c.args.joined c.args.always c.args.self.now c.self.invariant.0 c.self.invariant.1 c.self.view_is c.in_ok-push_row.ensures.added
    (if_ok c.push_joined.result _ ok c.push_joined.ensures.added) adds
