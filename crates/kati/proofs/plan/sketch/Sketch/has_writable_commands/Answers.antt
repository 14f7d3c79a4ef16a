use Rattle.std.proofs.Common.{◌≡◌, List, subst, true}
use Rattle.kati.proofs.Common.{list_all, is_writable_making, made_by}
use Rattle.kati.specs.inner.plan.Drawn.{GroupSketch}
use Rattle.kati.proofs.lemmas.plan.SketchLemmas.{commands_made}
use Rattle.kati.proofs.plan.sketch.Sketch.has_writable_commands.Goals as goal

pub returns : goal.returns
returns c = record {
  quick = λ yes.
      subst (λ (all : List GroupSketch). list_all (λ (drawn : GroupSketch). is_writable_making (made_by drawn.command)) all ≡ true) c.self.view_is
      (commands_made c.self.inside.commands c.self.inside.joined c.self.inside.always.items (c.self.invariant.2 yes));
}
