use Rattle.std.proofs.Common.{◌∙◌, ap, option_map, refl, sym}
use Rattle.kt_graph.specs.inner.nodes.Reached.{reached_text}
use Rattle.kt_graph.proofs.lemmas.nodes.BuilderLemmas.{all_done, begun, built_more, none_left, told_none}
use Rattle.kt_graph.proofs.nodes.graph_builder.GraphBuilder.build_all.Goals as goal

pub loop-rules-init : goal.loop-rules-init
loop-rules-init c =
    let self = c.args.self.now in
    record {
      over = c.requires.over;
      book = refl;
      known_names = refl;
      told = told_none self c.requires.none;
      right = λ goals b. begun self.book.now self.known.now goals self.numbers self.nodes b.names b.nodes;
    }

pub loop-rules-preserved : goal.loop-rules-preserved
loop-rules-preserved c =
    built_more c.args.self.now c.loop-rules.self c.build.new.self (reached_text c.in-Some.name) c.loop-rules.invariant
    (sym c.in_ok-name.ensures.next ∙ ap (option_map reached_text) c.in-Some.is) c.in_ok-build.ensures

pub loop-rules-preserved-in_ok-build : goal.loop-rules-preserved-in_ok-build
loop-rules-preserved-in_ok-build c =
    built_more c.args.self.now c.loop-rules.self c.build.new.self (reached_text c.in-Some.name) c.loop-rules.invariant
    (sym c.in_ok-name.ensures.next ∙ ap (option_map reached_text) c.in-Some.is) c.in_ok-build.ensures

pub loop-rules-preserved-in_ok-build-2 : goal.loop-rules-preserved-in_ok-build-2
loop-rules-preserved-in_ok-build-2 c =
    built_more c.args.self.now c.loop-rules.self c.build.new.self (reached_text c.in-Some.name) c.loop-rules.invariant
    (sym c.in_ok-name.ensures.next ∙ ap (option_map reached_text) c.in-Some.is) c.in_ok-build.ensures

pub returns : goal.returns
returns c = λ goals b.
    let self = c.loop-rules.self in
    all_done c.args.self.now.book.now c.args.self.now.known.now goals self.numbers self.instances.keys self.nodes
    (rw (c.loop-rules.invariant.book, c.loop-rules.invariant.known_names) at c.loop-rules.invariant.told.told) (c.loop-rules.invariant.right goals b) (none_left _ _ c.in_default.not-Some c.in_ok-name.ensures.next)
