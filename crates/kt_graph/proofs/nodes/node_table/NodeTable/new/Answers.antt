use Rattle.std.proofs.Common.{arith, ◌≡◌, ℕ, Bool, true, false, ap}
use Rattle.kt_graph.proofs.Common.{and_from, eq-eqb, false≢true, apart_from_distinct, bytes_eq-Decides, Text, Instance as Held, of_group, of_pattern, instance_view}
use Rattle.kt_graph.specs.contracts.nodes.node.InstancePartialEq.TheImpl.{eq-value}
use Rattle.kt_graph.specs.declared.nodes.node.Instance.TheVariants as held
use Rattle.kt_graph.specs.nodes.Node.{Instance}
use Rattle.kt_graph.proofs.lemmas.nodes.GraphLemmas.{makings_apart, names_distinct}
use Rattle.kt_graph.proofs.nodes.node_table.NodeTable.new.Goals as goal

-- the parts of a making
is_grouped : Instance → Bool
is_grouped (of_group first) = true
is_grouped (of_pattern rule directory stem) = false

first_of : Instance → Text
first_of (of_group first) = first
first_of (of_pattern rule directory stem) = stem

directory_of : Instance → Text
directory_of (of_group first) = first
directory_of (of_pattern rule directory stem) = directory

rule_of : Instance → ℕ
rule_of (of_group first) = 0
rule_of (of_pattern rule directory stem) = rule

-- makings with the same parts are equal
told_same : (x y : Held) → instance_view x ≡ instance_view y → eq-value.it x y ≡ true
unfolding is_grouped first_of directory_of rule_of
told_same (held.Group first) (held.Group other) e = (bytes_eq-Decides first.items other.items).1 (ap first_of e)
told_same (held.Group first) (held.Pattern rule directory stem) e = absurd (false≢true (ap is_grouped (Rattle.std.proofs.Common.sym e)))
told_same (held.Pattern rule directory stem) (held.Group first) e = absurd (false≢true (ap is_grouped e))
told_same (held.Pattern rule directory stem) (held.Pattern other beside rest) e = grind (arith, eq-eqb, rule_of, bytes_eq-Decides, directory_of, and_from)

pub invariant_of-result : goal.invariant_of-result
invariant_of-result c = record {
  distinct = names_distinct c.args.names (λ i j d less within. apart_from_distinct _ c.args.names i j d c.len-count.ensures.differ less within);
  apart = makings_apart eq-value.it told_same c.args.instances.keys
      (λ i j d less within. apart_from_distinct eq-value.it c.args.instances.keys i j d c.as_slice-instances.ensures.unique less within);
  numbers = c.requires;
}
