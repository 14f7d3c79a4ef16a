-- All texts of a plan can be written, if the names of its graph and its commands can.
use Rattle.std.proofs.Common.{arith, ◌≡◌, ℕ, Bool, true, false, not, ◌&&◌, cond, List, [], ◌∷◌, ◌++◌, flat_map, Option, None, refl, sym, ap, subst, is_some}
use Rattle.kati.proofs.Common.{Contains, list_all, option_and_then, and_from, and_parts, Contains-append_left, Contains-append_right, Text, Entry, is_among, without_repeats, Gave, Macros, HasInput, IsGraph, IsReached, groups_of, Node, all_inputs, inputs_of, order_only_of, all_pass, each_passes, Contains-from_map, Contains-map, kept_by_filter, reached_on, from_without_repeats, Plan, Statement, names_of, HasWritableTexts, is_writable_making, is_name, texts_unobstructed, command_for, has_phony, implicit_of, joined_inputs, joined_order_only, made_by, outs_of, plan_groups, plan_of, statement_of, text_fault, unwritable_in, with_always_built, gave_both, from_flat_map, in_first, in_rest}
use Rattle.kt_ninja_reader.proofs.lemmas.PrintedPieces.{all_both}
use Rattle.kati.specs.inner.plan.Drawn.{GroupSketch, statements_drawn}
use Rattle.kati.proofs.lemmas.plan.PlanLemmas.{law, name_in, statements_in}
use Rattle.kt_graph.proofs.lemmas.nodes.FoundLemmas.{of_node}
use Rattle.kt_graph.proofs.lemmas.nodes.GroupLaw.{in_graph}

implicit_pass : (always : Bool) → list_all is_name (implicit_of always) ≡ true
implicit_pass true = refl
implicit_pass false = refl

-- the names of a group's statement are names of the graph
module _ (rules : List Entry) (known goals : List Text) (nodes : List Node) (graph : IsGraph rules known goals nodes)
    (named : list_all (λ (node : Node). is_name node.name) nodes ≡ true) where
  own_passes : (node : Node) → Contains nodes node → is_name node.name ≡ true
  own_passes node has = each_passes (λ (one : Node). is_name one.name) nodes named node has

  input_passes : (node : Node) (input : Text) → Contains nodes node → Contains (all_inputs node) input → is_name input ≡ true
  input_passes node input has needed =
      let edge : HasInput rules known node.name input
      = subst (λ (one : Node). Contains (all_inputs one) input) (sym (of_node rules known goals nodes graph node has)) needed in
      let reached : IsReached rules known goals input
      = reached_on rules known goals node.name input ((graph.reached node.name).0 (Contains-map name_in nodes node has)) edge in
      let made = Contains-from_map name_in nodes input ((graph.reached input).1 reached) in
      subst (λ (name : Text). is_name name ≡ true) made.2 (own_passes made.0 made.1)

  module _ (group : List Node) (is_group : Contains (groups_of nodes) group) where
    member : (node : Node) → Contains group node → Contains nodes node
    member node has = in_graph rules known goals nodes graph node ((law rules known goals nodes graph).made group node is_group has)

    out_passes : (name : Text) → Contains (outs_of group) name → is_name name ≡ true
    out_passes name has =
        let node = Contains-from_map name_in group name has in
        subst (λ (one : Text). is_name one ≡ true) node.2 (own_passes node.0 (member node.0 node.1))

    needed_passes : (needed : Node → List Text) → ((node : Node) (input : Text) → Contains (needed node) input → Contains (all_inputs node) input)
        → (name : Text) → Contains (without_repeats (flat_map needed group)) name → is_name name ≡ true
    needed_passes needed among name has =
        let from = from_flat_map needed group name (from_without_repeats (flat_map needed group) name has) in
        input_passes from.0 name (member from.0 from.1) (among from.0 name from.2)

    names_pass : (command : Option Text) → list_all is_name (names_of (statement_of rules group command)) ≡ true
    unfolding statement_of
    names_pass command =
        all_both is_name (outs_of group) _ (all_pass is_name (outs_of group) out_passes)
        (all_both is_name (joined_inputs group) _
        (all_pass is_name (joined_inputs group)
        (needed_passes inputs_of (λ node input has. Contains-append_left (inputs_of node) (order_only_of node) input has)))
        (all_both is_name (implicit_of (is_some command && has_phony rules group)) _ (implicit_pass (is_some command && has_phony rules group))
        (all_pass is_name (joined_order_only group) (λ name has.
        needed_passes order_only_of (λ node input has. Contains-append_right (inputs_of node) (order_only_of node) input has) name
        (kept_by_filter (λ one. not (is_among (joined_inputs group) one)) (without_repeats (flat_map order_only_of group)) name has).0))))

-- ---- statements one after another

-- what each statement of a group passes, all statements pass
all_told : (p : Statement → Bool) (rules : List Entry) (table : Macros) (limit : ℕ) (groups : List (List Node)) (before : List Statement) (said heard : List Text)
    (statements : List Statement) → plan_groups rules table limit groups before said ≡ Gave heard statements → list_all p before ≡ true
    → ((group : List Node) (command : Option Text) → Contains groups group → p (statement_of rules group command) ≡ true) → list_all p statements ≡ true
unfolding plan_groups
all_told p rules table limit [] before said heard statements e all each = subst (λ (ss : List Statement). list_all p ss ≡ true) (ap statements_in e) all
all_told p rules table limit (group ∷ groups) before said heard statements e all each =
    let both = gave_both (command_for table limit group said)
    (λ command. plan_groups rules table limit groups (before ++ statement_of rules group command ∷ [])) heard statements e in
    let one = statement_of rules group both.given in
    all_told p rules table limit groups (before ++ one ∷ []) both.middle heard statements both.rest
    (all_both p before (one ∷ []) all (and_from (p one) true (each group both.given (in_first group groups)) refl))
    (λ other command has. each other command (in_rest group other groups has))

-- the commands that are stored for groups are those of their statements
made_pass : (groups : List (List Node)) (drawn : List GroupSketch) → list_all (λ (one : GroupSketch). is_writable_making (made_by one.command)) drawn ≡ true
    → list_all (λ (s : Statement). is_writable_making s.made) (statements_drawn groups drawn) ≡ true
made_pass [] drawn all = refl
made_pass (group ∷ groups) [] all = refl
made_pass (group ∷ groups) (one ∷ drawn) all =
    let parts = and_parts (is_writable_making (made_by one.command)) (list_all (λ (d : GroupSketch). is_writable_making (made_by d.command)) drawn) all in
    and_from (is_writable_making (made_by one.command)) _ parts.0 (made_pass groups drawn parts.1)

abbrev named : Statement → Bool
named s = list_all is_name (names_of s)

abbrev fine : Statement → Bool
fine s = named s && is_writable_making s.made

both_pass : (statements : List Statement) → list_all named statements ≡ true → list_all (λ (s : Statement). is_writable_making s.made) statements ≡ true
    → list_all fine statements ≡ true
both_pass [] names commands = refl
both_pass (s ∷ statements) names commands =
    let first = and_parts (named s) (list_all named statements) names in
    let second = and_parts (is_writable_making s.made) (list_all (λ (one : Statement). is_writable_making one.made) statements) commands in
    and_from (fine s) (list_all fine statements) (and_from (named s) (is_writable_making s.made) first.0 second.0) (both_pass statements first.1 second.1)

-- ---- the plan

first_too : (statements : List Statement) (goals : List Text) → list_all fine statements ≡ true → HasWritableTexts (plan_of statements goals)
unfolding with_always_built
first_too statements goals all = grind (arith, cond)

-- the texts of a plan can be written, if the names of the graph and the commands can
pub plan_texts : (rules : List Entry) (table : Macros) (limit : ℕ) (known goals : List Text) (nodes : List Node) (said heard : List Text)
    (groups : List (List Node)) (drawn : List GroupSketch) → IsGraph rules known goals nodes
    → plan_groups rules table limit (groups_of nodes) [] said ≡ Gave heard (statements_drawn groups drawn)
    → list_all (λ (node : Node). is_name node.name) nodes ≡ true → list_all (λ (one : GroupSketch). is_writable_making (made_by one.command)) drawn ≡ true
    → HasWritableTexts (plan_of (statements_drawn groups drawn) goals)
plan_texts rules table limit known goals nodes said heard groups drawn graph told names commands =
    first_too (statements_drawn groups drawn) goals
    (both_pass (statements_drawn groups drawn)
    (all_told named rules table limit (groups_of nodes) [] said heard (statements_drawn groups drawn) told refl
    (λ group command has. names_pass rules known goals nodes graph names group has command))
    (made_pass groups drawn commands))

-- and then nothing is wrong with them
pub no_fault : (plan : Plan) → HasWritableTexts plan → unwritable_in plan.statements ≡ None
unfolding unwritable_in
no_fault plan texts = ap (option_and_then (text_fault plan.statements)) (texts_unobstructed plan texts)
