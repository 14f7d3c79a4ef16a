-- The node of a target that needs what the one before does.
use Rattle.std.proofs.Common.{rules, ◌≡◌, ℕ, zero, suc, Bool, true, false, ◌||◌, ◌-◌, List, [], ◌∷◌, ◌++◌, length, map, fold, take, Option, Some, slice_get, nat_eq, refl, sym, ap, subst, ◌∙◌, arith}
use Rattle.kt_graph.proofs.Common.{list_any, pointwise, append-nil, fold-append, none-some, same_Some, bytes_eq-Decides, head_is, Needs, Target, explicit_rules, has_recipe, is_double, rule_needs, Entry, needs_for, is_among, with_name, all_needs, suffixes_of, Text, GraphBuilder, Explicit, AreTold, BuildsNode, IsLeafOf, IsLikeLast, HasLastNeeds, sole_node, part_with, IsMaking, SayParts, SaysNeeds, SaysNode, SaysPart, AreNumbersOf, HasOnePart, StoredNode, StoredPart, node_like, part_like, stored_at, Node, Part, group_of, joined_needs, needs_after, node_of, node_with, other_rules, own_part, part_of}
use Rattle.std.proofs.Math.Bool.{or-true}
use Rattle.kt_rules.specs.declared.line.entry.Kind.{Kind}
use Rattle.kt_graph.specs.declared.nodes.part.PartRecipe.{PartRecipe}
use Rattle.kt_graph.specs.nodes.Node.{Instance}
use Rattle.kt_graph.proofs.lemmas.nodes.BuildingLemmas.{joined_first, joined_own, last_cut}
use Rattle.kt_graph.proofs.lemmas.nodes.StepLemmas.{leaf_kept, node_is, single_with}
use Rattle.kt_graph.proofs.lemmas.nodes.StoredLemmas.{stored_there}

-- ---- names that are reached

among : (names : List Text) (number : ℕ) (name : Text) → slice_get names number ≡ Some name → is_among names name ≡ true
among [] number name at = absurd (none-some name at)
among (first ∷ names) zero name at = ap (λ b. b || is_among names name) ((bytes_eq-Decides name first).1 (sym (same_Some first name at)))
among (first ∷ names) (suc number) name at = ap (λ b. pointwise nat_eq name first || b) (among names number name at) ∙ or-true (pointwise nat_eq name first)

stand_reached : (names expected : List Text) (numbers : List ℕ) → AreNumbersOf names numbers expected → fold with_name names expected ≡ names
stand_reached names [] numbers h = refl
stand_reached names (name ∷ expected) [] h = cc
stand_reached names (name ∷ expected) (number ∷ numbers) h =
    let first : slice_get names number ≡ Some name = cc in
    let rest : AreNumbersOf names numbers expected = cc in
    let same : with_name names name ≡ names = rw (among names number name first) refl in
    ap (λ (l : List Text). fold with_name l expected) same ∙ stand_reached names expected numbers rest

needs_reached : (names : List Text) (needs : Needs) (first second : List ℕ) → SaysNeeds names needs first second
    → fold with_name names (all_needs needs ++ []) ≡ names
needs_reached names needs first second h =
    ap (fold with_name names) (append-nil (all_needs needs))
    ∙ fold-append with_name names needs.prerequisites needs.order_only
    ∙ ap (λ (l : List Text). fold with_name l needs.order_only) (stand_reached names needs.prerequisites first h.prerequisites)
    ∙ stand_reached names needs.order_only second h.order_only

-- ---- one rule with a recipe

abbrev node_given : List Text → Text → Entry × Target → Needs → Node
node_given suffixes name made needs =
    record { name = name; kind = Explicit; parts = part_of suffixes made needs ∷ []; made_with = group_of made.0 }

pub sole_is : (rules : List Entry) (known : List Text) (name : Text) (made : Entry × Target) → has_recipe made ≡ true → is_double made.0.kind ≡ false
    → node_with rules known name (made ∷ []) ≡ sole_node (suffixes_of rules) name made
sole_is rules known name made recipe single =
    let cut = last_cut has_recipe [] made [] recipe refl in
    let none : list_any (λ (rule : Entry × Target). is_double rule.0.kind) (made ∷ []) ≡ false = rw single refl in
    let own = needs_for made.0 made.1 in
    let others : other_rules (made ∷ []) ≡ [] = rw (cut.1, cut.2) refl in
    sym (single_with rules known name (made ∷ []) (Some made) none cut.0)
    ∙ ap (λ (rs : List (Entry × Target)). node_given (suffixes_of rules) name made (needs_after own (joined_needs rs))) others
    ∙ ap (node_given (suffixes_of rules) name made) (sym (joined_first own []) ∙ joined_own own)

one_alike : (made : Entry × Target) (others : List (Entry × Target)) → map rule_needs (made ∷ []) ≡ map rule_needs others
    → (other : Entry × Target) × (others ≡ other ∷ []) × (rule_needs made ≡ rule_needs other)
one_alike made [] e = cc
one_alike made (other ∷ []) e = (other, refl, head_is (rule_needs made) (rule_needs other) [] [] e)
one_alike made (other ∷ more ∷ rest) e = cc

one_part : (names : List Text) (name : Text) (expected : Part) (parts : List StoredPart) → SayParts names name (expected ∷ []) parts
    → (part : StoredPart) × (parts ≡ part ∷ []) × SaysPart names name expected part
one_part names name expected parts h = grind arith

-- what the last node needs, the next one does
pub last_needs : (builder : GraphBuilder) (name : Text) (made : Entry × Target) → AreTold builder → IsLikeLast builder name made
    → made ∷ [] ≡ explicit_rules builder.book.now name → HasLastNeeds builder (needs_for made.0 made.1)
last_needs builder name made told like rules =
    let book = builder.book.now in
    let known = builder.known.now in
    let place = like.needs.last in
    let other = like.needs.same.other in
    let found = one_alike made (explicit_rules book other) (ap (map rule_needs) rules ∙ like.needs.same.alike) in
    let one = found.0 in
    let recipe : has_recipe one ≡ true = sym (ap (λ (t : Kind × (Bool × Needs)). t.1.0) found.2) ∙ like.recipe in
    let single : is_double one.0.kind ≡ false = sym (ap (λ (t : Kind × (Bool × Needs)). is_double t.0) found.2) ∙ like.single in
    let node : node_of book known other ≡ sole_node (suffixes_of book) other one =
    sym (node_is book known other (explicit_rules book other) refl) ∙ ap (node_with book known other) found.1 ∙ sole_is book known other one recipe single in
    let last = stored_at builder.nodes place in
    let before : length builder.nodes - 1 ≡ place = omega (arith, like.needs.next) in
    let says : SaysNode builder.numbers builder.instances.keys (sole_node (suffixes_of book) other one) last =
    subst (λ (n : Node). SaysNode builder.numbers builder.instances.keys n last) node
    (told.told place other last like.needs.same.at (stored_there builder.nodes place (omega (arith, like.needs.next)))) in
    let part = one_part builder.numbers other (own_part (suffixes_of book) one) last.parts says.parts in
    record {
      last = last;
      there = ap (stored_at builder.nodes) before;
      part = part.0;
      alone = part.1;
      says = subst (λ (n : Needs). SaysNeeds builder.numbers n part.0.prerequisites part.0.order_only)
          (sym (ap (λ (t : Kind × (Bool × Needs)). t.1.1) found.2)) part.2.needs;
      inputs = says.inputs;
      order_only = says.order_only;
    }

-- so it has one part, also where other things were added
pub last_alone : (old : GraphBuilder) (nodes : List StoredNode) (needs : Needs) → nodes ≡ old.nodes → HasLastNeeds old needs
    → HasOnePart nodes (length old.nodes - 1)
last_alone old nodes needs same last = rw (same, last.there, last.alone) refl

-- it is stored as the last one
pub holds_like : (old middle : GraphBuilder) (nodes : List StoredNode) (suffixes : List Text) (name : Text) (made : Entry × Target) (part : PartRecipe) (making : Option Instance)
    (made_with : Option ℕ) → middle ≡ record old { instances = middle.instances } → take (length old.instances.keys) middle.instances.keys ≡ old.instances.keys
    → IsMaking middle.instances.keys making made_with → making ≡ group_of made.0
    → ((needs : Needs) → part_with name part needs ≡ part_of suffixes made needs) → HasLastNeeds old (needs_for made.0 made.1)
    → nodes ≡ middle.nodes ++ node_like Explicit made_with part (stored_at middle.nodes (length old.nodes - 1)) ∷ []
    → BuildsNode old (sole_node suffixes name made) (record middle { nodes = nodes })
holds_like old middle nodes suffixes name made part making made_with others kept is made_is part_is needs pushed =
    let own = needs_for made.0 made.1 in
    let one = part_is own in
    let node = node_like Explicit made_with part needs.last in
    let numbers : middle.numbers ≡ old.numbers = ap (λ (s : GraphBuilder). s.numbers) others in
    let there : stored_at middle.nodes (length old.nodes - 1) ≡ needs.last =
    ap (λ (s : GraphBuilder). stored_at s.nodes (length old.nodes - 1)) others ∙ needs.there in
    let all : nodes ≡ old.nodes ++ node ∷ [] =
    pushed ∙ ap (λ (s : GraphBuilder). s.nodes ++ node_like Explicit made_with part (stored_at middle.nodes (length old.nodes - 1)) ∷ []) others
    ∙ ap (λ (s : StoredNode). old.nodes ++ node_like Explicit made_with part s ∷ []) there in
    record {
      node = node;
      grown = record {
        book = ap (λ (s : GraphBuilder). s.book) others;
        known_names = ap (λ (s : GraphBuilder). s.known) others;
        finder_rules = ap (λ (s : GraphBuilder). s.finder.rules) others;
        finder_names = ap (λ (s : GraphBuilder). s.finder.known) others;
        nodes = all;
        names = numbers ∙ sym (needs_reached old.numbers own needs.part.prerequisites needs.part.order_only needs.says);
        instances = kept;
        leaf = λ h. subst (λ (s : GraphBuilder). IsLeafOf s.leaf nodes s.book.now) (sym others) (leaf_kept old.leaf old.nodes nodes node old.book.now all h);
      };
      says = record {
        kind = refl;
        parts = subst (λ (ps : List StoredPart). SayParts middle.numbers name (own_part suffixes made ∷ []) (map (part_like part) ps)) (sym needs.alone) (
          record {
            recipe = ap (λ (p : Part). p.recipe) one;
            stem = ap (λ (p : Part). p.stem) one;
            needs = subst (λ (l : List Text). SaysNeeds l own needs.part.prerequisites needs.part.order_only) (sym numbers) needs.says;
          },
          tt,
        );
        making = subst (λ (m : Option Instance). IsMaking middle.instances.keys m made_with) made_is is;
        inputs = rw (needs.inputs, needs.alone) refl;
        order_only = rw (needs.order_only, needs.alone) refl;
      };
    }
