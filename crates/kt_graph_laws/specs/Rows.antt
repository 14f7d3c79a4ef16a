-- Worked names, choices, nodes and goals, as facts that compute. The rules are those of the GNU make manual's
-- sections on implicit rules, and kati's own where it has some.
use Rattle.std.specs.Prelude.{◌≡◌, ℕ, true, List, [], ◌∷◌, ◌++◌, Option, Some, None, option_map, codes}
use Rattle.kt_graph.specs.Prelude.{Text, Entry, node_of}
use Rattle.kt_rules.specs.Suffixes.{all_needs}
use Rattle.kt_graph.specs.views.search.Search.{questions_after}
use Rattle.kt_graph.specs.search.Search.{choice_of}
use Rattle.kt_graph.specs.nodes.Node.{inputs_of, order_only_of}
use Rattle.kt_rules.specs.declared.line.entry.Kind.TheVariants.{SingleColon, TerminalPattern}
use Rattle.kt_rules_laws.specs.BookRows.{rule, made, needing, pattern}
use Rattle.kt_graph.specs.declared.nodes.node.NodeKind.TheVariants as kinds
use Rattle.kt_graph.specs.Known.{known_names, listed_names}
use Rattle.kt_graph_laws.specs.Goals.{goals_of}
use Rattle.kt_graph.specs.faults.Paths.{canon_of, is_reserved}

-- spellings of files
pub record RowsOfPaths : Type 0 where
  pub doubled : canon_of (codes "a//b") ≡ codes "a/b"
  pub idle : canon_of (codes "./a/./b/") ≡ codes "a/b"
  pub up : canon_of (codes "a/../b") ≡ codes "b"
  pub front : canon_of (codes "../../a") ≡ codes "../../a"
  pub root : canon_of (codes "/../a") ≡ codes "/a"
  pub reserved : is_reserved (codes "x/../_kati_always_build_") ≡ true

-- known names
pub record RowsOfKnown : Type 0 where
  pub listed : listed_names (codes "./a" ++ (13 ∷ 10 ∷ 10 ∷ codes "b")) ≡ codes "a" ∷ codes "b" ∷ []
  pub explicit : known_names (needing (codes "a") (codes "b") 1 ∷ []) [] ≡ codes "a" ∷ codes "b" ∷ []
  pub no_pattern : known_names (pattern (codes "%.o") (codes "c") 1 ∷ []) [] ≡ []
  pub no_suffix_rule : known_names (made (codes ".c.o") 1 ∷ []) [] ≡ []
  pub phony : known_names (needing (codes ".PHONY") (codes "b") 1 ∷ []) [] ≡ codes "b" ∷ []

-- `%.o: %.c`, `%.c: %.y`
abbrev pub objects : List Entry
objects = pattern (codes "%.o") (codes "%.c") 1 ∷ pattern (codes "%.c") (codes "%.y") 2 ∷ []

-- `%.a: %.b`, `%.b: %.a`
abbrev pub circle : List Entry
circle = pattern (codes "%.a") (codes "%.b") 1 ∷ pattern (codes "%.b") (codes "%.a") 2 ∷ []

-- the rule that is chosen, by its number, with the directory, the stem and all prerequisites
abbrev pub chosen_as : List Entry → List Text → Text → Option (ℕ × Text × Text × List Text)
chosen_as rules known name =
    option_map (λ candidate. (candidate.rule, candidate.directory, candidate.stem, all_needs candidate.needs))
    (choice_of rules known name)

-- choices
pub record RowsOfChoices : Type 0 where
  pub direct : chosen_as objects (codes "x.c" ∷ []) (codes "x.o") ≡ Some (0, [], codes "x", codes "x.c" ∷ [])
  pub chain : chosen_as objects (codes "x.y" ∷ []) (codes "x.o") ≡ Some (0, [], codes "x", codes "x.c" ∷ [])
  pub nothing_known : chosen_as objects [] (codes "x.o") ≡ None
  pub circular : chosen_as circle [] (codes "x.a") ≡ None
  pub empty_stem : chosen_as objects (codes ".c" ∷ []) (codes ".o") ≡ None
  pub directory : chosen_as objects (codes "d/x.c" ∷ []) (codes "d/x.o")
      ≡ Some (0, codes "d/", codes "x", codes "d/x.c" ∷ [])
  pub shortest : chosen_as (pattern (codes "%.o") (codes "k") 1 ∷ pattern (codes "x%.o") (codes "k") 2 ∷ [])
      (codes "k" ∷ []) (codes "xy.o")
      ≡ Some (1, [], codes "y", codes "k" ∷ [])
  pub any_name_dropped : chosen_as (pattern (codes "%.o") (codes "q") 1 ∷ pattern (codes "%") (codes "k") 2 ∷ [])
      (codes "k" ∷ []) (codes "x.o") ≡ None
  pub terminal : chosen_as (rule TerminalPattern (codes "%.o") (codes "%.c" ∷ []) [] true 1 ∷ pattern (codes "%.c")
      (codes "%.y") 2 ∷ []) (codes "x.y" ∷ []) (codes "x.o") ≡ None

-- questions
pub record RowsOfQuestions : Type 0 where
  pub met : questions_after objects (codes "x.c" ∷ []) [] (codes "x.o") ≡ (codes "x.o", []) ∷ []
  pub inner : questions_after objects [] [] (codes "x.o")
      ≡ (codes "x.o", []) ∷ (codes "x.c", 0 ∷ []) ∷ (codes "x.y", 0 ∷ 1 ∷ []) ∷ []

-- nodes
pub record RowsOfNodes : Type 0 where
  pub explicit : (node_of (needing (codes "a") (codes "b") 1 ∷ []) [] (codes "a")).kind ≡ kinds.Explicit
  pub leaf : (node_of (needing (codes "a") (codes "b") 1 ∷ []) [] (codes "b")).kind ≡ kinds.Leaf
  pub phony : (node_of (needing (codes ".PHONY") (codes "b") 1 ∷ []) [] (codes "b")).kind ≡ kinds.Phony
  pub used_first : inputs_of (node_of (needing (codes "a") (codes "b") 1 ∷ rule SingleColon (codes "a") (codes "c" ∷
      []) [] true 2 ∷ []) [] (codes "a"))
      ≡ codes "c" ∷ codes "b" ∷ []
  pub without_inputs : order_only_of (node_of (rule SingleColon (codes "t") (codes "x" ∷ []) (codes "x" ∷ codes "y" ∷
      []) true 1 ∷ []) [] (codes "t"))
      ≡ codes "y" ∷ []

-- goals
pub record RowsOfGoals : Type 0 where
  pub named : goals_of [] (codes "b" ∷ codes "./a" ∷ codes ".//b" ∷ []) [] ≡ codes "b" ∷ codes "a" ∷ []
  pub set : goals_of (made (codes "a") 1 ∷ []) [] (10 ∷ (codes "./b" ++ (10 ∷ []))) ≡ codes "b" ∷ []
  pub first : goals_of (made (codes "a") 1 ∷ []) [] [] ≡ codes "a" ∷ []
