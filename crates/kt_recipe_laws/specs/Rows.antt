-- Worked values of automatic macros and of commands, as facts that compute.
use Rattle.std.specs.Prelude.{◌≡◌, ℕ, List, [], ◌∷◌, Option, Some, None, codes}
use Rattle.kt_recipe.specs.Prelude.{Text, Macros, Node}
use Rattle.kt_eval.specs.files.Files.{look}
use Rattle.kt_eval.specs.Outcome.{StepEnd, Gave, Stopped}
use Rattle.kt_eval.specs.Step.{fault_at}
use Rattle.kt_graph.specs.nodes.Node.{Part}
use Rattle.kt_rules.specs.declared.line.entry.RecipeLine.{RecipeLine}
use Rattle.kt_eval_laws.specs.Rows.{at_m, deferred}
use Rattle.kt_graph.specs.declared.nodes.node.NodeKind.TheVariants.{DoubleColon, Explicit}
use Rattle.kt_recipe.specs.Automatic.{automatic_in}
use Rattle.kt_recipe.specs.Shell.{shell_of}

abbrev pub line_of_recipe : ℕ → Text → RecipeLine
line_of_recipe number text = record { text = text; place = record { file = codes "m"; line = number } }

abbrev pub part : List RecipeLine → Text → List Text → List Text → Part
part lines stem prerequisites order_only =
    record {
      recipe = Some lines;
      stem = stem;
      needs = record { prerequisites = prerequisites; order_only = order_only };
    }

-- a target with prerequisites of all kinds
abbrev pub sample : Node
sample = record {
  name = codes "t";
  kind = Explicit;
  parts = part [] (codes "d/t") (codes "a/x" ∷ codes "b" ∷ codes "a/x" ∷ []) (codes "c" ∷ codes "b" ∷ codes "c" ∷ [])
      ∷ [];
  made_with = None;
}

-- one without prerequisites, in the root
abbrev pub rooted : Node
rooted = record { name = codes "//x"; kind = Explicit; parts = part [] [] [] [] ∷ []; made_with = None }

-- the target `t` with a recipe and without prerequisites
abbrev pub simple : List RecipeLine → Node
simple lines = record { name = codes "t"; kind = Explicit; parts = part lines [] [] [] ∷ []; made_with = None }

-- a target of two rules with two colons
abbrev pub node_of_two_rules : Node
node_of_two_rules = record {
  name = codes "a";
  kind = DoubleColon;
  parts = part (line_of_recipe 1 (codes "one $<") ∷ []) [] (codes "b" ∷ []) []
      ∷ part (line_of_recipe 2 (codes "two $<") ∷ []) []
      (codes "c" ∷ []) [] ∷ [];
  made_with = None;
}

-- the value of a name in the first part of a node
abbrev pub told : Node → Text → Option Text
told node name = look (automatic_in node 0) name

-- the macros that a makefile begins with, before others
abbrev pub with_shell : Macros → Macros
with_shell more = deferred (codes "SHELL") (codes "/bin/sh") ∷ deferred (codes ".SHELLFLAGS") (codes "-c") ∷ more

-- the command of a node, with 9 levels and no message before it
abbrev pub command_from : Macros → Node → StepEnd (List Text) (Option Text)
command_from table node = shell_of table 9 node []

-- automatic macros
pub record RowsOfMacros : Type 0 where
  pub target : told sample (codes "@") ≡ Some (codes "t")
  pub first : told sample (codes "<") ≡ Some (codes "a/x")
  pub each : told sample (codes "^") ≡ Some (codes "a/x b")
  pub newer : told sample (codes "?") ≡ Some (codes "a/x b")
  pub every : told sample (codes "+") ≡ Some (codes "a/x b a/x")
  pub order_only : told sample (codes "|") ≡ Some (codes "c")
  pub stem : told sample (codes "*") ≡ Some (codes "d/t")
  pub member : told sample (codes "%") ≡ Some []
  pub directories : told sample (codes "^D") ≡ Some (codes "a .")
  pub files : told sample (codes "+F") ≡ Some (codes "x b x")
  pub own_directory : told sample (codes "@D") ≡ Some (codes ".")
  pub stem_file : told sample (codes "*F") ≡ Some (codes "t")
  pub root : told rooted (codes "@D") ≡ Some (codes "/")
  pub no_prerequisite : told rooted (codes "<D") ≡ Some []
  pub no_order_only_parts : told sample (codes "|D") ≡ None
  pub no_member_parts : told sample (codes "%F") ≡ None
  pub no_macro : told sample (codes "A") ≡ None

-- commands
pub record RowsOfCommands : Type 0 where
  pub quotes : command_from (with_shell []) (simple (line_of_recipe 1 (codes "echo \"it's $$HOME\"") ∷ []))
      ≡ Gave [] (Some (codes "/bin/sh -c 'echo \"it'\\''s $HOME\"'"))
  pub canned : command_from (with_shell (deferred (codes "go") (codes "@echo one\n-false") ∷ []))
      (simple (line_of_recipe 1 (codes "$(go)") ∷ []))
      ≡ Gave [] (Some (codes "/bin/sh -c 'echo one' && { /bin/sh -c 'false' || :; }"))
  pub marked : command_from (with_shell []) (simple (line_of_recipe 1 (codes "@-a") ∷ []))
      ≡ Gave [] (Some (codes "{ /bin/sh -c 'a' || :; }"))
  pub marked_line : command_from (with_shell (deferred (codes "X") (codes "a\n @- \nb") ∷ []))
      (simple (line_of_recipe 1 (codes "-$(X)") ∷ []))
      ≡ Gave [] (Some (codes "{ /bin/sh -c 'a' || :; } && { /bin/sh -c 'b' || :; }"))
  pub three_pieces : command_from (with_shell (deferred (codes "go") (codes "@echo one\n-false") ∷ []))
      (simple (line_of_recipe 1 (codes "-a") ∷ line_of_recipe 2 (codes "$(go)") ∷ []))
      ≡ Gave [] (Some (codes "{ /bin/sh -c 'a' || :; } && /bin/sh -c 'echo one' && { /bin/sh -c 'false' || :; }"))
  pub trailing_blank : command_from (with_shell []) (simple (line_of_recipe 1 (codes "a ")
      ∷ line_of_recipe 2 (codes " @ ") ∷ []))
      ≡ Gave [] (Some (codes "/bin/sh -c 'a '"))
  pub no_piece : command_from (with_shell []) (simple (line_of_recipe 1 (codes "$(X)") ∷ [])) ≡ Gave [] None
  pub double_colon : command_from (with_shell []) node_of_two_rules
      ≡ Gave [] (Some (codes "/bin/sh -c 'one b' && /bin/sh -c 'two c'"))
  pub message : command_from (with_shell []) (simple (line_of_recipe 1 (codes "a$(info hi)") ∷ []))
      ≡ Gave (codes "hi" ∷ []) (Some (codes "/bin/sh -c 'a'"))
  pub shell_anew :
      command_from (deferred (codes "SHELL") (codes "$(info s)sh") ∷ deferred (codes ".SHELLFLAGS") (codes "-c") ∷ [])
      (simple (line_of_recipe 1 (codes "$(info 1)a") ∷ line_of_recipe 2 (codes "$(info 2)b") ∷ []))
      ≡ Gave (codes "1" ∷ codes "s" ∷ codes "2" ∷ codes "s" ∷ []) (Some (codes "sh -c 'a' && sh -c 'b'"))
  pub fault_in_shell : command_from (deferred (codes "SHELL") (codes "$(error $@)") ∷ [])
      (simple (line_of_recipe 3 (codes "a") ∷ []))
      ≡ Stopped [] (fault_at (at_m 3) 19 (codes "t"))
  pub eval_refused : command_from (with_shell []) (simple (line_of_recipe 1 (codes "$(eval A = 1)") ∷ []))
      ≡ Stopped [] (fault_at (at_m 1) 32 (codes "eval in a recipe"))
  pub first_fault : command_from (with_shell []) (simple (line_of_recipe 2 (codes "$(info 1)a")
      ∷ line_of_recipe 3 (codes "$(x") ∷ []))
      ≡ Stopped (codes "1" ∷ []) (fault_at (at_m 3) 7 (codes "unterminated reference"))
  pub hidden_table : command_from (with_shell (deferred (codes "@") (codes "table") ∷ []))
      (simple (line_of_recipe 1 (codes "$(foreach @,a b,$@) $@") ∷ [])) ≡ Gave [] (Some (codes "/bin/sh -c 'a b t'"))
