-- Worked texts, as facts that compute.
use Rattle.std.specs.Prelude.{◌≡◌, ℕ, List, [], ◌∷◌, Result, Ok, Err, codes}
use Rattle.kt_ninja.specs.declared.plan.Made.{Made}
use Rattle.kt_ninja.specs.declared.plan.Made.TheVariants.{Command, Phony}
use Rattle.kt_ninja.specs.declared.plan.Statement.{Statement}
use Rattle.kt_ninja.specs.declared.plan.Plan.{Plan}
use Rattle.kt_ninja_reader.specs.NinjaRead.{ninja_read}

-- a statement by its fields in order
abbrev pub statement : List (List ℕ) → Made → List (List ℕ) → List (List ℕ) → List (List ℕ) → Statement
statement outs made inputs implicit order_only = record {
  outs = outs;
  made = made;
  inputs = inputs;
  implicit =
      implicit;
  order_only = order_only;
}

-- the reading that gives these statements and default targets
abbrev pub plan : List Statement → List (List ℕ) → Result Plan ℕ
plan statements defaults = Ok (record { statements = statements; defaults = defaults })

-- texts that say a plan
pub record RowsOfPlans : Type 0 where
  pub no_statements : ninja_read ([]) ≡ plan ([]) []
  pub quoted : ninja_read (codes "rule r\n command = cat $in\nbuild o: r a$ b\n")
      ≡ plan (statement (codes "o" ∷ []) (Command (codes "cat 'a b'")) (codes "a b" ∷ []) [] [] ∷ []) []
  pub on_lines : ninja_read (codes "rule r\n command = cat $in_newline\nbuild o: r a b\n")
      ≡ plan (statement (codes "o" ∷ []) (Command (codes "cat a\nb")) (codes "a" ∷ codes "b" ∷ []) [] [] ∷ []) []
  pub two_outputs : ninja_read (codes "rule r\n command = x >$out\nbuild a b: r\n")
      ≡ plan (statement (codes "a" ∷ codes "b" ∷ []) (Command (codes "x >a b")) [] [] [] ∷ []) []
  pub compiled : ninja_read
      (codes "sh = /bin/sh -c\nrule c\n command = $sh 'cc -c $in -o $out'\nbuild a.o: c   a.c\ndefault a.o\n")
      ≡ plan (statement (codes "a.o" ∷ []) (Command (codes "/bin/sh -c 'cc -c a.c -o a.o'")) (codes "a.c" ∷ []) [] []
      ∷ []) (codes "a.o" ∷ [])
  pub joined_name : ninja_read (codes "name = x\nbuild $na$\n  me: phony\ndefault x\n")
      ≡ plan (statement (codes "x" ∷ []) Phony [] [] [] ∷ []) (codes "x" ∷ [])
  pub joined_keyword : ninja_read (codes "$\nbuild t: phony\ndefault t\n")
      ≡ plan (statement (codes "t" ∷ []) Phony [] [] [] ∷ []) (codes "t" ∷ [])
  pub joined_comment : ninja_read (codes "build t: phony\n$\n # c $\ndefault t\n")
      ≡ plan (statement (codes "t" ∷ []) Phony [] [] [] ∷ []) (codes "t" ∷ [])
  pub at_after_two_bars : ninja_read (codes "build t: phony ||@b\ndefault t\n")
      ≡ plan (statement (codes "t" ∷ []) Phony [] [] (codes "@b" ∷ []) ∷ []) (codes "t" ∷ [])
  pub all_inputs : ninja_read (codes "build t:phony a|b||c\n")
      ≡ plan (statement (codes "t" ∷ []) Phony (codes "a" ∷ []) (codes "b" ∷ []) (codes "c" ∷ []) ∷ []) []
  pub own_command : ninja_read
      (codes "rule r\n command = x $in\nbuild a: r b\n command = /bin/sh -c '$$^ $in'\ndefault a\n")
      ≡ plan (statement (codes "a" ∷ []) (Command (codes "/bin/sh -c '$^ '")) (codes "b" ∷ []) [] [] ∷ []) (codes "a"
      ∷ [])
  pub command_of_phony : ninja_read (codes "build t: phony\n command = x\ndefault t\n")
      ≡ plan (statement (codes "t" ∷ []) Phony [] [] [] ∷ []) (codes "t" ∷ [])
  pub equals_is_a_path : ninja_read (codes "build =: phony\ndefault =\n")
      ≡ plan (statement (codes "=" ∷ []) Phony [] [] [] ∷ []) (codes "=" ∷ [])
  pub late_value : ninja_read (codes "rule r\n command = $x $y\nx = 1\nbuild $x: r\n y = $x\nx = 2\n")
      ≡ plan (statement (codes "1" ∷ []) (Command (codes "2 1")) [] [] [] ∷ []) []

-- texts that say none, with the line that begins the part at fault
pub record RowsOfReadFaults : Type 0 where
  pub output_twice : ninja_read (codes "build a: phony\nbuild a: phony\n") ≡ Err 2
  pub command_twice : ninja_read (codes "rule r\n command = x\n command = y\n") ≡ Err 1
  pub blank_in_block : ninja_read (codes "rule r\n\n command = x\n") ≡ Err 1
  pub unknown_rule : ninja_read (codes "build a: q b\n") ≡ Err 1
  pub no_command : ninja_read (codes "rule r\n") ≡ Err 1
  pub empty_command : ninja_read (codes "rule r\n command =\n") ≡ Err 1
  pub default_unmade : ninja_read (codes "default x\n") ≡ Err 1
  pub no_newline : ninja_read (codes "x = 3") ≡ Err 1
  pub joined_into_a_word : ninja_read (codes "rule$\n r\n command = x\n") ≡ Err 1
  pub joined_blank : ninja_read (codes "build a: phony\n$\n\n x = 1\n") ≡ Err 1
  pub joined_number : ninja_read (codes "build a: phony\n$\nbuild a: phony\n") ≡ Err 2
  pub goes_on_at_end : ninja_read (codes "build t: phony\ndefault t\n$\n") ≡ Err 2
  pub goes_on_alone : ninja_read (codes "$\n") ≡ Err 1
  pub dollar_at_end : ninja_read (codes "build t: phony\n$") ≡ Err 2
  pub at_after_a_bar : ninja_read (codes "build t: phony |@b\ndefault t\n") ≡ Err 1
  pub keyword_as_key : ninja_read (codes "build t: phony\n pool = x\ndefault t\n") ≡ Err 1
  pub fault_of_its_part : ninja_read (codes "# c\n\nbuild a: phony\nrule r\nbuild b: phony\n") ≡ Err 4
  pub headless : ninja_read (codes "# c\n x = 1\n") ≡ Err 1
  pub after_a_blank_line : ninja_read (codes "build a: phony\n\n x = 1\n") ≡ Err 1
  pub carriage_return : ninja_read (codes "build a: phony\nbuild b\r: phony\n") ≡ Err 2
  pub return_in_comment : ninja_read (codes "build a: phony\n# \r\n") ≡ Err 1
  pub default_stays_keyword : ninja_read (codes "default = 3\n") ≡ Err 1
  pub rule_after_line_2 : ninja_read (codes "# kati\nrule r0\n") ≡ Err 2
  pub three_bars : ninja_read (codes "build a: phony ||| b\n") ≡ Err 1
  pub own_key_above : ninja_read (codes "build a: phony\n x = 1\n y = $x\n") ≡ Err 1
