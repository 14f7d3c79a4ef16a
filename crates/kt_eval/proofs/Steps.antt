-- What each step before which something may fail adds to: a list of its world stays a prefix of that at its end. And what
-- the attributes of functions name: such lemmas of several steps, and definitions, under one name.
use Rattle.std.proofs.Common.{ℕ, zero, suc, ◌≤◌, Bool, true, List, [], ◌∷◌, ◌++◌, arith, Option}
use Rattle.kt_eval.proofs.Common.{Text, Directive, Operator, Missing, Form, Term, Items, RuleParts, Entry, Function, FoundValue, Source, Assigning, Store, World, left_of, Trail, told, asked_for, one_of, astray, GoesOn, Request, Naming, value_of, each_argument, accepted, apply, apply_or, apply_and, each_word, called, call_by_name, value_named, referred, each_term, expanded, Page, branch_holds, read_bare_tab, read_define, read_kind, read_items, read_end, read_sheet, read_without_nul, read_text, read_file, read_included, read_first, evaluator, body_of, term_of, lookup}
use Rattle.kt_eval.specs.macros.Assignments.{assign, assign_named, assign_line, define}
use Rattle.kt_eval.specs.reading.Conditionals.{is_set, holds, text_holds}
use Rattle.kt_eval.specs.files.Including.{each_include, include_line}
use Rattle.kt_eval.specs.reading.Rules.{enter_rule, close_rule, open_rule, rule_of_parts, rule_line}
use Rattle.kt_eval.proofs.lemmas.GrowingLemmas.{value_of_related, each_argument_related, accepted_related, apply_related, apply_or_related, apply_and_related, each_word_related, called_related, call_by_name_related, value_named_related, referred_related, appended_related, each_term_related, expanded_related, assign_related, assign_named_related, assign_line_related, define_related}
use Rattle.kt_eval.proofs.lemmas.GrowingReads.{read_items_related, branch_holds_related, read_first_related, one_more_level, read_bare_tab_related, read_define_related, read_kind_related, holds_related, text_holds_related, each_include_related, include_line_related, rule_of_parts_related, rule_line_related, read_sheet_related, read_text_related, read_without_nul_related, read_file_related, read_included_related, is_set_grows, close_rule_grows, open_rule_grows, read_end_grows, enter_rule_grows}
use Rattle.kt_eval.specs.inner.Plain.{with_term, put_of, still_deferred, put_by, left_by}
use Rattle.kt_eval.proofs.LevelLemmas.{evaluator_reads}
use Rattle.kt_eval.proofs.lemmas.AgreementLemmas.{last_held, no_fewer}
use Rattle.kt_eval.proofs.lemmas.LastLemmas.{last_after}
use Rattle.kt_eval.proofs.lemmas.TrailLemmas.{goes_on, longer}

-- one more name that is asked for
pub asked_goes : (of : Trail) (texts said asked : List Text) (name : Text)
    → astray texts (one_of of said (asked ++ name ∷ [])) ≤ astray texts (one_of of said asked)
asked_goes told texts said asked name = omega arith
asked_goes asked_for texts said asked name = longer texts asked (name ∷ [])

-- more messages
pub said_goes : (of : Trail) (texts said more asked : List Text)
    → astray texts (one_of of (said ++ more) asked) ≤ astray texts (one_of of said asked)
said_goes told texts said more asked = longer texts said more
said_goes asked_for texts said more asked = omega arith

pub accepted_goes : (name : Text) (found : Option Text) (w : World) → GoesOn w (left_of (accepted name found w))
accepted_goes name found w = goes_on w (left_of (accepted name found w)) ((accepted_related (evaluator true [] zero) (evaluator true [] (suc zero)) (one_more_level true [] zero) name found w).0)

pub is_set_goes : (names : List Text) (w : World) → GoesOn w (left_of (is_set names w))
is_set_goes names w = goes_on w (left_of (is_set names w)) ((is_set_grows (evaluator true [] zero) (evaluator true [] (suc zero)) (one_more_level true [] zero) names w))

pub close_rule_goes : (w : World) → GoesOn w (left_of (close_rule w))
close_rule_goes w = goes_on w (left_of (close_rule w)) ((close_rule_grows (evaluator true [] zero) (evaluator true [] (suc zero)) (one_more_level true [] zero) w))

pub open_rule_goes : (recipe : Option Text) (head : Text) (w : World) → GoesOn w (left_of (open_rule recipe head w))
open_rule_goes recipe head w = goes_on w (left_of (open_rule recipe head w)) ((open_rule_grows (evaluator true [] zero) (evaluator true [] (suc zero)) (one_more_level true [] zero) recipe head w))

pub read_end_goes : (source : Source) (end : Option Missing) (w : World) → GoesOn w (left_of (read_end source end w))
read_end_goes source end w = goes_on w (left_of (read_end source end w)) ((read_end_grows (evaluator true [] zero) (evaluator true [] (suc zero)) (one_more_level true [] zero) source end w))

pub enter_rule_goes : (entry : Entry) (w : World) → GoesOn w (left_of (enter_rule entry w))
enter_rule_goes entry w = goes_on w (left_of (enter_rule entry w)) ((enter_rule_grows (evaluator true [] zero) (evaluator true [] (suc zero)) (one_more_level true [] zero) entry w))

module _ (reads : Bool) (store : Store) (levels : ℕ) where
  pub value_of_goes : (found : Option FoundValue) (w : World) → GoesOn w (left_of (value_of (evaluator reads store levels) found w))
  value_of_goes found w = goes_on w (left_of (value_of (evaluator reads store levels) found w)) ((value_of_related (evaluator reads store levels) (evaluator reads store (suc levels)) (one_more_level reads store levels) found w).0)

  pub each_argument_goes : (out texts : List Text) (w : World) → GoesOn w (left_of (each_argument (evaluator reads store levels) out texts w))
  each_argument_goes out texts w = goes_on w (left_of (each_argument (evaluator reads store levels) out texts w)) ((each_argument_related (evaluator reads store levels) (evaluator reads store (suc levels)) (one_more_level reads store levels) out texts w).0)

  pub apply_or_goes : (texts : List Text) (w : World) → GoesOn w (left_of (apply_or (evaluator reads store levels) texts w))
  apply_or_goes texts w = goes_on w (left_of (apply_or (evaluator reads store levels) texts w)) ((apply_or_related (evaluator reads store levels) (evaluator reads store (suc levels)) (one_more_level reads store levels) texts w).0)

  pub apply_and_goes : (texts : List Text) (w : World) → GoesOn w (left_of (apply_and (evaluator reads store levels) texts w))
  apply_and_goes texts w = goes_on w (left_of (apply_and (evaluator reads store levels) texts w)) ((apply_and_related (evaluator reads store levels) (evaluator reads store (suc levels)) (one_more_level reads store levels) texts w).0)

  pub each_word_goes : (name body out separator : Text) (words : List Text) (w : World) → GoesOn w (left_of (each_word (evaluator reads store levels) name body out separator words w))
  each_word_goes name body out separator words w = goes_on w (left_of (each_word (evaluator reads store levels) name body out separator words w)) ((each_word_related (evaluator reads store levels) (evaluator reads store (suc levels)) (one_more_level reads store levels) name body out separator words w).0)

  pub called_goes : (name : Text) (arguments : List Text) (w : World) → GoesOn w (left_of (called (evaluator reads store levels) name arguments w))
  called_goes name arguments w = goes_on w (left_of (called (evaluator reads store levels) name arguments w)) ((called_related (evaluator reads store levels) (evaluator reads store (suc levels)) (one_more_level reads store levels) name arguments w).0)

  pub call_by_name_goes : (name : Text) (texts : List Text) (w : World) → GoesOn w (left_of (call_by_name (evaluator reads store levels) name texts w))
  call_by_name_goes name texts w = goes_on w (left_of (call_by_name (evaluator reads store levels) name texts w)) ((call_by_name_related (evaluator reads store levels) (evaluator reads store (suc levels)) (one_more_level reads store levels) name texts w).0)

  pub value_named_goes : (naming : Naming) (w : World) → GoesOn w (left_of (value_named (evaluator reads store levels) naming w))
  value_named_goes naming w = goes_on w (left_of (value_named (evaluator reads store levels) naming w)) ((value_named_related (evaluator reads store levels) (evaluator reads store (suc levels)) (one_more_level reads store levels) naming w).0)

  pub apply_goes : (function : Function) (arguments : List Text) (w : World) → GoesOn w (left_of (apply (evaluator reads store levels) function arguments w))
  apply_goes function arguments w = goes_on w (left_of (apply (evaluator reads store levels) function arguments w)) ((apply_related (evaluator reads store levels) (evaluator reads store (suc levels)) (one_more_level reads store levels) function arguments w).0)

  pub referred_goes : (asked : Request) (w : World) → GoesOn w (left_of (referred (evaluator reads store levels) asked w))
  referred_goes asked w = goes_on w (left_of (referred (evaluator reads store levels) asked w)) ((referred_related (evaluator reads store levels) (evaluator reads store (suc levels)) (one_more_level reads store levels) asked w).0)

  pub appended_goes : (out : Text) (piece : Term) (w : World) → GoesOn w (left_of (with_term (evaluator reads store levels) out piece w))
  appended_goes out piece w = goes_on w (left_of (with_term (evaluator reads store levels) out piece w)) ((appended_related (evaluator reads store levels) (evaluator reads store (suc levels)) (one_more_level reads store levels) out piece w).0)

  pub each_term_goes : (out : Text) (pieces : List Term) (w : World) → GoesOn w (left_of (each_term (evaluator reads store levels) out pieces w))
  each_term_goes out pieces w = goes_on w (left_of (each_term (evaluator reads store levels) out pieces w)) ((each_term_related (evaluator reads store levels) (evaluator reads store (suc levels)) (one_more_level reads store levels) out pieces w).0)

  pub expanded_goes : (text : Text) (w : World) → GoesOn w (left_of (expanded (evaluator reads store levels) text w))
  expanded_goes text w = goes_on w (left_of (expanded (evaluator reads store levels) text w)) ((expanded_related (evaluator reads store levels) (evaluator reads store (suc levels)) (one_more_level reads store levels) text w).0)

  pub assign_goes : (name text : Text) (does : Assigning) (w : World) → GoesOn w (left_of (assign (evaluator reads store levels) name text does w))
  assign_goes name text does w = goes_on w (left_of (assign (evaluator reads store levels) name text does w)) ((assign_related (evaluator reads store levels) (evaluator reads store (suc levels)) (one_more_level reads store levels) name text does w).0)

  pub assign_named_goes : (o : Operator) (text name : Text) (w : World) → GoesOn w (left_of (assign_named (evaluator reads store levels) o text name w))
  assign_named_goes o text name w = goes_on w (left_of (assign_named (evaluator reads store levels) o text name w)) ((assign_named_related (evaluator reads store levels) (evaluator reads store (suc levels)) (one_more_level reads store levels) o text name w).0)

  pub assign_line_goes : (name : Text) (o : Operator) (text : Text) (w : World) → GoesOn w (left_of (assign_line (evaluator reads store levels) name o text w))
  assign_line_goes name o text w = goes_on w (left_of (assign_line (evaluator reads store levels) name o text w)) ((assign_line_related (evaluator reads store levels) (evaluator reads store (suc levels)) (one_more_level reads store levels) name o text w).0)

  pub define_goes : (rest : Text) (kind : Form) (body : Text) (w : World) → GoesOn w (left_of (define (evaluator reads store levels) rest kind body w))
  define_goes rest kind body w = goes_on w (left_of (define (evaluator reads store levels) rest kind body w)) ((define_related (evaluator reads store levels) (evaluator reads store (suc levels)) (one_more_level reads store levels) rest kind body w).0)

  pub holds_goes : (kind : Directive) (text : Text) (w : World) → GoesOn w (left_of (holds (evaluator reads store levels) kind text w))
  holds_goes kind text w = goes_on w (left_of (holds (evaluator reads store levels) kind text w)) ((holds_related (evaluator reads store levels) (evaluator reads store (suc levels)) (one_more_level reads store levels) kind text w).0)

  pub text_holds_goes : (text : Text) (w : World) → GoesOn w (left_of (text_holds (evaluator reads store levels) text w))
  text_holds_goes text w = goes_on w (left_of (text_holds (evaluator reads store levels) text w)) ((text_holds_related (evaluator reads store levels) (evaluator reads store (suc levels)) (one_more_level reads store levels) text w).0)

  pub each_include_goes : (optional : Bool) (names : List Text) (w : World) → GoesOn w (left_of (each_include (evaluator reads store levels) optional names w))
  each_include_goes optional names w = goes_on w (left_of (each_include (evaluator reads store levels) optional names w)) ((each_include_related (evaluator reads store levels) (evaluator reads store (suc levels)) (one_more_level reads store levels) optional names w).0)

  pub include_line_goes : (optional : Bool) (text : Text) (w : World) → GoesOn w (left_of (include_line (evaluator reads store levels) optional text w))
  include_line_goes optional text w = goes_on w (left_of (include_line (evaluator reads store levels) optional text w)) ((include_line_related (evaluator reads store levels) (evaluator reads store (suc levels)) (one_more_level reads store levels) optional text w).0)

  pub rule_of_parts_goes : (parts : Option RuleParts) (w : World) → GoesOn w (left_of (rule_of_parts (evaluator reads store levels) parts w))
  rule_of_parts_goes parts w = goes_on w (left_of (rule_of_parts (evaluator reads store levels) parts w)) ((rule_of_parts_related (evaluator reads store levels) (evaluator reads store (suc levels)) (one_more_level reads store levels) parts w).0)

  pub rule_line_goes : (text : Text) (w : World) → GoesOn w (left_of (rule_line (evaluator reads store levels) text w))
  rule_line_goes text w = goes_on w (left_of (rule_line (evaluator reads store levels) text w)) ((rule_line_related (evaluator reads store levels) (evaluator reads store (suc levels)) (one_more_level reads store levels) text w).0)

  pub read_sheet_goes : (sheet : Page) (w : World) → GoesOn w (left_of (read_sheet (evaluator reads store levels) sheet w))
  read_sheet_goes sheet w = goes_on w (left_of (read_sheet (evaluator reads store levels) sheet w)) ((read_sheet_related (evaluator reads store levels) (evaluator reads store (suc levels)) (one_more_level reads store levels) sheet w).0)

  pub read_text_goes : (source : Source) (text : Text) (w : World) → GoesOn w (left_of (read_text (evaluator reads store levels) source text w))
  read_text_goes source text w = goes_on w (left_of (read_text (evaluator reads store levels) source text w)) ((read_text_related (evaluator reads store levels) (evaluator reads store (suc levels)) (one_more_level reads store levels) source text w).0)

  pub read_without_nul_goes : (source : Source) (text : Text) (nul : Option ℕ) (w : World) → GoesOn w (left_of (read_without_nul (evaluator reads store levels) source text nul w))
  read_without_nul_goes source text nul w = goes_on w (left_of (read_without_nul (evaluator reads store levels) source text nul w)) ((read_without_nul_related (evaluator reads store levels) (evaluator reads store (suc levels)) (one_more_level reads store levels) source text nul w).0)

  pub read_file_goes : (name text : Text) (w : World) → GoesOn w (left_of (read_file (evaluator reads store levels) name text w))
  read_file_goes name text w = goes_on w (left_of (read_file (evaluator reads store levels) name text w)) ((read_file_related (evaluator reads store levels) (evaluator reads store (suc levels)) (one_more_level reads store levels) name text w).0)

  pub read_included_goes : (optional : Bool) (name : Text) (found : Option Text) (w : World) → GoesOn w (left_of (read_included (evaluator reads store levels) optional name found w))
  read_included_goes optional name found w = goes_on w (left_of (read_included (evaluator reads store levels) optional name found w)) ((read_included_related (evaluator reads store levels) (evaluator reads store (suc levels)) (one_more_level reads store levels) optional name found w).0)

  pub read_items_goes : (sheet : Page) (items : Items) (w : World) → GoesOn w (left_of (read_items (evaluator reads store levels) sheet items w))
  read_items_goes sheet items w = goes_on w (left_of (read_items (evaluator reads store levels) sheet items w)) ((read_items_related (evaluator reads store levels) (evaluator reads store (suc levels)) (one_more_level reads store levels) sheet items w).0)

  pub read_kind_goes : (text : Text) (kind : Form) (w : World) → GoesOn w (left_of (read_kind (evaluator reads store levels) text kind w))
  read_kind_goes text kind w = goes_on w (left_of (read_kind (evaluator reads store levels) text kind w)) ((read_kind_related (evaluator reads store levels) (evaluator reads store (suc levels)) (one_more_level reads store levels) text kind w).0)

  pub read_bare_tab_goes : (kind : Form) (w : World) → GoesOn w (left_of (read_bare_tab (evaluator reads store levels) kind w))
  read_bare_tab_goes kind w = goes_on w (left_of (read_bare_tab (evaluator reads store levels) kind w)) ((read_bare_tab_related (evaluator reads store levels) (evaluator reads store (suc levels)) (one_more_level reads store levels) kind w).0)

  pub read_define_goes : (kind : Form) (body : Text) (w : World) → GoesOn w (left_of (read_define (evaluator reads store levels) kind body w))
  read_define_goes kind body w = goes_on w (left_of (read_define (evaluator reads store levels) kind body w)) ((read_define_related (evaluator reads store levels) (evaluator reads store (suc levels)) (one_more_level reads store levels) kind body w).0)

  pub branch_holds_goes : (sheet : Page) (place : ℕ) (condition : Bool) (w : World) → GoesOn w (left_of (branch_holds (evaluator reads store levels) sheet place condition w))
  branch_holds_goes sheet place condition w = goes_on w (left_of (branch_holds (evaluator reads store levels) sheet place condition w)) ((branch_holds_related (evaluator reads store levels) (evaluator reads store (suc levels)) (one_more_level reads store levels) sheet place condition w).0)

  pub read_first_goes : (names : List Text) (w : World) → GoesOn w (left_of (read_first store (evaluator reads store levels) names w))
  read_first_goes names w = goes_on w (left_of (read_first store (evaluator reads store levels) names w)) ((read_first_related (evaluator reads store levels) (evaluator reads store (suc levels)) (one_more_level reads store levels) store names w).0)

  pub expand_goes : (text : Text) (w : World) → GoesOn w (left_of ((evaluator reads store levels).expand text w))
  expand_goes text w = goes_on w (left_of ((evaluator reads store levels).expand text w)) ((one_more_level reads store levels).expand text w).0

  pub eval_goes : (text : Text) (w : World) → GoesOn w (left_of ((evaluator reads store levels).eval text w))
  eval_goes text w = goes_on w (left_of ((evaluator reads store levels).eval text w)) ((one_more_level reads store levels).eval text w).0

-- those of the steps of one function
pub ruleset value_named_steps = (value_named_goes, accepted_goes)

pub ruleset apply_foreach_steps = (expand_goes, each_word_goes)

pub ruleset call_by_name_steps = (call_by_name_goes, called_goes)

pub ruleset call_steps = (called_goes, value_of_goes)

pub ruleset apply_eval_steps = (eval_goes, evaluator_reads)

pub ruleset read_bytes_steps = (asked_goes, last_after, last_held, no_fewer)

pub ruleset read_included_steps = (read_included_goes, read_file_goes)

pub ruleset read_text_steps = (read_sheet_goes, read_without_nul_goes)

pub ruleset read_page_steps = (close_rule_goes, read_end_goes)

pub ruleset read_kind_steps = (assign_line_goes, rule_line_goes)

pub ruleset said_steps = (said_goes, longer)

pub ruleset enter_rule_steps = (enter_rule_goes, said_steps)

pub ruleset read_rule_steps = (rule_of_parts_goes, open_rule_goes)

-- the definitions that a function opens, under one name
unfoldable pub each_term_open : Unit {0}
unfolding each_term expanded term_of
each_term_open = tt

unfoldable pub referred_open : Unit {0}
unfolding referred body_of
referred_open = tt

unfoldable pub value_open : Unit {0}
unfolding put_of still_deferred
value_open = tt

unfoldable pub lookup_open : Unit {0}
unfolding lookup put_of still_deferred
lookup_open = tt

unfoldable pub plain_open : Unit {0}
unfolding put_by left_by
plain_open = tt
