-- Reading with a given number of levels left, beside the same with one more, like the lemmas of GrowingLemmas on
-- expanding; and one more level.
use Rattle.std.proofs.Common.{arith, ◌≡◌, ℕ, zero, suc, ◌+◌, Bool, true, false, cond, nat_lt, List, [], ◌∷◌, length, Option, Some, None, Result, Ok, Err, option_map, inl, inr, refl, sym}
use Rattle.kt_eval.proofs.Common.{is_utf8, Text, words_of, nul_line, Directive, Missing, Form, blank, assignment, directive, refused, rule, form_of, line_form, Items, Branches, none, line, fault, definition, conditional, no_branch, branch, late, tree_of, plain_of, RuleParts, line_parts, recipe_of, Entry, rule_of, Function, Source, File, Held, Store, World, set_rule, StepEnd, then_do, left_of, Step, stop, Evaluator, too_deep, apply, expanded, RawLine, line_at, Page, sheet_of, at_number, at_line, read_include, read_kind, read_bare_tab, read_tab_in, read_tab, read_line, body_at, read_define, read_stray, late_else, branch_holds, read_items, read_branches, read_end, read_sheet, read_without_nul, read_text, read_held, largest_file, read_file, read_included, read_bytes, included, read_or, read_first, above, none_left, evaluator}
use Rattle.kt_syntax.specs.declared.form.Directive.TheVariants as word
use Rattle.kt_syntax.specs.declared.part.Missing.TheVariants as missing
use Rattle.kt_syntax.specs.declared.part.Stray.{Stray}
use Rattle.kt_syntax.specs.declared.part.Stray.TheVariants as stray
use Rattle.kt_rules.specs.declared.fault_kind.FaultKind.TheVariants as kinds
use Rattle.kt_rules.specs.Refusals.{RuleLineFault as RuleFault}
use Rattle.kt_rules.specs.Book.{added, refusal_of}
use Rattle.kt_eval.specs.reading.Conditions.{ComparedTexts, compared_of}
use Rattle.kt_eval.specs.reading.Conditionals.{is_set, is_defined, are_equal, holds, word_before_blank, text_after_word, worded_holds, text_holds, else_holds, line_holds}
use Rattle.kt_eval.specs.files.Including.{is_shell_pattern, include_named, each_include, include_line}
use Rattle.kt_eval.specs.reading.Rules.{rule_place, entered, enter_rule, close, close_rule, opened, open_rule, rule_of_parts, rule_line, recipe_line}
use Rattle.kt_eval.specs.views.Growing.{Grows, TakesNothingBack, IsTooDeep, StaysOneDeeper}
use Rattle.kt_eval.proofs.lemmas.GrowingLemmas.{front_same, front_more, still, further, Agree, Relates, plain_step, related_then, related_after, related_cond, Related, apply_related, expanded_related, assign_line_related, define_related}

module _ (e e' : Evaluator) (h : Related e e') where
  -- conditions
  pub is_set_grows : (names : List Text) (w : World) → Grows w (left_of (is_set names w))
  unfolding is_set
  is_set_grows [] w = still w
  is_set_grows (name ∷ []) w = still w
  is_set_grows (name ∷ other ∷ names) w = still w

  pub is_defined_related : (text : Text) (w : World) → Relates w (is_defined e text w) (is_defined e' text w)
  unfolding is_defined
  is_defined_related text w =
      related_then w (expanded e text w) (expanded e' text w) _ _ (expanded_related e e' h text w) (λ x v. plain_step v _ (is_set_grows (words_of x) v))

  pub are_equal_related : (compared : Option ComparedTexts) (w : World) → Relates w (are_equal e compared w) (are_equal e' compared w)
  unfolding are_equal
  are_equal_related None w = plain_step w _ (still w)
  are_equal_related (Some compared) w =
      related_then w (expanded e compared.first w) (expanded e' compared.first w) _ _ (expanded_related e e' h compared.first w)
      (λ x v. related_then v (expanded e compared.second v) (expanded e' compared.second v) _ _ (expanded_related e e' h compared.second v)
      (λ y u. plain_step u _ (still u)))

  pub holds_related : (kind : Directive) (text : Text) (w : World) → Relates w (holds e kind text w) (holds e' kind text w)
  unfolding holds
  holds_related word.Ifdef text w = is_defined_related text w
  holds_related word.Ifndef text w =
      related_then w (is_defined e text w) (is_defined e' text w) _ _ (is_defined_related text w) (λ x v. plain_step v _ (still v))
  holds_related word.Ifeq text w = are_equal_related (compared_of text) w
  holds_related word.Ifneq text w =
      related_then w (are_equal e (compared_of text) w) (are_equal e' (compared_of text) w) _ _ (are_equal_related (compared_of text) w) (λ x v. plain_step v _ (still v))
  holds_related word.Else text w = plain_step w _ (still w)
  holds_related word.Endif text w = plain_step w _ (still w)
  holds_related word.Define text w = plain_step w _ (still w)
  holds_related word.Endef text w = plain_step w _ (still w)
  holds_related word.Include text w = plain_step w _ (still w)
  holds_related word.OptionalInclude text w = plain_step w _ (still w)

  pub worded_holds_related : (kind : Form) (text : Text) (w : World) → Relates w (worded_holds e kind text w) (worded_holds e' kind text w)
  worded_holds_related (directive kind rest) text w = holds_related kind text w
  worded_holds_related blank text w = plain_step w _ (still w)
  worded_holds_related (assignment name o value) text w = plain_step w _ (still w)
  worded_holds_related (refused form) text w = plain_step w _ (still w)
  worded_holds_related rule text w = plain_step w _ (still w)

  pub text_holds_related : (text : Text) (w : World) → Relates w (text_holds e text w) (text_holds e' text w)
  unfolding text_holds
  text_holds_related text w = worded_holds_related (form_of (word_before_blank text) false) (text_after_word text) w

  pub else_holds_related : (condition : Bool) (rest : Text) (w : World) → Relates w (else_holds e condition rest w) (else_holds e' condition rest w)
  unfolding else_holds
  else_holds_related false rest w = plain_step w _ (still w)
  else_holds_related true rest w = text_holds_related (plain_of rest) w

  pub line_holds_related : (condition : Bool) (kind : Form) (w : World) → Relates w (line_holds e condition kind w) (line_holds e' condition kind w)
  unfolding line_holds
  line_holds_related condition (directive word.Else rest) w = else_holds_related condition rest w
  line_holds_related condition (directive word.Ifdef rest) w = holds_related word.Ifdef (plain_of rest) w
  line_holds_related condition (directive word.Ifndef rest) w = holds_related word.Ifndef (plain_of rest) w
  line_holds_related condition (directive word.Ifeq rest) w = holds_related word.Ifeq (plain_of rest) w
  line_holds_related condition (directive word.Ifneq rest) w = holds_related word.Ifneq (plain_of rest) w
  line_holds_related condition (directive word.Endif rest) w = holds_related word.Endif (plain_of rest) w
  line_holds_related condition (directive word.Define rest) w = holds_related word.Define (plain_of rest) w
  line_holds_related condition (directive word.Endef rest) w = holds_related word.Endef (plain_of rest) w
  line_holds_related condition (directive word.Include rest) w = holds_related word.Include (plain_of rest) w
  line_holds_related condition (directive word.OptionalInclude rest) w = holds_related word.OptionalInclude (plain_of rest) w
  line_holds_related condition blank w = plain_step w _ (still w)
  line_holds_related condition (assignment name o value) w = plain_step w _ (still w)
  line_holds_related condition (refused form) w = plain_step w _ (still w)
  line_holds_related condition rule w = plain_step w _ (still w)

  -- includes
  pub include_named_related : (optional : Bool) (name : Text) (w : World) → Relates w (include_named e optional name w) (include_named e' optional name w)
  unfolding include_named
  include_named_related optional name w =
      related_cond (is_utf8 name) _ _ _ _ w
      (related_cond (is_shell_pattern name) _ _ _ _ w (plain_step w _ (still w)) (h.include optional name w))
      (plain_step w _ (still w))

  pub each_include_related : (optional : Bool) (names : List Text) (w : World) → Relates w (each_include e optional names w) (each_include e' optional names w)
  unfolding each_include
  each_include_related optional [] w = plain_step w _ (still w)
  each_include_related optional (name ∷ names) w =
      related_then w (include_named e optional name w) (include_named e' optional name w) _ _ (include_named_related optional name w) (λ _ v. each_include_related optional names v)

  pub include_line_related : (optional : Bool) (text : Text) (w : World) → Relates w (include_line e optional text w) (include_line e' optional text w)
  unfolding include_line
  include_line_related optional text w =
      related_then w (expanded e text w) (expanded e' text w) _ _ (expanded_related e e' h text w) (λ x v. each_include_related optional (words_of x) v)

  -- rules
  pub entered_grows : (entry : Entry) (answer : Result (List Text) RuleFault) (w : World) → Grows w (left_of (entered entry answer w))
  entered_grows entry (Ok messages) w = (front_more w.said messages, front_same w.asked)
  entered_grows entry (Err x) w = still w

  pub enter_rule_grows : (entry : Entry) (w : World) → Grows w (left_of (enter_rule entry w))
  unfolding enter_rule
  enter_rule_grows entry w = entered_grows entry (added w.book entry (refusal_of w.book entry)) w

  pub close_grows : (entry : Option Entry) (w : World) → Grows w (left_of (close entry w))
  close_grows None w = still w
  close_grows (Some entry) w = enter_rule_grows entry (set_rule None w)

  pub close_rule_grows : (w : World) → Grows w (left_of (close_rule w))
  unfolding close_rule
  close_rule_grows w = close_grows w.rule w

  pub opened_grows : (answer : Result Entry RuleFault) (w : World) → Grows w (left_of (opened answer w))
  opened_grows (Ok entry) w = still w
  opened_grows (Err x) w = still w

  pub open_rule_grows : (recipe : Option Text) (head : Text) (w : World) → Grows w (left_of (open_rule recipe head w))
  unfolding open_rule
  open_rule_grows recipe head w = opened_grows (rule_of head recipe (rule_place w.place)) w

  pub rule_of_parts_related : (parts : Option RuleParts) (w : World) → Relates w (rule_of_parts e parts w) (rule_of_parts e' parts w)
  unfolding rule_of_parts
  rule_of_parts_related None w = plain_step w _ (still w)
  rule_of_parts_related (Some parts) w =
      related_then w (expanded e (plain_of parts.head) w) (expanded e' (plain_of parts.head) w) _ _ (expanded_related e e' h (plain_of parts.head) w)
      (λ head v. plain_step v _ (open_rule_grows (option_map recipe_of parts.recipe) head v))

  pub rule_line_related : (text : Text) (w : World) → Relates w (rule_line e text w) (rule_line e' text w)
  unfolding rule_line
  rule_line_related text w = rule_of_parts_related (line_parts text) w

  pub recipe_line_grows : (entry : Entry) (text : Text) (w : World) → Grows w (left_of (recipe_line entry text w))
  unfolding recipe_line
  recipe_line_grows entry text w = still w

  -- the open rule is closed first
  pub closing_related : (f f' : Step (Unit {0})) (w : World) → ((v : World) → Relates v (f v) (f' v)) → Relates w (then_do (close_rule w) (λ _. f)) (then_do (close_rule w) (λ _. f'))
  closing_related f f' w k = related_then w (close_rule w) (close_rule w) (λ _. f) (λ _. f') (plain_step w _ (close_rule_grows w)) (λ _ v. k v)

  -- lines
  pub at_number_grows : (source : Source) (number : ℕ) (w : World) → Grows w (at_number source number w)
  unfolding at_number
  at_number_grows Held number w = still w
  at_number_grows (File name) number w = still w

  pub read_include_related : (optional : Bool) (rest : Text) (w : World) → Relates w (read_include e optional rest w) (read_include e' optional rest w)
  unfolding read_include
  read_include_related optional rest w = closing_related _ _ w (λ v. include_line_related optional (plain_of rest) v)

  pub directive_related : (text : Text) (kind : Directive) (rest : Text) (w : World) → Relates w (read_kind e text (directive kind rest) w) (read_kind e' text (directive kind rest) w)
  unfolding read_kind
  directive_related text word.Include rest w = read_include_related false rest w
  directive_related text word.OptionalInclude rest w = read_include_related true rest w
  directive_related text word.Ifdef rest w = plain_step w _ (still w)
  directive_related text word.Ifndef rest w = plain_step w _ (still w)
  directive_related text word.Ifeq rest w = plain_step w _ (still w)
  directive_related text word.Ifneq rest w = plain_step w _ (still w)
  directive_related text word.Else rest w = plain_step w _ (still w)
  directive_related text word.Endif rest w = plain_step w _ (still w)
  directive_related text word.Define rest w = plain_step w _ (still w)
  directive_related text word.Endef rest w = plain_step w _ (still w)

  pub read_kind_related : (text : Text) (kind : Form) (w : World) → Relates w (read_kind e text kind w) (read_kind e' text kind w)
  unfolding read_kind
  read_kind_related text blank w = plain_step w _ (still w)
  read_kind_related text (assignment name o value) w = closing_related _ _ w (λ v. assign_line_related e e' h (plain_of name) o (plain_of value) v)
  read_kind_related text (directive kind rest) w = directive_related text kind rest w
  read_kind_related text (refused form) w = plain_step w _ (still w)
  read_kind_related text rule w = closing_related _ _ w (λ v. rule_line_related text v)

  pub read_bare_tab_related : (kind : Form) (w : World) → Relates w (read_bare_tab e kind w) (read_bare_tab e' kind w)
  unfolding read_bare_tab
  read_bare_tab_related blank w = plain_step w _ (still w)
  read_bare_tab_related (assignment name o value) w = assign_line_related e e' h (plain_of name) o (plain_of value) w
  read_bare_tab_related (directive kind rest) w = plain_step w _ (still w)
  read_bare_tab_related (refused form) w = plain_step w _ (still w)
  read_bare_tab_related rule w = plain_step w _ (still w)

  pub read_tab_in_related : (text : Text) (entry : Option Entry) (w : World) → Relates w (read_tab_in e text entry w) (read_tab_in e' text entry w)
  read_tab_in_related text None w = read_bare_tab_related (line_form text true) w
  read_tab_in_related text (Some entry) w = plain_step w _ (recipe_line_grows entry text w)

  pub read_tab_related : (text : Text) (w : World) → Relates w (read_tab e text w) (read_tab e' text w)
  unfolding read_tab
  read_tab_related text w = related_after w (set_rule None w) _ _ (still w) (read_tab_in_related text w.rule (set_rule None w))

  pub read_line_related : (raw : RawLine) (w : World) → Relates w (read_line e raw w) (read_line e' raw w)
  unfolding read_line
  read_line_related raw w =
      tabbed_related raw.tab
    where
      tabbed_related : (b : Bool) → Relates w (cond b (read_tab e raw.text w) (read_kind e raw.text (line_form raw.text false) w)) (cond b (read_tab e' raw.text w) (read_kind e' raw.text (line_form raw.text false) w))
      tabbed_related true = read_tab_related raw.text w
      tabbed_related false = read_kind_related raw.text (line_form raw.text false) w

  pub read_define_related : (kind : Form) (body : Text) (w : World) → Relates w (read_define e kind body w) (read_define e' kind body w)
  unfolding read_define
  read_define_related (directive word.Define rest) body w = closing_related _ _ w (λ v. define_related e e' h rest (form_of rest true) body v)
  read_define_related (directive word.Ifdef rest) body w = plain_step w _ (still w)
  read_define_related (directive word.Ifndef rest) body w = plain_step w _ (still w)
  read_define_related (directive word.Ifeq rest) body w = plain_step w _ (still w)
  read_define_related (directive word.Ifneq rest) body w = plain_step w _ (still w)
  read_define_related (directive word.Else rest) body w = plain_step w _ (still w)
  read_define_related (directive word.Endif rest) body w = plain_step w _ (still w)
  read_define_related (directive word.Endef rest) body w = plain_step w _ (still w)
  read_define_related (directive word.Include rest) body w = plain_step w _ (still w)
  read_define_related (directive word.OptionalInclude rest) body w = plain_step w _ (still w)
  read_define_related blank body w = plain_step w _ (still w)
  read_define_related (assignment name o value) body w = plain_step w _ (still w)
  read_define_related (refused form) body w = plain_step w _ (still w)
  read_define_related rule body w = plain_step w _ (still w)

  pub read_stray_grows : (kind : Stray) (w : World) → Grows w (left_of (read_stray kind w))
  unfolding read_stray
  read_stray_grows stray.Else w = still w
  read_stray_grows stray.LateElse w = still w
  read_stray_grows stray.Endif w = still w
  read_stray_grows stray.Endef w = still w

  module _ (sheet : Page) where
    pub at_line_grows : (place : ℕ) (w : World) → Grows w (at_line sheet place w)
    at_line_grows place w = at_number_grows sheet.source (line_at sheet.lines place).number w

    pub late_else_grows : (branches : Branches) (w : World) → Grows w (left_of (late_else sheet branches w))
    unfolding late_else
    late_else_grows no_branch w = still w
    late_else_grows (branch place condition items others) w = late_else_grows others w
    late_else_grows (late place items others) w =
        further w (at_line sheet place w) (left_of {A = Unit {0}} (read_stray stray.LateElse (at_line sheet place w))) (at_line_grows place w) (read_stray_grows stray.LateElse (at_line sheet place w))

    pub branch_holds_related : (place : ℕ) (condition : Bool) (w : World) → Relates w (branch_holds e sheet place condition w) (branch_holds e' sheet place condition w)
    unfolding branch_holds
    branch_holds_related place condition w =
        related_after w (at_line sheet place w) _ _ (at_line_grows place w)
        (line_holds_related condition (line_form (line_at sheet.lines place).text false) (at_line sheet place w))

    mutual
      unfolding read_items

      pub read_items_related : (items : Items) (w : World) → Relates w (read_items e sheet items w) (read_items e' sheet items w)
      read_items_related none w = plain_step w _ (still w)
      read_items_related (line place next) w =
          let v : World = at_line sheet place w in
          related_after w v _ _ (at_line_grows place w)
          (related_then v (read_line e (line_at sheet.lines place) v) (read_line e' (line_at sheet.lines place) v) _ _ (read_line_related (line_at sheet.lines place) v)
          (λ _ u. read_items_related next u))
      read_items_related (fault kind place next) w =
          let v : World = at_line sheet place w in
          related_after w v _ _ (at_line_grows place w)
          (related_then v (read_stray kind v) (read_stray kind v) _ _ (plain_step v _ (read_stray_grows kind v)) (λ _ u. read_items_related next u))
      read_items_related (definition place body_end next) w =
          let v : World = at_line sheet place w in
          let kind : Form = line_form (line_at sheet.lines place).text false in
          let body : Text = body_at sheet (place + 1) body_end in
          related_after w v _ _ (at_line_grows place w)
          (related_then v (read_define e kind body v) (read_define e' kind body v) _ _ (read_define_related kind body v) (λ _ u. read_items_related next u))
      read_items_related (conditional place first others next) w =
          related_then w (branch_holds e sheet place true w) (branch_holds e' sheet place true w) _ _ (branch_holds_related place true w)
          (λ chosen v. related_then v _ _ _ _ (related_cond chosen _ _ _ _ v (read_items_related first v) (read_branches_related others v))
          (λ _ u. related_then u (late_else sheet others u) (late_else sheet others u) _ _ (plain_step u _ (late_else_grows others u))
          (λ _ t. read_items_related next t)))

      pub read_branches_related : (branches : Branches) (w : World) → Relates w (read_branches e sheet branches w) (read_branches e' sheet branches w)
      read_branches_related no_branch w = plain_step w _ (still w)
      read_branches_related (branch place condition items others) w =
          related_then w (branch_holds e sheet place condition w) (branch_holds e' sheet place condition w) _ _ (branch_holds_related place condition w)
          (λ chosen v. related_cond chosen _ _ _ _ v (read_items_related items v) (read_branches_related others v))
      read_branches_related (late place items others) w = plain_step w _ (still w)

    -- what comes after the test of a conditional, and after that of a further branch
    pub after_first_related : (chosen : Bool) (first : Items) (others : Branches) (next : Items) (w : World)
        → Relates w (then_do (cond chosen (read_items e sheet first) (read_branches e sheet others) w) (λ _ v. then_do (late_else sheet others v) (λ _. read_items e sheet next)))
        (then_do (cond chosen (read_items e' sheet first) (read_branches e' sheet others) w) (λ _ v. then_do (late_else sheet others v) (λ _. read_items e' sheet next)))
    after_first_related chosen first others next w =
        related_then w _ _ _ _ (related_cond chosen _ _ _ _ w (read_items_related first w) (read_branches_related others w))
        (λ _ v. related_then v (late_else sheet others v) (late_else sheet others v) _ _ (plain_step v _ (late_else_grows others v))
        (λ _ u. read_items_related next u))

    pub after_branch_related : (chosen : Bool) (items : Items) (others : Branches) (w : World)
        → Relates w (cond chosen (read_items e sheet items) (read_branches e sheet others) w) (cond chosen (read_items e' sheet items) (read_branches e' sheet others) w)
    after_branch_related chosen items others w = related_cond chosen _ _ _ _ w (read_items_related items w) (read_branches_related others w)

  pub read_end_grows : (source : Source) (end : Option Missing) (w : World) → Grows w (left_of (read_end source end w))
  unfolding read_end
  read_end_grows source None w = still w
  read_end_grows source (Some (missing.Endif number)) w = at_number_grows source number w
  read_end_grows source (Some (missing.Endef number)) w = at_number_grows source number w

  -- texts and files
  pub read_sheet_related : (sheet : Page) (w : World) → Relates w (read_sheet e sheet w) (read_sheet e' sheet w)
  unfolding read_sheet
  read_sheet_related sheet w =
      let items : Items = tree_of sheet.blocks.steps in
      related_then w (read_items e sheet items w) (read_items e' sheet items w) _ _ (read_items_related sheet items w)
      (λ _ v. closing_related _ _ v (λ u. plain_step u _ (read_end_grows sheet.source sheet.blocks.missing u)))

  pub read_without_nul_related : (source : Source) (text : Text) (nul : Option ℕ) (w : World) → Relates w (read_without_nul e source text nul w) (read_without_nul e' source text nul w)
  read_without_nul_related source text None w = read_sheet_related (sheet_of source text) w
  read_without_nul_related source text (Some number) w = plain_step w _ (at_number_grows source number w)

  pub read_text_related : (source : Source) (text : Text) (w : World) → Relates w (read_text e source text w) (read_text e' source text w)
  unfolding read_text
  read_text_related source text w = read_without_nul_related source text (nul_line text) w

  pub read_held_related : (text : Text) (w : World) → Relates w (read_held e text w) (read_held e' text w)
  unfolding read_held
  read_held_related text w =
      let v : World = set_rule None w in
      related_after w v _ _ (still w)
      (related_then v (read_text e Held text v) (read_text e' Held text v) _ _ (read_text_related Held text v) (λ _ u. plain_step u _ (still u)))

  pub read_file_related : (name text : Text) (w : World) → Relates w (read_file e name text w) (read_file e' name text w)
  unfolding read_file
  read_file_related name text w =
      related_cond (nat_lt largest_file (length text)) (stop kinds.FileTooLarge name) (read_text e (File name) text)
      (stop kinds.FileTooLarge name) (read_text e' (File name) text) w
      (plain_step w _ (still w)) (read_text_related (File name) text w)

  pub read_included_related : (optional : Bool) (name : Text) (found : Option Text) (w : World) → Relates w (read_included e optional name found w) (read_included e' optional name found w)
  read_included_related true name None w = plain_step w _ (still w)
  read_included_related false name None w = plain_step w _ (still w)
  read_included_related true name (Some text) w =
      related_then w (read_file e name text w) (read_file e' name text w) _ _ (read_file_related name text w) (λ _ v. plain_step v _ (still v))
  read_included_related false name (Some text) w =
      related_then w (read_file e name text w) (read_file e' name text w) _ _ (read_file_related name text w) (λ _ v. plain_step v _ (still v))

  module _ (store : Store) where
    pub read_bytes_grows : (name : Text) (w : World) → Grows w (left_of (read_bytes store name w))
    unfolding read_bytes
    read_bytes_grows name w = (front_same w.said, front_more w.asked (name ∷ []))

    pub included_related : (optional : Bool) (name : Text) (w : World) → Relates w (included store e optional name w) (included store e' optional name w)
    unfolding included
    included_related optional name w =
        related_then w (read_bytes store name w) (read_bytes store name w) _ _ (plain_step w _ (read_bytes_grows name w)) (λ found v. read_included_related optional name found v)

    pub read_or_related : (name : Text) (found : Option Text) (others others' : Step (Unit {0})) (w : World) → Relates w (others w) (others' w) → Relates w (read_or e name found others w) (read_or e' name found others' w)
    read_or_related name None others others' w k = k
    read_or_related name (Some text) others others' w k = read_file_related name text w

    pub read_first_related : (names : List Text) (w : World) → Relates w (read_first store e names w) (read_first store e' names w)
    unfolding read_first
    read_first_related [] w = plain_step w _ (still w)
    read_first_related (name ∷ names) w =
        related_then w (read_bytes store name w) (read_bytes store name w) _ _ (plain_step w _ (read_bytes_grows name w))
        (λ found v. read_or_related name found _ _ v (read_first_related names v))

    pub above_related : Related (above store e) (above store e')
    unfolding above
    above_related = record {
      reads = h.reads;
      expand = λ text w. expanded_related e e' h text w;
      eval = λ text w. read_held_related text w;
      include = λ optional name w. included_related optional name w;
    }

too_deep_first : {A : Type 0} (w : World) (o : StepEnd World A) → Relates w (too_deep w) o
too_deep_first w o = (still w, inl refl)

pub one_more_level : (reads : Bool) (store : Store) (levels : ℕ) → Related (evaluator reads store levels) (evaluator reads store (suc levels))
unfolding evaluator none_left above
one_more_level reads store zero = grind (arith, too_deep_first)
one_more_level reads store (suc levels) = above_related (evaluator reads store levels) (evaluator reads store (suc levels)) (one_more_level reads store levels) store

agreed : {A : Type 0} (o o' : StepEnd World A) → (IsTooDeep o → ⊥) → Agree o o' → o' ≡ o
agreed o o' deep (inl d) = absurd (deep d)
agreed o o' deep (inr e) = sym e

module _ (reads : Bool) (store : Store) where
  pub expanding_grows : (levels : ℕ) (text : Text) → TakesNothingBack (expanded (evaluator reads store levels) text)
  expanding_grows levels text w = (expanded_related (evaluator reads store levels) (evaluator reads store (suc levels)) (one_more_level reads store levels) text w).0

  pub expanding_stays : (text : Text) → StaysOneDeeper (λ levels. expanded (evaluator reads store levels) text)
  expanding_stays text levels w deep =
      agreed _ _ deep (expanded_related (evaluator reads store levels) (evaluator reads store (suc levels)) (one_more_level reads store levels) text w).1

  pub applying_stays : (f : Function) (arguments : List Text) → StaysOneDeeper (λ levels. apply (evaluator reads store levels) f arguments)
  applying_stays f arguments levels w deep =
      agreed _ _ deep (apply_related (evaluator reads store levels) (evaluator reads store (suc levels)) (one_more_level reads store levels) f arguments w).1

  pub reading_stays : (names : List Text) → StaysOneDeeper (λ levels. read_first store (evaluator reads store levels) names)
  reading_stays names levels w deep =
      agreed _ _ deep (read_first_related (evaluator reads store levels) (evaluator reads store (suc levels)) (one_more_level reads store levels) store names w).1

  pub tree_stays : (sheet : Page) (items : Items) → StaysOneDeeper (λ levels. read_items (evaluator reads store levels) sheet items)
  tree_stays sheet items levels w deep =
      agreed _ _ deep (read_items_related (evaluator reads store levels) (evaluator reads store (suc levels)) (one_more_level reads store levels) sheet items w).1

  pub text_stays : (source : Source) (text : Text) → StaysOneDeeper (λ levels. read_text (evaluator reads store levels) source text)
  text_stays source text levels w deep =
      agreed _ _ deep (read_text_related (evaluator reads store levels) (evaluator reads store (suc levels)) (one_more_level reads store levels) source text w).1
