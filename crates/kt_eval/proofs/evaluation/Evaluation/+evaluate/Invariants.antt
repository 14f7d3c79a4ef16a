-- The order of the cycle: each function ranks above those that it calls at the same level. The loops: what remains to
-- be done from here is what was to be done from the start.
use Rattle.std.proofs.Common.{◌≡◌, ◌<◌, ◌≤◌, ◌+◌, ◌-◌, ◌*◌, [], length, map, drop}
use Rattle.kt_eval.proofs.Common.{words_of, terms_of, Keeps, AgreeWith, Store, each_term, each_argument, apply_or, apply_and, each_word, evaluator, read_items, tree_of, left_at}
use Rattle.kt_eval.specs.files.Including.{each_include}
use Rattle.kt_eval.proofs.lemmas.reading.ReadingLemmas.{Tries}
use Rattle.kt_eval.proofs.evaluation.Evaluation.+evaluate.Given as goal

abbrev pub decreases-expand : goal.decreases-expand
decreases-expand g l = 64 * l.levels

abbrev pub decreases-eval : goal.decreases-eval
decreases-eval g l = 64 * l.levels

abbrev pub decreases-value_of : goal.decreases-value_of
decreases-value_of g l = 64 * l.below + 1

abbrev pub decreases-each_argument : goal.decreases-each_argument
decreases-each_argument g l = 64 * l.below + 1

abbrev pub decreases-apply_if : goal.decreases-apply_if
decreases-apply_if g l = 64 * l.below + 1

abbrev pub decreases-apply_or : goal.decreases-apply_or
decreases-apply_or g l = 64 * l.below + 1

abbrev pub decreases-apply_and : goal.decreases-apply_and
decreases-apply_and g l = 64 * l.below + 1

abbrev pub decreases-each_word : goal.decreases-each_word
decreases-each_word g l = 64 * l.below + 1

abbrev pub decreases-apply_value : goal.decreases-apply_value
decreases-apply_value g l = 64 * l.below + 1

abbrev pub decreases-apply_eval : goal.decreases-apply_eval
decreases-apply_eval g l = 64 * l.below + 1

abbrev pub decreases-apply_error : goal.decreases-apply_error
decreases-apply_error g l = 64 * l.below + 1

abbrev pub decreases-apply_warning : goal.decreases-apply_warning
decreases-apply_warning g l = 64 * l.below + 1

abbrev pub decreases-apply_info : goal.decreases-apply_info
decreases-apply_info g l = 64 * l.below + 1

abbrev pub decreases-call : goal.decreases-call
decreases-call g l = 64 * l.below + 2

abbrev pub decreases-value_named : goal.decreases-value_named
decreases-value_named g l = 64 * l.below + 2

abbrev pub decreases-apply_text : goal.decreases-apply_text
decreases-apply_text g l = 64 * l.below + 2

abbrev pub decreases-apply_foreach : goal.decreases-apply_foreach
decreases-apply_foreach g l = 64 * l.below + 2

abbrev pub decreases-call_by_name : goal.decreases-call_by_name
decreases-call_by_name g l = 64 * l.below + 3

abbrev pub decreases-apply_call : goal.decreases-apply_call
decreases-apply_call g l = 64 * l.below + 4

abbrev pub decreases-apply : goal.decreases-apply
decreases-apply g l = 64 * l.below + 5

abbrev pub decreases-refer : goal.decreases-refer
decreases-refer g l = 64 * l.below + 6

abbrev pub decreases-expand_term : goal.decreases-expand_term
decreases-expand_term g l = 64 * l.below + 7

abbrev pub decreases-put_term : goal.decreases-put_term
decreases-put_term g l = 64 * l.below + 8

abbrev pub decreases-expand_here : goal.decreases-expand_here
decreases-expand_here g l = 64 * l.below + 9

abbrev pub decreases-expand_text : goal.decreases-expand_text
decreases-expand_text g l = 64 * l.below + 10

abbrev pub decreases-include : goal.decreases-include
decreases-include g l = 64 * l.levels

abbrev pub decreases-assign : goal.decreases-assign
decreases-assign g l = 64 * l.below + 11

abbrev pub decreases-assign_named : goal.decreases-assign_named
decreases-assign_named g l = 64 * l.below + 12

abbrev pub decreases-assign_line : goal.decreases-assign_line
decreases-assign_line g l = 64 * l.below + 13

abbrev pub decreases-define : goal.decreases-define
decreases-define g l = 64 * l.below + 14

abbrev pub decreases-read_assignment : goal.decreases-read_assignment
decreases-read_assignment g l = 64 * l.below + 14

abbrev pub decreases-rule_line : goal.decreases-rule_line
decreases-rule_line g l = 64 * l.below + 12

abbrev pub decreases-read_rule : goal.decreases-read_rule
decreases-read_rule g l = 64 * l.below + 11

abbrev pub decreases-is_defined : goal.decreases-is_defined
decreases-is_defined g l = 64 * l.below + 11

abbrev pub decreases-expanded_equal : goal.decreases-expanded_equal
decreases-expanded_equal g l = 64 * l.below + 11

abbrev pub decreases-are_equal : goal.decreases-are_equal
decreases-are_equal g l = 64 * l.below + 12

abbrev pub decreases-holds : goal.decreases-holds
decreases-holds g l = 64 * l.below + 13

abbrev pub decreases-worded_holds : goal.decreases-worded_holds
decreases-worded_holds g l = 64 * l.below + 14

abbrev pub decreases-text_holds : goal.decreases-text_holds
decreases-text_holds g l = 64 * l.below + 15

abbrev pub decreases-else_holds : goal.decreases-else_holds
decreases-else_holds g l = 64 * l.below + 16

abbrev pub decreases-line_holds : goal.decreases-line_holds
decreases-line_holds g l = 64 * l.below + 17

abbrev pub decreases-branch_holds : goal.decreases-branch_holds
decreases-branch_holds g l = 64 * l.below + 18

abbrev pub decreases-include_named : goal.decreases-include_named
decreases-include_named g l = 64 * l.below + 1

abbrev pub decreases-each_include : goal.decreases-each_include
decreases-each_include g l = 64 * l.below + 2

abbrev pub decreases-include_line : goal.decreases-include_line
decreases-include_line g l = 64 * l.below + 11

abbrev pub decreases-read_include : goal.decreases-read_include
decreases-read_include g l = 64 * l.below + 12

abbrev pub decreases-read_kind : goal.decreases-read_kind
decreases-read_kind g l = 64 * l.below + 15

abbrev pub decreases-read_bare_tab : goal.decreases-read_bare_tab
decreases-read_bare_tab g l = 64 * l.below + 16

abbrev pub decreases-read_bare_form : goal.decreases-read_bare_form
decreases-read_bare_form g l = 64 * l.below + 15

abbrev pub decreases-read_tab : goal.decreases-read_tab
decreases-read_tab g l = 64 * l.below + 17

abbrev pub decreases-read_line : goal.decreases-read_line
decreases-read_line g l = 64 * l.below + 18

abbrev pub decreases-read_define : goal.decreases-read_define
decreases-read_define g l = 64 * l.below + 16

abbrev pub decreases-read_define_form : goal.decreases-read_define_form
decreases-read_define_form g l = 64 * l.below + 15

abbrev pub decreases-read_conditional : goal.decreases-read_conditional
decreases-read_conditional g l = 64 * l.below + 19

abbrev pub decreases-read_step : goal.decreases-read_step
decreases-read_step g l = 64 * l.below + 20

abbrev pub decreases-read_next : goal.decreases-read_next
decreases-read_next g l = 64 * l.below + 21

abbrev pub decreases-read_items : goal.decreases-read_items
decreases-read_items g l = 64 * l.below + 22

abbrev pub decreases-read_page : goal.decreases-read_page
decreases-read_page g l = 64 * l.below + 23

abbrev pub decreases-read_text : goal.decreases-read_text
decreases-read_text g l = 64 * l.below + 24

abbrev pub decreases-read_held : goal.decreases-read_held
decreases-read_held g l = 64 * l.below + 25

abbrev pub decreases-read_file : goal.decreases-read_file
decreases-read_file g l = 64 * l.below + 25

abbrev pub decreases-read_included : goal.decreases-read_included
decreases-read_included g l = 64 * l.below + 26

abbrev pub decreases-included : goal.decreases-included
decreases-included g l = 64 * l.below + 27

abbrev pub invariant-expand_here-terms : goal.invariant-expand_here-terms
invariant-expand_here-terms g l =
    let e = λ (store : Store). evaluator g.M.MacroScope.writable store l.below in
    record {
      kept : Keeps l.fn.self l.self;
      unfailed : l.self.failed ≡ l.fn.self.failed;
      rest : (store : Store) → AgreeWith store l.self.answers → each_term (e store) l.out.items l.rest l.self.world ≡ each_term (e store) [] (terms_of l.text) l.fn.self.world;
    }

abbrev pub decreases-expand_here-terms : goal.decreases-expand_here-terms
decreases-expand_here-terms g l = length l.rest

abbrev pub invariant-each_argument-arguments : goal.invariant-each_argument-arguments
invariant-each_argument-arguments g l =
    let e = λ (store : Store). evaluator g.M.MacroScope.writable store l.below in
    record {
      kept : Keeps l.fn.self l.self;
      unfailed : l.self.failed ≡ l.fn.self.failed;
      rest : (store : Store) → AgreeWith store l.self.answers → each_argument (e store) l.out.items (map (λ a. a.now) (drop l.place l.texts)) l.self.world ≡ each_argument (e store) l.fn.first.items (map (λ a. a.now) l.texts) l.fn.self.world;
    }

abbrev pub decreases-each_argument-arguments : goal.decreases-each_argument-arguments
decreases-each_argument-arguments g l = length l.texts - l.place

abbrev pub invariant-apply_or-arguments : goal.invariant-apply_or-arguments
invariant-apply_or-arguments g l =
    let e = λ (store : Store). evaluator g.M.MacroScope.writable store l.below in
    record {
      kept : Keeps l.fn.self l.self;
      unfailed : l.self.failed ≡ l.fn.self.failed;
      rest : (store : Store) → AgreeWith store l.self.answers → apply_or (e store) (map (λ a. a.now) (drop l.place l.texts)) l.self.world ≡ apply_or (e store) (map (λ a. a.now) l.texts) l.fn.self.world;
    }

abbrev pub decreases-apply_or-arguments : goal.decreases-apply_or-arguments
decreases-apply_or-arguments g l = length l.texts - l.place

abbrev pub invariant-apply_and-arguments : goal.invariant-apply_and-arguments
invariant-apply_and-arguments g l =
    let e = λ (store : Store). evaluator g.M.MacroScope.writable store l.below in
    record {
      kept : Keeps l.fn.self l.self;
      unfailed : l.self.failed ≡ l.fn.self.failed;
      rest : (store : Store) → AgreeWith store l.self.answers → apply_and (e store) (map (λ a. a.now) (drop l.place l.texts)) l.self.world ≡ apply_and (e store) (map (λ a. a.now) l.texts) l.fn.self.world;
    }

abbrev pub decreases-apply_and-arguments : goal.decreases-apply_and-arguments
decreases-apply_and-arguments g l = length l.texts - l.place

abbrev pub invariant-each_word-words : goal.invariant-each_word-words
invariant-each_word-words g l =
    let e = λ (store : Store). evaluator g.M.MacroScope.writable store l.below in
    record {
      kept : Keeps l.fn.self l.self;
      unfailed : l.self.failed ≡ l.fn.self.failed;
      rest : (store : Store) → AgreeWith store l.self.answers → each_word (e store) l.name l.body l.out.items l.separator l.rest l.self.world ≡ each_word (e store) l.name l.body [] [] (words_of l.list) l.fn.self.world;
    }

abbrev pub decreases-each_word-words : goal.decreases-each_word-words
decreases-each_word-words g l = length l.rest

abbrev pub invariant-each_include-names : goal.invariant-each_include-names
invariant-each_include-names g l =
    let e = λ (store : Store). evaluator g.M.MacroScope.writable store l.below in
    record {
      kept : Keeps l.fn.self l.self;
      unfailed : l.self.failed ≡ l.fn.self.failed;
      rest : (store : Store) → AgreeWith store l.self.answers → each_include (e store) l.optional l.rest l.self.world ≡ each_include (e store) l.optional (words_of l.names) l.fn.self.world;
    }

abbrev pub decreases-each_include-names : goal.decreases-each_include-names
decreases-each_include-names g l = length l.rest

abbrev pub invariant-read_items-lines : goal.invariant-read_items-lines
invariant-read_items-lines g l =
    let e = λ (store : Store). evaluator g.M.MacroScope.writable store l.below in
    record {
      kept : Keeps l.fn.self l.self;
      unfailed : l.self.failed ≡ l.fn.self.failed;
      within : l.place ≤ length l.page.blocks.steps;
      rest : (store : Store) → AgreeWith store l.self.answers → read_items (e store) l.page (left_at l.page.blocks.steps l.place) l.self.world ≡ read_items (e store) l.page (tree_of l.page.blocks.steps) l.fn.self.world;
    }

abbrev pub decreases-read_items-lines : goal.decreases-read_items-lines
decreases-read_items-lines g l = length l.page.blocks.steps - l.place

abbrev pub invariant-read_conditional-branches : goal.invariant-read_conditional-branches
invariant-read_conditional-branches g l =
    let e = λ (store : Store). evaluator g.M.MacroScope.writable store l.below in
    record {
      kept : Keeps l.fn.self l.self;
      unfailed : l.self.failed ≡ l.fn.self.failed;
      ahead : l.place < l.at;
      within : l.at ≤ length l.page.blocks.steps;
      rest : (store : Store) → AgreeWith store l.self.answers → Tries (e store) l.page l.page.blocks.steps l.at l.after l.self.world (read_items (e store) l.page (left_at l.page.blocks.steps l.place) l.fn.self.world);
    }

abbrev pub decreases-read_conditional-branches : goal.decreases-read_conditional-branches
decreases-read_conditional-branches g l = length l.page.blocks.steps - l.at
