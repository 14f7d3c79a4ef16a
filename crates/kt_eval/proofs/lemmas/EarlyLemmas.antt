-- Messages and names so far, if something fails: they are a prefix of those of the whole step.
use Rattle.std.proofs.Common.{◌≡◌, ℕ, suc, ◌+◌, ◌<◌, ◌==◌, ◌||◌, Bool, true, cond, false, List, [], ◌∷◌, ◌++◌, length, map, drop, get_or, drop-cons, Some, Result, Err, codes, refl, sym, ap, subst, ◌∙◌, arith, Bor}
use Rattle.kt_eval.proofs.Common.{slice_get, Text, words_of, stripped, Items, Branches, definition, conditional, no_branch, branch, late, tree_of, Form, line_form, left_at, AreTried, Stop, Store, AgreeWith, Keeps, Evaluator, World, bind, unbind, Loop, StepEnd, Gave, Stopped, Fails, IfCutBy, then_do, left_of, Step, GoesOn, is_function_name, expanded, each_argument, apply_or, apply_and, apply_eval, apply_foreach, call_by_name, each_word, evaluator, Page, at_line, line_at, body_at, branch_holds, late_else, read_bytes, read_define, read_first, read_items, read_branches, read_or, read_sheet}
use Rattle.kt_syntax.specs.declared.step.BlockStep.{BlockStep as Found}
use Rattle.kt_syntax.specs.declared.step.BlockStep.TheVariants as step
use Rattle.kt_eval.specs.declared.stop.Stop.TheVariants as stops
use Rattle.kt_eval.specs.views.Outcome.{Blames}
use Rattle.kt_eval.specs.inner.Evaluation.{Evaluation, files_of}
use Rattle.kt_eval.specs.inner.Doing.{DoesIn, ReadsUpTo, reading_from}
use Rattle.kt_eval.specs.reading.Conditions.{ComparedTexts}
use Rattle.kt_eval.specs.reading.Conditionals.{are_equal}
use Rattle.kt_eval.specs.reading.Rules.{close_rule}
use Rattle.kt_eval.proofs.LevelLemmas.{evaluator_reads}
use Rattle.kt_eval.proofs.lemmas.reading.ReadingLemmas.{Tries}
use Rattle.kt_eval.proofs.lemmas.GrowingReads.{after_first_related, after_branch_related, read_first_related, read_or_related, one_more_level}
use Rattle.kt_eval.proofs.lemmas.TrailLemmas.{grown}
use Rattle.kt_eval.proofs.Steps.{called_goes, expand_goes, eval_goes, each_word_goes, expanded_goes, each_argument_goes, apply_or_goes, apply_and_goes, read_items_goes, close_rule_goes, read_end_goes}

-- a call that was stopped ended as a step does, or was cut before its end
abbrev pub Early : {A : Type 0} → Stop → World → StepEnd World A → Type 0
Early stop w o = Fails stop w o × IfCutBy stop (GoesOn w (left_of o))

-- a call of a step that was stopped
pub does_early : {A B : Type 0} {see : A → B} {writable : Bool} {levels : ℕ} {step : Store → Evaluator → Step B} {result : Result A Stop}
    {old new : Evaluation} {e : Stop} (stop : Stop) → result ≡ Err e → e ≡ stop
    → ((store : Store) → AgreeWith store new.answers → Early stop new.world (step store (evaluator writable store levels) old.world))
    → Keeps old new → Blames result (files_of old) (files_of new) → DoesIn see writable levels step result old new
does_early stop is same early kept blames = record {
  gives = λ store agrees. rw (is, same) (early store agrees).0;
  cut = λ store agrees. rw (is, same) (early store agrees).1;
  kept = kept;
  blames = blames;
}

-- a call that reads a page from one place on and was stopped
pub reads_early : {writable : Bool} {levels : ℕ} {sheet : Page} {place : ℕ} {result : Result ℕ Stop} {old new : Evaluation} {e : Stop} (stop : Stop)
    → result ≡ Err e → e ≡ stop
    → ((store : Store) → AgreeWith store new.answers → Early stop new.world (reading_from writable store levels sheet place old.world))
    → Keeps old new → Blames result (files_of old) (files_of new) → ReadsUpTo writable levels sheet place result old new
reads_early stop is same early kept blames = record {
  ahead = rw is tt;
  rest = λ store agrees. rw is tt;
  fails = λ store agrees. rw (is, same) (early store agrees).0;
  cut = λ store agrees. rw (is, same) (early store agrees).1;
  kept = kept;
  blames = blames;
}

pub stands : (w : World) → GoesOn w w
stands w of texts = omega arith

goes_further : (u v w : World) → GoesOn u v → GoesOn v w → GoesOn u w
goes_further u v w p q of texts = omega (arith, p of texts, q of texts)

-- what is before the end of a step is before that of a longer one
early_then : {A B : Type 0} (v : World) (o : StepEnd World A) (f : A → Step B) → ((x : A) (w : World) → GoesOn w (left_of (f x w))) → GoesOn v (left_of o) → GoesOn v (left_of (then_do o f))
early_then v (Gave w x) f more h = goes_further v w (left_of (f x w)) h (more x w)
early_then v (Stopped w x) f more h = h

-- a step that stops, or is cut, in its first part
pub fails_then : {A B : Type 0} (stop : Stop) (w : World) (o : StepEnd World A) (f : A → Step B) → ((x : A) (v : World) → GoesOn v (left_of (f x v))) → Early stop w o → Early stop w (then_do o f)
fails_then (stops.Fault fault) w o f more h = (rw h.0 refl, tt)
fails_then (stops.Device name) w o f more h = (tt, early_then w o f more h.1)
fails_then stops.Memory w o f more h = (tt, early_then w o f more h.1)

front_cond : {A : Type 0} (b : Bool) (s t : Step A) (w : World) → GoesOn w (left_of (s w)) → GoesOn w (left_of (t w)) → GoesOn w (left_of (cond b s t w))
front_cond true s t w p q = p
front_cond false s t w p q = q

texts_left : (texts : List (Bor Text)) (place : ℕ) (d : Bor Text) → place < length texts → map (λ a. a.now) (drop place texts) ≡ (get_or texts place d).now ∷ map (λ a. a.now) (drop (suc place) texts)
texts_left texts place d within = ap (map (λ (a : Bor Text). a.now)) (drop-cons texts place d within)

module _ (reads : Bool) (store : Store) (levels : ℕ) where
  pub eval_fails : (stop : Stop) (w v : World) (text : Text) → reads ≡ true
      → Early stop v ((evaluator reads store levels).expand text w) → Early stop v (apply_eval (evaluator reads store levels) text w)
  unfolding apply_eval
  eval_fails stop w v text is h =
      rw (evaluator_reads reads store levels ∙ is)
      (fails_then stop v ((evaluator reads store levels).expand text w) _
      (λ x u. early_then u ((evaluator reads store levels).eval x u) _ (λ _ t. stands t) (eval_goes reads store levels x u)) h)

  pub foreach_fails : (stop : Stop) (w v : World) (variable list body : Text)
      → Early stop v ((evaluator reads store levels).expand variable w) → Early stop v (apply_foreach (evaluator reads store levels) variable list body w)
  unfolding apply_foreach
  foreach_fails stop w v variable list body h =
      fails_then stop v ((evaluator reads store levels).expand variable w) _
      (λ name u. early_then u ((evaluator reads store levels).expand list u) _
      (λ words t. each_word_goes reads store levels (stripped name) body [] [] (words_of words) t) (expand_goes reads store levels list u)) h

  -- the body of a loop, for the first of the words that remain
  pub word_fails : (stop : Stop) (w v : World) (name body out separator bound taken word : Text) (words rest : List Text)
      → words ≡ word ∷ rest → bound ≡ name → taken ≡ word
      → Early stop v ((evaluator reads store levels).expand body (bind (Loop bound taken) w))
      → Early stop v (each_word (evaluator reads store levels) name body out separator words w)
  unfolding each_word
  word_fails stop w v name body out separator bound taken word words rest is bound_is taken_is h =
      let held : Early stop v ((evaluator reads store levels).expand body (bind (Loop name word) w)) =
      rw (sym bound_is, sym taken_is) h in
      rw is
      (fails_then stop v ((evaluator reads store levels).expand body (bind (Loop name word) w)) _
      (λ x u. each_word_goes reads store levels name body (out ++ (separator ++ x)) (codes " ") rest (unbind u)) held)

  pub equal_fails : (stop : Stop) (w v : World) (compared : ComparedTexts)
      → Early stop v (expanded (evaluator reads store levels) compared.first w) → Early stop v (are_equal (evaluator reads store levels) (Some compared) w)
  unfolding are_equal
  equal_fails stop w v compared h =
      fails_then stop v (expanded (evaluator reads store levels) compared.first w) _
      (λ x u. early_then u (expanded (evaluator reads store levels) compared.second u) _ (λ y t. stands t) (expanded_goes reads store levels compared.second u)) h

  -- the arguments of a call, the first of which is the name
  pub call_fails : (stop : Stop) (w v : World) (name : Text) (first texts : List Text) → is_function_name name ≡ false → first ≡ name ∷ []
      → Early stop v (each_argument (evaluator reads store levels) first texts w) → Early stop v (call_by_name (evaluator reads store levels) name texts w)
  unfolding call_by_name
  call_fails stop w v name first texts other is h =
      rw other
      (fails_then stop v (each_argument (evaluator reads store levels) (name ∷ []) texts w) _
      (λ arguments u. called_goes reads store levels name arguments u)
      (subst (λ (begun : List Text). Early stop v (each_argument (evaluator reads store levels) begun texts w)) is h))

  pub argument_fails : (stop : Stop) (w v : World) (out : List Text) (text : Text) (texts : List Text)
      → Early stop v ((evaluator reads store levels).expand text w) → Early stop v (each_argument (evaluator reads store levels) out (text ∷ texts) w)
  unfolding each_argument
  argument_fails stop w v out text texts h =
      fails_then stop v ((evaluator reads store levels).expand text w) _ (λ x u. each_argument_goes reads store levels (out ++ x ∷ []) texts u) h

  pub or_fails : (stop : Stop) (w v : World) (text : Text) (texts : List Text)
      → Early stop v ((evaluator reads store levels).expand (stripped text) w) → Early stop v (apply_or (evaluator reads store levels) (text ∷ texts) w)
  unfolding apply_or
  or_fails stop w v text texts h =
      fails_then stop v ((evaluator reads store levels).expand (stripped text) w) _
      (λ x u. front_cond (length x == 0) _ _ u (apply_or_goes reads store levels texts u) (stands u)) h

  pub and_fails : (stop : Stop) (w v : World) (text : Text) (texts : List Text)
      → Early stop v ((evaluator reads store levels).expand (stripped text) w) → Early stop v (apply_and (evaluator reads store levels) (text ∷ texts) w)
  unfolding apply_and
  and_fails stop w v text texts h =
      fails_then stop v ((evaluator reads store levels).expand (stripped text) w) _
      (λ x u. front_cond (length x == 0 || length texts == 0) _ _ u (stands u) (apply_and_goes reads store levels texts u)) h

  -- the same at a place of texts
  pub argument_at_fails : (stop : Stop) (w v : World) (out : List Text) (texts : List (Bor Text)) (place : ℕ) (d : Bor Text) → place < length texts
      → Early stop v ((evaluator reads store levels).expand (get_or texts place d).now w)
      → Early stop v (each_argument (evaluator reads store levels) out (map (λ a. a.now) (drop place texts)) w)
  argument_at_fails stop w v out texts place d within h =
      rw (texts_left texts place d within) (argument_fails stop w v out (get_or texts place d).now (map (λ a. a.now) (drop (suc place) texts)) h)

  pub or_at_fails : (stop : Stop) (w v : World) (texts : List (Bor Text)) (place : ℕ) (d : Bor Text) → place < length texts
      → Early stop v ((evaluator reads store levels).expand (stripped (get_or texts place d).now) w)
      → Early stop v (apply_or (evaluator reads store levels) (map (λ a. a.now) (drop place texts)) w)
  or_at_fails stop w v texts place d within h =
      rw (texts_left texts place d within) (or_fails stop w v (get_or texts place d).now (map (λ a. a.now) (drop (suc place) texts)) h)

  pub and_at_fails : (stop : Stop) (w v : World) (texts : List (Bor Text)) (place : ℕ) (d : Bor Text) → place < length texts
      → Early stop v ((evaluator reads store levels).expand (stripped (get_or texts place d).now) w)
      → Early stop v (apply_and (evaluator reads store levels) (map (λ a. a.now) (drop place texts)) w)
  and_at_fails stop w v texts place d within h =
      rw (texts_left texts place d within) (and_fails stop w v (get_or texts place d).now (map (λ a. a.now) (drop (suc place) texts)) h)

  -- once the text at a place is expanded
  pub argument_at_front : (w v : World) (out : List Text) (texts : List (Bor Text)) (place : ℕ) (d : Bor Text) (x : Text) → place < length texts
      → (evaluator reads store levels).expand (get_or texts place d).now w ≡ Gave v x
      → GoesOn v (left_of (each_argument (evaluator reads store levels) out (map (λ a. a.now) (drop place texts)) w))
  unfolding each_argument
  argument_at_front w v out texts place d x within h =
      rw (texts_left texts place d within, h) (each_argument_goes reads store levels (out ++ x ∷ []) (map (λ a. a.now) (drop (suc place) texts)) v)

module _ (reads : Bool) (store : Store) (levels : ℕ) (sheet : Page) where
  pub sheet_fails : (stop : Stop) (w v : World) → Early stop v (read_items (evaluator reads store levels) sheet (tree_of sheet.blocks.steps) w)
      → Early stop v (read_sheet (evaluator reads store levels) sheet w)
  unfolding read_sheet
  sheet_fails stop w v h =
      fails_then stop v (read_items (evaluator reads store levels) sheet (tree_of sheet.blocks.steps) w) _
      (λ _ u. early_then u (close_rule u) _ (λ _ t. read_end_goes sheet.source sheet.blocks.missing t) (close_rule_goes u)) h

  pub definition_fails : (stop : Stop) (w v : World) (items next : Items) (place end : ℕ) (kind : Form) (body : Text) → items ≡ definition place end next
      → kind ≡ line_form (line_at sheet.lines place).text false → body ≡ body_at sheet (place + 1) end
      → Early stop v (read_define (evaluator reads store levels) kind body (at_line sheet place w))
      → Early stop v (read_items (evaluator reads store levels) sheet items w)
  unfolding read_items
  definition_fails stop w v items next place end kind body is kind_is body_is h =
      rw (is, ← kind_is, ← body_is)
      (fails_then stop v (read_define (evaluator reads store levels) kind body (at_line sheet place w)) _
      (λ _ u. read_items_goes reads store levels sheet next u) h)

  pub definition_taken : (w v : World) (items next : Items) (place end : ℕ) (kind : Form) (body : Text) → items ≡ definition place end next
      → kind ≡ line_form (line_at sheet.lines place).text false → body ≡ body_at sheet (place + 1) end
      → read_define (evaluator reads store levels) kind body (at_line sheet place w) ≡ Gave v tt
      → read_items (evaluator reads store levels) sheet items w ≡ read_items (evaluator reads store levels) sheet next v
  unfolding read_items
  definition_taken w v items next place end kind body is kind_is body_is h = rw (is, ← kind_is, ← body_is, h)

  pub first_fails : (stop : Stop) (w v : World) (items : Items) (place : ℕ) (first : Items) (others : Branches) (next : Items)
      → items ≡ conditional place first others next
      → Early stop v (branch_holds (evaluator reads store levels) sheet place true w)
      → Early stop v (read_items (evaluator reads store levels) sheet items w)
  unfolding read_items
  first_fails stop w v items place first others next is h =
      rw is
      (fails_then stop v (branch_holds (evaluator reads store levels) sheet place true w) _
      (λ chosen u. grown {A = Unit {0}} u
      (then_do (cond chosen (read_items (evaluator reads store levels) sheet first) (read_branches (evaluator reads store levels) sheet others) u) (λ _ t. then_do (late_else sheet others t) (λ _. read_items (evaluator reads store levels) sheet next)))
      (after_first_related (evaluator reads store levels) (evaluator reads store (suc levels)) (one_more_level reads store levels) sheet chosen first others next u).0)
      h)

  module _ (steps : List Found) (at after : ℕ) (w : World) (whole : StepEnd World (Unit {0})) (condition : Bool) (next more : ℕ) (stop : Stop) (v : World) where
    fails_in : (others : Branches) → AreTried steps others at after
        → whole ≡ then_do (read_branches (evaluator reads store levels) sheet others w) (λ _. read_items (evaluator reads store levels) sheet (left_at steps after))
        → at < after → slice_get steps at ≡ Some (step.Branch condition next more)
        → Early stop v (branch_holds (evaluator reads store levels) sheet at condition w) → Early stop v whole
    unfolding AreTried read_items
    fails_in no_branch tried rest lt found h = absurd (omega (arith, tried, lt))
    fails_in (late place items others) tried rest lt found h = absurd (omega (arith, tried, lt))
    fails_in (branch place test items others) tried rest lt found h =
        let stepped : slice_get steps at ≡ Some (step.Branch test tried.2.0 after) = subst (λ p. slice_get steps p ≡ Some (step.Branch test tried.2.0 after)) tried.0 tried.2.1 in
        let same : condition ≡ test = cc (found, stepped) in
        let held : Early stop v (branch_holds (evaluator reads store levels) sheet place test w) = rw (tried.0, sym same) h in
        rw rest
        (fails_then {A = Unit {0}} {B = Unit {0}} stop v _ _
        (λ _ u. read_items_goes reads store levels sheet (left_at steps after) u)
        (fails_then {A = Bool} {B = Unit {0}} stop v (branch_holds (evaluator reads store levels) sheet place test w) _
        (λ chosen u. grown {A = Unit {0}} u (cond chosen (read_items (evaluator reads store levels) sheet items) (read_branches (evaluator reads store levels) sheet others) u) (after_branch_related (evaluator reads store levels) (evaluator reads store (suc levels)) (one_more_level reads store levels) sheet chosen items others u).0)
        held))

    pub branch_fails : Tries (evaluator reads store levels) sheet steps at after w whole → at < after → slice_get steps at ≡ Some (step.Branch condition next more)
        → Early stop v (branch_holds (evaluator reads store levels) sheet at condition w) → Early stop v whole
    branch_fails t lt found h = fails_in t.others t.tried t.rest lt found h

-- a file that can't be read, among those of which the first that exists is read
pub file_fails : (reads : Bool) (store : Store) (levels : ℕ) (stop : Stop) (w v : World) (name : Text) (names : List Text)
    → Early stop v (read_bytes store name w) → Early stop v (read_first store (evaluator reads store levels) (name ∷ names) w)
unfolding read_first
file_fails reads store levels stop w v name names h =
    fails_then stop v (read_bytes store name w) _
    (λ found u. grown {A = Unit {0}} u (read_or (evaluator reads store levels) name found (read_first store (evaluator reads store levels) names) u) (read_or_related (evaluator reads store levels) (evaluator reads store (suc levels)) (one_more_level reads store levels) store name found (read_first store (evaluator reads store levels) names) (read_first store (evaluator reads store (suc levels)) names) u
    (read_first_related (evaluator reads store levels) (evaluator reads store (suc levels)) (one_more_level reads store levels) store names u)).0) h

pub file_at_fails : (reads : Bool) (store : Store) (levels : ℕ) (stop : Stop) (w v : World) (names : List (Bor Text)) (place : ℕ) (d : Bor Text) → place < length names
    → Early stop v (read_bytes store (get_or names place d).now w) → Early stop v (read_first store (evaluator reads store levels) (map (λ name. name.now) (drop place names)) w)
file_at_fails reads store levels stop w v names place d within h =
    rw (texts_left names place d within) (file_fails reads store levels stop w v (get_or names place d).now (map (λ name. name.now) (drop (suc place) names)) h)
