-- What is read or expanded with a given number of levels left, beside the same with one more: messages and names asked
-- for are only added to, and the two are the same, unless the first is too deep.
use Rattle.std.proofs.Common.{◌≡◌, ◌≤◌, ◌+◌, ◌==◌, ◌||◌, Bool, true, false, cond, List, [], ◌∷◌, ◌++◌, length, Option, Some, None, codes, ◌⊎◌, inl, inr, refl, ap, subst, ◌∙◌, arith, length-append}
use Rattle.kt_eval.proofs.Common.{list_any, take-append-le, Text, words_of, stripped, patsubst_of, Operator, Form, blank, assignment, directive, refused, rule, Term, literal, dollar, reference, unclosed, terms_of, plain_of, Function, Flavour, Deferred, Immediate, FoundValue, Loop, Call, Assigning, keeps, defers, expands, escapes, assigning, find, IsPrefix, World, lookup, bind, unbind, say, StepEnd, Gave, Stopped, then_do, left_of, Step, Request, calls, refuses, refers, request_by_mark, Naming, plainly, substituting, naming_of, is_function_name, arity, text_function_name, Evaluator, flavoured, value_of, each_argument, accepted, apply_text, apply_if, apply_or, apply_and, each_word, apply_foreach, called, call_by_name, apply_call, apply_value, apply_eval, apply_error, apply_warning, apply_info, apply_other, apply, body_of, value_named, referred, term_of, each_term, expanded}
use Rattle.kt_syntax.specs.declared.form.Operator.TheVariants as operator
use Rattle.kt_eval.specs.declared.expanding.function.Function.TheVariants as function
use Rattle.kt_text.specs.declared.functions.text_function.TextFunction.{TextFunction}
use Rattle.kt_eval.specs.expanding.TextFunctions.{text_result}
use Rattle.kt_eval.specs.reading.Conditions.{trimmed}
use Rattle.kt_eval.specs.macros.Assignments.{assign, is_bad_name, assign_named, assign_line, define}
use Rattle.kt_eval.specs.views.Growing.{Grows, IsTooDeep}
use Rattle.kt_eval.specs.inner.Plain.{with_term}

pub front_same : {A : Type 0} (xs : List A) → IsPrefix xs xs
front_same xs = (omega arith, λ count le. refl)

pub front_next : {A : Type 0} (xs ys zs : List A) → IsPrefix xs ys → IsPrefix ys zs → IsPrefix xs zs
front_next xs ys zs p q = (omega (arith, p.0, q.0), λ count le. let further : count ≤ length ys = omega (arith, le, p.0) in q.1 count further ∙ p.1 count le)

pub front_more : {A : Type 0} (xs ys : List A) → IsPrefix xs (xs ++ ys)
front_more {A} xs ys = (let e : length (xs ++ ys) ≡ length xs + length ys = length-append xs ys in omega (arith, e), λ count le. take-append-le count xs ys le)

-- no message and no name asked for
pub still : (w : World) → Grows w w
still w = (front_same w.said, front_same w.asked)

pub further : (u v w : World) → Grows u v → Grows v w → Grows u w
further u v w p q = (front_next u.said v.said w.said p.0 q.0, front_next u.asked v.asked w.asked p.1 q.1)

says : (message : Text) (w : World) → Grows w (say message w)
says message w = (front_more w.said (message ∷ []), front_same w.asked)

-- the first is too deep, or it is the second
abbrev pub Agree : {A : Type 0} → StepEnd World A → StepEnd World A → Type 0
Agree o o' = IsTooDeep o ⊎ (o ≡ o')

-- both, from a world on
abbrev pub Relates : {A : Type 0} → World → StepEnd World A → StepEnd World A → Type 0
Relates w o o' = Grows w (left_of o) × Agree o o'

-- a step without a level
pub plain_step : {A : Type 0} (w : World) (o : StepEnd World A) → Grows w (left_of o) → Relates w o o
plain_step w o g = (g, inr refl)

deep_then : {A B : Type 0} (o : StepEnd World A) (f : A → Step B) → IsTooDeep o → IsTooDeep (then_do o f)
deep_then (Gave w x) f h = absurd h
deep_then (Stopped w x) f h = h

deep_grows : {A B : Type 0} (w : World) (o : StepEnd World A) (f : A → Step B) → IsTooDeep o → Grows w (left_of o) → Grows w (left_of (then_do o f))
deep_grows w (Gave v x) f h g = absurd h
deep_grows w (Stopped v x) f h g = g

pub related_then : {A B : Type 0} (w : World) (o o' : StepEnd World A) (f f' : A → Step B) → Relates w o o' → ((x : A) (v : World) → Relates v (f x v) (f' x v)) → Relates w (then_do o f) (then_do o' f')
related_then w o o' f f' (g, inl h) k = (deep_grows w o f h g, inl (deep_then o f h))
related_then w (Gave v x) o' f f' (g, inr e) k = subst (λ (p : StepEnd World _). Relates w (f x v) (then_do p f')) e (further w v (left_of (f x v)) g (k x v).0, (k x v).1)
related_then w (Stopped v x) o' f f' (g, inr e) k = (g, inr (ap (λ (p : StepEnd World _). then_do p f') e))

-- after a change of the world
pub related_after : {A : Type 0} (w v : World) (o o' : StepEnd World A) → Grows w v → Relates v o o' → Relates w o o'
related_after w v o o' g r = (further w v (left_of o) g r.0, r.1)

pub related_cond : {A : Type 0} (b : Bool) (s t s' t' : Step A) (w : World) → Relates w (s w) (s' w) → Relates w (t w) (t' w) → Relates w (cond b s t w) (cond b s' t' w)
related_cond true s t s' t' w p q = p
related_cond false s t s' t' w p q = q

related_test : {A : Type 0} (b b' : Bool) (s t s' t' : Step A) (w : World) → b ≡ b' → Relates w (s w) (s' w) → Relates w (t w) (t' w) → Relates w (cond b s t w) (cond b' s' t' w)
related_test true b' s t s' t' w e p q = subst (λ (c : Bool). Relates w (s w) (cond c s' t' w)) e p
related_test false b' s t s' t' w e p q = subst (λ (c : Bool). Relates w (t w) (cond c s' t' w)) e q

pub record Related (e e' : Evaluator) : Type 0 where
  pub reads : e.reads ≡ e'.reads
  pub expand : (text : Text) (w : World) → Relates w (e.expand text w) (e'.expand text w)
  pub eval : (text : Text) (w : World) → Relates w (e.eval text w) (e'.eval text w)
  pub include : (optional : Bool) (name : Text) (w : World) → Relates w (e.include optional name w) (e'.include optional name w)

module _ (e e' : Evaluator) (h : Related e e') where
  -- texts
  pub flavoured_related : (flavour : Flavour) (value : Text) (w : World) → Relates w (flavoured e flavour value w) (flavoured e' flavour value w)
  flavoured_related Deferred value w = h.expand value w
  flavoured_related Immediate value w = plain_step w _ (still w)

  pub value_of_related : (found : Option FoundValue) (w : World) → Relates w (value_of e found w) (value_of e' found w)
  unfolding value_of
  value_of_related None w = plain_step w _ (still w)
  value_of_related (Some found) w = flavoured_related found.flavour found.value w

  pub each_argument_related : (out texts : List Text) (w : World) → Relates w (each_argument e out texts w) (each_argument e' out texts w)
  unfolding each_argument
  each_argument_related out [] w = plain_step w _ (still w)
  each_argument_related out (text ∷ texts) w =
      related_then w (e.expand text w) (e'.expand text w) _ _ (h.expand text w) (λ x v. each_argument_related (out ++ x ∷ []) texts v)

  pub accepted_related : (name : Text) (found : Option Text) (w : World) → Relates w (accepted name found w) (accepted name found w)
  accepted_related name None w = plain_step w _ (still w)
  accepted_related name (Some text) w = plain_step w _ (still w)

  pub apply_text_related : (f : TextFunction) (texts : List Text) (w : World) → Relates w (apply_text e f texts w) (apply_text e' f texts w)
  unfolding apply_text
  apply_text_related f texts w =
      related_cond (length texts == arity f) _ _ _ _ w
      (related_then w (each_argument e [] texts w) (each_argument e' [] texts w) _ _ (each_argument_related [] texts w)
      (λ arguments v. accepted_related (text_function_name f) (text_result f arguments) v))
      (plain_step w _ (still w))

  pub apply_if_related : (condition chosen : Text) (other : Option Text) (w : World) → Relates w (apply_if e condition chosen other w) (apply_if e' condition chosen other w)
  unfolding apply_if
  apply_if_related condition chosen None w =
      related_then w (e.expand (stripped condition) w) (e'.expand (stripped condition) w) _ _ (h.expand (stripped condition) w)
      (λ x v. related_cond (length x == 0) _ _ _ _ v (plain_step v _ (still v)) (h.expand chosen v))
  apply_if_related condition chosen (Some other) w =
      related_then w (e.expand (stripped condition) w) (e'.expand (stripped condition) w) _ _ (h.expand (stripped condition) w)
      (λ x v. related_cond (length x == 0) _ _ _ _ v (h.expand other v) (h.expand chosen v))

  pub apply_or_related : (texts : List Text) (w : World) → Relates w (apply_or e texts w) (apply_or e' texts w)
  unfolding apply_or
  apply_or_related [] w = plain_step w _ (still w)
  apply_or_related (text ∷ texts) w =
      related_then w (e.expand (stripped text) w) (e'.expand (stripped text) w) _ _ (h.expand (stripped text) w)
      (λ x v. related_cond (length x == 0) _ _ _ _ v (apply_or_related texts v) (plain_step v _ (still v)))

  pub apply_and_related : (texts : List Text) (w : World) → Relates w (apply_and e texts w) (apply_and e' texts w)
  unfolding apply_and
  apply_and_related [] w = plain_step w _ (still w)
  apply_and_related (text ∷ texts) w =
      related_then w (e.expand (stripped text) w) (e'.expand (stripped text) w) _ _ (h.expand (stripped text) w)
      (λ x v. related_cond (length x == 0 || length texts == 0) _ _ _ _ v (plain_step v _ (still v)) (apply_and_related texts v))

  pub each_word_related : (name body out separator : Text) (words : List Text) (w : World) → Relates w (each_word e name body out separator words w) (each_word e' name body out separator words w)
  unfolding each_word
  each_word_related name body out separator [] w = plain_step w _ (still w)
  each_word_related name body out separator (first ∷ words) w =
      let bound : World = bind (Loop name first) w in
      related_after w bound _ _ (still w)
      (related_then bound (e.expand body bound) (e'.expand body bound) _ _ (h.expand body bound)
      (λ x v. related_after v (unbind v) _ _ (still v) (each_word_related name body (out ++ (separator ++ x)) (codes " ") words (unbind v))))

  pub apply_foreach_related : (variable list body : Text) (w : World) → Relates w (apply_foreach e variable list body w) (apply_foreach e' variable list body w)
  unfolding apply_foreach
  apply_foreach_related variable list body w =
      related_then w (e.expand variable w) (e'.expand variable w) _ _ (h.expand variable w)
      (λ name v. related_then v (e.expand list v) (e'.expand list v) _ _ (h.expand list v)
      (λ words u. each_word_related (stripped name) body [] [] (words_of words) u))

  pub called_related : (name : Text) (arguments : List Text) (w : World) → Relates w (called e name arguments w) (called e' name arguments w)
  unfolding called
  called_related name arguments w =
      let bound : World = bind (Call arguments) w in
      related_after w bound _ _ (still w)
      (related_then bound (value_of e (lookup name bound) bound) (value_of e' (lookup name bound) bound) _ _ (value_of_related (lookup name bound) bound)
      (λ x v. plain_step v _ (still v)))

  pub call_by_name_related : (name : Text) (texts : List Text) (w : World) → Relates w (call_by_name e name texts w) (call_by_name e' name texts w)
  unfolding call_by_name
  call_by_name_related name texts w =
      related_cond (is_function_name name) _ _ _ _ w (plain_step w _ (still w))
      (related_then w (each_argument e (name ∷ []) texts w) (each_argument e' (name ∷ []) texts w) _ _ (each_argument_related (name ∷ []) texts w)
      (λ arguments v. called_related name arguments v))

  pub apply_call_related : (texts : List Text) (w : World) → Relates w (apply_call e texts w) (apply_call e' texts w)
  unfolding apply_call
  apply_call_related [] w = plain_step w _ (still w)
  apply_call_related (text ∷ texts) w =
      related_then w (e.expand text w) (e'.expand text w) _ _ (h.expand text w) (λ x v. call_by_name_related (stripped x) texts v)

  pub apply_value_related : (text : Text) (w : World) → Relates w (apply_value e text w) (apply_value e' text w)
  unfolding apply_value
  apply_value_related text w = related_then w (e.expand text w) (e'.expand text w) _ _ (h.expand text w) (λ x v. plain_step v _ (still v))

  pub apply_eval_related : (text : Text) (w : World) → Relates w (apply_eval e text w) (apply_eval e' text w)
  unfolding apply_eval
  apply_eval_related text w = grind (arith, related_test, related_then, plain_step, still)

  pub apply_error_related : (text : Text) (w : World) → Relates w (apply_error e text w) (apply_error e' text w)
  unfolding apply_error
  apply_error_related text w = related_then w (e.expand text w) (e'.expand text w) _ _ (h.expand text w) (λ x v. plain_step v _ (still v))

  pub apply_warning_related : (text : Text) (w : World) → Relates w (apply_warning e text w) (apply_warning e' text w)
  unfolding apply_warning
  apply_warning_related text w = related_then w (e.expand text w) (e'.expand text w) _ _ (h.expand text w) (λ x v. plain_step v _ (says _ v))

  pub apply_info_related : (text : Text) (w : World) → Relates w (apply_info e text w) (apply_info e' text w)
  unfolding apply_info
  apply_info_related text w = related_then w (e.expand text w) (e'.expand text w) _ _ (h.expand text w) (λ x v. plain_step v _ (says x v))

  pub foreach_related : (arguments : List Text) (w : World) → Relates w (apply_other e function.Foreach arguments w) (apply_other e' function.Foreach arguments w)
  foreach_related [] w = plain_step w _ (still w)
  foreach_related (a ∷ []) w = plain_step w _ (still w)
  foreach_related (a ∷ b ∷ []) w = plain_step w _ (still w)
  foreach_related (a ∷ b ∷ c ∷ []) w = apply_foreach_related a b c w
  foreach_related (a ∷ b ∷ c ∷ d ∷ more) w = plain_step w _ (still w)

  pub if_related : (arguments : List Text) (w : World) → Relates w (apply_other e function.If arguments w) (apply_other e' function.If arguments w)
  if_related [] w = plain_step w _ (still w)
  if_related (a ∷ []) w = plain_step w _ (still w)
  if_related (a ∷ b ∷ []) w = apply_if_related a b None w
  if_related (a ∷ b ∷ c ∷ []) w = apply_if_related a b (Some c) w
  if_related (a ∷ b ∷ c ∷ d ∷ more) w = plain_step w _ (still w)

  pub value_related : (arguments : List Text) (w : World) → Relates w (apply_other e function.Value arguments w) (apply_other e' function.Value arguments w)
  value_related [] w = plain_step w _ (still w)
  value_related (a ∷ []) w = apply_value_related a w
  value_related (a ∷ b ∷ more) w = plain_step w _ (still w)

  pub eval_related : (arguments : List Text) (w : World) → Relates w (apply_other e function.Eval arguments w) (apply_other e' function.Eval arguments w)
  eval_related [] w = plain_step w _ (still w)
  eval_related (a ∷ []) w = apply_eval_related a w
  eval_related (a ∷ b ∷ more) w = plain_step w _ (still w)

  pub error_related : (arguments : List Text) (w : World) → Relates w (apply_other e function.Error arguments w) (apply_other e' function.Error arguments w)
  error_related [] w = plain_step w _ (still w)
  error_related (a ∷ []) w = apply_error_related a w
  error_related (a ∷ b ∷ more) w = plain_step w _ (still w)

  pub warning_related : (arguments : List Text) (w : World) → Relates w (apply_other e function.Warning arguments w) (apply_other e' function.Warning arguments w)
  warning_related [] w = plain_step w _ (still w)
  warning_related (a ∷ []) w = apply_warning_related a w
  warning_related (a ∷ b ∷ more) w = plain_step w _ (still w)

  pub info_related : (arguments : List Text) (w : World) → Relates w (apply_other e function.Info arguments w) (apply_other e' function.Info arguments w)
  info_related [] w = plain_step w _ (still w)
  info_related (a ∷ []) w = apply_info_related a w
  info_related (a ∷ b ∷ more) w = plain_step w _ (still w)

  pub apply_related : (f : Function) (arguments : List Text) (w : World) → Relates w (apply e f arguments w) (apply e' f arguments w)
  unfolding apply
  apply_related (function.Text f) arguments w = apply_text_related f arguments w
  apply_related function.If arguments w = if_related arguments w
  apply_related function.Or arguments w = apply_or_related arguments w
  apply_related function.And arguments w = apply_and_related arguments w
  apply_related function.Foreach arguments w = foreach_related arguments w
  apply_related function.Call arguments w = apply_call_related arguments w
  apply_related function.Value arguments w = value_related arguments w
  apply_related function.Eval arguments w = eval_related arguments w
  apply_related function.Error arguments w = error_related arguments w
  apply_related function.Warning arguments w = warning_related arguments w
  apply_related function.Info arguments w = info_related arguments w

  pub body_of_related : (body : Text) (w : World) → Relates w (body_of e body w) (body_of e' body w)
  unfolding body_of
  body_of_related body w = related_cond (list_any (λ byte. byte == 36) body) _ _ _ _ w (h.expand body w) (plain_step w _ (still w))

  pub value_named_related : (naming : Naming) (w : World) → Relates w (value_named e naming w) (value_named e' naming w)
  unfolding value_named
  value_named_related (plainly name) w = value_of_related (lookup name w) w
  value_named_related (substituting name pattern replacement) w =
      related_then w (value_of e (lookup name w) w) (value_of e' (lookup name w) w) _ _ (value_of_related (lookup name w) w)
      (λ value v. accepted_related (codes "patsubst") (patsubst_of pattern replacement value) v)

  pub referred_related : (asked : Request) (w : World) → Relates w (referred e asked w) (referred e' asked w)
  unfolding referred
  referred_related (calls f arguments) w = apply_related f arguments w
  referred_related (refuses name) w = plain_step w _ (still w)
  referred_related (refers body) w = related_then w (body_of e body w) (body_of e' body w) _ _ (body_of_related body w) (λ x v. value_named_related (naming_of x) v)

  pub term_of_related : (piece : Term) (w : World) → Relates w (term_of e piece w) (term_of e' piece w)
  unfolding term_of
  term_of_related (literal bytes) w = plain_step w _ (still w)
  term_of_related dollar w = plain_step w _ (still w)
  term_of_related (reference mark body) w = referred_related (request_by_mark mark body) w
  term_of_related unclosed w = plain_step w _ (still w)

  pub appended_related : (out : Text) (piece : Term) (w : World) → Relates w (with_term e out piece w) (with_term e' out piece w)
  unfolding with_term
  appended_related out piece w =
      related_then w (term_of e piece w) (term_of e' piece w) _ _ (term_of_related piece w) (λ x v. plain_step v _ (still v))

  pub each_term_related : (out : Text) (pieces : List Term) (w : World) → Relates w (each_term e out pieces w) (each_term e' out pieces w)
  unfolding each_term
  each_term_related out [] w = plain_step w _ (still w)
  each_term_related out (piece ∷ pieces) w =
      related_then w (term_of e piece w) (term_of e' piece w) _ _ (term_of_related piece w) (λ x v. each_term_related (out ++ x) pieces v)

  pub expanded_related : (text : Text) (w : World) → Relates w (expanded e text w) (expanded e' text w)
  unfolding expanded
  expanded_related text w = each_term_related [] (terms_of text) w

  -- assignments
  pub assign_related : (name text : Text) (does : Assigning) (w : World) → Relates w (assign e name text does w) (assign e' name text does w)
  unfolding assign
  assign_related name text keeps w = plain_step w _ (still w)
  assign_related name text (defers front) w = plain_step w _ (still w)
  assign_related name text (expands front) w = related_then w (expanded e text w) (expanded e' text w) _ _ (expanded_related text w) (λ x v. plain_step v _ (still v))
  assign_related name text escapes w = related_then w (expanded e text w) (expanded e' text w) _ _ (expanded_related text w) (λ x v. plain_step v _ (still v))

  pub assign_named_related : (o : Operator) (text name : Text) (w : World) → Relates w (assign_named e o text name w) (assign_named e' o text name w)
  unfolding assign_named
  assign_named_related o text name w =
      related_cond (is_bad_name name) _ _ _ _ w (plain_step w _ (still w)) (assign_related name text (assigning o (find name w.table)) w)

  pub assign_expanded_related : (name : Text) (o : Operator) (text : Text) (w : World) → Relates w (then_do (expanded e name w) (λ x. assign_named e o text x)) (then_do (expanded e' name w) (λ x. assign_named e' o text x))
  assign_expanded_related name o text w =
      related_then w (expanded e name w) (expanded e' name w) _ _ (expanded_related name w) (λ x v. assign_named_related o text x v)

  pub assign_line_related : (name : Text) (o : Operator) (text : Text) (w : World) → Relates w (assign_line e name o text w) (assign_line e' name o text w)
  unfolding assign_line
  assign_line_related name operator.Deferred text w = assign_expanded_related name operator.Deferred text w
  assign_line_related name operator.Immediate text w = assign_expanded_related name operator.Immediate text w
  assign_line_related name operator.Escaped text w = assign_expanded_related name operator.Escaped text w
  assign_line_related name operator.Conditional text w = assign_expanded_related name operator.Conditional text w
  assign_line_related name operator.Append text w = assign_expanded_related name operator.Append text w
  assign_line_related name operator.Shell text w = plain_step w _ (still w)

  pub define_related : (rest : Text) (kind : Form) (body : Text) (w : World) → Relates w (define e rest kind body w) (define e' rest kind body w)
  unfolding define
  define_related rest (assignment name o text) body w = assign_line_related (plain_of name) o body w
  define_related rest blank body w = assign_line_related (trimmed (plain_of rest)) operator.Deferred body w
  define_related rest (directive kind more) body w = assign_line_related (trimmed (plain_of rest)) operator.Deferred body w
  define_related rest (refused form) body w = assign_line_related (trimmed (plain_of rest)) operator.Deferred body w
  define_related rest rule body w = assign_line_related (trimmed (plain_of rest)) operator.Deferred body w
