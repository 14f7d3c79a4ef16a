-- Words at which clap's parse meets no fault are words that it takes: step by step, no kind of error means that the step's
-- test passes.
use Rattle.std.proofs.Common.{◌≡◌, ◌≤◌, ℕ, Bool, true, false, not, ◌&&◌, ◌||◌, zero, suc, refl, arith, List, [], ◌∷◌, length, drop, Option, Some, None, Result, Ok, Err, IfOk, codes, if◌then◌else◌, ◌==◌, nat_lt, is_some, encode_utf8}
use Rattle.kati_args.proofs.Common.{list_all, bytes_eq, and_from, eqb-true, le-leb, ltb-false, parser_of_value, Held, Names, Row, Rule, Step, Waiting, Walk, arg_by_id, arg_by_index, arg_by_long, attached_value, has_row, is_pending, next, nothing_held, reacted, subcommand, subcommand_met, takes_several, takes_values, trailing, value, walked, Shape, argument_words, built, FailsBy, Kinds, fault_of, Error, ErrorKind}
use Rattle.std.specs.Option.{option_map_or}
use Rattle.clap.specs.Lexer.{short_of}
use Rattle.clap.specs.Walk.{Text}
use Rattle.clap.specs.Kinds.{or_else, range_kinds, value_kinds}
use Rattle.clap.specs.Faults.{action_fault, bundle_fault, bundle_step_fault, count_fault, flag_word_fault, flags_fault, level_fault, long_fault, option_fault, other_fault, positional_fault, react_fault, settle_fault, short_fault, step_fault, stray_fault, turn_fault, use_fault, values_fault, walk_fault, word_fault}
use Rattle.clap.specs.Takes.{action_passes, bundle_passes, bundle_step_passes, count_passes, default_passes, flag_word_passes, flags_pass, is_valid, level_passes, long_passes, option_passes, other_passes, positional_passes, react_passes, settle_passes, short_passes, step_passes, turn_passes, use_passes, values_pass, walk_passes, word_passes}
use Rattle.clap.specs.declared.builder.action.ArgAction.{ArgAction}
use Rattle.clap.specs.declared.builder.action.ArgAction.TheVariants as action
use Rattle.clap.specs.declared.error.kind.ErrorKind.TheVariants as kind
use Rattle.clap.proofs.TakesLemmas.{leaf_takes}
use Rattle.kati_args.specs.Args.{IsTaken, kati_app}

-- ---- one test after another

both_pass : (first second : Kinds) → or_else first second ≡ [] → (first ≡ []) × (second ≡ [])
both_pass [] second none = (refl, none)
both_pass (kind ∷ kinds) second none = absurd (cc none)

no_kind : (test : Bool) (kind : ErrorKind) (rest : Kinds) → (if test then kind ∷ [] else rest) ≡ [] → (test ≡ false) × (rest ≡ [])
no_kind true kind rest none = absurd (cc none)
no_kind false kind rest none = (refl, none)

passed : (test : Bool) (kind : ErrorKind) → (if test then [] else kind ∷ []) ≡ [] → test ≡ true
passed true kind none = refl
passed false kind none = absurd (cc none)

-- what is tested only where the first test fails
or_passed : (test : Bool) (kinds : Kinds) (passes : Bool) → (kinds ≡ [] → passes ≡ true) → (if test then [] else kinds) ≡ [] → (test || passes) ≡ true
or_passed true kinds passes so none = refl
or_passed false kinds passes so none = so none

-- ---- one use of an argument

values_taken : (a : Rule) (values : List Text) → values_fault a values ≡ [] → values_pass a values ≡ true
values_taken a [] none = refl
values_taken a (v ∷ vs) none =
    let parts = both_pass (value_kinds a.ignore_case (parser_of_value a.parser) v) (values_fault a vs) none in
    and_from _ _ (passed _ _ parts.0) (values_taken a vs parts.1)

count_taken : (a : Rule) (values : List Text) (rows : List Row) → count_fault a values rows ≡ [] → count_passes a values rows ≡ true
count_taken a [] rows none = passed _ _ none
count_taken a (v ∷ vs) rows none = values_taken a (v ∷ vs) none

not_repeated : (has again : Bool) (kind : ErrorKind) → (if has && not again then kind ∷ [] else []) ≡ [] → (not has || again) ≡ true
not_repeated true true kind none = refl
not_repeated true false kind none = absurd (cc none)
not_repeated false again kind none = refl

set_taken : (again : Bool) (a : Rule) (values : List Text) (rows : List Row)
    → or_else (if has_row a.id rows && not again then kind.ArgumentConflict ∷ [] else []) (values_fault a values) ≡ []
    → ((not (has_row a.id rows) || again) && values_pass a values) ≡ true
set_taken again a values rows none = grind (arith, both_pass, not, and_from, not_repeated, values_taken)

action_taken : (x : ArgAction) (again : Bool) (a : Rule) (values : List Text) (rows : List Row) → action_fault x again a values rows ≡ []
    → action_passes x again a values rows ≡ true
action_taken action.Set again a values rows none = set_taken again a values rows none
action_taken action.SetTrue again a values rows none = set_taken again a values rows none
action_taken action.SetFalse again a values rows none = set_taken again a values rows none
action_taken action.Append again a values rows none = values_taken a values none
action_taken action.Count again a values rows none = count_taken a values rows none
action_taken action.Help again a values rows none = absurd (cc none)
action_taken action.HelpShort again a values rows none = absurd (cc none)
action_taken action.HelpLong again a values rows none = absurd (cc none)
action_taken action.Version again a values rows none = absurd (cc none)

in_range_by : (same : Bool) (least most n : ℕ) → (least == most) ≡ same
    → (if same then (if least == n then [] else kind.WrongNumberOfValues ∷ []) else (if nat_lt n least then kind.TooFewValues ∷ [] else (if nat_lt most n then kind.TooManyValues ∷ [] else []))) ≡ []
    → (least ≤ n) × (n ≤ most)
in_range_by true least most n same none = grind (arith, eqb-true, passed)
in_range_by false least most n same none = grind (arith, no_kind, nat_lt, ltb-false)

in_range : (least most n : ℕ) → range_kinds least most n ≡ [] → (least ≤ n) × (n ≤ most)
in_range least most n none = in_range_by (least == most) least most n refl (no_kind (nat_lt 0 least && n == 0) _ _ none).1

use_taken : (again : Bool) (a : Rule) (values : List Text) (rows : List Row) → use_fault again a values rows ≡ [] → use_passes again a values rows ≡ true
use_taken again a values rows none = grind (arith, both_pass, length, in_range, and_from, le-leb, action_taken)

-- ---- a word

found_taken : (again : Bool) (values : List Text) (rows : List Row) (found : Option Rule) → option_map_or (λ a. use_fault again a values rows) found [] ≡ []
    → option_map_or (λ a. use_passes again a values rows) found true ≡ true
found_taken again values rows None none = refl
found_taken again values rows (Some a) none = use_taken again a values rows none

pending_taken : (c : List Rule) (again : Bool) (rows : List Row) (pending : Option (Text × List Text))
    → option_map_or (λ p. option_map_or (λ a. use_fault again a p.1 rows) (arg_by_id c p.0) []) pending [] ≡ []
    → option_map_or (λ p. option_map_or (λ a. use_passes again a p.1 rows) (arg_by_id c p.0) true) pending true ≡ true
pending_taken c again rows None none = refl
pending_taken c again rows (Some p) none = found_taken again p.1 rows (arg_by_id c p.0) none

settle_taken : (c : List Rule) (again : Bool) (h : Held) → settle_fault c again h ≡ [] → settle_passes c again h ≡ true
settle_taken c again h none = pending_taken c again h.rows h.pending none

react_taken : (c : List Rule) (again : Bool) (a : Rule) (values : List Text) (h : Held) → react_fault c again a values h ≡ []
    → react_passes c again a values h ≡ true
react_taken c again a values h none = grind (arith, both_pass, and_from, settle_taken, use_taken)

option_taken : (c : List Rule) (again : Bool) (a : Rule) (v : Option Text) (h : Held) → option_fault c again a v h ≡ [] → option_passes c again a v h ≡ true
option_taken c again a (Some v) h none = react_taken c again a (v ∷ []) h none
option_taken c again a None h none = settle_taken c again h none

not_passed : (test : Bool) (kind : ErrorKind) (kinds : Kinds) (passes : Bool) → (kinds ≡ [] → passes ≡ true) → (if test then kind ∷ [] else kinds) ≡ []
    → (not test && passes) ≡ true
not_passed true kind kinds passes so none = absurd (cc none)
not_passed false kind kinds passes so none = so none

either_passed : (test : Bool) (yes_kinds no_kinds : Kinds) (yes_passes no_passes : Bool) → (yes_kinds ≡ [] → yes_passes ≡ true)
    → (no_kinds ≡ [] → no_passes ≡ true) → (if test then yes_kinds else no_kinds) ≡ [] → (if test then yes_passes else no_passes) ≡ true
either_passed true yes_kinds no_kinds yes_passes no_passes so else_so none = so none
either_passed false yes_kinds no_kinds yes_passes no_passes so else_so none = else_so none

long_taken : (c : List Rule) (again : Bool) (found : Option Rule) (v : Option Text) (h : Held) → long_fault c again found v h ≡ []
    → long_passes c again found v h ≡ true
long_taken c again None v h none = absurd (cc none)
long_taken c again (Some a) v h none =
    either_passed (takes_values a) _ _ _ _ (option_taken c again a v h) (not_passed (is_some v) _ _ _ (react_taken c again a [] h)) none

short_taken : (c : List Rule) (again : Bool) (found : Option Rule) (rest : Text) (h : Held) (fault : Held → Kinds) (passes : Held → Bool)
    → ((after : Held) → fault after ≡ [] → passes after ≡ true) → short_fault c again found rest h fault ≡ [] → short_passes c again found rest h passes ≡ true
short_taken c again None rest h fault passes so none = absurd (cc none)
short_taken c again (Some a) rest h fault passes so none =
    either_passed (takes_values a) _ _ _ _ (option_taken c again a (attached_value rest) h)
    (λ later.
    let parts = both_pass (react_fault c again a [] h) (fault (reacted c a [] h)) later in
    and_from _ _ (react_taken c again a [] h parts.0) (so (reacted c a [] h) parts.1)) none

bundle_step_taken : (c : List Rule) (again : Bool) (first : Option ℕ) (flags : Text) (skip : ℕ) (h : Held) (fault : Text → ℕ → Held → Kinds)
    (passes : Text → ℕ → Held → Bool) → ((rest : Text) (less : ℕ) (after : Held) → fault rest less after ≡ [] → passes rest less after ≡ true)
    → bundle_step_fault c again first flags skip h fault ≡ [] → bundle_step_passes c again first flags skip h passes ≡ true
bundle_step_taken c again None flags skip h fault passes so none = refl
bundle_step_taken c again (Some x) flags zero h fault passes so none = grind (arith, length, encode_utf8, short_taken)
bundle_step_taken c again (Some x) flags (suc skip) h fault passes so none = so (drop (length (encode_utf8 x)) flags) skip h none

flags_taken : (c : List Rule) (again : Bool) (k : ℕ) (flags : Text) (skip : ℕ) (h : Held) → flags_fault c again k flags skip h ≡ []
    → flags_pass c again k flags skip h ≡ true
unfolding flags_fault flags_pass
flags_taken c again zero flags skip h none = refl
flags_taken c again (suc k) flags skip h none = grind (arith, bundle_step_taken, flags_taken c again k)

bundle_taken : (c : List Rule) (again : Bool) (flags : Option Text) (h : Held) → option_map_or (λ f. bundle_fault c again f h) flags [] ≡ []
    → option_map_or (λ f. bundle_passes c again f h) flags true ≡ true
bundle_taken c again None h none = refl
bundle_taken c again (Some f) h none = flags_taken c again (length f) f h.skip (record h { skip = 0 }) none

flag_word_taken : (c : List Rule) (again : Bool) (parts : Option (Text × Option Text)) (word : Text) (h : Held) → flag_word_fault c again parts word h ≡ []
    → flag_word_passes c again parts word h ≡ true
flag_word_taken c again (Some p) word h none = long_taken c again (arg_by_long c p.0) p.1 h none
flag_word_taken c again None word h none = bundle_taken c again (short_of word) h none

no_help : (is_help is_off : Bool) (first second : ErrorKind) → (if is_help && not is_off then first ∷ second ∷ [] else []) ≡ [] → (not is_help || is_off) ≡ true
no_help true true first second none = refl
no_help true false first second none = absurd (cc none)
no_help false is_off first second none = refl

other_taken : (s : Shape) (met : Option Text) (word : Text) (h : Held) → other_fault s met word h ≡ [] → other_passes s met word h ≡ true
other_taken s (Some name) word h none = no_help (bytes_eq name (codes "help")) s.disable_help_subcommand _ _ none
other_taken s None word h none = grind (arith, or_passed, flag_word_taken)

word_taken : (s : Shape) (names : Names) (is_trailing : Bool) (waiting : Waiting) (word : Text) (h : Held) → word_fault s names is_trailing waiting word h ≡ []
    → word_passes s names is_trailing waiting word h ≡ true
word_taken s names is_trailing waiting word h none = or_passed is_trailing _ _ (other_taken s (subcommand_met names waiting word) word h) none

positional_taken : (c : List Rule) (again : Bool) (a : Rule) (h : Held) → positional_fault c again a h ≡ [] → positional_passes c again a h ≡ true
positional_taken c again a h none = or_passed (is_pending a h.pending && takes_several a) _ _ (settle_taken c again h) none

-- a word that no positional takes is always a fault
stray_is_fault : (is_leaf : Bool) → (if is_leaf then kind.UnknownArgument ∷ [] else kind.UnknownArgument ∷ kind.InvalidSubcommand ∷ []) ≡ [] → ⊥
stray_is_fault true none = absurd (cc none)
stray_is_fault false none = absurd (cc none)

place_taken : (s : Shape) (found : Option Rule) (h : Held) → option_map_or (λ a. positional_fault s.rules s.args_override_self a h) found (stray_fault s) ≡ []
    → option_map_or (λ a. positional_passes s.rules s.args_override_self a h) found false ≡ true
place_taken s None h none = absurd (stray_is_fault s.is_leaf none)
place_taken s (Some a) h none = positional_taken s.rules s.args_override_self a h none

step_taken : (s : Shape) (position : ℕ) (h : Held) (step : Step) → step_fault s position h step ≡ [] → step_passes s position h step ≡ true
step_taken s position h value none = place_taken s (arg_by_index s.rules position) h none
step_taken s position h (next waiting) none = refl
step_taken s position h (trailing past) none = refl
step_taken s position h (subcommand name) none = refl

turn_taken : (s : Shape) (names : Names) (w : Walk) (word : Text) → turn_fault s names w word ≡ [] → turn_passes s names w word ≡ true
turn_taken s names w word none = grind (arith, or_passed, both_pass, and_from, word_taken, step_taken)

walk_taken : (s : Shape) (names : Names) (w : Walk) (words : List Text) → walk_fault s names w words ≡ [] → walk_passes s names w words ≡ true
unfolding walk_fault walk_passes
walk_taken s names w [] none = refl
walk_taken s names w (word ∷ rest) none =
    let parts = both_pass (turn_fault s names w word) (walk_fault s names (walked s.rules names w word) rest) none in
    and_from _ _ (turn_taken s names w word parts.0) (walk_taken s names (walked s.rules names w word) rest parts.1)

-- ---- all words

-- of a command whose defaults pass, and of which nothing is required
level_taken : (s : Shape) (names : Names) (h : Held) (words : List Text) (has : Bool) (below : Kinds) → list_all default_passes s.rules ≡ true
    → ((rows : List Row) → is_valid s rows false ≡ true) → level_fault s names h words has below ≡ [] → level_passes s names h words false ≡ true
level_taken s names h words has below defaults valid none = grind (arith, both_pass, and_from, walk_taken, settle_taken)

pub taken : (words : List Text) → fault_of kati_app words ≡ [] → IsTaken words
taken words none =
    leaf_takes (built kati_app) nothing_held (argument_words kati_app words) refl
    (level_taken (built kati_app).top [] nothing_held (argument_words kati_app words) _ _ refl (λ rows. refl) none)

pub taken_where_found : {T : Type 0} (result : Result T Error) (words : List Text) → FailsBy (fault_of kati_app words) result → IfOk result (λ _. IsTaken words)
taken_where_found (Ok found) words none = taken words none
taken_where_found (Err error) words kinds = tt
