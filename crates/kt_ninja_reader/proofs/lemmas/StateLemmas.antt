-- What was read so far, step by step.
use Rattle.std.proofs.Common.{arith, ◌≡◌, ℕ, ◌+◌, ◌<◌, Bool, true, false, not, ◌&&◌, List, [], ◌∷◌, ◌++◌, refl, sym, ◌∙◌, ap, append_assoc, append-nil, length, drop, map, get_or, Option, Some, None, option_map, subst, Result, MatchResult, if◌then◌else◌}
use Rattle.kt_ninja_reader.proofs.Common.{drop_more, list_all, Made, PartFault, Bytes, Binding, Build, Spelling, Scope, bound_text, find_in, value_in, value_within, Making, State, PendingStatement, add_defaults, are_new, block_scope, made_of, pending_outs, paths_in, pending_with, statement_of_pending, is_among, with_name, is_empty}
use Rattle.kt_ninja_reader.specs.declared.pending_statement.Making.{Making as HeldMaking}
use Rattle.kt_ninja_reader.specs.inner.Refusals.{LacksReading}
use Rattle.kt_ninja_reader.specs.inner.Holding.{block_with, made_as, making_as, path_in}

-- what is left begins with the item that comes next
pub left_at : {X : Type 0} (xs : List X) (i : ℕ) (x : X) → i < length xs → x ≡ get_or xs i x → drop i xs ≡ x ∷ drop (i + 1) xs
left_at xs i x below is = drop_more xs i x below ∙ ap (λ y. y ∷ drop (i + 1) xs) (sym is)

pub told_at : {X Y : Type 0} (f : X → Y) (xs : List X) (i : ℕ) (x : X) → i < length xs → x ≡ get_or xs i x → map f (drop i xs) ≡ f x ∷ map f (drop (i + 1) xs)
told_at f xs i x below is = ap (map f) (left_at xs i x below is)

-- blocks, binding by binding
taken_by : (test : Bool) (put next : Scope) (rest : Scope → Option Scope) → (if test then None else Some put) ≡ Some next
    → (if test then None else rest put) ≡ rest next
taken_by test put next rest h = grind arith

refused_by : (test : Bool) (put : Scope) (rest : Scope → Option Scope) → (if test then None else Some put) ≡ None → (if test then None else rest put) ≡ None
refused_by test put rest h = grind arith

pub block_taken : (file block next : Scope) (b : Binding) (bs : List Binding) → block_with file block b ≡ Some next → block_scope file block (b ∷ bs) ≡ block_scope file next bs
unfolding block_scope
block_taken file block next b bs h = grind (arith, taken_by)

pub block_refused : (file block : Scope) (b : Binding) (bs : List Binding) → block_with file block b ≡ None → block_scope file block (b ∷ bs) ≡ None
unfolding block_scope
block_refused file block b bs h = grind (arith, refused_by)

pub block_end : (file block : Scope) → block_scope file block [] ≡ Some block
unfolding block_scope
block_end file block = refl

-- paths, one after another
in_front : (front : List Bytes) (name : Bytes) (later : Option (List Bytes))
    → option_map (λ more. front ++ more) (option_map (λ more. name ∷ more) later) ≡ option_map (λ more. (front ++ name ∷ []) ++ more) later
in_front front name later = grind (arith, append_assoc)

path_by : (empty : Bool) (front : List Bytes) (value name : Bytes) (later : Option (List Bytes)) → (if empty then None else Some value) ≡ Some name
    → option_map (λ more. front ++ more) (if empty then None else option_map (λ more. value ∷ more) later) ≡ option_map (λ more. (front ++ name ∷ []) ++ more) later
path_by empty front value name later h = grind (arith, in_front)

no_path_by : (empty : Bool) (front : List Bytes) (value : Bytes) (later : Option (List Bytes)) → (if empty then None else Some value) ≡ None
    → option_map (λ more. front ++ more) (if empty then None else option_map (λ more. value ∷ more) later) ≡ None
no_path_by empty front value later h = grind arith

pub path_taken : (value_of : Bytes → Bytes) (front : List Bytes) (p : Spelling) (ps : List Spelling) (name : Bytes) → path_in value_of p ≡ Some name
    → option_map (λ more. front ++ more) (paths_in value_of (p ∷ ps)) ≡ option_map (λ more. (front ++ name ∷ []) ++ more) (paths_in value_of ps)
unfolding paths_in
path_taken value_of front p ps name h = path_by (is_empty (bound_text value_of p)) front (bound_text value_of p) name (paths_in value_of ps) h

pub path_refused : (value_of : Bytes → Bytes) (front : List Bytes) (p : Spelling) (ps : List Spelling) → path_in value_of p ≡ None
    → option_map (λ more. front ++ more) (paths_in value_of (p ∷ ps)) ≡ None
unfolding paths_in
path_refused value_of front p ps h = no_path_by (is_empty (bound_text value_of p)) front (bound_text value_of p) (paths_in value_of ps) h

pub paths_end : (value_of : Bytes → Bytes) (front : List Bytes) → option_map (λ more. front ++ more) (paths_in value_of []) ≡ Some front
unfolding paths_in
paths_end value_of front = ap Some (append-nil front)

-- outputs, one after another
pub new_taken : (names next : List Bytes) (out : Bytes) (outs : List Bytes) → is_among names out ≡ false → next ≡ with_name names out
    → (are_new names (out ∷ outs) ≡ are_new next outs) × (next ++ outs ≡ names ++ out ∷ outs)
unfolding are_new
new_taken names next out outs new_one longer = grind (arith, not, append_assoc)

pub new_refused : (names : List Bytes) (out : Bytes) (outs : List Bytes) → is_among names out ≡ true → are_new names (out ∷ outs) ≡ false
unfolding are_new
new_refused names out outs old_one = ap (λ b. not b && are_new (names ++ out ∷ []) outs) old_one

pub new_end : (names : List Bytes) → are_new names [] ≡ true
unfolding are_new
new_end names = refl

-- how a statement is made
pub made_told : (file : Scope) (s : PendingStatement) (block : Scope) (making : HeldMaking) → made_as s.inputs s.outs block file making ≡ made_of file s (making_as block making)
unfolding made_of
made_told file s block making = grind arith

pub statement_told : (file : Scope) (s : PendingStatement) (block : Scope) (making : HeldMaking) (made : Made) → s.making ≡ making_as block making
    → made ≡ made_as s.inputs s.outs block file making
    → record { outs = s.outs; made = made; inputs = s.inputs; implicit = s.implicit; order_only = s.order_only } ≡ statement_of_pending file s
unfolding statement_of_pending
statement_told file s block making made held is = grind (arith, made_told)

-- an answer for one value is one for another that is the same
pub carried : {X : Type 0} (old new : Option X) (r : Result X PartFault) → old ≡ new → MatchResult r (λ x. old ≡ Some x) (LacksReading old) → MatchResult r (λ x. new ≡ Some x) (LacksReading new)
carried {X} old new r same h = let P : Option X → Type 0 = λ o. MatchResult r (λ x. o ≡ Some x) (LacksReading o) in subst P same h

-- a build line without all of its paths
pub no_inputs : (value_of : Bytes → Bytes) (making : Making) (b : Build) (outs : List Bytes) → paths_in value_of b.outs ≡ Some outs
    → paths_in value_of b.inputs.explicit ≡ None → pending_with value_of making b ≡ None
no_inputs value_of making b outs h i = rw (h, i) refl

pub no_implicit : (value_of : Bytes → Bytes) (making : Making) (b : Build) (outs inputs : List Bytes) → paths_in value_of b.outs ≡ Some outs
    → paths_in value_of b.inputs.explicit ≡ Some inputs → paths_in value_of b.inputs.implicit ≡ None → pending_with value_of making b ≡ None
no_implicit value_of making b outs inputs h i j = rw (h, i, j) refl

pub no_order_only : (value_of : Bytes → Bytes) (making : Making) (b : Build) (outs inputs implicit : List Bytes) → paths_in value_of b.outs ≡ Some outs
    → paths_in value_of b.inputs.explicit ≡ Some inputs → paths_in value_of b.inputs.implicit ≡ Some implicit
    → paths_in value_of b.inputs.order_only ≡ None → pending_with value_of making b ≡ None
no_order_only value_of making b outs inputs implicit h i j k = rw (h, i, j, k) refl

-- no block hides nothing
pub within_none : (none file : Scope) → none ≡ [] → value_within none file ≡ value_in file
unfolding find_in
within_none none file h = ap (λ block. value_within block file) h

-- default targets, put after those above
pub defaults_added : (state : State) (names all : List Bytes) → list_all (is_among (pending_outs state.pending)) names ≡ true → all ≡ state.defaults ++ names
    → add_defaults state names ≡ Some (record state { defaults = all })
defaults_added state names all outs is = rw outs (ap (λ d. Some (record state { defaults = d })) (sym is))
