-- Nodes of the definitions, and numbers for their names.
use Rattle.std.proofs.Common.{arith, ◌≡◌, ℕ, suc, zero, ◌<◌, Bool, true, false, not, ◌||◌, cond, if◌then◌else◌, ⊎_elim, List, [], ◌∷◌, ◌++◌, length, get_or, map, filter, fold, nat_eq, All, refl, sym, ap, ◌∙◌, subst}
use Rattle.kt_graph.proofs.Common.{flat_map, list_any, bytes_eq, cases_eq, eq-eqb, ne_eqb, eqb-true, false≢true, map-append, All-append, All-head, All-nil, All-push, All-tail, filter-append, bytes_eq-Decides, Text, is_among, with_name, without_repeats, Instance as Held, StoredPart, StoredNode, AreDistinct, Part, inputs_of, order_only_of, HasNumbers, IsNumbered, AreBelow, numbers_without, with_input_number, input_numbers, name_at, names_at, node_view, part_view, stored_at}

-- ---- numbers of names

-- two numbers are equal if their names are
pub same_number : (names : List Text) → AreDistinct names → (one other : ℕ) → one < length names → other < length names
    → bytes_eq (name_at names one) (name_at names other) ≡ nat_eq one other
same_number names distinct one other first second = grind (arith, ⊎_elim, bytes_eq-Decides, eq-eqb, ne_eqb, cases_eq)

-- so a name is among others if its number is among theirs
pub among_numbers : (names : List Text) → AreDistinct names → (numbers : List ℕ) (number : ℕ) → number < length names → AreBelow (length names) numbers
    → is_among (names_at names numbers) (name_at names number) ≡ list_any (nat_eq number) numbers
among_numbers names distinct [] number below all = refl
among_numbers names distinct (first ∷ numbers) number below all =
    ap (λ b. b || is_among (names_at names numbers) (name_at names number))
    (same_number names distinct number first below (All-head (λ n. n < length names) first numbers all))
    ∙ ap (λ b. nat_eq number first || b) (among_numbers names distinct numbers number below (All-tail (λ n. n < length names) first numbers all))

-- a name is added to others if its number is
with_one : (names : List Text) → AreDistinct names → (numbers : List ℕ) (number : ℕ) → number < length names → AreBelow (length names) numbers
    → with_name (names_at names numbers) (name_at names number) ≡ names_at names (with_input_number numbers number)
with_one names distinct numbers number below all = grind (arith, among_numbers, nat_eq, map-append)

below_one : (count : ℕ) (numbers : List ℕ) (number : ℕ) → number < count → AreBelow count numbers → AreBelow count (with_input_number numbers number)
below_one count numbers number below all = by (list_any (nat_eq number) numbers)
  where
    by : (b : Bool) → AreBelow count (if b then numbers else numbers ++ number ∷ [])
    by true = all
    by false = All-push (λ n. n < count) numbers number all below

pub with_all : (names : List Text) → AreDistinct names → (more numbers : List ℕ) → AreBelow (length names) more → AreBelow (length names) numbers
    → fold with_name (names_at names numbers) (names_at names more) ≡ names_at names (fold with_input_number numbers more)
with_all names distinct [] numbers below all = refl
with_all names distinct (number ∷ more) numbers below all =
    let first = All-head (λ n. n < length names) number more below in
    ap (λ (acc : List Text). fold with_name acc (names_at names more)) (with_one names distinct numbers number first all)
    ∙ with_all names distinct more (with_input_number numbers number) (All-tail (λ n. n < length names) number more below)
    (below_one (length names) numbers number first all)

pub below_all : (count : ℕ) (more numbers : List ℕ) → AreBelow count more → AreBelow count numbers → AreBelow count (fold with_input_number numbers more)
below_all count [] numbers below all = all
below_all count (number ∷ more) numbers below all =
    below_all count more (with_input_number numbers number) (All-tail (λ n. n < count) number more below)
    (below_one count numbers number (All-head (λ n. n < count) number more below) all)

-- ---- what passes a test

names_pass : (names : List Text) (p : ℕ → Bool) (q : Text → Bool) (numbers : List ℕ) → All (λ n. q (name_at names n) ≡ p n) numbers
    → filter q (names_at names numbers) ≡ names_at names (filter p numbers)
names_pass names p q [] same = refl
names_pass names p q (number ∷ numbers) same =
    ap (λ b. cond b (name_at names number ∷ filter q (names_at names numbers)) (filter q (names_at names numbers))) (All-head (λ n. q (name_at names n) ≡ p n) number numbers same)
    ∙ ap (λ (rest : List Text). cond (p number) (name_at names number ∷ rest) rest) (names_pass names p q numbers (All-tail (λ n. q (name_at names n) ≡ p n) number numbers same))
    ∙ by (p number)
  where
    by : (b : Bool) → cond b (name_at names number ∷ names_at names (filter p numbers)) (names_at names (filter p numbers))
        ≡ names_at names (cond b (number ∷ filter p numbers) (filter p numbers))
    by true = refl
    by false = refl

any_passing : (p : ℕ → Bool) (number : ℕ) → p number ≡ true → (numbers : List ℕ) → list_any (nat_eq number) (filter p numbers) ≡ list_any (nat_eq number) numbers
any_passing p number on [] = refl
any_passing p number on (first ∷ numbers) = grind (arith, nat_eq, false≢true, eqb-true, cond, any_passing p number on numbers)

pass_one : (p : ℕ → Bool) (numbers : List ℕ) (number : ℕ) → filter p (with_input_number numbers number)
    ≡ fold with_input_number (filter p numbers) (filter p (number ∷ []))
pass_one p numbers number = by (p number) refl
  where
    more : (b : Bool) → p number ≡ b → filter p (numbers ++ number ∷ []) ≡ filter p numbers ++ cond b (number ∷ []) []
    more b e = filter-append p numbers (number ∷ []) ∙ ap (λ c. filter p numbers ++ cond c (number ∷ []) []) e

    by : (b : Bool) → p number ≡ b → filter p (with_input_number numbers number) ≡ fold with_input_number (filter p numbers) (cond b (number ∷ []) [])
    by true e = yes' (list_any (nat_eq number) numbers) refl
      where
        yes' : (c : Bool) → list_any (nat_eq number) numbers ≡ c → filter p (if c then numbers else numbers ++ number ∷ [])
            ≡ (if list_any (nat_eq number) (filter p numbers) then filter p numbers else filter p numbers ++ number ∷ [])
        yes' true f = sym (ap (λ c. if c then filter p numbers else filter p numbers ++ number ∷ []) (any_passing p number e numbers ∙ f))
        yes' false f = more true e ∙ sym (ap (λ c. if c then filter p numbers else filter p numbers ++ number ∷ []) (any_passing p number e numbers ∙ f))
    by false e = no' (list_any (nat_eq number) numbers)
      where
        no' : (c : Bool) → filter p (if c then numbers else numbers ++ number ∷ []) ≡ filter p numbers
        no' true = refl
        no' false = more false e ∙ Rattle.std.proofs.lemmas.List.append-nil (filter p numbers)

pass_all : (p : ℕ → Bool) (more numbers : List ℕ) → filter p (fold with_input_number numbers more) ≡ fold with_input_number (filter p numbers) (filter p more)
pass_all p [] numbers = refl
pass_all p (number ∷ more) numbers = grind (arith, pass_one, cond, pass_all p more (with_input_number numbers number))

-- ---- what a node needs

abbrev needed_numbers : List StoredPart → List ℕ
needed_numbers parts = flat_map (λ (part : StoredPart). part.prerequisites) parts

abbrev other_numbers : List StoredPart → List ℕ
other_numbers parts = flat_map (λ (part : StoredPart). part.order_only) parts

needed_view : (names : List Text) (name : Text) (parts : List StoredPart)
    → flat_map (λ (part : Part). part.needs.prerequisites) (map (part_view names name) parts) ≡ names_at names (needed_numbers parts)
needed_view names name [] = refl
needed_view names name (part ∷ parts) = grind (arith, map-append, needed_view names name parts)

other_told : (names : List Text) (name : Text) (parts : List StoredPart)
    → flat_map (λ (part : Part). part.needs.order_only) (map (part_view names name) parts) ≡ names_at names (other_numbers parts)
other_told names name [] = refl
other_told names name (part ∷ parts) = grind (arith, map-append, other_told names name parts)

needed_below : (count : ℕ) (parts : List StoredPart) → All (λ (part : StoredPart). IsNumbered count part) parts → AreBelow count (needed_numbers parts)
needed_below count [] all = All-nil (λ n. n < count)
needed_below count (part ∷ parts) all =
    All-append (λ n. n < count) part.prerequisites (needed_numbers parts)
    (All-head (λ (one : StoredPart). IsNumbered count one) part parts all).prerequisites
    (needed_below count parts (All-tail (λ (one : StoredPart). IsNumbered count one) part parts all))

other_below : (count : ℕ) (parts : List StoredPart) → All (λ (part : StoredPart). IsNumbered count part) parts → AreBelow count (other_numbers parts)
other_below count [] all = All-nil (λ n. n < count)
other_below count (part ∷ parts) all =
    All-append (λ n. n < count) part.order_only (other_numbers parts)
    (All-head (λ (one : StoredPart). IsNumbered count one) part parts all).order_only
    (other_below count parts (All-tail (λ (one : StoredPart). IsNumbered count one) part parts all))

-- the inputs have numbers of names
pub inputs_below : (names makings : ℕ) (node : StoredNode) → HasNumbers names makings node → AreBelow names node.inputs
inputs_below names makings node numbers =
    subst (AreBelow names) (sym numbers.inputs) (below_all names (needed_numbers node.parts) [] (needed_below names node.parts numbers.parts) (All-nil (λ n. n < names)))

without_below : (count : ℕ) (p : ℕ → Bool) (numbers : List ℕ) → AreBelow count numbers → AreBelow count (filter p numbers)
without_below count p numbers below = Rattle.std.proofs.lemmas.List.Elements.All-filter p (λ n. n < count) numbers below

pub others_below : (names makings : ℕ) (node : StoredNode) → HasNumbers names makings node → AreBelow names node.order_only
others_below names makings node numbers =
    subst (AreBelow names) (sym numbers.order_only)
    (below_all names (numbers_without (input_numbers node.parts) (other_numbers node.parts)) []
    (without_below names (λ n. not (list_any (nat_eq n) (input_numbers node.parts))) (other_numbers node.parts) (other_below names node.parts numbers.parts))
    (All-nil (λ n. n < names)))

-- where there is no node, none has numbers
pub numbers_at : (names makings : ℕ) (nodes : List StoredNode) → All (HasNumbers names makings) nodes → (number : ℕ) → HasNumbers names makings (stored_at nodes number)
numbers_at names makings [] all number = record { parts = All-nil (IsNumbered names); inputs = refl; order_only = refl; made_with = tt }
numbers_at names makings (node ∷ nodes) all zero = All-head (HasNumbers names makings) node nodes all
numbers_at names makings (node ∷ nodes) all (suc number) = numbers_at names makings nodes (All-tail (HasNumbers names makings) node nodes all) number

-- the names of a node's inputs
pub inputs_are : (names : List Text) (instances : List Held) (number : ℕ) (node : StoredNode) → AreDistinct names
    → HasNumbers (length names) (length instances) node → names_at names node.inputs ≡ inputs_of (node_view names instances number node)
unfolding inputs_of without_repeats
inputs_are names instances number node distinct numbers =
    ap (names_at names) numbers.inputs
    ∙ sym (with_all names distinct (needed_numbers node.parts) [] (needed_below (length names) node.parts numbers.parts) (All-nil (λ n. n < length names)))
    ∙ ap (fold with_name []) (sym (needed_view names (name_at names number) node.parts))

pub others_are : (names : List Text) (instances : List Held) (number : ℕ) (node : StoredNode) → AreDistinct names
    → HasNumbers (length names) (length instances) node → names_at names node.order_only ≡ order_only_of (node_view names instances number node)
unfolding order_only_of without_repeats
others_are names instances number node distinct numbers =
    let parts = node.parts in
    let inputs = input_numbers parts in
    let p : ℕ → Bool = λ n. not (list_any (nat_eq n) inputs) in
    let q : Text → Bool = λ name. not (is_among (inputs_of (node_view names instances number node)) name) in
    let all : AreBelow (length names) (other_numbers parts) = other_below (length names) parts numbers.parts in
    let few : AreBelow (length names) inputs = subst (AreBelow (length names)) numbers.inputs (inputs_below (length names) (length instances) node numbers) in
    let told : inputs_of (node_view names instances number node) ≡ names_at names inputs =
    sym (inputs_are names instances number node distinct numbers) ∙ ap (names_at names) numbers.inputs in
    let once : AreBelow (length names) (fold with_input_number [] (other_numbers parts)) = below_all (length names) (other_numbers parts) [] all (All-nil (λ n. n < length names)) in
    let same : All (λ n. q (name_at names n) ≡ p n) (fold with_input_number [] (other_numbers parts)) =
    λ k d within. ap not (ap (λ (ns : List Text). is_among ns (name_at names (get_or (fold with_input_number [] (other_numbers parts)) k d))) told
    ∙ among_numbers names distinct inputs (get_or (fold with_input_number [] (other_numbers parts)) k d) (once k d within) few) in
    ap (names_at names) (numbers.order_only ∙ sym (pass_all p (other_numbers parts) []))
    ∙ sym (names_pass names p q (fold with_input_number [] (other_numbers parts)) same)
    ∙ ap (filter q) (sym (with_all names distinct (other_numbers parts) [] all (All-nil (λ n. n < length names)))
    ∙ ap (fold with_name []) (sym (other_told names (name_at names number) parts)))
