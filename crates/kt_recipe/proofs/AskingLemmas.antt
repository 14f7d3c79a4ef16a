-- An automatic macro is found by its name.
use Rattle.std.proofs.Common.{arith, ◌≡◌, ℕ, Bool, true, false, not, ◌&&◌, ◌==◌, if◌then◌else◌, List, [], ◌∷◌, ◌++◌, map, Option, Some, None, option_map, refl, sym, ap, ◌∙◌, true≢false, nat_eq, flat_map}
use Rattle.kt_recipe.proofs.Common.{list_any, pointwise, eqb-true, Text, Store, look, Node, NamePart, Subject, names_text_in, marks, endings, subject_names_in, of_mark, automatic_in}
use Rattle.std.specs.Option.{option_and_then}
use Rattle.kt_list.proofs.general.Booleans.{or_first, or_second}
use Rattle.kt_recipe.specs.declared.forms.NamePart.TheVariants.{Whole, Directory, File}
use Rattle.kt_recipe.specs.inner.Asking.{subject_in, subject_of, letter_part, parted, subject_and_part, macro_in}

-- ---- pairs after others

abbrev or_else : Option Text → Option Text → Option Text
or_else None other = other
or_else (Some value) other = Some value

or_none : (found : Option Text) → or_else found None ≡ found
or_none found = grind arith

test_first : (b : Bool) (value : Text) (found other : Option Text)
    → (if b then Some value else or_else found other) ≡ or_else (if b then Some value else found) other
test_first b value found other = grind arith

look_after : (first others : Store) (name : Text) → look (first ++ others) name ≡ or_else (look first name) (look others name)
look_after [] others name = refl
look_after (e ∷ es) others name = grind (arith, pointwise, nat_eq, test_first, look_after es others name)

-- ---- pairs after a mark

abbrev after : ℕ → Store → Store
after mark macros = map (λ macro. (mark ∷ macro.0, macro.1)) macros

marked : (first mark : ℕ) (macros : Store) (rest : Text) (b : Bool) → (first == mark) ≡ b
    → look (after first macros) (mark ∷ rest) ≡ (if b then look macros rest else None)
marked first mark [] rest true is = refl
marked first mark [] rest false is = refl
marked first mark (macro ∷ macros) rest true is = grind (arith, pointwise, nat_eq, marked first mark macros rest true is)
marked first mark (macro ∷ macros) rest false is = rw is (marked first mark macros rest false is)

-- ---- the marks, one after the other

abbrev all_after : Node → ℕ → List (ℕ × Subject) → Store
all_after node part known = flat_map (λ mark. map (λ macro. (mark.0 ∷ macro.0, macro.1)) (of_mark node part mark.1)) known

abbrev has_mark : List (ℕ × Subject) → ℕ → Bool
has_mark known mark = list_any (λ one. one.0 == mark) known

-- whether no mark is repeated
abbrev differ : List (ℕ × Subject) → Bool
differ [] = true
differ (one ∷ known) = not (has_mark known one.0) && differ known

abbrev told_by : Node → ℕ → Text → Option Subject → Option Text
told_by node part rest found = option_and_then (λ subject. look (of_mark node part subject) rest) found

apart : (a b : Bool) → (not a && b) ≡ true → a ≡ false
apart a b is = grind (arith, true≢false)

apart_rest : (a b : Bool) → (not a && b) ≡ true → b ≡ true
apart_rest a b is = grind (arith, true≢false)

none_there : (node : Node) (part : ℕ) (known : List (ℕ × Subject)) (mark : ℕ) (rest : Text) → has_mark known mark ≡ false
    → look (all_after node part known) (mark ∷ rest) ≡ None
none_there node part [] mark rest is = refl
none_there node part (one ∷ known) mark rest is =
    look_after (after one.0 (of_mark node part one.1)) (all_after node part known) (mark ∷ rest)
    ∙ ap (λ found. or_else found (look (all_after node part known) (mark ∷ rest)))
    (marked one.0 mark (of_mark node part one.1) rest false (or_first (one.0 == mark) (has_mark known mark) is))
    ∙ none_there node part known mark rest (or_second (one.0 == mark) (has_mark known mark) is)

-- at the first mark, or after it
either_mark : (node : Node) (part : ℕ) (one : ℕ × Subject) (known : List (ℕ × Subject)) (mark : ℕ) (rest : Text) (b : Bool) → (one.0 == mark) ≡ b
    → (b ≡ true → look (all_after node part known) (mark ∷ rest) ≡ None)
    → look (all_after node part known) (mark ∷ rest) ≡ told_by node part rest (subject_in known mark)
    → or_else (if b then look (of_mark node part one.1) rest else None) (look (all_after node part known) (mark ∷ rest))
    ≡ told_by node part rest (if b then Some one.1 else subject_in known mark)
either_mark node part one known mark rest b is nothing later = grind (arith, or_none)

found_there : (node : Node) (part : ℕ) (known : List (ℕ × Subject)) (mark : ℕ) (rest : Text) → differ known ≡ true
    → look (all_after node part known) (mark ∷ rest) ≡ told_by node part rest (subject_in known mark)
found_there node part [] mark rest is = refl
found_there node part (one ∷ known) mark rest is =
    look_after (after one.0 (of_mark node part one.1)) (all_after node part known) (mark ∷ rest)
    ∙ ap (λ found. or_else found (look (all_after node part known) (mark ∷ rest)))
    (marked one.0 mark (of_mark node part one.1) rest (one.0 == mark) refl)
    ∙ either_mark node part one known mark rest (one.0 == mark) refl
    (λ same. none_there node part known mark rest
    (ap (has_mark known) (sym (eqb-true one.0 mark same)) ∙ apart (has_mark known one.0) (differ known) is))
    (found_there node part known mark rest (apart_rest (has_mark known one.0) (differ known) is))

-- ---- what comes after a mark

abbrev told : Node → ℕ → Subject × NamePart → Text
told node part asked = names_text_in asked.1 (subject_names_in node part asked.0)

abbrev of_endings : Node → ℕ → Subject → Bool → Store
of_endings node part subject parts = map (λ ending. (ending.0, names_text_in ending.1 (subject_names_in node part subject))) (endings parts)

nothing_after : (node : Node) (part : ℕ) (subject : Subject) (parts : Bool) → look (of_endings node part subject parts) [] ≡ Some (told node part (subject, Whole))
nothing_after node part subject parts = grind arith

by_letter : (node : Node) (part : ℕ) (subject : Subject) (d f : Bool)
    → (if d && true then Some (told node part (subject, Directory)) else (if f && true then Some (told node part (subject, File)) else None))
    ≡ option_map (told node part) (option_map (λ form. (subject, form)) (if d then Some Directory else (if f then Some File else None)))
by_letter node part subject d f = grind arith

letter_after : (node : Node) (part : ℕ) (subject : Subject) (letter : ℕ) (parts : Bool)
    → look (of_endings node part subject parts) (letter ∷ [])
    ≡ option_map (told node part) (if parts then option_map (λ form. (subject, form)) (letter_part letter) else None)
letter_after node part subject letter parts = grind (arith, by_letter)

never : (d f : Bool) (one other : Option Text) → (if d && false then one else (if f && false then other else None)) ≡ None
never d f one other = grind arith

more_after : (node : Node) (part : ℕ) (subject : Subject) (letter other : ℕ) (more : Text) (parts : Bool)
    → look (of_endings node part subject parts) (letter ∷ other ∷ more) ≡ None
more_after node part subject letter other more parts = grind (arith, never)

-- ---- names

alone : (node : Node) (part : ℕ) (found : Option Subject)
    → told_by node part [] found ≡ option_map (told node part) (option_map (λ subject. (subject, Whole)) found)
alone node part found = grind (arith, nothing_after)

with_letter : (node : Node) (part letter : ℕ) (found : Option Subject)
    → told_by node part (letter ∷ []) found ≡ option_map (told node part) (option_and_then (λ subject. parted subject letter) found)
with_letter node part letter found = grind (arith, letter_after)

with_more : (node : Node) (part letter other : ℕ) (more : Text) (found : Option Subject)
    → told_by node part (letter ∷ other ∷ more) found ≡ None
with_more node part letter other more found = grind (arith, more_after)

-- what is found among the automatic macros is that of the name
pub found_by_name : (node : Node) (part : ℕ) (name : Text) → look (automatic_in node part) name ≡ macro_in node part name
unfolding automatic_in macro_in subject_and_part subject_of
found_by_name node part [] = refl
found_by_name node part (mark ∷ []) = grind (arith, found_there, alone)
found_by_name node part (mark ∷ letter ∷ []) = grind (arith, found_there, with_letter)
found_by_name node part (mark ∷ letter ∷ other ∷ more) =
    found_there node part marks mark (letter ∷ other ∷ more) refl ∙ with_more node part letter other more (subject_in marks mark)
