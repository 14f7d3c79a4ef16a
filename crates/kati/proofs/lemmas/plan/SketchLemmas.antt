-- A sketch as the code holds it.
use Rattle.std.proofs.Common.{◌≡◌, ℕ, Bool, true, false, List, [], ◌∷◌, ◌++◌, length, take, Option, Some, None, Result, Ok, Err, OnOk, OnErr, refl, ap, ◌∙◌, arith, zero, suc, ◌||◌, option_map, get_or}
use Rattle.kati.proofs.Common.{list_all, list_any, option_to_list, and_from, and_parts, Text, is_writable_making, made_by}
use Rattle.std.proofs.Math.Seq.{take-append_seam}
use Rattle.std.specs.Result.{is_err}
use Rattle.kt_list.specs.views.Rows.{with_item}
use Rattle.kt_list.proofs.RowLemmas.{item_last}
use Rattle.kt_recipe.specs.views.Commands.{command_in}
use Rattle.kati.specs.inner.plan.Drawn.{BoxedJoined, GroupSketch, all_drawn, first_joined, is_written, joined_view}
use Rattle.kati.specs.inner.plan.Drawn.{no_drawn}

abbrev pub drawn_by : Text → List BoxedJoined → Bool → GroupSketch
drawn_by command row one = record { always = one; joined = first_joined row; command = command_in command }

pub first_of_one : (joined : Option BoxedJoined) → first_joined (option_to_list joined) ≡ option_map (λ b. joined_view b.value) joined
first_of_one None = refl
first_of_one (Some joined) = refl

-- ---- what a push leaves

-- the first ones stay
pub cut_back : {A : Type 0} (n : ℕ) (xs ys : List A) (more : A) → n ≡ length xs → ys ≡ xs ++ more ∷ [] → take n ys ≡ xs
cut_back n xs ys more is grown = ap (λ m. take m ys) is ∙ ap (take (length xs)) grown ∙ take-append_seam xs (more ∷ [])

pub if_ok : {T E : Type 0} (result : Result T E) (P : Type 0) → is_err result ≡ false → OnOk result P → P
if_ok (Ok done) P is holds = holds
if_ok (Err refused) P is holds = absurd (cc is)

module _ {A R E : Type 0} (rows opened put : List (List A)) (one : A) (opens : opened ≡ rows ++ [] ∷ []) where
  pub row_put : (joined : Option A) (result : Result R E) → joined ≡ Some one → OnOk result (put ≡ with_item opened one)
      → OnOk result (put ≡ rows ++ option_to_list joined ∷ [])
  row_put joined (Ok done) is puts = grind (arith, item_last)
  row_put joined (Err refused) is puts = tt

  pub row_kept : (result : Result R E) → OnOk result (put ≡ with_item opened one) → OnErr result (put ≡ opened) → take (length rows) put ≡ rows
  row_kept (Ok done) puts leaves = grind (arith, cut_back, length, item_last)
  row_kept (Err refused) puts leaves = cut_back (length rows) rows put [] refl (leaves ∙ opens)

pub all_more : (commands : List Text) (joined : List (List BoxedJoined)) (always : List Bool) (command : Text) (row : List BoxedJoined) (one : Bool)
    → length commands ≡ length always → length joined ≡ length always
    → all_drawn (commands ++ command ∷ []) (joined ++ row ∷ []) (always ++ one ∷ []) ≡ all_drawn commands joined always ++ drawn_by command row one ∷ []
all_more [] [] [] command row one same also = refl
all_more [] (other ∷ joined) [] command row one same also = absurd (omega (arith, also))
all_more [] joined (first ∷ always) command row one same also = absurd (omega (arith, same))
all_more (other ∷ commands) joined [] command row one same also = absurd (omega (arith, same))
all_more (other ∷ commands) [] (first ∷ always) command row one same also = absurd (omega (arith, also))
all_more (other ∷ commands) (before ∷ joined) (first ∷ always) command row one same also =
    ap (λ (l : List GroupSketch). drawn_by other before first ∷ l) (all_more commands joined always command row one (omega (arith, same)) (omega (arith, also)))

pub pushed : (commands commands' : List Text) (joined joined' : List (List BoxedJoined)) (always always' : List Bool) (command : Text)
    (row : Option BoxedJoined) (one : Bool) (all : List GroupSketch) → length commands ≡ length always → length joined ≡ length always
    → all_drawn commands joined always ≡ all → commands' ≡ commands ++ command ∷ [] → joined' ≡ joined ++ option_to_list row ∷ []
    → always' ≡ always ++ one ∷ [] → all_drawn commands' joined' always'
    ≡ all ++ record { always = one; joined = option_map (λ b. joined_view b.value) row; command = command_in command } ∷ []
pushed commands commands' joined joined' always always' command row one all same also is more_commands more_joined more_always = grind (arith, all_more, first_of_one)

-- how many there are
pub all_size : (commands : List Text) (joined : List (List BoxedJoined)) (always : List Bool)
    → length commands ≡ length always → length joined ≡ length always → length always ≡ length (all_drawn commands joined always)
all_size [] joined [] same also = refl
all_size [] joined (one ∷ always) same also = absurd (omega (arith, same))
all_size (command ∷ commands) joined [] same also = absurd (omega (arith, same))
all_size (command ∷ commands) [] (one ∷ always) same also = absurd (omega (arith, also))
all_size (command ∷ commands) (row ∷ joined) (one ∷ always) same also =
    ap suc (all_size commands joined always (omega (arith, same)) (omega (arith, also)))

pub any_drawn : (commands : List Text) (joined : List (List BoxedJoined)) (always : List Bool)
    → length commands ≡ length always → length joined ≡ length always
    → list_any (λ one. one) always ≡ list_any (λ drawn. drawn.always) (all_drawn commands joined always)
any_drawn [] joined [] same also = refl
any_drawn [] joined (one ∷ always) same also = absurd (omega (arith, same))
any_drawn (command ∷ commands) joined [] same also = absurd (omega (arith, same))
any_drawn (command ∷ commands) [] (one ∷ always) same also = absurd (omega (arith, also))
any_drawn (command ∷ commands) (row ∷ joined) (one ∷ always) same also =
    ap (λ b. one || b) (any_drawn commands joined always (omega (arith, same)) (omega (arith, also)))

-- what is stored for the group at a place
pub one_at : (commands : List Text) (joined : List (List BoxedJoined)) (always : List Bool) (i : ℕ)
    → length commands ≡ length always → length joined ≡ length always
    → drawn_by (get_or commands i []) (get_or joined i []) (get_or always i false) ≡ get_or (all_drawn commands joined always) i no_drawn
one_at [] [] [] i same also = refl
one_at [] (row ∷ joined) [] i same also = absurd (omega (arith, also))
one_at [] joined (one ∷ always) i same also = absurd (omega (arith, same))
one_at (command ∷ commands) joined [] i same also = absurd (omega (arith, same))
one_at (command ∷ commands) [] (one ∷ always) i same also = absurd (omega (arith, also))
one_at (command ∷ commands) (row ∷ joined) (one ∷ always) zero same also = refl
one_at (command ∷ commands) (row ∷ joined) (one ∷ always) (suc i) same also =
    one_at commands joined always i (omega (arith, same)) (omega (arith, also))

module _ (commands : List Text) (joined : List (List BoxedJoined)) (always : List Bool) (i : ℕ) (all : List GroupSketch)
    (same : length commands ≡ length always) (also : length joined ≡ length always) (is : all_drawn commands joined always ≡ all) where
  pub one_is : drawn_by (get_or commands i []) (get_or joined i []) (get_or always i false) ≡ get_or all i no_drawn
  one_is = one_at commands joined always i same also ∙ ap (λ (l : List GroupSketch). get_or l i no_drawn) is

-- ---- what can be written

pub commands_made : (commands : List Text) (joined : List (List BoxedJoined)) (always : List Bool) → list_all is_written commands ≡ true
    → list_all (λ (drawn : GroupSketch). is_writable_making (made_by drawn.command)) (all_drawn commands joined always) ≡ true
commands_made [] joined always all = refl
commands_made (command ∷ commands) [] always all = refl
commands_made (command ∷ commands) (row ∷ joined) [] all = refl
commands_made (command ∷ commands) (row ∷ joined) (one ∷ always) all =
    let parts = and_parts (is_written command) (list_all is_written commands) all in
    and_from (is_written command) _ parts.0 (commands_made commands joined always parts.1)
