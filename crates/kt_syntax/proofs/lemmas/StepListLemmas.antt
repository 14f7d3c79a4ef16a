-- Steps by numbers, and those that are held.
use Rattle.std.proofs.Common.{◌≡◌, ◌≤◌, ◌+◌, ℕ, zero, suc, All, List, [], ◌∷◌, ◌++◌, length, map, replicate, set, slice_get, Some, refl, sym, ap, ◌∙◌, add-one, arith}
use Rattle.kt_syntax.proofs.Common.{get_or-append_seam, get_or_append_left, length-append, set-get_or, All-cons, All-head, All-nil, All-tail, get_or_from_slice_get, unwrap_or-slice_get, BlockStep}
use Rattle.kt_syntax.specs.declared.step.BlockStep.TheVariants as step
use Rattle.kt_syntax.specs.inner.ShortSteps.{numbered_step}

-- ordinary lines alone
pub all_ordinary : (held : List BlockStep) (count : ℕ) → map (numbered_step held) (replicate {A = ℕ} count 0) ≡ replicate count step.Line
all_ordinary held zero = refl
all_ordinary held (suc count) = ap (λ (steps : List BlockStep). step.Line ∷ steps) (all_ordinary held count)

pub none_held : (held count : ℕ) → All (λ number. number ≤ held) (replicate {A = ℕ} count 0)
none_held held zero = All-nil (λ (number : ℕ). number ≤ held)
none_held held (suc count) = All-cons (λ (number : ℕ). number ≤ held) 0 (replicate {A = ℕ} count 0) (omega arith) (none_held held count)

pub stays_ordinary : (steps : List BlockStep) (place : ℕ) → slice_get steps place ≡ Some step.Line → steps ≡ set steps place step.Line
stays_ordinary steps place is =
    sym (ap (set steps place) (sym (get_or_from_slice_get steps place step.Line step.Line is)) ∙ set-get_or steps place step.Line)

-- a number stands for the same step where one more is held
same_step : (held : List BlockStep) (found : BlockStep) (number : ℕ) → number ≤ length held → numbered_step (held ++ found ∷ []) number ≡ numbered_step held number
same_step held found number within = grind (arith, unwrap_or-slice_get, get_or_append_left)

same_steps : (held : List BlockStep) (found : BlockStep) (numbers : List ℕ) → All (λ number. number ≤ length held) numbers
    → map (numbered_step (held ++ found ∷ [])) numbers ≡ map (numbered_step held) numbers
same_steps held found [] all = refl
same_steps held found (number ∷ numbers) all =
    let within : ℕ → Type 0 = λ place. place ≤ length held in
    rw (same_step held found number (All-head within number numbers all), same_steps held found numbers (All-tail within number numbers all)) refl

last_step : (held : List BlockStep) (found : BlockStep) → numbered_step (held ++ found ∷ []) (suc (length held)) ≡ found
last_step held found = unwrap_or-slice_get (held ++ found ∷ []) (length held) step.Line ∙ get_or-append_seam held found [] step.Line

put_held : (held : List BlockStep) (found : BlockStep) (numbers : List ℕ) (place : ℕ) → All (λ number. number ≤ length held) numbers
    → map (numbered_step (held ++ found ∷ [])) (set numbers place (suc (length held))) ≡ set (map (numbered_step held) numbers) place found
put_held held found [] place all = refl
put_held held found (number ∷ numbers) zero all =
    let within : ℕ → Type 0 = λ place. place ≤ length held in
    rw (last_step held found, same_steps held found numbers (All-tail within number numbers all)) refl
put_held held found (number ∷ numbers) (suc place) all =
    let within : ℕ → Type 0 = λ place. place ≤ length held in
    rw (same_step held found number (All-head within number numbers all), put_held held found numbers place (All-tail within number numbers all)) refl

-- one more step is held, for the line at a place
pub held_more : (held : List BlockStep) (found : BlockStep) (numbers : List ℕ) (place number : ℕ) → All (λ number. number ≤ length held) numbers → number ≡ length (held ++ found ∷ [])
    → map (numbered_step (held ++ found ∷ [])) (set numbers place number) ≡ set (map (numbered_step held) numbers) place found
held_more held found numbers place number all e =
    let next : number ≡ suc (length held) = e ∙ length-append held (found ∷ []) ∙ omega arith in
    rw next (put_held held found numbers place all)

-- the steps of the lines before a place are those of ordinary ones so far
pub put_before : (place : ℕ) (found : BlockStep) (later : List BlockStep) → set (replicate (suc place) step.Line ++ later) place found ≡ replicate place step.Line ++ found ∷ later
put_before zero found later = refl
put_before (suc place) found later = ap (λ (steps : List BlockStep). step.Line ∷ steps) (put_before place found later)

last_ordinary : (place : ℕ) (later : List BlockStep) → slice_get (replicate (suc place) step.Line ++ later) place ≡ Some step.Line
last_ordinary zero later = refl
last_ordinary (suc place) later = last_ordinary place later

pub ordinary_before : (place : ℕ) (later : List BlockStep) → slice_get (replicate (place + 1) step.Line ++ later) place ≡ Some step.Line
ordinary_before place later = rw add-one (last_ordinary place later)
