-- Runs of bytes without a dollar.
use Rattle.std.proofs.Common.{◌≡◌, ◌==◌, ◌≤◌, ℕ, suc, true, false, [], ◌∷◌, ◌++◌, length, take, drop, refl, ap, ◌∙◌, arith, ⊎_elim}
use Rattle.kt_syntax.proofs.Common.{cases_Bool, eqb-true, eq-eqb, position_or_len, Text, byte_count, EndsRun}
use Rattle.kt_syntax.proofs.lemmas.Closing.{count_yes, count_no, count_nil}

-- how many bytes stand before the first dollar
abbrev pub run : Text → ℕ
run text = position_or_len (λ b. b == 36) text

pub run-yes : (byte : ℕ) (text : Text) → (byte == 36) ≡ true → run (byte ∷ text) ≡ 0
run-yes byte text h = rw h refl

pub run-no : (byte : ℕ) (text : Text) → (byte == 36) ≡ false → run (byte ∷ text) ≡ suc (run text)
run-no byte text h = rw h (omega arith)

pub run_within : (text : Text) → run text ≤ length text
run_within [] = omega arith
run_within (byte ∷ text) = grind (arith, ⊎_elim, run-yes, run-no, cases_Bool, run_within text)

pub run_free : (text : Text) → byte_count 36 (take (run text) text) ≡ 0
run_free [] = count_nil 36
run_free (byte ∷ text) = grind (arith, ⊎_elim, take, run-yes, count_nil, run-no, count_no, cases_Bool, run_free text)

pub run_ends : (text : Text) → EndsRun (drop (run text) text)
run_ends [] = tt
run_ends (byte ∷ text) = grind (arith, ⊎_elim, run-yes, eqb-true, run-no, cases_Bool, run_ends text)

pub no_dollar : (byte : ℕ) (bytes : Text) → byte_count 36 (byte ∷ bytes) ≡ 0 → ((byte == 36) ≡ false) × (byte_count 36 bytes ≡ 0)
no_dollar byte bytes e = grind (arith, ⊎_elim, count_yes, count_no, cases_Bool)

pub run_length : (bytes rest : Text) → byte_count 36 bytes ≡ 0 → EndsRun rest → run (bytes ++ rest) ≡ length bytes
run_length [] [] e ends = refl
run_length [] (byte ∷ rest) e ends = run-yes byte rest (eq-eqb byte 36 ends)
run_length (byte ∷ bytes) rest e ends =
    let n = no_dollar byte bytes e in
    run-no byte (bytes ++ rest) n.0 ∙ ap (λ k. suc k) (run_length bytes rest n.1 ends)
