-- Where a reference is closed.
use Rattle.std.proofs.Common.{rules, ◌≡◌, ◌≢◌, ◌==◌, ◌≤◌, ◌<◌, ◌-◌, ◌+◌, ℕ, suc, Bool, true, false, [], ◌∷◌, ◌++◌, Option, Some, None, length, take, drop, refl, sym, ap, ◌∙◌, arith, filter, ⊎_elim, add-zero, zero-add}
use Rattle.kt_syntax.proofs.Common.{cases_Bool, false_from_ne_true, eqb-true, eq-eqb, length-filter, same_Some, take_nil, above_zero, sum_suc, Text, byte_count, IsBalanced, IsUnclosed, closing}

-- no front of the text closes more than is open before it, and the whole closes all that
pub record Closes (opener closer depth : ℕ) (text : Text) : Type 0 where
  pub fronts : (n : ℕ) → byte_count closer (take n text) ≤ depth + byte_count opener (take n text)
  pub even : byte_count closer text ≡ depth + byte_count opener text

-- one step of the search, by what the byte is
closing-open : (opener closer at depth byte : ℕ) (text : Text) → (byte == opener) ≡ true
    → closing opener closer at depth (byte ∷ text) ≡ closing opener closer (at + 1) (depth + 1) text
unfolding closing
closing-open opener closer at depth byte text h = rw h refl

closing-end : (opener closer at depth byte : ℕ) (text : Text) → (byte == opener) ≡ false → (byte == closer) ≡ true → depth ≡ 0
    → closing opener closer at depth (byte ∷ text) ≡ Some at
unfolding closing
closing-end opener closer at depth byte text h k z = rw (h, k, z) refl

closing-close : (opener closer at depth byte : ℕ) (text : Text) → (byte == opener) ≡ false → (byte == closer) ≡ true → (depth == 0) ≡ false
    → closing opener closer at depth (byte ∷ text) ≡ closing opener closer (at + 1) (depth - 1) text
unfolding closing
closing-close opener closer at depth byte text h k z = rw (h, k, z) refl

closing-other : (opener closer at depth byte : ℕ) (text : Text) → (byte == opener) ≡ false → (byte == closer) ≡ false
    → closing opener closer at depth (byte ∷ text) ≡ closing opener closer (at + 1) depth text
unfolding closing
closing-other opener closer at depth byte text h k = rw (h, k) refl

yes_filter : (p : ℕ → Bool) (byte : ℕ) (text : Text) → p byte ≡ true → filter p (byte ∷ text) ≡ byte ∷ filter p text
yes_filter p byte text h = rw h refl

no_filter : (p : ℕ → Bool) (byte : ℕ) (text : Text) → p byte ≡ false → filter p (byte ∷ text) ≡ filter p text
no_filter p byte text h = rw h refl

one_more : (xs : Text) (n : ℕ) → length xs ≡ n → suc (length xs) ≡ 1 + n
one_more xs n e = omega arith

pub count_yes : (mark byte : ℕ) (text : Text) → (byte == mark) ≡ true → byte_count mark (byte ∷ text) ≡ 1 + byte_count mark text
unfolding byte_count
count_yes mark byte text h =
    let p : ℕ → Bool = λ b. b == mark in
    sym (length-filter p (byte ∷ text)) ∙ ap length (yes_filter p byte text h) ∙ one_more (filter p text) (byte_count mark text) (length-filter p text)

pub count_no : (mark byte : ℕ) (text : Text) → (byte == mark) ≡ false → byte_count mark (byte ∷ text) ≡ byte_count mark text
unfolding byte_count
count_no mark byte text h = grind (arith, length-filter, length, no_filter)

pub count_nil : (mark : ℕ) → byte_count mark [] ≡ 0
unfolding byte_count
count_nil mark = refl

not_zero : (n : ℕ) → 0 < n → (n == 0) ≡ false
not_zero n h = false_from_ne_true (n == 0) (λ e. let z = eqb-true n 0 e in absurd (omega arith))

moved : (at n : ℕ) → (at + 1) + n ≡ at + suc n
moved at n = omega arith

other_eqb : (opener closer : ℕ) → opener ≢ closer → (closer == opener) ≡ false
other_eqb opener closer ne = false_from_ne_true (closer == opener) (λ h. ne (sym (eqb-true closer opener h)))

differ : (opener closer byte : ℕ) → opener ≢ closer → (byte == opener) ≡ true → (byte == closer) ≡ false
differ opener closer byte ne h = grind (arith, eqb-true)

-- what a byte does to the count of what is open: that before it and after it
abbrev Moves : ℕ → ℕ → ℕ → ℕ → ℕ → Type 0
Moves opener closer depth deeper byte =
    (text : Text) → (depth + byte_count opener (byte ∷ text)) + byte_count closer text ≡ (deeper + byte_count opener text) + byte_count closer (byte ∷ text)

moves_open : (opener closer depth byte : ℕ) → (byte == opener) ≡ true → (byte == closer) ≡ false → Moves opener closer depth (depth + 1) byte
moves_open opener closer depth byte h k text = let a = count_yes opener byte text h in let b = count_no closer byte text k in omega arith

moves_close : (opener closer depth byte : ℕ) → (byte == opener) ≡ false → (byte == closer) ≡ true → 0 < depth → Moves opener closer depth (depth - 1) byte
moves_close opener closer depth byte h k some text = let a = count_no opener byte text h in let b = count_yes closer byte text k in omega arith

moves_other : (opener closer depth byte : ℕ) → (byte == opener) ≡ false → (byte == closer) ≡ false → Moves opener closer depth depth byte
moves_other opener closer depth byte h k text = let a = count_no opener byte text h in let b = count_no closer byte text k in omega arith

-- a byte before a text that closes, and back
closes_before : (opener closer depth deeper byte : ℕ) (text : Text) → Moves opener closer depth deeper byte → Closes opener closer deeper text
    → Closes opener closer depth (byte ∷ text)
closes_before opener closer depth deeper byte text moves c = grind (arith, take, count_nil)

closes_after : (opener closer depth deeper byte : ℕ) (text : Text) → Moves opener closer depth deeper byte → Closes opener closer depth (byte ∷ text)
    → Closes opener closer deeper text
closes_after opener closer depth deeper byte text moves c = record {
  fronts = λ n. let m = moves (take n text) in let f = c.fronts (suc n) in omega arith;
  even = let m = moves text in let e = c.even in omega arith;
}

-- by what the byte is
pub closes-open : (opener closer depth byte : ℕ) (text : Text) → (byte == opener) ≡ true → (byte == closer) ≡ false
    → Closes opener closer (depth + 1) text → Closes opener closer depth (byte ∷ text)
closes-open opener closer depth byte text h k = closes_before opener closer depth (depth + 1) byte text (moves_open opener closer depth byte h k)

pub closes-close : (opener closer depth byte : ℕ) (text : Text) → (byte == opener) ≡ false → (byte == closer) ≡ true → 0 < depth
    → Closes opener closer (depth - 1) text → Closes opener closer depth (byte ∷ text)
closes-close opener closer depth byte text h k some = search (rules, closes_before, moves_close)

pub closes-other : (opener closer depth byte : ℕ) (text : Text) → (byte == opener) ≡ false → (byte == closer) ≡ false
    → Closes opener closer depth text → Closes opener closer depth (byte ∷ text)
closes-other opener closer depth byte text h k = closes_before opener closer depth depth byte text (moves_other opener closer depth byte h k)

pub after-open : (opener closer depth byte : ℕ) (text : Text) → (byte == opener) ≡ true → (byte == closer) ≡ false
    → Closes opener closer depth (byte ∷ text) → Closes opener closer (depth + 1) text
after-open opener closer depth byte text h k = closes_after opener closer depth (depth + 1) byte text (moves_open opener closer depth byte h k)

pub after-close : (opener closer depth byte : ℕ) (text : Text) → (byte == opener) ≡ false → (byte == closer) ≡ true
    → Closes opener closer depth (byte ∷ text) → (0 < depth) × Closes opener closer (depth - 1) text
after-close opener closer depth byte text h k c =
    let some : 0 < depth =
    (let a = count_no opener byte [] h in let b = count_yes closer byte [] k in let n = count_nil opener in let f = c.fronts 1 in omega arith) in
    (some, closes_after opener closer depth (depth - 1) byte text (moves_close opener closer depth byte h k some) c)

pub after-other : (opener closer depth byte : ℕ) (text : Text) → (byte == opener) ≡ false → (byte == closer) ≡ false
    → Closes opener closer depth (byte ∷ text) → Closes opener closer depth text
after-other opener closer depth byte text h k = closes_after opener closer depth depth byte text (moves_other opener closer depth byte h k)

-- what the search finds: a front that closes, with a closing mark after it
pub record Found (opener closer depth : ℕ) (text : Text) (size : ℕ) : Type 0 where
  pub within : size < length text
  pub cut : text ≡ take size text ++ closer ∷ drop (suc size) text
  pub closes : Closes opener closer depth (take size text)

none_some : {P : Type 0} (a : ℕ) → None ≡ Some a → P
none_some a e = absurd (cc e)

nil_front : (opener closer depth n : ℕ) → byte_count closer (take {A = ℕ} n []) ≤ depth + byte_count opener (take {A = ℕ} n [])
nil_front opener closer depth n = let a = count_nil closer in rw (take_nil n) (omega arith)

-- the search is sound
module _ (opener closer : ℕ) (ne : opener ≢ closer) where
  pub closing_sound : (text : Text) (at depth place : ℕ) → closing opener closer at depth text ≡ Some place
      → (size : ℕ) × (place ≡ at + size) × Found opener closer depth text size
  unfolding closing
  closing_sound [] at depth place e = none_some place e
  closing_sound (byte ∷ text) at depth place e =
      ⊎_elim (λ h.
      let deeper = closing_sound text (at + 1) (depth + 1) place (sym (closing-open opener closer at depth byte text h) ∙ e) in
      let f = deeper.2 in (
        suc deeper.0,
        sum_suc at place deeper.0 deeper.1,
        record {
          within = let w = f.within in omega arith;
          cut = ap (λ t. byte ∷ t) f.cut;
          closes = closes-open opener closer depth byte (take deeper.0 text) h (differ opener closer byte ne h) f.closes;
        },
      ))
      (λ h. ⊎_elim (λ k. ⊎_elim (λ z.
      let same = same_Some at place (sym (closing-end opener closer at depth byte text h k (eqb-true depth 0 z)) ∙ e) in (
        0,
        omega arith,
        record {
          within = omega arith;
          cut = ap (λ b. b ∷ text) (eqb-true byte closer k);
          closes = record {
            fronts = λ n. nil_front opener closer depth n;
            even = (let a = count_nil closer in let b = count_nil opener in let d = eqb-true depth 0 z in omega arith);
          };
        },
      ))
      (λ z.
      let deeper = closing_sound text (at + 1) (depth - 1) place (sym (closing-close opener closer at depth byte text h k z) ∙ e) in
      let f = deeper.2 in (
        suc deeper.0,
        sum_suc at place deeper.0 deeper.1,
        record {
          within = let w = f.within in omega arith;
          cut = ap (λ t. byte ∷ t) f.cut;
          closes = closes-close opener closer depth byte (take deeper.0 text) h k (above_zero depth z) f.closes;
        },
      ))
      (cases_Bool (depth == 0)))
      (λ k.
      let deeper = closing_sound text (at + 1) depth place (sym (closing-other opener closer at depth byte text h k) ∙ e) in
      let f = deeper.2 in (
        suc deeper.0,
        sum_suc at place deeper.0 deeper.1,
        record {
          within = let w = f.within in omega arith;
          cut = ap (λ t. byte ∷ t) f.cut;
          closes = closes-other opener closer depth byte (take deeper.0 text) h k f.closes;
        },
      ))
      (cases_Bool (byte == closer)))
      (cases_Bool (byte == opener))

  -- and it finds each front that closes
  pub closing_found : (body rest : Text) (at depth : ℕ) → Closes opener closer depth body
      → closing opener closer at depth (body ++ closer ∷ rest) ≡ Some (at + length body)
  closing_found [] rest at depth c = grind (arith, count_nil, closing-end, other_eqb, eq-eqb, add-zero)
  closing_found (byte ∷ body) rest at depth c =
      ⊎_elim (λ h.
      closing-open opener closer at depth byte (body ++ closer ∷ rest) h
      ∙ closing_found body rest (at + 1) (depth + 1) (after-open opener closer depth byte body h (differ opener closer byte ne h) c)
      ∙ ap (λ n. Some n) (moved at (length body)))
      (λ h. ⊎_elim (λ k.
      let less = after-close opener closer depth byte body h k c in
      closing-close opener closer at depth byte (body ++ closer ∷ rest) h k (not_zero depth less.0)
      ∙ closing_found body rest (at + 1) (depth - 1) less.1
      ∙ ap (λ n. Some n) (moved at (length body)))
      (λ k.
      closing-other opener closer at depth byte (body ++ closer ∷ rest) h k
      ∙ closing_found body rest (at + 1) depth (after-other opener closer depth byte body h k c)
      ∙ ap (λ n. Some n) (moved at (length body)))
      (cases_Bool (byte == closer)))
      (cases_Bool (byte == opener))

  balanced-closes : (body : Text) → IsBalanced opener closer body → Closes opener closer 0 body
  balanced-closes body b = grind arith

  closes-balanced : (body : Text) → Closes opener closer 0 body → IsBalanced opener closer body
  closes-balanced body c = grind arith

  pub closed_found : (text body rest : Text) → text ≡ body ++ closer ∷ rest → IsBalanced opener closer body → closing opener closer 0 0 text ≡ Some (length body)
  closed_found text body rest e b = grind (arith, closing_found, balanced-closes, zero-add, length)

  -- the mark that closes a text
  pub closed_sound : (text : Text) (place : ℕ) → closing opener closer 0 0 text ≡ Some place
      → (place < length text) × (text ≡ take place text ++ closer ∷ drop (suc place) text) × IsBalanced opener closer (take place text)
  closed_sound text place e = grind (arith, closing_sound, closes-balanced, take)

  pub unclosed_sound : (text : Text) → closing opener closer 0 0 text ≡ None → IsUnclosed opener closer text
  unclosed_sound text none body rest e b = none_some (length body) (sym none ∙ closed_found text body rest e b)

  pub unclosed_found : (text : Text) → IsUnclosed opener closer text → closing opener closer 0 0 text ≡ None
  unclosed_found text lacks = go (closing opener closer 0 0 text) refl
    where
      go : (found : Option ℕ) → closing opener closer 0 0 text ≡ found → closing opener closer 0 0 text ≡ None
      go None e = e
      go (Some place) e = let s = closed_sound text place e in absurd (lacks (take place text) (drop (suc place) text) s.1 s.2)
