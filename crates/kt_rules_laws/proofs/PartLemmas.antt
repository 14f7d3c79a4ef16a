-- What separates the words of a head.
use Rattle.std.proofs.Common.{arith, ◌≡◌, ℕ, Bool, true, false, not, [], ◌∷◌, sym, ap, ◌∙◌, true≢false, ◌==◌, ◌&&◌}
use Rattle.kt_rules.proofs.Common.{and_from, eqb-true, not-true, list_all, head_is, and_first, and_second, Text, is_separator, cuts, is_quotable}
use Rattle.kt_text_laws.proofs.Places.{none_in, tail_is}
use Rattle.kt_rules.specs.declared.line.cutting.Cut.TheVariants.{Separator}
use Rattle.kt_rules.specs.views.Cuts.{ends_in_backslash}
use Rattle.kt_rules_laws.specs.HeadWords.{separates, HoldsNoSeparator, begins_with_space}

abbrev pub AreSeparators : Text → Type 0
AreSeparators text = list_all is_separator text ≡ true

-- a backslash at a text's end quotes no space at the start of the text after it
abbrev pub QuotesNone : Bool → Text → Text → Type 0
QuotesNone before text past = (ends_in_backslash before text && begins_with_space past) ≡ false

pub first_is : (byte : ℕ) (text : Text) → AreSeparators (byte ∷ text) → is_separator byte ≡ true
first_is byte text h = and_first (is_separator byte) (list_all is_separator text) h

pub others_are : (byte : ℕ) (text : Text) → AreSeparators (byte ∷ text) → AreSeparators text
others_are byte text h = and_second (is_separator byte) (list_all is_separator text) h

pub one_more_is : (byte : ℕ) (text : Text) → is_separator byte ≡ true → AreSeparators text → AreSeparators (byte ∷ text)
one_more_is byte text h all = and_from (is_separator byte) (list_all is_separator text) h all

-- a separator that can be quoted is a space
space_only : (byte : ℕ) → is_separator byte ≡ true → is_quotable byte ≡ (byte == 32)
unfolding is_separator
space_only byte h = grind (arith, eqb-true, true≢false)

-- and none of them is a backslash
pub no_backslash : (byte : ℕ) → is_separator byte ≡ true → (byte == 92) ≡ false
unfolding is_separator
no_backslash byte h = grind (arith, eqb-true, true≢false)

-- words are cut at the bytes that separate
pub cuts_is : (past : Bool) (byte : ℕ) → cuts Separator past byte ≡ separates past byte
cuts_is past byte = grind (arith, not, space_only)

-- what a byte that separates is
pub is_one : (past : Bool) (byte : ℕ) → separates past byte ≡ true → is_separator byte ≡ true
is_one past byte h = and_first (is_separator byte) (not (past && byte == 32)) h

pub not_quoted : (past : Bool) (byte : ℕ) → separates past byte ≡ true → (past && byte == 32) ≡ false
not_quoted past byte h = not-true (past && byte == 32) (and_second (is_separator byte) (not (past && byte == 32)) h)

pub separates_too : (past : Bool) (byte : ℕ) → is_separator byte ≡ true → (past && byte == 32) ≡ false
    → separates past byte ≡ true
separates_too past byte h q = and_from (is_separator byte) (not (past && byte == 32)) h (ap not q)

-- a text that holds none, without its first byte, and with one more
pub holds_less : (before : Bool) (byte : ℕ) (text : Text) → HoldsNoSeparator before (byte ∷ text)
    → HoldsNoSeparator (byte == 92) text
holds_less before byte text h = λ front back other e. h (byte ∷ front) back other (ap (λ (xs : Text). byte ∷ xs) e)

pub holds_none : (before : Bool) → HoldsNoSeparator before []
holds_none before = λ front back byte e. absurd (none_in byte front back e)

pub holds_more : (before : Bool) (byte : ℕ) (text : Text) → separates before byte ≡ false
    → HoldsNoSeparator (byte == 92) text → HoldsNoSeparator before (byte ∷ text)
holds_more before byte text s h [] back other e = ap (separates before) (sym (head_is byte other text back e)) ∙ s
holds_more before byte text s h (first ∷ front) back other e = grind (arith, tail_is)
