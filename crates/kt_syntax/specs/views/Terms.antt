-- How terms are spelled: a text is split into terms in one way, in which references are balanced (POSIX.1-2024 make,
-- "Macros"; GNU make manual, "Basics of Variable References").
use Rattle.std.specs.Prelude.{◌≡◌, ℕ, ◌<◌, ◌≤◌, Bool, true, not, ◌==◌, ◌||◌, List, [], ◌∷◌, ◌++◌, length, take}
use Rattle.std.specs.Prelude.{count_by, Result, Ok, Err, ◌⊎◌}
use Rattle.std.specs.List.{list_all}
use Rattle.kt_text.specs.Words.{Text}
use Rattle.kt_syntax.specs.declared.term.Mark.TheVariants.{Byte, Parentheses, Braces}
use Rattle.kt_syntax.specs.declared.term.Term.{Term as HeldTerm}
use Rattle.kt_syntax.specs.declared.term.Term.TheVariants.{Lit, Dollar, Ref}
use Rattle.kt_syntax.specs.declared.term.Unterminated.{Unterminated}
use Rattle.kt_syntax.specs.Terms.{Term, reference, literal, dollar, unclosed, Continuations, dropped, unit_length}

-- what an item says
abbrev pub token_of : Result HeldTerm Unterminated → Term
token_of (Ok (Lit bytes)) = literal bytes.now
token_of (Ok Dollar) = dollar
token_of (Ok (Ref mark body)) = reference mark body.now
token_of (Err fault) = unclosed

-- how often a byte stands in a text
unfoldable pub byte_count : ℕ → Text → ℕ
byte_count byte text = count_by (λ b. b == byte) text

-- no front of the text has more closing than opening marks, and the whole has as many of both (kati's own: only marks
-- of the reference's own kind count)
pub record IsBalanced (opener closer : ℕ) (text : Text) : Type 0 where
  pub fronts : (n : ℕ) → byte_count closer (take n text) ≤ byte_count opener (take n text)
  pub even : byte_count closer text ≡ byte_count opener text

-- no balanced text with a closing mark after it begins here
abbrev pub IsUnclosed : ℕ → ℕ → Text → Type 0
IsUnclosed opener closer text = (body rest : Text) → text ≡ body ++ closer ∷ rest → ¬ IsBalanced opener closer body

-- a dollar, or a mark that opens a longer reference
abbrev pub is_reference_mark : ℕ → Bool
is_reference_mark byte = byte == 36 || (byte == 40 || byte == 123)

-- whether the text is empty or begins with a dollar
abbrev pub EndsRun : Text → Type 0
EndsRun [] = Unit {0}
EndsRun (byte ∷ rest) = byte ≡ 36

-- the text is a byte that is no mark, or a continuation, before the rest
pub record IsSingle (continuations : Continuations) (body rest : Text) : Type 0 where
  pub some : 0 < length body
  pub unit : length body ≡ unit_length continuations (body ++ rest)
  pub plain : list_all (λ byte. not (is_reference_mark byte)) (take 1 body) ≡ true

-- how a term is spelled before the rest of a text: a literal is a maximal run without dollar, and the one without
-- bytes is a dollar at the end (kati's own)
abbrev pub IsTerm : Continuations → Term → Text → Text → Type 0
IsTerm continuations (literal []) spelled rest = (spelled ≡ 36 ∷ []) × (rest ≡ [])
IsTerm continuations (literal (byte ∷ bytes)) spelled rest = (spelled ≡ byte ∷ bytes)
    × (byte_count 36 spelled ≡ 0) × EndsRun rest
IsTerm continuations dollar spelled rest = spelled ≡ 36 ∷ 36 ∷ []
IsTerm continuations (reference Byte body) spelled rest = (spelled ≡ 36 ∷ body) × IsSingle continuations body rest
IsTerm continuations (reference Parentheses body) spelled rest = (spelled ≡ 36 ∷ 40 ∷ (body ++ 41 ∷ []))
    × IsBalanced 40 41 body
IsTerm continuations (reference Braces body) spelled rest = (spelled ≡ 36 ∷ 123 ∷ (body ++ 125 ∷ []))
    × IsBalanced 123 125 body
IsTerm continuations unclosed spelled rest =
    (rest ≡ []) × ((tail : Text) × (((spelled ≡ 36 ∷ 40 ∷ tail) × IsUnclosed 40 41 tail)
    ⊎ ((spelled ≡ 36 ∷ 123 ∷ tail) × IsUnclosed 123 125 tail)))

-- the text is the spellings of these terms put together
abbrev pub IsSplittingIn : Continuations → Text → List Term → Type 0
IsSplittingIn continuations text [] = text ≡ []
IsSplittingIn continuations text (piece ∷ pieces) =
    (spelled : Text) × (rest : Text) × (text ≡ spelled ++ rest) × IsTerm continuations piece spelled rest
    × IsSplittingIn continuations rest pieces

-- the text, which has no continuations, is the spellings of these terms put together
abbrev pub IsSplitting : Text → List Term → Type 0
IsSplitting text pieces = IsSplittingIn dropped text pieces
