-- The terms of a text (POSIX.1-2024 make, "Macros"; GNU make manual, "Basics of Variable References").
use Rattle.std.specs.Prelude.{ℕ, zero, suc, ◌+◌, ◌-◌, ◌==◌, nat_eq, List, [], ◌∷◌, length, take, Option, Some, None}
use Rattle.std.specs.Prelude.{if◌then◌else◌}
use Rattle.std.specs.List.{starts_with, position_or_len}
use Rattle.kt_text.specs.Words.{Text}
use Rattle.kt_syntax.specs.declared.term.Mark.{Mark}
use Rattle.kt_syntax.specs.declared.term.Mark.TheVariants.{Byte, Parentheses, Braces}

-- a term: text that stands for itself, one dollar, a reference, or one without its closing mark
pub data Term : Type 0 where
  literal : (bytes : Text) → Term
  dollar : Term
  reference : (mark : Mark) (body : Text) → Term
  unclosed : Term

-- whether a text has continuations, as a line of a file has, or none, as the value of a macro: there a backslash and a
-- newline are two bytes
pub data Continuations : Type 0 where
  kept : Continuations
  dropped : Continuations

-- how many bytes stand for one at the begin of a text: a continuation, in which one carriage return may stand before
-- the newline, counts as one blank (kati's own)
abbrev pub unit_length : Continuations → Text → ℕ
unit_length dropped text = 1
unit_length kept text =
    if starts_with nat_eq text (92 ∷ 10 ∷ []) then 2
    else (if starts_with nat_eq text (92 ∷ 13 ∷ 10 ∷ []) then 3 else 1)

-- where the mark stands that closes the text, counted from a place on and with a given number open
unfoldable pub closing : ℕ → ℕ → ℕ → ℕ → Text → Option ℕ
closing opener closer at depth [] = None
closing opener closer at depth (byte ∷ text) =
    if byte == opener then closing opener closer (at + 1) (depth + 1) text
    else (if byte == closer then (if depth == 0 then Some at else closing opener closer (at + 1) (depth - 1) text)
    else closing opener closer (at + 1) depth text)

-- the reference with this body, and how many bytes it takes after the dollar
abbrev pub reference_of : Mark → Text → Option ℕ → Term × ℕ
reference_of mark text None = (unclosed, 1 + length text)
reference_of mark text (Some place) = (reference mark (take place text), place + 2)

-- the one-byte reference, and how many bytes it takes
abbrev pub single : Continuations → Text → Term × ℕ
single continuations text = (
  reference Byte (take (unit_length continuations text) text),
  unit_length continuations text,
)

-- the term after a dollar, and how many bytes it takes there
unfoldable pub after_dollar : Continuations → Text → Term × ℕ
after_dollar continuations [] = (literal [], 0)
after_dollar continuations (byte ∷ text) =
    if byte == 36 then (dollar, 1)
    else (if byte == 40 then reference_of Parentheses text (closing 40 41 0 0 text)
    else (if byte == 123 then reference_of Braces text (closing 123 125 0 0 text)
    else single continuations (byte ∷ text)))

-- the literal that begins with this byte, and how many more bytes it takes
abbrev pub literal_run : ℕ → Text → Term × ℕ
literal_run byte text = let more = position_or_len (λ b. b == 36) text in (literal (byte ∷ take more text), more)

-- the first term of a text that begins with this byte, and how many more bytes it takes
unfoldable pub first_term : Continuations → ℕ → Text → Term × ℕ
first_term continuations byte text = if byte == 36 then after_dollar continuations text else literal_run byte text

-- the terms of what follows a given number of bytes
unfoldable pub terms_after : Continuations → ℕ → Text → List Term
terms_after continuations skip [] = []
terms_after continuations (suc skip) (byte ∷ text) = terms_after continuations skip text
terms_after continuations zero (byte ∷ text) = (first_term continuations byte text).0
    ∷ terms_after continuations (first_term continuations byte text).1 text

-- the terms of a text, from left to right
unfoldable pub terms_of : Text → List Term
terms_of text = terms_after dropped 0 text
