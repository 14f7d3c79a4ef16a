-- Unquoting: which backslashes are removed, and that every other byte stays.
use Rattle.std.proofs.Common.{arith, ◌≡◌, ℕ, Bool, true, false, List, [], ◌∷◌, ◌++◌, flat_map, All, refl, ap, ◌∙◌, true≢false, ◌==◌, ◌&&◌}
use Rattle.kt_rules.proofs.Common.{list_all, and_from, eqb-true, All-cons, All-head, All-nil, All-tail, and_first, and_nothing, and_second, Text, is_quotable, begins_quotable, unquoted}
use Rattle.kt_text_laws.proofs.Places.{none_in, tail_is}
use Rattle.kt_rules_laws.specs.HeadWords.{HoldsNoQuote, quoted_text, head_piece_text, IsUnquoted, UnquotedLaw}

-- a text that holds no backslash that quotes, without its first byte
holds_less : (byte : ℕ) (text : Text) → HoldsNoQuote (byte ∷ text) → HoldsNoQuote text
holds_less byte text h = λ front back other e. h (byte ∷ front) back other (ap (λ (xs : Text). byte ∷ xs) e)

-- its first byte quotes none, whatever comes after the text
first_stays : (byte : ℕ) (text rest : Text) → HoldsNoQuote (byte ∷ text) → begins_quotable rest ≡ false
    → (byte == 92 && begins_quotable (text ++ rest)) ≡ false
first_stays byte [] rest h r = rw r (and_nothing (byte == 92))
first_stays byte (next ∷ text) rest h r = by (byte == 92) refl
  where
    by : (a : Bool) → byte == 92 ≡ a → (a && is_quotable next) ≡ false
    by true e = h [] text next (ap (λ n. n ∷ next ∷ text) (eqb-true byte 92 e))
    by false e = refl

one_stays : (byte : ℕ) (text : Text) → (byte == 92 && begins_quotable text) ≡ false
    → unquoted (byte ∷ text) ≡ byte ∷ unquoted text
unfolding unquoted
one_stays byte text h = rw h refl

one_goes : (text : Text) → begins_quotable text ≡ true → unquoted (92 ∷ text) ≡ unquoted text
unfolding unquoted
one_goes text h = rw h refl

-- it stays as it is
piece_stays : (piece rest : Text) → HoldsNoQuote piece → begins_quotable rest ≡ false
    → unquoted (piece ++ rest) ≡ piece ++ unquoted rest
piece_stays [] rest h r = refl
piece_stays (byte ∷ piece) rest h r = grind (arith, one_stays, first_stays, holds_less, piece_stays piece rest (holds_less byte piece h) r)

-- pieces with backslashes before them begin with a backslash
pieces_begin : (pieces : List Text) → begins_quotable (flat_map quoted_text pieces) ≡ false
pieces_begin [] = refl
pieces_begin (piece ∷ pieces) = refl

begins_too : (piece rest : Text) → begins_quotable piece ≡ true → begins_quotable (piece ++ rest) ≡ true
begins_too piece rest h = grind (arith, true≢false)

-- a backslash is removed before a piece whose first byte it quotes
one_quoted : (piece rest : Text) → begins_quotable piece ≡ true
    → unquoted (92 ∷ piece ++ rest) ≡ unquoted (piece ++ rest)
one_quoted piece rest h = one_goes (piece ++ rest) (begins_too piece rest h)

-- unquoting puts the pieces together
pieces_stay : (first : Text) (pieces : List Text) → list_all begins_quotable pieces ≡ true
    → All HoldsNoQuote (first ∷ pieces)
    → unquoted (first ++ flat_map quoted_text pieces) ≡ first ++ flat_map head_piece_text pieces
unfolding unquoted
pieces_stay first [] q h = piece_stays first [] (All-head HoldsNoQuote first [] h) refl
pieces_stay first (piece ∷ pieces) q h =
    let begins = and_first (begins_quotable piece) (list_all begins_quotable pieces) q in
    let others = and_second (begins_quotable piece) (list_all begins_quotable pieces) q in
    piece_stays first (flat_map quoted_text (piece ∷ pieces)) (All-head HoldsNoQuote first (piece ∷ pieces) h) refl
    ∙ ap (λ (xs : Text). first ++ xs)
    (one_quoted piece (flat_map quoted_text pieces) begins
    ∙ pieces_stay piece pieces others (All-tail HoldsNoQuote first (piece ∷ pieces) h))

-- a text as pieces after backslashes
record InPieces (text : Text) : Type 0 where
  first : Text
  pieces : List Text
  together : text ≡ first ++ flat_map quoted_text pieces
  quoted : list_all begins_quotable pieces ≡ true
  no_first : HoldsNoQuote first
  no_other : All HoldsNoQuote pieces

holds_none : HoldsNoQuote []
holds_none = λ front back byte e. absurd (none_in 92 front (byte ∷ back) e)

-- a byte that doesn't quote, before a piece
holds_more : (byte : ℕ) (piece rest : Text) → (byte == 92 && begins_quotable (piece ++ rest)) ≡ false
    → HoldsNoQuote piece → HoldsNoQuote (byte ∷ piece)
holds_more byte [] rest s h [] back other e = absurd (none_in other [] back (tail_is byte 92 [] (other ∷ back) e))
holds_more byte (next ∷ piece) rest s h [] back other e = grind (arith, tail_is, true≢false)
holds_more byte piece rest s h (first ∷ front) back other e = grind (arith, tail_is)

-- a first piece begins as its text does, where that begins with a byte that is quoted
begins_first : (first : Text) (pieces : List Text) → begins_quotable (first ++ flat_map quoted_text pieces) ≡ true
    → begins_quotable first ≡ true
begins_first first pieces h = grind (arith, true≢false, pieces_begin)

pieces_more : (byte : ℕ) (text : Text) → InPieces text → (b : Bool) → (byte == 92 && begins_quotable text) ≡ b
    → InPieces (byte ∷ text)
pieces_more byte text rest true h =
    let slash : byte ≡ 92 = eqb-true byte 92 (and_first (byte == 92) (begins_quotable text) h) in
    let begins : begins_quotable text ≡ true = and_second (byte == 92) (begins_quotable text) h in
    record {
      first = [];
      pieces = rest.first ∷ rest.pieces;
      together = ap (λ n. n ∷ text) slash ∙ ap (λ (xs : Text). 92 ∷ xs) rest.together;
      quoted = grind (arith, and_from, begins_first);
      no_first = holds_none;
      no_other = All-cons HoldsNoQuote rest.first rest.pieces rest.no_first rest.no_other;
    }
pieces_more byte text rest false h = record {
  first = byte ∷ rest.first;
  pieces = rest.pieces;
  together = ap (λ (xs : Text). byte ∷ xs) rest.together;
  quoted = rest.quoted;
  no_first = grind (arith, holds_more);
  no_other = rest.no_other;
}

in_pieces : (text : Text) → InPieces text
in_pieces [] = record {
  first = [];
  pieces = [];
  together = refl;
  quoted = refl;
  no_first = holds_none;
  no_other = All-nil HoldsNoQuote;
}
in_pieces (byte ∷ text) = pieces_more byte text (in_pieces text) (byte == 92 && begins_quotable text) refl

some_unquoted : (text : Text) → IsUnquoted text (unquoted text)
some_unquoted text =
    let cut = in_pieces text in
    let all = All-cons HoldsNoQuote cut.first cut.pieces cut.no_first cut.no_other in
    record {
      first = cut.first;
      pieces = cut.pieces;
      together = cut.together;
      stays = ap unquoted cut.together ∙ pieces_stay cut.first cut.pieces cut.quoted all;
      quoted = cut.quoted;
      no_other = all;
    }

only_unquoted : (text left : Text) → IsUnquoted text left → left ≡ unquoted text
only_unquoted text left is = grind (arith, pieces_stay)

pub unquoted_law : UnquotedLaw
unquoted_law = record { some = some_unquoted; only = only_unquoted }
