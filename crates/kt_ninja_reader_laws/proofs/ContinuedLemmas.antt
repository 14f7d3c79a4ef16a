-- Joined lines and what stands in the file.
use Rattle.std.proofs.Common.{◌≡◌, ℕ, ◌+◌, ◌-◌, Bool, true, false, not, ◌==◌, ◌&&◌, List, [], ◌∷◌, ◌++◌, refl, sym, ◌∙◌, ap, subst, append_assoc, append-nil, length, take, arith, Option, Some, None, ⊎_elim, ◌⊎◌, inl, inr}
use Rattle.kt_ninja_reader.proofs.Common.{cases_Bool, false≢true, eqb-true, and_from, and_parts, not-true, list_all-append, flat_map-append, flat_map, list_all, FileLine, Bytes, ends_in_dollar, file_lines, first_number, goes_on, is_comment, joined_from, joined_lines, joined_text, with_byte, without_indent}
use Rattle.kt_list.proofs.general.Booleans.{and_nothing}
use Rattle.kt_ninja_reader.specs.JoinedLines.{OpenLine}
use Rattle.kt_ninja_reader_laws.specs.Continued.{AreContinued, AreUnescaped, ContinuedLine, EndsRight, IsEnd, IsOneLine, JoinedLaw, end_in_file, fronts_in_file, in_file, kept_of, numbered_lines}
use Rattle.kt_ninja_reader.proofs.lemmas.JoinedLemmas.{last-append}

-- ---- one line of the file

free_first : (b : ℕ) (bs : Bytes) → IsOneLine (b ∷ bs) → ((b == 10) ≡ false) × IsOneLine bs
free_first b bs h = grind (arith, and_parts, not, ⊎_elim, false≢true, cases_Bool)

ended_line : (bytes rest : Bytes) → IsOneLine bytes
    → file_lines (bytes ++ 10 ∷ rest) ≡ record { bytes = bytes; ended = true } ∷ file_lines rest
unfolding file_lines
ended_line [] rest h = refl
ended_line (b ∷ bs) rest h = let f = free_first b bs h in rw f.0 (ap (with_byte b) (ended_line bs rest f.1))

last_line : (b : ℕ) (bs : Bytes) → IsOneLine (b ∷ bs)
    → file_lines (b ∷ bs) ≡ record { bytes = b ∷ bs; ended = false } ∷ []
unfolding file_lines
last_line b [] h = let f = free_first b [] h in rw f.0 refl
last_line b (c ∷ bs) h = let f = free_first b (c ∷ bs) h in rw f.0 (ap (with_byte b) (last_line c bs f.1))

free_with_dollar : (bytes : Bytes) → IsOneLine bytes → IsOneLine (bytes ++ 36 ∷ [])
free_with_dollar bytes h = grind (arith, list_all-append, not, and_from)

-- ---- a dollar at the end

one_dollar : (pending : Bool) → (not pending && true) ≡ not pending
one_dollar pending = grind arith

dollar_last : (pending : Bool) (bytes : Bytes)
    → ends_in_dollar pending (bytes ++ 36 ∷ []) ≡ not (ends_in_dollar pending bytes)
unfolding ends_in_dollar
dollar_last pending [] = one_dollar pending
dollar_last pending (b ∷ bs) = dollar_last (not pending && b == 36) bs

indent_one : (b : ℕ) (bs : Bytes) → (b == 32) ≡ true → without_indent (b ∷ bs) ≡ without_indent bs
indent_one b bs h = rw h (grind arith)

indent_none : (b : ℕ) (bs : Bytes) → (b == 32) ≡ false → without_indent (b ∷ bs) ≡ b ∷ bs
indent_none b bs h = rw h refl

indent_dollar : (bytes : Bytes) → without_indent (bytes ++ 36 ∷ []) ≡ without_indent bytes ++ 36 ∷ []
indent_dollar [] = refl
indent_dollar (b ∷ bs) = grind (arith, ⊎_elim, indent_one, indent_none, cases_Bool, indent_dollar bs)

joined_dollar : (begun : Option OpenLine) (bytes : Bytes)
    → joined_text begun (bytes ++ 36 ∷ []) ≡ joined_text begun bytes ++ 36 ∷ []
joined_dollar begun bytes = grind (arith, indent_dollar, append_assoc)

comment_dollar : (text : Bytes) → is_comment (text ++ 36 ∷ []) ≡ is_comment text
unfolding is_comment
comment_dollar [] = refl
comment_dollar (b ∷ bs) = ⊎_elim (λ h. rw h (comment_dollar bs)) (λ h. rw h refl) (cases_Bool (b == 32))

without_dollar : (text : Bytes) → take (length (text ++ 36 ∷ []) - 1) (text ++ 36 ∷ []) ≡ text
without_dollar text = last-append text (36 ∷ []) (omega arith) ∙ append-nil text

-- ---- a line that goes on, and one that doesn't

abbrev begun_with : ℕ → Option OpenLine → Bytes → Option OpenLine
begun_with number begun text = Some (record { first = first_number number begun; front = text })

goes : (number : ℕ) (begun : Option OpenLine) (l : FileLine) (ls : List FileLine)
    → goes_on l (joined_text begun l.bytes) ≡ true
    → joined_from number begun (l ∷ ls)
    ≡ joined_from (number + 1)
    (begun_with number begun (take (length (joined_text begun l.bytes) - 1) (joined_text begun l.bytes))) ls
unfolding joined_from
goes number begun l ls h = rw h refl

stops : (number : ℕ) (begun : Option OpenLine) (l : FileLine) (ls : List FileLine)
    → goes_on l (joined_text begun l.bytes) ≡ false
    → joined_from number begun (l ∷ ls) ≡ record {
      number = first_number number begun;
      text = joined_text begun l.bytes;
      ended = l.ended;
    } ∷ joined_from (number + 1) None ls
unfolding joined_from
stops number begun l ls h = rw h refl

front_goes : (number : ℕ) (begun : Option OpenLine) (front rest : Bytes) → IsOneLine front
    → ends_in_dollar false front ≡ false
    → is_comment (joined_text begun front) ≡ false
    → joined_from number begun (file_lines (front ++ 36 ∷ 10 ∷ rest))
    ≡ joined_from (number + 1) (begun_with number begun (joined_text begun front)) (file_lines rest)
front_goes number begun front rest free dollar plain =
    let text = joined_text begun front in
    let line : FileLine = record { bytes = front ++ 36 ∷ []; ended = true } in
    let cut : file_lines (front ++ 36 ∷ 10 ∷ rest) ≡ line ∷ file_lines rest =
    ap file_lines (sym (append_assoc front (36 ∷ []) (10 ∷ rest)))
    ∙ ended_line (front ++ 36 ∷ []) rest (free_with_dollar front free) in
    let is = joined_dollar begun front in
    let ends : ends_in_dollar false (front ++ 36 ∷ []) ≡ true = dollar_last false front ∙ ap not dollar in
    let shown : is_comment (joined_text begun (front ++ 36 ∷ [])) ≡ false =
    ap is_comment is ∙ comment_dollar text ∙ plain in
    let on : goes_on line (joined_text begun line.bytes) ≡ true =
    and_from (ends_in_dollar false (front ++ 36 ∷ []))
    (not (is_comment (joined_text begun (front ++ 36 ∷ [])))) ends (ap not shown) in
    ap (joined_from number begun) cut ∙ goes number begun line (file_lines rest) on
    ∙ ap (λ (t : Bytes). joined_from (number + 1) (begun_with number begun t) (file_lines rest))
    (ap (λ (t : Bytes). take (length t - 1) t) is ∙ without_dollar text)

-- ---- the lines of the file that are one line

comment_stays : (front back : Bytes) → is_comment (front ++ back) ≡ false → is_comment front ≡ false
unfolding is_comment
comment_stays [] back h = refl
comment_stays (b ∷ bs) back h =
    ⊎_elim (λ e. rw e (comment_stays bs back (rw e at h))) (λ e. rw e (rw e at h)) (cases_Bool (b == 32))

-- what is kept of fronts after what is begun
abbrev fronts_text : Option OpenLine → List Bytes → Bytes
fronts_text None fronts = kept_of fronts
fronts_text (Some begun) fronts = begun.front ++ flat_map without_indent fronts

text_more : (number : ℕ) (begun : Option OpenLine) (front : Bytes) (fronts : List Bytes)
    → fronts_text (begun_with number begun (joined_text begun front)) fronts ≡ fronts_text begun (front ∷ fronts)
text_more number begun front fronts = grind (arith, append_assoc)

text_one : (begun : Option OpenLine) (bytes : Bytes) → fronts_text begun (bytes ∷ []) ≡ joined_text begun bytes
text_one begun bytes = grind (arith, append-nil)

first_plain : (begun : Option OpenLine) (front : Bytes) (fronts : List Bytes)
    → is_comment (fronts_text begun (front ∷ fronts)) ≡ false → is_comment (joined_text begun front) ≡ false
first_plain begun front fronts h = grind (arith, comment_stays, append_assoc)

-- the newline that ends a line, after what is begun
abbrev EndsBehind : Option OpenLine → List Bytes → Bytes → Type 0
EndsBehind begun fronts last =
    (ends_in_dollar false last ≡ false) ⊎ (is_comment (fronts_text begun (fronts ++ last ∷ [])) ≡ true)

no_more : (last text : Bytes) → (ends_in_dollar false last ≡ false) ⊎ (is_comment text ≡ true)
    → (ends_in_dollar false last && not (is_comment text)) ≡ false
no_more last text h = grind (arith, and_nothing)

end_stops : (number : ℕ) (begun : Option OpenLine) (last rest : Bytes) → IsOneLine last → EndsBehind begun [] last
    → joined_from number begun (file_lines (last ++ 10 ∷ rest))
    ≡ record {
      number = first_number number begun;
      text = fronts_text begun (last ∷ []);
      ended = true;
    } ∷ joined_from (number + 1) None (file_lines rest)
end_stops number begun last rest free ends = grind (arith, text_one, not, no_more, ended_line, stops)

line_ended : (fronts : List Bytes) (number : ℕ) (begun : Option OpenLine) (last rest : Bytes) → AreUnescaped fronts
    → is_comment (fronts_text begun fronts) ≡ false → IsOneLine last → EndsBehind begun fronts last
    → joined_from number begun (file_lines (fronts_in_file fronts ++ (last ++ 10 ∷ rest)))
    ≡ record {
      number = first_number number begun;
      text = fronts_text begun (fronts ++ last ∷ []);
      ended = true;
    } ∷ joined_from (number + length fronts + 1) None (file_lines rest)
line_ended [] number begun last rest are plain free ends = grind (arith, end_stops)
line_ended (f ∷ fs) number begun last rest are plain free ends =
    let next = begun_with number begun (joined_text begun f) in
    let whole : Bytes = fronts_in_file fs ++ (last ++ 10 ∷ rest) in
    let more : (ms : List Bytes) → fronts_text next ms ≡ fronts_text begun (f ∷ ms) = text_more number begun f in
    ap (λ (t : Bytes). joined_from number begun (file_lines t))
    (append_assoc f (36 ∷ 10 ∷ fronts_in_file fs) (last ++ 10 ∷ rest))
    ∙ front_goes number begun f whole are.0 are.1 (first_plain begun f fs plain)
    ∙ line_ended fs (number + 1) next last rest are.2 (ap is_comment (more fs) ∙ plain) free
    (subst (λ (t : Bytes). (ends_in_dollar false last ≡ false) ⊎ (is_comment t ≡ true))
    (sym (more (fs ++ last ∷ []))) ends)
    ∙ ap (λ (t : Bytes). record {
      number = first_number number begun;
      text = t;
      ended = true;
    } ∷ joined_from (number + 1 + length fs + 1) None (file_lines rest)) (more (fs ++ last ∷ []))
    ∙ ap (λ (n : ℕ). record {
      number = first_number number begun;
      text = fronts_text begun (f ∷ fs ++ last ∷ []);
      ended = true;
    } ∷ joined_from n None (file_lines rest)) (omega arith)

open_stops : (last : Bytes) (number : ℕ) (begun : Option OpenLine) → IsOneLine last → (begun ≡ None → last ≡ [] → ⊥)
    → joined_from number begun (file_lines last) ≡ record {
      number = first_number number begun;
      text = fronts_text begun (last ∷ []);
      ended = false;
    } ∷ []
unfolding file_lines joined_from
open_stops [] number None free some = absurd (some refl refl)
open_stops [] number (Some begun) free some = grind (arith, append-nil)
open_stops (c ∷ cs) number begun free some = grind (arith, last_line, stops, text_one)

is_some : {P : Type 0} (begun : OpenLine) → Some begun ≡ None → P
is_some begun e = absurd (cc e)

line_unended : (fronts : List Bytes) (number : ℕ) (begun : Option OpenLine) (last : Bytes) → AreUnescaped fronts
    → is_comment (fronts_text begun fronts) ≡ false
    → IsOneLine last → (begun ≡ None → fronts ++ last ∷ [] ≡ [] ∷ [] → ⊥)
    → joined_from number begun (file_lines (fronts_in_file fronts ++ last))
    ≡ record {
      number = first_number number begun;
      text = fronts_text begun (fronts ++ last ∷ []);
      ended = false;
    } ∷ []
line_unended [] number begun last are plain free some = grind (arith, open_stops)
line_unended (f ∷ fs) number begun last are plain free some =
    let next = begun_with number begun (joined_text begun f) in
    let more : (ms : List Bytes) → fronts_text next ms ≡ fronts_text begun (f ∷ ms) = text_more number begun f in
    ap (λ (t : Bytes). joined_from number begun (file_lines t)) (append_assoc f (36 ∷ 10 ∷ fronts_in_file fs) last)
    ∙ front_goes number begun f (fronts_in_file fs ++ last) are.0 are.1 (first_plain begun f fs plain)
    ∙ line_unended fs (number + 1) next last are.2 (ap is_comment (more fs) ∙ plain) free
    (λ n e. is_some (record { first = first_number number begun; front = joined_text begun f }) n)
    ∙ ap (λ (t : Bytes). record { number = first_number number begun; text = t; ended = false } ∷ [])
    (more (fs ++ last ∷ []))

by_end : (ended : Bool) (fronts : List Bytes) (last : Bytes) (ls : List ContinuedLine) (number : ℕ) → AreUnescaped fronts
    → is_comment (kept_of fronts) ≡ false
    → IsOneLine last → EndsRight ended fronts last ls
    → ((n : ℕ) → joined_from n None (file_lines (in_file ls)) ≡ numbered_lines n ls)
    → joined_from number None (file_lines (fronts_in_file fronts ++ (last ++ (end_in_file ended ++ in_file ls))))
    ≡ record {
      number = number;
      text = kept_of (fronts ++ last ∷ []);
      ended = ended;
    } ∷ numbered_lines (number + length fronts + 1) ls
by_end ended fronts last ls number are plain free ends later = grind (arith, line_ended, length, append-nil, line_unended)

joins_all : (lines : List ContinuedLine) (number : ℕ) → AreContinued lines
    → joined_from number None (file_lines (in_file lines)) ≡ numbered_lines number lines
unfolding joined_from file_lines
joins_all [] number h = refl
joins_all (l ∷ ls) number h = by_end l.ended l.fronts l.last ls number h.0 h.1 h.2 h.3 (λ n. joins_all ls n h.4)

-- ---- each text is such lines

dollar_cut : (pending : Bool) (bytes : Bytes) → ends_in_dollar pending bytes ≡ true
    → ((bytes ≡ []) × (pending ≡ true)) ⊎
    ((front : Bytes) × (bytes ≡ front ++ 36 ∷ []) × (ends_in_dollar pending front ≡ false))
unfolding ends_in_dollar
dollar_cut pending [] h = inl (refl, h)
dollar_cut pending (b ∷ bs) h = past (dollar_cut (not pending && b == 36) bs h)
  where
    past : ((bs ≡ []) × ((not pending && b == 36) ≡ true)) ⊎
        ((front : Bytes) × (bs ≡ front ++ 36 ∷ []) × (ends_in_dollar (not pending && b == 36) front ≡ false))
        → ((b ∷ bs ≡ []) × (pending ≡ true)) ⊎
        ((front : Bytes) × (b ∷ bs ≡ front ++ 36 ∷ []) × (ends_in_dollar pending front ≡ false))
    past (inl found) =
        let both = and_parts (not pending) (b == 36) found.1 in
        inr ([], rw found.0 (ap (λ (c : ℕ). c ∷ []) (eqb-true b 36 both.1)), not-true pending both.0)
    past (inr found) = inr (b ∷ found.0, ap (λ (t : Bytes). b ∷ t) found.1, found.2)

last_dollar : (bytes : Bytes) → ends_in_dollar false bytes ≡ true
    → (front : Bytes) × (bytes ≡ front ++ 36 ∷ []) × (ends_in_dollar false front ≡ false)
last_dollar bytes h = ⊎_elim (λ e. absurd (false≢true e.1)) (λ e. e) (dollar_cut false bytes h)

free_part : (front back : Bytes) → IsOneLine (front ++ back) → IsOneLine front
free_part front back h = grind (arith, and_parts, not, list_all-append)

fronts_more : (fronts : List Bytes) (front : Bytes) → AreUnescaped fronts → IsOneLine front
    → ends_in_dollar false front ≡ false → AreUnescaped (fronts ++ front ∷ [])
fronts_more [] front are free dollar = (free, dollar, tt)
fronts_more (f ∷ fs) front are free dollar = (are.0, are.1, fronts_more fs front are.2 free dollar)

in_file_more : (fronts : List Bytes) (front rest : Bytes)
    → fronts_in_file (fronts ++ front ∷ []) ++ rest ≡ fronts_in_file fronts ++ (front ++ 36 ∷ 10 ∷ rest)
in_file_more [] front rest = append_assoc front (36 ∷ 10 ∷ []) rest
in_file_more (f ∷ fs) front rest = grind (arith, append_assoc, in_file_more fs front rest)

-- what is begun where these fronts are put together
abbrev begun_by : List Bytes → Option OpenLine
begun_by [] = None
begun_by (f ∷ fs) = Some (record { first = 0; front = kept_of (f ∷ fs) })

kept_more : (fronts : List Bytes) (bytes : Bytes) → kept_of (fronts ++ bytes ∷ []) ≡ joined_text (begun_by fronts) bytes
kept_more fronts bytes = grind (arith, append-nil, flat_map-append, append_assoc)

plain_more : (fronts : List Bytes) (front : Bytes) → is_comment (kept_of (fronts ++ (front ++ 36 ∷ []) ∷ [])) ≡ false
    → is_comment (kept_of (fronts ++ front ∷ [])) ≡ false
plain_more fronts front h = grind (arith, kept_more, comment_dollar, joined_dollar)

none_plain : is_comment (kept_of []) ≡ false
unfolding is_comment
none_plain = refl

abbrev HasLines : Bytes → Type 0
HasLines text = (lines : List ContinuedLine) × (in_file lines ≡ text) × AreContinued lines

-- the text after these fronts and these bytes of the next line
abbrev Goes : Bytes → Type 0
Goes text = (fronts : List Bytes) (bytes : Bytes) → AreUnescaped fronts → is_comment (kept_of fronts) ≡ false
    → IsOneLine bytes
    → HasLines (fronts_in_file fronts ++ (bytes ++ text))

line_first : (fronts : List Bytes) (last : Bytes) (ended : Bool) (ls : List ContinuedLine) → AreUnescaped fronts
    → is_comment (kept_of fronts) ≡ false → IsOneLine last
    → EndsRight ended fronts last ls → AreContinued ls
    → HasLines (fronts_in_file fronts ++ (last ++ (end_in_file ended ++ in_file ls)))
line_first fronts last ended ls are plain free ends later =
    (record { fronts = fronts; last = last; ended = ended } ∷ ls, refl, (are, plain, free, ends, later))

no_line : HasLines []
no_line = ([], refl, tt)

some_line : (fronts : List Bytes) (bytes : Bytes) → AreUnescaped fronts → is_comment (kept_of fronts) ≡ false
    → IsOneLine bytes
    → (fronts ++ bytes ∷ [] ≡ [] ∷ [] → ⊥) → HasLines (fronts_in_file fronts ++ (bytes ++ []))
some_line fronts bytes are plain free some = line_first fronts bytes false [] are plain free (refl, some) tt

goes_end : Goes []
goes_end [] [] are plain free = no_line
goes_end [] (b ∷ bs) are plain free = some_line [] (b ∷ bs) are plain free (λ e. absurd (cc e))
goes_end (f ∷ []) bytes are plain free = some_line (f ∷ []) bytes are plain free (λ e. absurd (cc e))
goes_end (f ∷ g ∷ fs) bytes are plain free = some_line (f ∷ g ∷ fs) bytes are plain free (λ e. absurd (cc e))

goes_on_by : (fronts : List Bytes) (bytes rest : Bytes) → Goes rest → AreUnescaped fronts → IsOneLine bytes
    → ends_in_dollar false bytes ≡ true
    → is_comment (kept_of (fronts ++ bytes ∷ [])) ≡ false → HasLines (fronts_in_file fronts ++ (bytes ++ 10 ∷ rest))
goes_on_by fronts bytes rest later are free dollar plain =
    let (front, is, even) = last_dollar bytes dollar in
    let front_free = free_part front (36 ∷ []) (subst IsOneLine is free) in
    let shown = plain_more fronts front
    (subst (λ (t : Bytes). is_comment (kept_of (fronts ++ t ∷ [])) ≡ false) is plain) in
    let same : fronts_in_file (fronts ++ front ∷ []) ++ rest ≡ fronts_in_file fronts ++ (bytes ++ 10 ∷ rest) =
    in_file_more fronts front rest
    ∙ ap (λ (t : Bytes). fronts_in_file fronts ++ t)
    (sym (append_assoc front (36 ∷ []) (10 ∷ rest)) ∙ ap (λ (t : Bytes). t ++ 10 ∷ rest) (sym is)) in
    subst HasLines same (later (fronts ++ front ∷ []) [] (fronts_more fronts front are front_free even) shown refl)

stops_by : (fronts : List Bytes) (bytes rest : Bytes) → Goes rest → AreUnescaped fronts
    → is_comment (kept_of fronts) ≡ false → IsOneLine bytes
    → IsEnd fronts bytes → HasLines (fronts_in_file fronts ++ (bytes ++ 10 ∷ rest))
stops_by fronts bytes rest later are plain free ends =
    let (ls, is, right) = later [] [] tt none_plain refl in
    subst (λ (t : Bytes). HasLines (fronts_in_file fronts ++ (bytes ++ 10 ∷ t))) is
    (line_first fronts bytes true ls are plain free ends right)

byte_more : (fronts : List Bytes) (bytes rest : Bytes) (b : ℕ) → Goes rest → AreUnescaped fronts
    → is_comment (kept_of fronts) ≡ false → IsOneLine bytes
    → (b == 10) ≡ false → HasLines (fronts_in_file fronts ++ (bytes ++ b ∷ rest))
byte_more fronts bytes rest b later are plain free h =
    let more : IsOneLine (bytes ++ b ∷ []) =
    list_all-append (λ c. not (c == 10)) bytes (b ∷ [])
    ∙ and_from (list_all (λ c. not (c == 10)) bytes) (list_all (λ c. not (c == 10)) (b ∷ [])) free
    (and_from (not (b == 10)) true (ap not h) refl) in
    subst (λ (t : Bytes). HasLines (fronts_in_file fronts ++ t)) (append_assoc bytes (b ∷ []) rest)
    (later fronts (bytes ++ b ∷ []) are plain more)

goes_byte : (b : ℕ) (rest : Bytes) → Goes rest → Goes (b ∷ rest)
goes_byte b rest later fronts bytes are plain free =
    ⊎_elim
    (λ h. subst (λ (c : ℕ). HasLines (fronts_in_file fronts ++ (bytes ++ c ∷ rest))) (sym (eqb-true b 10 h))
    (⊎_elim
    (λ d. ⊎_elim
    (λ c. stops_by fronts bytes rest later are plain free (inr c))
    (λ c. goes_on_by fronts bytes rest later are free d c)
    (cases_Bool (is_comment (kept_of (fronts ++ bytes ∷ [])))))
    (λ d. stops_by fronts bytes rest later are plain free (inl d))
    (cases_Bool (ends_in_dollar false bytes))))
    (λ h. byte_more fronts bytes rest b later are plain free h)
    (cases_Bool (b == 10))

all_go : (text : Bytes) → Goes text
all_go [] = goes_end
all_go (b ∷ rest) = goes_byte b rest (all_go rest)

pub joined_law : JoinedLaw
unfolding joined_lines
joined_law = record {
  some = λ text. all_go text [] [] tt none_plain refl;
  only = λ lines h. joins_all lines 1 h;
}
