-- Spellings, byte by byte: what a text's bytes end, and where it can be cut.
use Rattle.std.proofs.Common.{◌≡◌, ◌≢◌, ℕ, suc, ◌+◌, ◌-◌, Bool, true, false, ◌==◌, ◌&&◌, not, List, [], ◌∷◌, ◌++◌, refl, sym, ◌∙◌, ap, append_assoc, append-nil, map, length, length-append, take, arith, Option, Some, None, option_map, unwrap_or, is_some, IfSome, ⊎_elim}
use Rattle.kt_ninja_reader.proofs.Common.{cases_Bool, false≢true, false_from_ne_true, eqb-true, eq-eqb, position_or_len_is, list_any, position_or_len, IsFirstByte, is_byte2, DollarCut, Bytes, Piece, Plain, Variable, Where, PieceStep, after_dollar, in_braces, in_name, is_long_name_byte, is_short_name_byte, last_pieces, outside, pieces, pieces_from, step, is_plain_byte}
use Rattle.kt_ninja_reader.specs.inner.Spelled.{is_spelled, pieces_in}
use Rattle.kt_ninja_reader.specs.inner.Cutting.{AreSides, CutsOff, dollar_piece, is_own_byte}
use Rattle.kt_ninja_reader.proofs.lemmas.PieceLemmas.{map_twice, none_before, outside-dollar, outside-plain}

-- what is spelled has pieces
pub spelled_some : (text : Bytes) → is_spelled text ≡ true → pieces text ≡ Some (pieces_in text)
spelled_some text h = grind (arith, false≢true)

pub spelled_by : (text : Bytes) (ps : List Piece) → pieces text ≡ Some ps → (is_spelled text ≡ true) × (pieces_in text ≡ ps)
spelled_by text ps h = (ap is_some h, ap (λ found. unwrap_or found []) h)

pub outside_some : (text : Bytes) → is_spelled text ≡ true → pieces_from outside text ≡ Some (pieces_in text)
unfolding pieces
outside_some text h = spelled_some text h

-- over these bytes pieces are ended, and the next byte stands there
pub record Over (from : Where) (run : Bytes) (done : List Piece) (to : Where) : Type 0 where
  pub reads : (t : Bytes) → pieces_from from (run ++ t) ≡ option_map (λ later. done ++ later) (pieces_from to t)

pub over_none : (from : Where) → Over from [] [] from
over_none from = record { reads = λ t. sym (none_before (pieces_from from t)) }

pub over_both : (from mid to : Where) (f g : Bytes) (d e : List Piece) → Over from f d mid → Over mid g e to → Over from (f ++ g) (d ++ e) to
over_both from mid to f g d e one two = grind (arith, append_assoc, map_twice)

pub over_step : (from : Where) (b : ℕ) (s : PieceStep) → step from b ≡ Some s → Over from (b ∷ []) s.done s.next
unfolding pieces_from
over_step from b s h = record { reads = λ t. rw h refl }

step_is : (from : Where) (b : ℕ) (bs : Bytes) → is_some (pieces_from from (b ∷ bs)) ≡ true → (s : PieceStep) × (step from b ≡ Some s)
unfolding pieces_from
step_is from b bs h = grind (arith, false≢true)

-- not directly after a dollar
abbrev pub is_ready : Where → Bool
is_ready outside = true
is_ready after_dollar = false
is_ready (in_name name) = true
is_ready (in_braces name) = true

abbrev Fits : ℕ → PieceStep → Type 0
Fits mark s = (is_ready s.next ≡ true) × (list_any (is_plain_byte mark) s.done ≡ false)

-- a byte that is neither a dollar nor the mark
plain_step : (mark : ℕ) (from : Where) (b : ℕ) → is_ready from ≡ true → (b == 36) ≡ false → (b == mark) ≡ false → IfSome (step from b) (Fits mark)
plain_step mark outside b ready h m = rw h (refl, rw m refl)
plain_step mark after_dollar b ready h m = absurd (false≢true ready)
plain_step mark (in_name name) b ready h m = ⊎_elim (λ d. rw d (refl, refl)) (λ d. rw d (rw h (refl, rw m refl))) (cases_Bool (is_short_name_byte b))
plain_step mark (in_braces name) b ready h m = grind (arith, ⊎_elim, cases_Bool)

-- a dollar
ready_dollar : (mark : ℕ) (from : Where) → is_ready from ≡ true → IfSome (step from 36) (λ s. (s.next ≡ after_dollar) × (list_any (is_plain_byte mark) s.done ≡ false))
ready_dollar mark outside ready = (refl, refl)
ready_dollar mark after_dollar ready = absurd (false≢true ready)
ready_dollar mark (in_name name) ready = (refl, refl)
ready_dollar mark (in_braces name) ready = tt

after_step : (mark b : ℕ) → IfSome (step after_dollar b) (Fits mark)
after_step mark b = grind (arith, ⊎_elim, cases_Bool)

-- bytes without a dollar and without the mark
pub record Passed (mark : ℕ) (from : Where) (run : Bytes) : Type 0 where
  pub done : List Piece
  pub to : Where
  pub over : Over from run done to
  pub ready : is_ready to ≡ true
  pub free : list_any (is_plain_byte mark) done ≡ false

any_none : (mark : ℕ) (front back : List Piece) → list_any (is_plain_byte mark) front ≡ false → list_any (is_plain_byte mark) back ≡ false → list_any (is_plain_byte mark) (front ++ back) ≡ false
any_none mark [] back h i = i
any_none mark (p ∷ ps) back h i = ⊎_elim (λ d. absurd (false≢true (sym h ∙ rw d refl))) (λ d. rw d (any_none mark ps back (rw d at h) i)) (cases_Bool (is_plain_byte mark p))

pub pass_both : (mark : ℕ) (from : Where) (f g : Bytes) (one : Passed mark from f) → Passed mark one.to g → Passed mark from (f ++ g)
pass_both mark from f g one two = record {
  done = one.done ++ two.done;
  to = two.to;
  over = over_both from one.to two.to f g one.done two.done one.over two.over;
  ready = two.ready;
  free = any_none mark one.done two.done one.free two.free;
}

pass_one : (mark : ℕ) (from : Where) (b : ℕ) (bs : Bytes) → is_ready from ≡ true → (b == 36) ≡ false → (b == mark) ≡ false → is_some (pieces_from from (b ∷ bs)) ≡ true → Passed mark from (b ∷ [])
pass_one mark from b bs ready h m some =
    let is = step_is from b bs some in
    let fits : Fits mark is.0 = rw is.1 at (plain_step mark from b ready h m) in
    record { done = is.0.done; to = is.0.next; over = over_step from b is.0 is.1; ready = fits.0; free = fits.1 }

-- the pieces after what was passed are there too
pub some_after : (from to : Where) (run t : Bytes) (done : List Piece) → Over from run done to → is_some (pieces_from from (run ++ t)) ≡ true → is_some (pieces_from to t) ≡ true
some_after from to run t done over some = grind arith

neither : (mark b : ℕ) → is_byte2 36 mark b ≡ false → ((b == 36) ≡ false) × ((b == mark) ≡ false)
neither mark b h = grind (arith, ⊎_elim, false≢true, cases_Bool)

free_first : (test : ℕ → Bool) (b : ℕ) (bs : Bytes) → list_any test (b ∷ bs) ≡ false → (test b ≡ false) × (list_any test bs ≡ false)
free_first test b bs h = ⊎_elim (λ d. absurd (false≢true (sym h ∙ rw d refl))) (λ d. (d, rw d at h)) (cases_Bool (test b))

pub pass_run : (mark : ℕ) (from : Where) (run t : Bytes) → is_ready from ≡ true → list_any (is_byte2 36 mark) run ≡ false → is_some (pieces_from from (run ++ t)) ≡ true → Passed mark from run
pass_run mark from [] t ready free some = record { done = []; to = from; over = over_none from; ready = ready; free = refl }
pass_run mark from (b ∷ bs) t ready free some =
    let first = free_first (is_byte2 36 mark) b bs free in
    let not_mark = neither mark b first.0 in
    let one = pass_one mark from b (bs ++ t) ready not_mark.0 not_mark.1 some in
    pass_both mark from (b ∷ []) bs one (pass_run mark one.to bs t one.ready first.1 (some_after from one.to (b ∷ []) (bs ++ t) one.done one.over some))

-- a dollar and the byte that it stands before
pub pass_dollar : (mark : ℕ) (from : Where) (b : ℕ) (bs : Bytes) → is_ready from ≡ true → is_some (pieces_from from (36 ∷ b ∷ bs)) ≡ true → Passed mark from (36 ∷ b ∷ [])
pass_dollar mark from b bs ready some =
    let one = step_is from 36 (b ∷ bs) some in
    let dollar : (one.0.next ≡ after_dollar) × (list_any (is_plain_byte mark) one.0.done ≡ false) = rw one.1 at (ready_dollar mark from ready) in
    let over = over_step from 36 one.0 one.1 in
    let later : is_some (pieces_from after_dollar (b ∷ bs)) ≡ true = rw dollar.0 at (some_after from one.0.next (36 ∷ []) (b ∷ bs) one.0.done over some) in
    let two = step_is after_dollar b bs later in
    let fits : Fits mark two.0 = rw two.1 at (after_step mark b) in
    record {
      done = one.0.done ++ two.0.done;
      to = two.0.next;
      over = over_both from after_dollar two.0.next (36 ∷ []) (b ∷ []) one.0.done two.0.done (rw dollar.0 at over) (over_step after_dollar b two.0 two.1);
      ready = fits.0;
      free = any_none mark one.0.done two.0.done dollar.1 fits.1;
    }

pub dollar_goes_on : (from : Where) → is_ready from ≡ true → is_some (pieces_from from (36 ∷ [])) ≡ true → ⊥
unfolding pieces_from
dollar_goes_on outside ready some = false≢true some
dollar_goes_on after_dollar ready some = false≢true ready
dollar_goes_on (in_name name) ready some = false≢true some
dollar_goes_on (in_braces name) ready some = false≢true some

-- what stands before the first byte that passes, and that byte
pub before_free : (test : ℕ → Bool) (text : Bytes) → list_any test (take (position_or_len test text) text) ≡ false
before_free test [] = refl
before_free test (b ∷ bs) =
    ⊎_elim
    (λ d. let none : position_or_len test (b ∷ bs) ≡ 0 = rw d refl in rw none refl)
    (λ d. let more : position_or_len test (b ∷ bs) ≡ suc (position_or_len test bs) = rw d (omega arith) in rw more (rw d (before_free test bs)))
    (cases_Bool (test b))

-- the place that a search for two bytes finds
pub place_found : (test : ℕ → Bool) (text : Bytes) (found : Option ℕ) → IsFirstByte test text found → unwrap_or found (length text) ≡ position_or_len test text
place_found test text None h =
    sym (position_or_len_is test text (length text) 0 (omega arith) (λ k l. false_from_ne_true _ (h k (omega arith) l)) (λ l. absurd (omega arith)))
place_found test text (Some place) h = grind (arith, length, position_or_len_is, false_from_ne_true)

-- the byte where a run has stopped, where it isn't the mark
pub stop_dollar : (mark b : ℕ) → is_byte2 36 mark b ≡ true → b ≢ mark → b ≡ 36
stop_dollar mark b h other = grind (arith, ⊎_elim, eqb-true, cases_Bool)

-- where in a text a search for a mark stands: what comes before was passed
pub record Scanned (mark : ℕ) (text rest : Bytes) : Type 0 where
  pub front : Bytes
  pub passed : Passed mark outside front
  pub whole : text ≡ front ++ rest

pub scan_begin : (mark : ℕ) (text : Bytes) → Scanned mark text text
scan_begin mark text = record {
  front = [];
  passed = record { done = []; to = outside; over = over_none outside; ready = refl; free = refl };
  whole = refl;
}

abbrev has_pieces : Bytes → Type 0
has_pieces text = is_some (pieces_from outside text) ≡ true

pub has : (text : Bytes) → is_spelled text ≡ true → has_pieces text
unfolding pieces
has text h = h

-- what is left to read has pieces
scan_some : (mark : ℕ) (text rest : Bytes) (s : Scanned mark text rest) → is_spelled text ≡ true → is_some (pieces_from s.passed.to rest) ≡ true
scan_some mark text rest s spelled = some_after outside s.passed.to s.front rest s.passed.done s.passed.over (rw s.whole at (has text spelled))

-- the search goes on over a run without a dollar and the mark
scan_run : (mark : ℕ) (text run stop : Bytes) → list_any (is_byte2 36 mark) run ≡ false → is_spelled text ≡ true → Scanned mark text (run ++ stop) → Scanned mark text stop
scan_run mark text run stop free spelled s =
    let more = pass_run mark s.passed.to run stop s.passed.ready free (scan_some mark text (run ++ stop) s spelled) in
    record {
      front = s.front ++ run;
      passed = pass_both mark outside s.front run s.passed more;
      whole = s.whole ∙ sym (append_assoc s.front run stop);
    }

pub scan_stop : (mark : ℕ) (text rest run stop : Bytes) → rest ≡ run ++ stop → list_any (is_byte2 36 mark) run ≡ false → is_spelled text ≡ true → Scanned mark text rest → Scanned mark text stop
scan_stop mark text rest run stop is free spelled s = scan_run mark text run stop free spelled (rw is at s)

-- and over a dollar with the byte after it
pub scan_dollar : (mark : ℕ) (text stop after later : Bytes) (d b : ℕ) → stop ≡ d ∷ after → after ≡ b ∷ later → d ≡ 36 → is_spelled text ≡ true → Scanned mark text stop → Scanned mark text later
scan_dollar mark text stop after later d b is is_after dollar spelled s =
    let here : stop ≡ 36 ∷ b ∷ later = is ∙ rw (dollar, is_after) refl in
    let more = pass_dollar mark s.passed.to b later s.passed.ready (rw here at (scan_some mark text stop s spelled)) in
    record {
      front = s.front ++ (36 ∷ b ∷ []);
      passed = pass_both mark outside s.front (36 ∷ b ∷ []) s.passed more;
      whole = s.whole ∙ ap (λ l. s.front ++ l) here ∙ sym (append_assoc s.front (36 ∷ b ∷ []) later);
    }

pub scan_no_end : (mark : ℕ) (text stop after : Bytes) (d : ℕ) → stop ≡ d ∷ after → after ≡ [] → d ≡ 36 → is_spelled text ≡ true → Scanned mark text stop → ⊥
scan_no_end mark text stop after d is is_after dollar spelled s =
    let here : stop ≡ 36 ∷ [] = is ∙ rw (dollar, is_after) refl in
    dollar_goes_on s.passed.to s.passed.ready (rw here at (scan_some mark text stop s spelled))

-- the mark, where the search has found it
last_free : (mark : ℕ) (to : Where) → is_ready to ≡ true → IfSome (last_pieces to) (λ ps. list_any (is_plain_byte mark) ps ≡ false)
last_free mark outside ready = refl
last_free mark after_dollar ready = tt
last_free mark (in_name name) ready = refl
last_free mark (in_braces name) ready = tt

pub record Ended (mark : ℕ) (to : Where) (s : PieceStep) : Type 0 where
  pub last : List Piece
  pub is : last_pieces to ≡ Some last
  pub done : s.done ≡ last ++ Plain mark ∷ []
  pub next : s.next ≡ outside

three : (a b c : Bool) → (not a && (not b && not c)) ≡ true → (a ≡ false) × (b ≡ false) × (c ≡ false)
three a b c h = grind (arith, false≢true)

mark_facts : (mark : ℕ) → is_own_byte mark ≡ true → ((mark == 36) ≡ false) × ((mark == 125) ≡ false) × (is_long_name_byte mark ≡ false)
mark_facts mark h = three (mark == 36) (mark == 125) (is_long_name_byte mark) h

not_short : (b : ℕ) → is_long_name_byte b ≡ false → is_short_name_byte b ≡ false
not_short b h = ⊎_elim (λ d. absurd (false≢true (sym h ∙ rw d refl))) (λ d. d) (cases_Bool (is_short_name_byte b))

mark_step : (mark : ℕ) (to : Where) → is_own_byte mark ≡ true → is_ready to ≡ true → IfSome (step to mark) (Ended mark to)
mark_step mark outside h ready = rw (mark_facts mark h).0 (record { last = []; is = refl; done = refl; next = refl })
mark_step mark after_dollar h ready = absurd (false≢true ready)
mark_step mark (in_name name) h ready =
    rw (not_short mark (mark_facts mark h).2) (rw (mark_facts mark h).0 (record { last = Variable name ∷ []; is = refl; done = refl; next = refl }))
mark_step mark (in_braces name) h ready = rw (mark_facts mark h).1 (rw (mark_facts mark h).2 tt)

pub scan_found : (mark : ℕ) (text stop after : Bytes) (b : ℕ) → stop ≡ b ∷ after → b ≡ mark → is_own_byte mark ≡ true → is_spelled text ≡ true → (s : Scanned mark text stop) → AreSides mark text s.front after
unfolding pieces pieces_from
scan_found mark text stop after b is same mark_is spelled s =
    let here : stop ≡ mark ∷ after = is ∙ rw same refl in
    let one = step_is s.passed.to mark after (rw here at (scan_some mark text stop s spelled)) in
    let end : Ended mark s.passed.to one.0 = rw one.1 at (mark_step mark s.passed.to mark_is s.passed.ready) in
    let over : Over outside (s.front ++ mark ∷ []) (s.passed.done ++ (end.last ++ Plain mark ∷ [])) outside =
    rw end.done at (rw end.next at (over_both outside s.passed.to one.0.next s.front (mark ∷ []) s.passed.done one.0.done s.passed.over (over_step s.passed.to mark one.0 one.1))) in
    let whole : text ≡ (s.front ++ mark ∷ []) ++ after = s.whole ∙ ap (λ l. s.front ++ l) here ∙ sym (append_assoc s.front (mark ∷ []) after) in
    let right : is_spelled after ≡ true = some_after outside outside (s.front ++ mark ∷ []) after (s.passed.done ++ (end.last ++ Plain mark ∷ [])) over (rw whole at spelled) in
    let left : pieces s.front ≡ Some (s.passed.done ++ end.last) =
    ap pieces (sym (append-nil s.front)) ∙ s.passed.over.reads [] ∙ ap (option_map (λ later. s.passed.done ++ later)) end.is in
    let all : pieces text ≡ Some ((s.passed.done ++ end.last) ++ Plain mark ∷ pieces_in after) =
    ap pieces whole ∙ over.reads after ∙ ap (option_map (λ later. (s.passed.done ++ (end.last ++ Plain mark ∷ [])) ++ later)) (spelled_some after right)
    ∙ ap Some (regroup s.passed.done end.last (pieces_in after)) in
    let front = spelled_by s.front (s.passed.done ++ end.last) left in
    record {
      left = front.0;
      right = right;
      both = (spelled_by text ((s.passed.done ++ end.last) ++ Plain mark ∷ pieces_in after) all).1 ∙ ap (λ l. l ++ Plain mark ∷ pieces_in after) (sym front.1);
      free = ap (list_any (is_plain_byte mark)) front.1 ∙ any_none mark s.passed.done end.last s.passed.free (rw end.is at (last_free mark s.passed.to s.passed.ready));
    }
  where
    regroup : (d l after : List Piece) → (d ++ (l ++ Plain mark ∷ [])) ++ after ≡ (d ++ l) ++ Plain mark ∷ after
    regroup d l after = append_assoc d (l ++ Plain mark ∷ []) after ∙ ap (λ x. d ++ x) (append_assoc l (Plain mark ∷ []) after) ∙ sym (append_assoc d l (Plain mark ∷ after))

last_is : (to : Where) → is_some (pieces_from to []) ≡ true → (l : List Piece) × ((pieces_from to [] ≡ Some l) × (last_pieces to ≡ Some l))
unfolding pieces_from
last_is outside some = ([], (refl, refl))
last_is after_dollar some = absurd (false≢true some)
last_is (in_name name) some = (Variable name ∷ [], (refl, refl))
last_is (in_braces name) some = absurd (false≢true some)

-- the front by its length
pub front_is : (front stop : Bytes) → take (length (front ++ stop) - length stop) (front ++ stop) ≡ front
front_is [] stop = let none : length stop - length stop ≡ 0 = omega arith in rw none refl
front_is (b ∷ bs) stop =
    let long : length (bs ++ stop) ≡ length bs + length stop = length-append bs stop in
    let more : length (b ∷ (bs ++ stop)) - length stop ≡ suc (length (bs ++ stop) - length stop) = omega (arith, long) in
    rw more (ap (λ l. b ∷ l) (front_is bs stop))

pub scan_sides : (mark : ℕ) (text stop after front : Bytes) (b : ℕ) → stop ≡ b ∷ after → b ≡ mark → is_own_byte mark ≡ true → is_spelled text ≡ true → Scanned mark text stop
    → front ≡ take (length text - length stop) text → AreSides mark text front after
scan_sides mark text stop after front b is same mark_is spelled s cut =
    let here : front ≡ s.front = cut ∙ ap (λ l. take (length l - length stop) l) s.whole ∙ front_is s.front stop in
    rw here (scan_found mark text stop after b is same mark_is spelled s)

-- a text in which there is no mark
pub scan_end : (mark : ℕ) (text stop : Bytes) → stop ≡ [] → is_spelled text ≡ true → Scanned mark text stop → list_any (is_plain_byte mark) (pieces_in text) ≡ false
unfolding pieces
scan_end mark text stop is spelled s =
    let some : is_some (pieces_from s.passed.to []) ≡ true = rw is at (scan_some mark text stop s spelled) in
    let last = last_is s.passed.to some in
    let whole : text ≡ s.front ++ [] = s.whole ∙ ap (λ l. s.front ++ l) is in
    let all : pieces text ≡ Some (s.passed.done ++ last.0) = ap pieces whole ∙ s.passed.over.reads [] ∙ ap (option_map (λ later. s.passed.done ++ later)) last.1.0 in
    ap (list_any (is_plain_byte mark)) (spelled_by text (s.passed.done ++ last.0) all).1 ∙ any_none mark s.passed.done last.0 s.passed.free (rw last.1.1 at (last_free mark s.passed.to s.passed.ready))

-- a run without a dollar
pub plain_run : (run t : Bytes) → list_any (is_byte2 36 36) run ≡ false → pieces_from outside (run ++ t) ≡ option_map (λ later. map Plain run ++ later) (pieces_from outside t)
plain_run [] t free = sym (none_before (pieces_from outside t))
plain_run (b ∷ bs) t free =
    let first = free_first (is_byte2 36 36) b bs free in
    outside-plain b (bs ++ t) (neither 36 b first.0).0
    ∙ ap (option_map (λ later. Plain b ∷ later)) (plain_run bs t first.1)
    ∙ map_twice (Plain b ∷ []) (map Plain bs) (pieces_from outside t)

some_map : (front : List Piece) (found : Option (List Piece)) → is_some (option_map (λ later. front ++ later) found) ≡ is_some found
some_map front found = grind arith

is_dollar : (d : ℕ) → is_byte2 36 36 d ≡ true → d ≡ 36
is_dollar d h = ⊎_elim (λ e. eqb-true _ _ e) (λ e. absurd (let no : is_byte2 36 36 d ≡ false = rw e refl in false≢true (sym no ∙ h))) (cases_Bool (d == 36))

-- whether a text is spelled, by what its first dollar begins
pub spelled_end : (rest run stop : Bytes) → rest ≡ run ++ stop → stop ≡ [] → list_any (is_byte2 36 36) run ≡ false → is_spelled rest ≡ true
unfolding pieces pieces_from
spelled_end rest run stop whole is free = ap is_spelled whole ∙ ap is_some (plain_run run stop free) ∙ some_map (map Plain run) (pieces_from outside stop) ∙ rw is refl

spelled_dollar : (rest run stop after : Bytes) (d : ℕ) → rest ≡ run ++ stop → stop ≡ d ∷ after → is_byte2 36 36 d ≡ true → list_any (is_byte2 36 36) run ≡ false
    → is_spelled rest ≡ is_some (pieces_from after_dollar after)
unfolding pieces
spelled_dollar rest run stop after d whole is dollar free = grind (arith, plain_run, some_map, outside-dollar, eq-eqb, is_dollar)

pub spelled_none : (rest run stop after : Bytes) (d : ℕ) → rest ≡ run ++ stop → stop ≡ d ∷ after → is_byte2 36 36 d ≡ true → list_any (is_byte2 36 36) run ≡ false
    → pieces_from after_dollar after ≡ None → is_spelled rest ≡ false
spelled_none rest run stop after d whole is dollar free none = spelled_dollar rest run stop after d whole is dollar free ∙ ap is_some none

some_cons : (p : Piece) (found : Option (List Piece)) → is_some (option_map (λ later. p ∷ later) found) ≡ is_some found
some_cons p found = grind arith

pub spelled_more : (rest run stop after : Bytes) (d : ℕ) (cut : DollarCut) → rest ≡ run ++ stop → stop ≡ d ∷ after → is_byte2 36 36 d ≡ true → list_any (is_byte2 36 36) run ≡ false
    → CutsOff after_dollar after cut → is_spelled rest ≡ is_spelled cut.after.now
unfolding pieces
spelled_more rest run stop after d cut whole is dollar free h =
    spelled_dollar rest run stop after d whole is dollar free ∙ ap is_some h.first ∙ some_cons (dollar_piece cut.dollar) (pieces_from outside cut.after.now)

-- a spelling from its first dollar on
pub run_read : (text plain stop : Bytes) → text ≡ plain ++ stop → list_any (is_byte2 36 36) plain ≡ false → is_spelled text ≡ true
    → (is_spelled stop ≡ true) × (pieces_in text ≡ map Plain plain ++ pieces_in stop)
unfolding pieces
run_read text plain stop whole free spelled = grind (arith, plain_run, some_map, spelled_some)

pub next_none : (text after : Bytes) (d : ℕ) → text ≡ d ∷ after → is_byte2 36 36 d ≡ true → is_spelled text ≡ true → pieces_from after_dollar after ≡ None → ⊥
next_none text after d is dollar spelled none = false≢true (sym (spelled_none text [] text after d refl is dollar refl none) ∙ spelled)

pub next_read : (text after : Bytes) (d : ℕ) (cut : DollarCut) → text ≡ d ∷ after → is_byte2 36 36 d ≡ true → is_spelled text ≡ true → CutsOff after_dollar after cut
    → (is_spelled cut.after.now ≡ true) × (pieces_in text ≡ dollar_piece cut.dollar ∷ pieces_in cut.after.now)
unfolding pieces
next_read text after d cut is dollar spelled h = grind (arith, spelled_more, outside-dollar, eq-eqb, is_dollar, spelled_some)
