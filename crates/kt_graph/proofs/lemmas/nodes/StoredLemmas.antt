-- Nodes in three lists: what is stored stays when more is added.
use Rattle.std.proofs.Common.{◌≡◌, ℕ, zero, suc, not, ◌+◌, ◌-◌, ◌<◌, ◌≤◌, List, [], ◌∷◌, ◌++◌, All, Option, None, Some, option_map, length, take, drop, get_or, slice_get, refl, sym, ap, ◌∙◌, subst, arith}
use Rattle.kt_graph.proofs.Common.{append-nil, append_assoc, drop-append-le, get_or_append_left, length-append, length-drop, length-map, map-append, take-append-le, All-contains, All-drop, All-head, All-push, All-tail, All-take, All-weaker, none-some, same_Some, slice_get-get_or, slice_get-map, option_to_list, NodeKind, HeldPart, AreRowsOf, AreStored, Grew, HasOnePart, IsHeadOf, IsHeadWithin, IsLike, IsPartWithin, IsSpanWithin, PutsParts, StoredNode, StoredPart, cut, input_numbers, node_like, node_stored, stored_with, nodes_stored, order_only_numbers, part_stored, parts_stored, some_if, stored_at, HasMore, is_leaf}
use Rattle.std.proofs.Math.Seq.{drop-append_seam}
use Rattle.kt_graph.specs.declared.nodes.part.Maker.{Maker}
use Rattle.kt_graph.specs.declared.nodes.part.PartRecipe.{PartRecipe}
use Rattle.kt_graph.specs.declared.nodes.stored.NodeHead.{NodeHead}
use Rattle.kt_graph.specs.declared.nodes.span.Span.{Span}
use Rattle.kt_graph.specs.inner.nodes.Grouping.{is_made_at, making_at}
use Rattle.kt_graph.proofs.lemmas.MemberLemmas.{Contains-slice_get}
use Rattle.kt_list.proofs.PrefixLemmas.{has_more_of_more}

-- ---- places

pub within_more : (count more : ℕ) (span : Span) → count ≤ more → IsSpanWithin count span → IsSpanWithin more span
within_more count more span up h = record { rises = h.rises; ends = omega (arith, up, h.ends) }

pub cut_longer : {A : Type 0} (items more : List A) (span : Span) → IsSpanWithin (length items) span → cut (items ++ more) span ≡ cut items span
cut_longer items more span h = grind (arith, take, drop-append-le, take-append-le, length-drop)

-- ---- rows

-- two rows stay when there are more
rows_longer : (rows more : List (List ℕ)) (place : ℕ) → place + 1 < length rows
    → (get_or (rows ++ more) place [] ≡ get_or rows place []) × (get_or (rows ++ more) (place + 1) [] ≡ get_or rows (place + 1) [])
rows_longer rows more place h = (get_or_append_left rows more [] place (omega (arith, h)), get_or_append_left rows more [] (place + 1) h)

-- ---- parts

part_longer : (rows more : List (List ℕ)) (part : HeldPart) → IsPartWithin (length rows) part → part_stored (rows ++ more) part ≡ part_stored rows part
part_longer rows more part h = grind (arith, rows_longer)

parts_longer : (rows more : List (List ℕ)) (parts : List HeldPart) → All (IsPartWithin (length rows)) parts
    → parts_stored (rows ++ more) parts ≡ parts_stored rows parts
parts_longer rows more [] h = refl
parts_longer rows more (part ∷ parts) h = grind (arith, part_longer, All-head, length, All-tail, parts_longer rows more parts (All-tail (IsPartWithin (length rows)) part parts h))

pub parts_within_more : (count more : ℕ) (parts : List HeldPart) → count ≤ more → All (IsPartWithin count) parts → All (IsPartWithin more) parts
parts_within_more count more parts up h = All-weaker (IsPartWithin count) (IsPartWithin more) (λ part g. omega (arith, up, g)) parts h

pub all_cut : {A : Type 0} (P : A → Type 0) (xs : List A) (span : Span) → All P xs → All P (cut xs span)
all_cut P xs span h = All-take P (span.end - span.start) (drop span.start xs) (All-drop P span.start xs h)

-- ---- nodes

head_longer : (parts more_parts : List HeldPart) (rows more : List (List ℕ)) (head : NodeHead) → All (IsPartWithin (length rows)) parts
    → IsHeadWithin (length parts) (length rows) head → node_stored (parts ++ more_parts) (rows ++ more) head ≡ node_stored parts rows head
head_longer parts more_parts rows more head within h =
    let held : parts_stored (rows ++ more) (cut (parts ++ more_parts) head.parts) ≡ parts_stored rows (cut parts head.parts)
    = ap (parts_stored (rows ++ more)) (cut_longer parts more_parts head.parts h.parts)
    ∙ parts_longer rows more (cut parts head.parts) (all_cut (IsPartWithin (length rows)) parts head.parts within) in
    let both = rows_longer rows more head.inputs h.inputs in
    rw (held, both.0, both.1) refl

heads_longer : (parts more_parts : List HeldPart) (rows more : List (List ℕ)) (heads : List NodeHead) → All (IsPartWithin (length rows)) parts
    → All (IsHeadWithin (length parts) (length rows)) heads → nodes_stored (parts ++ more_parts) (rows ++ more) heads ≡ nodes_stored parts rows heads
heads_longer parts more_parts rows more [] within h = refl
heads_longer parts more_parts rows more (head ∷ heads) within h =
    let P = IsHeadWithin (length parts) (length rows) in
    ap (λ (n : StoredNode). n ∷ nodes_stored (parts ++ more_parts) (rows ++ more) heads) (head_longer parts more_parts rows more head within (All-head P head heads h))
    ∙ ap (λ (ns : List StoredNode). node_stored parts rows head ∷ ns) (heads_longer parts more_parts rows more heads within (All-tail P head heads h))

head_within_more : (parts more_parts rows more : ℕ) (head : NodeHead) → parts ≤ more_parts → rows ≤ more → IsHeadWithin parts rows head → IsHeadWithin more_parts more head
head_within_more parts more_parts rows more head up_parts up h = grind (arith, within_more)

pub longer : {A : Type 0} (old new : List A) → HasMore old new → length old ≤ length new
longer old new more = omega (arith, ap length more.1, length-append old more.0)

-- the invariant, when lists grew and a head was added
pub stored_push : (parts new_parts : List HeldPart) (rows new_rows : List (List ℕ)) (heads more : List NodeHead)
    (head : NodeHead) → more ≡ heads ++ head ∷ [] → Grew parts rows new_parts new_rows → AreStored parts rows heads
    → IsHeadWithin (length new_parts) (length new_rows) head → AreStored new_parts new_rows more
stored_push parts new_parts rows new_rows heads more head pushed grew h within =
    let Within = IsHeadWithin (length new_parts) (length new_rows) in
    subst (AreStored new_parts new_rows) (sym pushed) (record {
      parts_within = grew.within h.parts_within;
      heads_within = All-push Within heads head
          (All-weaker (IsHeadWithin (length parts) (length rows)) Within (λ one g.
          head_within_more (length parts) (length new_parts) (length rows) (length new_rows) one
          (longer parts new_parts grew.more_parts) (longer rows new_rows grew.more_rows) g) heads h.heads_within)
          within;
    })

-- what was stored is the same when lists grew
pub nodes_same : (parts new_parts : List HeldPart) (rows new_rows : List (List ℕ)) (heads : List NodeHead) → Grew parts rows new_parts new_rows
    → AreStored parts rows heads → nodes_stored new_parts new_rows heads ≡ nodes_stored parts rows heads
nodes_same parts new_parts rows new_rows heads grew h = grind (arith, heads_longer)

pub nodes_push : (parts new_parts : List HeldPart) (rows new_rows : List (List ℕ)) (heads : List NodeHead) (head : NodeHead) (node : StoredNode) → Grew parts rows new_parts new_rows
    → AreStored parts rows heads → node_stored new_parts new_rows head ≡ node
    → nodes_stored new_parts new_rows (heads ++ head ∷ []) ≡ nodes_stored parts rows heads ++ node ∷ []
nodes_push parts new_parts rows new_rows heads head node grew h is = grind (arith, map-append, nodes_same)

again_told : (parts : List HeldPart) (rows : List (List ℕ)) (heads : List NodeHead) (number : ℕ) (found : Option NodeHead) → slice_get heads number ≡ found
    → nodes_stored parts rows heads ++ option_to_list (option_map (node_stored parts rows) found)
    ≡ nodes_stored parts rows heads ++ option_to_list (slice_get (nodes_stored parts rows heads) number)
again_told parts rows heads number found at = grind (arith, slice_get-map)

-- one more node like one that is there
pub nodes_again : (parts : List HeldPart) (rows : List (List ℕ)) (heads : List NodeHead) (number : ℕ) (found : Option NodeHead) → slice_get heads number ≡ found
    → nodes_stored parts rows (heads ++ option_to_list found) ≡ nodes_stored parts rows heads ++ option_to_list (slice_get (nodes_stored parts rows heads) number)
nodes_again parts rows heads number None at =
    map-append (node_stored parts rows) heads [] ∙ again_told parts rows heads number None at
nodes_again parts rows heads number (Some head) at =
    map-append (node_stored parts rows) heads (head ∷ []) ∙ again_told parts rows heads number (Some head) at

-- ---- steps

pub more_none : {A : Type 0} (xs : List A) → HasMore xs xs
more_none xs = ([], sym (append-nil xs))

pub grew_none : (parts : List HeldPart) (rows : List (List ℕ)) → Grew parts rows parts rows
grew_none parts rows = record { more_parts = more_none parts; more_rows = more_none rows; within = λ h. h }

pub grew_after : (parts mid_parts new_parts : List HeldPart) (rows mid_rows new_rows : List (List ℕ)) → Grew parts rows mid_parts mid_rows
    → Grew mid_parts mid_rows new_parts new_rows → Grew parts rows new_parts new_rows
grew_after parts mid_parts new_parts rows mid_rows new_rows first second = record {
  more_parts = has_more_of_more parts mid_parts new_parts first.more_parts second.more_parts;
  more_rows = has_more_of_more rows mid_rows new_rows first.more_rows second.more_rows;
  within = λ h. second.within (first.within h);
}

-- rows alone grew
pub grew_rows : (parts : List HeldPart) (rows new : List (List ℕ)) → HasMore rows new → Grew parts rows parts new
grew_rows parts rows new more = grind (arith, more_none, parts_within_more, length, longer)

-- one part more
pub grew_part : (parts new : List HeldPart) (rows : List (List ℕ)) (part : HeldPart) → new ≡ parts ++ part ∷ [] → IsPartWithin (length rows) part → Grew parts rows new rows
grew_part parts new rows part is within = record {
  more_parts = (part ∷ [], is);
  more_rows = more_none rows;
  within = λ h. subst (All (IsPartWithin (length rows))) (sym is) (All-push (IsPartWithin (length rows)) parts part h within);
}

pub parts_same : (rows new : List (List ℕ)) (parts : List HeldPart) → All (IsPartWithin (length rows)) parts → HasMore rows new
    → parts_stored new parts ≡ parts_stored rows parts
parts_same rows new parts within more = ap (λ l. parts_stored l parts) more.1 ∙ parts_longer rows more.0 parts within

pub puts_none : (parts : List HeldPart) (rows : List (List ℕ)) → PutsParts parts parts rows []
puts_none parts rows = record { more = []; put = sym (append-nil parts); are = refl }

-- parts after others
pub puts_more : (parts middle new : List HeldPart) (rows more : List (List ℕ)) (first second : List StoredPart) → All (IsPartWithin (length rows)) middle → HasMore rows more
    → PutsParts parts middle rows first → PutsParts middle new more second → PutsParts parts new more (first ++ second)
puts_more parts middle new rows more first second all grown one other =
    let within = subst (All (IsPartWithin (length rows))) (ap (drop (length parts)) one.put ∙ drop-append_seam parts one.more)
    (All-drop (IsPartWithin (length rows)) (length parts) middle all) in
    let before : parts_stored more one.more ≡ first = parts_same rows more one.more within grown ∙ one.are in
    record {
      more = one.more ++ other.more;
      put = other.put ∙ ap (λ l. l ++ other.more) one.put ∙ append_assoc parts one.more other.more;
      are = map-append (part_stored more) one.more other.more ∙ ap (λ l. l ++ parts_stored more other.more) before ∙ ap (λ l. first ++ l) other.are;
    }

abbrev node_from : NodeKind → List StoredPart → Option ℕ → List ℕ → List ℕ → StoredNode
node_from kind parts made_with inputs order_only =
    record { kind = kind; parts = parts; made_with = made_with; inputs = inputs; order_only = order_only }

-- the node whose parts begin at a place and are the last ones
pub head_from : (parts : List HeldPart) (rows new : List (List ℕ)) (start : ℕ) (kind : NodeKind) (made_with : Option ℕ) (head : NodeHead) → head.kind ≡ kind → some_if head.has_making head.making ≡ made_with
    → start ≤ length parts → head.parts.start ≡ start → head.parts.end ≡ length parts → All (IsPartWithin (length rows)) parts → HasMore rows new
    → AreRowsOf new (input_numbers (parts_stored rows (drop start parts))) (order_only_numbers (parts_stored rows (drop start parts))) head.inputs
    → IsHeadOf parts new (stored_with kind made_with (parts_stored rows (drop start parts))) head
head_from parts rows new start kind made_with head is_kind made low begin end all grown inputs =
    let last = drop start parts in
    let long : length last ≤ head.parts.end - head.parts.start = omega (arith, begin, end, length-drop start parts) in
    let these : parts_stored new (cut parts head.parts) ≡ parts_stored rows last
    = ap (λ s. parts_stored new (take (head.parts.end - head.parts.start) (drop s parts))) begin
    ∙ ap (parts_stored new) (Rattle.std.proofs.lemmas.List.take_all (head.parts.end - head.parts.start) last long)
    ∙ parts_same rows new last (All-drop (IsPartWithin (length rows)) start parts all) grown in
    record {
      within = record { parts = record { rises = omega (arith, begin, end, low); ends = omega (arith, end) }; inputs = inputs.within };
      is = ap (λ k. node_from k (parts_stored new (cut parts head.parts)) (some_if head.has_making head.making) (get_or new head.inputs []) (get_or new (head.inputs + 1) [])) is_kind
          ∙ ap (λ p. node_from kind p (some_if head.has_making head.making) (get_or new head.inputs []) (get_or new (head.inputs + 1) [])) these
          ∙ ap (λ m. node_from kind (parts_stored rows last) m (get_or new head.inputs []) (get_or new (head.inputs + 1) [])) made
          ∙ ap (λ l. node_from kind (parts_stored rows last) made_with l (get_or new (head.inputs + 1) [])) inputs.one
          ∙ ap (λ l. node_from kind (parts_stored rows last) made_with (input_numbers (parts_stored rows last)) l) inputs.other;
    }

-- a node that is there, by its number
pub stored_is : (nodes : List StoredNode) (number : ℕ) (node : StoredNode) → slice_get nodes number ≡ Some node → stored_at nodes number ≡ node
stored_is [] number node at = absurd (none-some node at)
stored_is (first ∷ nodes) zero node at = same_Some first node at
stored_is (first ∷ nodes) (suc number) node at = stored_is nodes number node at

-- a node that has one part is there, and its part is alone in its place
pub one_there : (parts : List HeldPart) (rows : List (List ℕ)) (heads : List NodeHead) (number : ℕ) → HasOnePart (nodes_stored parts rows heads) number
    → number < length heads
one_there parts rows [] number one = cc
one_there parts rows (head ∷ heads) zero one = omega arith
one_there parts rows (head ∷ heads) (suc number) one = omega (arith, one_there parts rows heads number one)

pub one_cut : (parts : List HeldPart) (rows : List (List ℕ)) (heads : List NodeHead) (number : ℕ) → HasOnePart (nodes_stored parts rows heads) number
    → (head : NodeHead) → slice_get heads number ≡ Some head → length (cut parts head.parts) ≡ 1
one_cut parts rows heads number one head at =
    let is = stored_is (nodes_stored parts rows heads) number (node_stored parts rows head)
    (slice_get-map (node_stored parts rows) heads number ∙ ap (option_map (node_stored parts rows)) at) in
    sym (length-map (cut parts head.parts) (part_stored rows)) ∙ ap (λ (s : StoredNode). length s.parts) (sym is) ∙ one

-- a node that needs what another does
module _ (parts : List HeldPart) (rows : List (List ℕ)) (heads : List NodeHead) (number : ℕ) (maker : Maker) (made : NodeHead × ℕ) (part : PartRecipe) (held : HeldPart)
    (new : List HeldPart) (stored : AreStored parts rows heads) (like : IsLike heads parts number maker made)
    (recipe : some_if held.has_recipe held.lines.now ≡ option_map (λ lines. lines.now) part.recipe) (stem : held.stem ≡ part.stem) (needs : held.needs ≡ made.1)
    (pushed : new ≡ parts ++ held ∷ []) where
  part_within : IsPartWithin (length rows) like.part
  part_within = All-head (IsPartWithin (length rows)) like.part []
      (subst (All (IsPartWithin (length rows))) like.alone (all_cut (IsPartWithin (length rows)) parts like.other.parts stored.parts_within))

  other_within : IsHeadWithin (length parts) (length rows) like.other
  other_within = All-contains (IsHeadWithin (length parts) (length rows)) heads like.other stored.heads_within (Contains-slice_get heads number like.other like.at)

  pub grew_like : Grew parts rows new rows
  grew_like = grew_part parts new rows held pushed (subst (λ n. n + 1 < length rows) (sym (needs ∙ like.needs)) part_within)

  cut_like : cut new made.0.parts ≡ held ∷ []
  cut_like = grind (arith, take, length, drop-append_seam)

  other_stored : stored_at (nodes_stored parts rows heads) number ≡ node_stored parts rows like.other
  other_stored =
      stored_is (nodes_stored parts rows heads) number (node_stored parts rows like.other)
      (slice_get-map (node_stored parts rows) heads number ∙ ap (option_map (node_stored parts rows)) like.at)

  pub head_like : IsHeadOf new rows (node_like maker.kind maker.made_with part (stored_at (nodes_stored parts rows heads) number)) made.0
  head_like = record {
    within = record {
      parts = record { rises = omega (arith, like.start, like.end); ends = omega (arith, like.end, ap length pushed, length-append parts (held ∷ [])) };
      inputs = subst (λ n. n + 1 < length rows) (sym like.inputs) other_within.inputs;
    };
    is =
        rw (cut_like, other_stored, like.alone, recipe, stem, needs, like.needs, like.inputs, like.kind, like.made_with) refl;
  }

pub stored_there : (nodes : List StoredNode) (number : ℕ) → number < length nodes → slice_get nodes number ≡ Some (stored_at nodes number)
stored_there nodes number within = slice_get-get_or nodes number _ within

pub made_there : (nodes : List StoredNode) (number : ℕ) → not (is_leaf (stored_at nodes number).kind) ≡ is_made_at nodes number
made_there [] number = refl
made_there (node ∷ nodes) zero = refl
made_there (node ∷ nodes) (suc number) = made_there nodes number

pub making_there : (nodes : List StoredNode) (number : ℕ) → (stored_at nodes number).made_with ≡ making_at nodes number
making_there [] number = refl
making_there (node ∷ nodes) zero = refl
making_there (node ∷ nodes) (suc number) = making_there nodes number
