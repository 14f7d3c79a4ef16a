-- What remains of a name's components, in whatever order they are removed.
use Rattle.std.proofs.Common.{◌≡◌, ◌⊎◌, ⊎_elim, inl, inr, ℕ, zero, suc, Bool, true, false, not, if◌then◌else◌, fold, List, [], ◌∷◌, ◌++◌, reverse, replicate, All, refl, sym, ap, ◌∙◌, subst, arith}
use Rattle.kt_graph.proofs.Common.{bytes_eq, append-nil, append_assoc, reverse-append, reverse-reverse, All-cons, All-head, All-nil, All-push, All-tail, fold-append, bytes_eq-Decides, Text, above_name, is_idle, is_rooted, components_of, step_up, with_part, Leads, Reaches}
use Rattle.kt_graph_laws.specs.Resolution.{Cancels, IsComponent, IsReduced, IsResolution, MayGo, components}
use Rattle.kt_graph.proofs.lemmas.faults.CircleLemmas.{Reaches-join, Reaches-none, Reaches-step}
use Rattle.kt_graph_laws.proofs.PartLemmas.{above_stays}
use Rattle.kt_graph.proofs.lemmas.faults.PartLemmas.{name_taken}

-- ---- components by their kind

kinds : (part : Text) → (is_idle part ≡ true) ⊎ ((part ≡ above_name) ⊎ IsComponent part)
kinds part = grind (arith, bytes_eq-Decides)

idle_step : (rooted : Bool) (parts : List Text) (part : Text) → is_idle part ≡ true → with_part rooted parts part ≡ parts
idle_step rooted parts part e = ap (λ b. if b then parts else (if bytes_eq part above_name then step_up rooted parts else part ∷ parts)) e

name_step : (rooted : Bool) (parts : List Text) (part : Text) → IsComponent part → with_part rooted parts part ≡ part ∷ parts
name_step rooted parts part is = grind arith

up_name : (rooted : Bool) (last : Text) (parts : List Text) → IsComponent last → step_up rooted (last ∷ parts) ≡ parts
up_name rooted last parts is = name_taken rooted last parts (ap not is.plain)

up_above : (rooted : Bool) (parts : List Text) → step_up rooted (above_name ∷ parts) ≡ above_name ∷ above_name ∷ parts
up_above rooted parts = above_stays rooted above_name parts refl

-- ---- components that are held, the last first

record IsStack (rooted : Bool) (parts : List Text) : Type 0 where
  pub count : ℕ
  pub names : List Text
  pub shape : parts ≡ names ++ replicate count above_name
  pub named : All IsComponent names
  pub under_root : rooted ≡ true → count ≡ zero

none_stacked : (rooted : Bool) → IsStack rooted []
none_stacked rooted = grind (arith, All-nil)

stack_with : (rooted : Bool) (parts : List Text) (part : Text) → IsComponent part → IsStack rooted parts → IsStack rooted (part ∷ parts)
stack_with rooted parts part is stack = record {
  count = stack.count;
  names = part ∷ stack.names;
  shape = ap (λ (ps : List Text). part ∷ ps) stack.shape;
  named = All-cons IsComponent part stack.names is stack.named;
  under_root = stack.under_root;
}

-- `..` after components: it is dropped under the root, it stays at the start, or it removes a name
record GoesUp (rooted : Bool) (parts : List Text) : Type 0 where
  pub kept : IsStack rooted (step_up rooted parts)
  pub how : ((rooted ≡ true) × (parts ≡ []) × (step_up rooted parts ≡ []))
      ⊎ ((step_up rooted parts ≡ above_name ∷ parts)
      ⊎ ((last : Text) × (rest : List Text) × IsComponent last × (parts ≡ last ∷ rest) × (step_up rooted parts ≡ rest)))

up_none : (rooted : Bool) → (b : Bool) → rooted ≡ b → GoesUp rooted []
up_none rooted b e = grind (arith, none_stacked, All-nil)

goes_up : (rooted : Bool) (names : List Text) (count : ℕ) → All IsComponent names → (rooted ≡ true → count ≡ zero) → GoesUp rooted (names ++ replicate count above_name)
goes_up rooted [] zero named under = up_none rooted rooted refl
goes_up rooted [] (suc count) named under =
    let stays : step_up rooted (above_name ∷ replicate count above_name) ≡ above_name ∷ above_name ∷ replicate count above_name = up_above rooted (replicate count above_name) in
    record {
      kept = subst (IsStack rooted) (sym stays) (record {
        count = suc (suc count);
        names = [];
        shape = refl;
        named = All-nil IsComponent;
        under_root = λ e. let none : suc count ≡ zero = under e in absurd (omega arith);
      });
      how = inr (inl stays);
    }
goes_up rooted (last ∷ names) count named under =
    let is = All-head IsComponent last names named in
    let goes : step_up rooted (last ∷ (names ++ replicate count above_name)) ≡ names ++ replicate count above_name = up_name rooted last (names ++ replicate count above_name) is in
    record {
      kept = subst (IsStack rooted) (sym goes) (record {
        count = count;
        names = names;
        shape = refl;
        named = All-tail IsComponent last names named;
        under_root = under;
      });
      how = inr (inr (last, names ++ replicate count above_name, is, refl, goes));
    }

up_stack : (rooted : Bool) (parts : List Text) → IsStack rooted parts → GoesUp rooted parts
up_stack rooted parts stack = subst (GoesUp rooted) (sym stack.shape) (goes_up rooted stack.names stack.count stack.named stack.under_root)

stack_kept : (rooted : Bool) (parts : List Text) (part : Text) → IsStack rooted parts → IsStack rooted (with_part rooted parts part)
stack_kept rooted parts part stack = grind (arith, ⊎_elim, idle_step, up_stack, name_step, stack_with, kinds)

all_stacked : (rooted : Bool) (left parts : List Text) → IsStack rooted parts → IsStack rooted (fold (with_part rooted) parts left)
all_stacked rooted [] parts stack = stack
all_stacked rooted (part ∷ left) parts stack = all_stacked rooted left (with_part rooted parts part) (stack_kept rooted parts part stack)

-- ---- lists in the other order

put_over : (part : Text) (parts left : List Text) → reverse (part ∷ parts) ++ left ≡ reverse parts ++ part ∷ left
put_over part parts left = ap (λ (ps : List Text). ps ++ left) (reverse-append (part ∷ []) parts) ∙ append_assoc (reverse parts) (part ∷ []) left

repeated_end : (count : ℕ) (part : Text) (parts : List Text) → replicate count part ++ part ∷ parts ≡ part ∷ (replicate count part ++ parts)
repeated_end zero part parts = refl
repeated_end (suc count) part parts = ap (λ (ps : List Text). part ∷ ps) (repeated_end count part parts)

repeated_back : (count : ℕ) (part : Text) → reverse (replicate count part) ≡ replicate count part
repeated_back zero part = refl
repeated_back (suc count) part =
    reverse-append (part ∷ []) (replicate count part)
    ∙ ap (λ (ps : List Text). ps ++ part ∷ []) (repeated_back count part)
    ∙ repeated_end count part []
    ∙ ap (λ (ps : List Text). part ∷ ps) (append-nil (replicate count part))

all_back : (names : List Text) → All IsComponent names → All IsComponent (reverse names)
all_back [] named = All-nil IsComponent
all_back (name ∷ names) named =
    subst (All IsComponent) (sym (reverse-append (name ∷ []) names))
    (All-push IsComponent (reverse names) name (all_back names (All-tail IsComponent name names named)) (All-head IsComponent name names named))

stack_reduced : (rooted : Bool) (parts : List Text) → IsStack rooted parts → IsReduced rooted (reverse parts)
stack_reduced rooted parts stack = record {
  count = stack.count;
  names = reverse stack.names;
  shape = ap reverse stack.shape ∙ reverse-append stack.names (replicate stack.count above_name)
      ∙ ap (λ (ps : List Text). ps ++ reverse stack.names) (repeated_back stack.count above_name);
  named = all_back stack.names stack.named;
  under_root = stack.under_root;
}

-- ---- what is removed

step_from : (rooted : Bool) (front gone back : List Text) → MayGo rooted front gone → Reaches (Cancels rooted) (front ++ (gone ++ back)) (front ++ back)
step_from rooted front gone back may = grind (arith, Reaches-step)

abbrev Way : Bool → List Text → List Text → Type 0
Way rooted left parts = Reaches (Cancels rooted) (reverse parts ++ left) (reverse (fold (with_part rooted) parts left))

way_up : (rooted : Bool) (parts left : List Text) → ((others : List Text) → IsStack rooted others → Way rooted left others) → GoesUp rooted parts → Way rooted (above_name ∷ left) parts
way_up rooted parts left more up = ⊎_elim
    (λ (root : (rooted ≡ true) × (parts ≡ []) × (step_up rooted parts ≡ [])).
    let here : Reaches (Cancels rooted) (above_name ∷ left) left = step_from rooted [] (above_name ∷ []) left (inr (inr (root.0, refl, refl))) in
    let end : List Text = reverse (fold (with_part rooted) (step_up rooted parts) left) in
    subst (λ (ps : List Text). Reaches (Cancels rooted) (reverse ps ++ above_name ∷ left) end) (sym root.1)
    (Reaches-join (Cancels rooted) (above_name ∷ left) left end here
    (subst (λ (ps : List Text). Reaches (Cancels rooted) (reverse ps ++ left) end) root.2 (more (step_up rooted parts) up.kept))))
    (λ (other : (step_up rooted parts ≡ above_name ∷ parts) ⊎ ((last : Text) × (rest : List Text) × IsComponent last × (parts ≡ last ∷ rest) × (step_up rooted parts ≡ rest))). ⊎_elim
    (λ (stays : step_up rooted parts ≡ above_name ∷ parts).
    subst (λ (ps : List Text). Reaches (Cancels rooted) ps (reverse (fold (with_part rooted) (step_up rooted parts) left)))
    (ap (λ (ps : List Text). reverse ps ++ left) stays ∙ put_over above_name parts left) (more (step_up rooted parts) up.kept))
    (λ (taken : (last : Text) × (rest : List Text) × IsComponent last × (parts ≡ last ∷ rest) × (step_up rooted parts ≡ rest)).
    let end : List Text = reverse (fold (with_part rooted) (step_up rooted parts) left) in
    let here : Reaches (Cancels rooted) (reverse taken.1 ++ taken.0 ∷ above_name ∷ left) (reverse taken.1 ++ left)
    = step_from rooted (reverse taken.1) (taken.0 ∷ above_name ∷ []) left (inr (inl (taken.0, refl, taken.2))) in
    subst (λ (ps : List Text). Reaches (Cancels rooted) ps end)
    (sym (ap (λ (ps : List Text). reverse ps ++ above_name ∷ left) taken.3 ∙ put_over taken.0 taken.1 (above_name ∷ left)))
    (Reaches-join (Cancels rooted) (reverse taken.1 ++ taken.0 ∷ above_name ∷ left) (reverse taken.1 ++ left) end here
    (subst (λ (ps : List Text). Reaches (Cancels rooted) (reverse ps ++ left) end) taken.4 (more (step_up rooted parts) up.kept))))
    other)
    up.how

way : (rooted : Bool) (left parts : List Text) → IsStack rooted parts → Way rooted left parts
way rooted [] parts stack = subst (λ (ps : List Text). Reaches (Cancels rooted) ps (reverse parts)) (sym (append-nil (reverse parts))) (Reaches-none (Cancels rooted) (reverse parts))
way rooted (part ∷ left) parts stack = ⊎_elim
    (λ (idle : is_idle part ≡ true).
    subst (λ (ps : List Text). Reaches (Cancels rooted) (reverse parts ++ part ∷ left) (reverse (fold (with_part rooted) ps left))) (sym (idle_step rooted parts part idle))
    (Reaches-join (Cancels rooted) (reverse parts ++ part ∷ left) (reverse parts ++ left) (reverse (fold (with_part rooted) parts left))
    (step_from rooted (reverse parts) (part ∷ []) left (inl (part, refl, idle))) (way rooted left parts stack)))
    (λ (other : (part ≡ above_name) ⊎ IsComponent part). ⊎_elim
    (λ (above : part ≡ above_name). subst (λ (p : Text). Way rooted (p ∷ left) parts) (sym above)
    (way_up rooted parts left (λ others held. way rooted left others held) (up_stack rooted parts stack)))
    (λ (is : IsComponent part).
    subst (λ (ps : List Text). Reaches (Cancels rooted) (reverse parts ++ part ∷ left) (reverse (fold (with_part rooted) ps left))) (sym (name_step rooted parts part is))
    (subst (λ (ps : List Text). Reaches (Cancels rooted) ps (reverse (fold (with_part rooted) (part ∷ parts) left))) (put_over part parts left)
    (way rooted left (part ∷ parts) (stack_with rooted parts part is stack))))
    other)
    (kinds part)

-- ---- there is one end

gone_fold : (rooted : Bool) (front gone parts : List Text) → (front ≡ [] → parts ≡ []) → MayGo rooted front gone → fold (with_part rooted) parts gone ≡ parts
gone_fold rooted front gone parts none may = grind (arith, ⊎_elim, idle_step, name_step, up_name)

same_fold : (rooted : Bool) (one other : List Text) → Cancels rooted one other → fold (with_part rooted) [] one ≡ fold (with_part rooted) [] other
same_fold rooted one other step = grind (arith, fold-append, gone_fold)

same_way : (rooted : Bool) (one : List Text) (steps : List (List Text)) (other : List Text) → Leads (Cancels rooted) one steps other
    → fold (with_part rooted) [] one ≡ fold (with_part rooted) [] other
same_way rooted one [] other same = ap (fold (with_part rooted) []) same
same_way rooted one (next ∷ steps) other leads = same_fold rooted one next leads.0 ∙ same_way rooted next steps other leads.1

names_fold : (rooted : Bool) (names parts : List Text) → All IsComponent names → fold (with_part rooted) parts names ≡ reverse names ++ parts
names_fold rooted [] parts named = refl
names_fold rooted (name ∷ names) parts named = grind (arith, name_step, All-head, All-tail, put_over, names_fold rooted names (name ∷ parts) (All-tail IsComponent name names named))

front_fold : (count held : ℕ) → fold (with_part false) (replicate held above_name) (replicate count above_name) ≡ replicate count above_name ++ replicate held above_name
front_fold zero held = refl
front_fold (suc count) held =
    ap (λ (ps : List Text). fold (with_part false) ps (replicate count above_name)) (one_more held)
    ∙ front_fold count (suc held)
    ∙ repeated_end count above_name (replicate held above_name)
  where
    one_more : (n : ℕ) → step_up false (replicate n above_name) ≡ replicate (suc n) above_name
    one_more zero = refl
    one_more (suc n) = up_above false (replicate n above_name)

begun_fold : (rooted : Bool) (count : ℕ) → (rooted ≡ true → count ≡ zero) → fold (with_part rooted) [] (replicate count above_name) ≡ replicate count above_name
begun_fold true count under = grind (arith, replicate)
begun_fold false count under = front_fold count zero ∙ append-nil (replicate count above_name)

reduced_fixed : (rooted : Bool) (parts : List Text) → IsReduced rooted parts → reverse (fold (with_part rooted) [] parts) ≡ parts
reduced_fixed rooted parts reduced = grind (arith, replicate, reverse, fold-append, begun_fold, names_fold, reverse-append, repeated_back, reverse-reverse)

pub resolution : (name : Text) → IsResolution name
unfolding components_of
resolution name =
    let rooted : Bool = is_rooted name in record {
      resolved = record {
        cancelled = way rooted (components name) [] (none_stacked rooted);
        reduced = stack_reduced rooted (fold (with_part rooted) [] (components name)) (all_stacked rooted (components name) [] (none_stacked rooted));
      };
      only = λ other resolved.
          sym (ap reverse (same_way rooted (components name) resolved.cancelled.0 other resolved.cancelled.1) ∙ reduced_fixed rooted other resolved.reduced);
    }
