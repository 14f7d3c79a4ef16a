-- The forms of a line (Ninja manual, "Ninja file reference", "Top-level variables", "Build statements", "Default target
-- statements"; which bytes a name has, which keywords are taken, and what is refused, is kati's own).
use Rattle.std.specs.Prelude.{ℕ, Bool, false, not, ◌==◌, ◌||◌, nat_eq, List, [], ◌∷◌, drop, filter, Option, Some, None}
use Rattle.std.specs.Prelude.{option_map, codes, if◌then◌else◌}
use Rattle.kt_ninja_reader.specs.Prelude.{option_and_then, Bytes, is_among, is_empty}
use Rattle.std.specs.List.{list_any, slice_split, prefix_len, before_first, after_first, starts_with}
use Rattle.kt_ninja_reader.specs.Pieces.{Piece, Plain, Escaped, Variable, is_long_name_byte, pieces}

-- a path or a value
abbrev pub Spelling : Type 0
Spelling = List Piece

-- whether a piece is this byte, written without a dollar
abbrev pub is_plain_byte : ℕ → Piece → Bool
is_plain_byte c (Plain b) = b == c
is_plain_byte c (Escaped b) = false
is_plain_byte c (Variable name) = false

-- what stands between plain spaces
unfoldable pub spelled_words : Spelling → List Spelling
spelled_words ps = filter (λ word. not (is_empty word)) (slice_split (is_plain_byte 32) ps)

-- a value without the plain spaces that it begins with
abbrev pub without_lead : Spelling → Spelling
without_lead ps = drop (prefix_len (is_plain_byte 32) ps) ps

-- the bytes of plain pieces that a name can hold
unfoldable pub name_bytes : Spelling → Option Bytes
name_bytes [] = Some []
name_bytes (Plain b ∷ ps) = if is_long_name_byte b then option_map (λ bs. b ∷ bs) (name_bytes ps) else None
name_bytes (Escaped b ∷ ps) = None
name_bytes (Variable name ∷ ps) = None

-- the name that one word is
abbrev pub single_name : List Spelling → Option Bytes
single_name [] = None
single_name (word ∷ []) = name_bytes word
single_name (word ∷ next ∷ words) = None

-- the keywords, which no variable is named
abbrev pub is_keyword : Bytes → Bool
is_keyword name =
    is_among (codes "rule" ∷ codes "build" ∷ codes "default" ∷ codes "include" ∷ codes "subninja"
    ∷ codes "pool" ∷ []) name

-- `key = value`
pub record Binding : Type 0 where
  pub key : Bytes
  pub value : Spelling

-- the binding of a key that is no keyword
abbrev pub bound_to : Spelling → Bytes → Option Binding
bound_to value key = if is_keyword key then None else Some (record { key = key; value = value })

-- a line as a binding: one name before its first `=`, and all after it but its leading spaces
unfoldable pub binding_of : Spelling → Option Binding
binding_of ps =
    if list_any (is_plain_byte 61) ps
    then option_and_then (bound_to (without_lead (after_first (is_plain_byte 61) ps)))
    (single_name (spelled_words (before_first (is_plain_byte 61) ps)))
    else None

-- what a build line names after its rule: explicit, implicit and order-only inputs
pub record BuildInputs : Type 0 where
  pub explicit : List Spelling
  pub implicit : List Spelling
  pub order_only : List Spelling

-- a build line
pub record Build : Type 0 where
  pub outs : List Spelling
  pub rule_name : Bytes
  pub inputs : BuildInputs

-- implicit inputs don't begin with `@` (Ninja's `|@` is refused)
abbrev pub begins_with_at : Spelling → Bool
begins_with_at [] = false
begins_with_at (p ∷ ps) = is_plain_byte 64 p

-- what stands after the rule's name, cut at its bars: `| implicit`, `|| order`, or both in this order. Two bars side
-- by side have nothing between them.
abbrev pub build_inputs : List Spelling → List Spelling → Option BuildInputs
build_inputs explicit [] = Some (record { explicit = explicit; implicit = []; order_only = [] })
build_inputs explicit (implicit ∷ []) =
    if begins_with_at implicit then None
    else Some (record { explicit = explicit; implicit = spelled_words implicit; order_only = [] })
build_inputs explicit ([] ∷ order ∷ []) =
    Some (record { explicit = explicit; implicit = []; order_only = spelled_words order })
build_inputs explicit ((p ∷ ps) ∷ [] ∷ order ∷ []) =
    if is_plain_byte 64 p then None else Some (record {
      explicit = explicit;
      implicit = spelled_words (p ∷ ps);
      order_only = spelled_words order;
    })
build_inputs explicit _ = None

-- a build line of these outputs, by the words before its first bar and the parts after it
abbrev pub build_with : List Spelling → List Spelling → List Spelling → Option Build
build_with outs [] parts = None
build_with outs (rule_word ∷ explicit) parts =
    option_and_then (λ name. option_map
    (λ inputs. record { outs = outs; rule_name = name; inputs = inputs }) (build_inputs explicit parts))
    (name_bytes rule_word)

-- a build line of these outputs, by all parts between its bars
abbrev pub build_after : List Spelling → List Spelling → Option Build
build_after outs [] = None
build_after outs (front ∷ parts) = build_with outs (spelled_words front) parts

-- outputs: one path or more, without a bar
abbrev pub paths_of : Spelling → Option (List Spelling)
paths_of ps = if list_any (is_plain_byte 124) ps || is_empty (spelled_words ps) then None else Some (spelled_words ps)

-- a build line by what stands between its colons, of which there is one
abbrev pub build_cut : List Spelling → Option Build
build_cut (outs ∷ rest ∷ []) = option_and_then
    (λ paths. build_after paths (slice_split (is_plain_byte 124) rest)) (paths_of outs)
build_cut _ = None

-- what stands after `build`
unfoldable pub build_of : Spelling → Option Build
build_of ps = build_cut (slice_split (is_plain_byte 58) ps)

-- what stands after `default`: one path or more, without colon or bar
unfoldable pub defaults_of : Spelling → Option (List Spelling)
defaults_of ps = if list_any (is_plain_byte 58) ps then None else paths_of ps

-- what stands after `rule`: its name
unfoldable pub rule_name_in : Spelling → Option Bytes
rule_name_in ps = single_name (spelled_words ps)

-- what a line at the margin is
pub data MarginForm : Type 0 where
  rule_form : Bytes → MarginForm
  build_form : Build → MarginForm
  default_form : List Spelling → MarginForm
  binding_form : Binding → MarginForm

-- a line that begins with a keyword and a space is of that keyword's form alone
unfoldable pub margin_form : Bytes → Option MarginForm
margin_form text =
    if starts_with nat_eq text (codes "rule ")
    then option_and_then (λ ps. option_map rule_form (rule_name_in ps)) (pieces (drop 5 text))
    else (if starts_with nat_eq text (codes "build ")
    then option_and_then (λ ps. option_map build_form (build_of ps)) (pieces (drop 6 text))
    else (if starts_with nat_eq text (codes "default ")
    then option_and_then (λ ps. option_map default_form (defaults_of ps)) (pieces (drop 8 text))
    else option_and_then (λ ps. option_map binding_form (binding_of ps)) (pieces text)))
