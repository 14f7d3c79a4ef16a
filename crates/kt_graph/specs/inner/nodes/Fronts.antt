-- Names that are sorted by their first bytes, as the code holds them (kati's own).
use Rattle.std.specs.Prelude.{◌≡◌, ℕ, ◌<◌, List, map, All}
use Rattle.kt_graph.specs.inner.Prelude.{range_with_len, ordering_then}
use Rattle.kt_graph.specs.Prelude.{nat_cmp, slice_cmp, Text}
use Rattle.std.specs.declared.cmp.Ordering.{Ordering}
use Rattle.kt_text.specs.views.Sorted.{front_number}
use Rattle.kt_graph.specs.declared.nodes.byte_order.Front.{Front}
use Rattle.kt_list.specs.views.Names.{name_at}

-- the order by the first bytes, and of names that begin alike by all of them
abbrev pub front_cmp : List Text → Front → Front → Ordering
front_cmp names front other =
    ordering_then (nat_cmp front.bytes other.bytes)
    (slice_cmp nat_cmp (name_at names front.number) (name_at names other.number))

-- the first bytes are those of the name with the number
pub record IsFront (names : List Text) (front : Front) : Type 0 where
  pub begins : front.bytes ≡ front_number 8 (name_at names front.number)
  pub small : All (λ byte. byte < 256) (name_at names front.number)

-- the fronts of the first names, in order
pub record AreFronts (names : List Text) (count : ℕ) (fronts : List Front) : Type 0 where
  pub numbers : map (λ front. front.number) fronts ≡ range_with_len 0 count
  pub are : All (IsFront names) fronts
