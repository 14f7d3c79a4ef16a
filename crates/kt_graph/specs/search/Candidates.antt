-- Which pattern rules may make a name, and in which order they are tried (GNU make manual, "How Patterns Match",
-- "Match-Anything Pattern Rules", "Implicit Rule Search Algorithm").
use Rattle.std.specs.Prelude.{ℕ, ◌+◌, Bool, not, ◌||◌, ◌==◌, nat_le, List, [], ◌∷◌, ◌++◌, length, map, take, filter}
use Rattle.std.specs.Prelude.{flat_map, filter_map, fold, bytes_eq, Option, Some, None, option_map, option_to_list}
use Rattle.std.specs.Prelude.{if◌then◌else◌}
use Rattle.std.specs.List.{list_all, list_any, range_with_len, slice_range}
use Rattle.std.specs.Option.{option_and_then}
use Rattle.kt_text.specs.Words.{Text, is_nonempty}
use Rattle.kt_text.specs.Match.{has_percent, stem_span}
use Rattle.kt_text.specs.Functions.{name_part, name_place, with_stem}
use Rattle.kt_rules.specs.declared.line.entry.Needs.{Needs}
use Rattle.kt_rules.specs.declared.line.entry.Target.{Target}
use Rattle.kt_rules.specs.Names.{without_dots}
use Rattle.kt_rules.specs.Suffixes.{all_needs, percent}
use Rattle.kt_rules.specs.Entry.{Entry}
use Rattle.kt_rules.specs.Book.{is_terminal}

-- ---- a name and a pattern

-- the part of a name up to its last slash and with it
abbrev pub directory_with_slash : Text → Text
directory_with_slash name = take (name_place name) name

-- whether a text has a slash
abbrev pub has_slash : Text → Bool
has_slash text = list_any (λ byte. byte == 47) text

-- a text, if it isn't empty
abbrev pub nonempty : Text → Option Text
nonempty text = if is_nonempty text then Some text else None

-- the stem of a text in a pattern; it has at least one byte [How Patterns Match]
unfoldable pub stem_of : Text → Text → Option Text
stem_of pattern text = option_and_then (λ place. nonempty (slice_range text place.0 place.1)) (stem_span pattern text)

-- the directory of a name that is left out as it is matched: none if the pattern has a slash [How Patterns Match]
abbrev pub left_out : Text → Text → Text
left_out pattern name = if has_slash pattern then [] else directory_with_slash name

-- the part of a name that a pattern is matched with: without the directory if the pattern has no slash [How Patterns
-- Match]
abbrev pub matched_part : Text → Text → Text
matched_part pattern name = if has_slash pattern then name else name_part name

-- how a name fits a pattern, if it does: the directory that is left out, and the stem
unfoldable pub fit_of : Text → Text → Option (Text × Text)
fit_of pattern name = option_map (λ stem. (left_out pattern name, stem)) (stem_of pattern (matched_part pattern name))

-- ---- prerequisites for a name

-- a prerequisite with the stem put in and the directory before it [How Patterns Match]; one without a percent sign is
-- unchanged
abbrev pub spelled_out : Text → Text → Text → Text
spelled_out directory stem name = if has_percent name then directory ++ with_stem name stem else name

-- a prerequisite with directory and stem put in, then without leading `./`; one without a percent sign is unchanged
abbrev pub needed_name : Text → Text → Text → Text
needed_name directory stem name = if has_percent name then without_dots (spelled_out directory stem name) else name

-- each of these prerequisites with directory and stem put in
unfoldable pub needed_names : Text → Text → List Text → List Text
needed_names directory stem names = map (needed_name directory stem) names

-- the prerequisites of a pattern rule with directory and stem put in, the order-only ones apart
abbrev pub needs_with : Text → Text → Needs → Needs
needs_with directory stem needs = record {
  prerequisites = needed_names directory stem needs.prerequisites;
  order_only = needed_names directory stem needs.order_only;
}

-- the maximum length of a prerequisite, before a leading `./` is removed (kati's own: so a search ends)
abbrev pub name_limit : ℕ
name_limit = 4096

-- whether no prerequisite gets too long once directory and stem are put in
abbrev pub are_short : Text → Text → Needs → Bool
are_short directory stem needs =
    list_all (λ name. nat_le (length (spelled_out directory stem name)) name_limit) (all_needs needs)

-- ---- candidates

-- a pattern rule, by its number, as a candidate for a name
pub record Candidate : Type 0 where
  pub rule : ℕ
  pub directory : Text
  pub stem : Text
  -- the target that matches is `%` alone
  pub is_any : Bool
  -- no implicit rule is searched for to make its prerequisites
  pub is_last : Bool
  pub needs : Needs

-- the length of a candidate's stem, with the directory
abbrev pub size_of : Candidate → ℕ
size_of candidate = length candidate.directory + length candidate.stem

-- a rule as a candidate, from the pattern that the name matches, and its directory and stem
abbrev pub candidate_with : ℕ → Entry → Text → Text × Text → Candidate
candidate_with number rule pattern fit = record {
  rule = number;
  directory = fit.0;
  stem = fit.1;
  is_any = bytes_eq pattern percent;
  is_last = is_terminal rule.kind;
  needs = needs_with fit.0 fit.1 rule.needs;
}

-- a rule as a candidate for a name by one of its targets, if the target matches
abbrev pub candidate_by : ℕ → Entry → Text → Target → Option Candidate
candidate_by number rule name target = option_map (candidate_with number rule target.name) (fit_of target.name name)

-- of two candidates the one with the shorter stem, or the first if both stems have one length
abbrev pub shorter : Candidate → Candidate → Candidate
shorter best other = if nat_le (size_of best) (size_of other) then best else other

-- the first candidate with the shortest stem
abbrev pub shortest : List Candidate → Option Candidate
shortest [] = None
shortest (candidate ∷ candidates) = Some (fold shorter candidate candidates)

-- the candidate, unless one of its prerequisites gets too long
abbrev pub unless_long : Entry → Candidate → Option Candidate
unless_long rule candidate = if are_short candidate.directory candidate.stem rule.needs then Some candidate else None

-- a rule as a candidate for a name: by the target with the shortest stem (kati's own if it has several), and only if no
-- prerequisite gets too long
unfoldable pub candidate_of : ℕ → Entry → Text → Option Candidate
candidate_of number rule name =
    option_and_then (unless_long rule) (shortest (filter_map (candidate_by number rule name) rule.targets))

-- the candidates of rules that are numbered from a number on, in order of definition
unfoldable pub matching_from : ℕ → List Entry → Text → List Candidate
matching_from number [] name = []
matching_from number (rule ∷ rules) name = option_to_list (candidate_of number rule name)
    ++ matching_from (number + 1) rules name

-- whether nonterminal match-anything rules are dropped: there is a chain, or a rule matches by another target
-- [Match-Anything Pattern Rules]
abbrev pub drops_any : Bool → List Candidate → Bool
drops_any in_chain candidates = in_chain || list_any (λ candidate. not candidate.is_any) candidates

-- the candidates without nonterminal match-anything rules, if these are dropped
abbrev pub without_any : Bool → List Candidate → List Candidate
without_any in_chain candidates =
    if drops_any in_chain candidates then filter (λ candidate. not candidate.is_any || candidate.is_last) candidates
    else candidates

-- the shortest stems first, and equal ones in order [How Patterns Match]; no stem is longer than the name
abbrev pub by_size : Text → List Candidate → List Candidate
by_size name candidates =
    flat_map (λ size. filter (λ candidate. size_of candidate == size) candidates) (range_with_len 0 (length name + 1))

-- the candidates for a name in the order in which they are tried, with or without a chain before it
unfoldable pub candidates_for : List Entry → Bool → Text → List Candidate
candidates_for rules in_chain name = by_size name (without_any in_chain (matching_from 0 rules name))
