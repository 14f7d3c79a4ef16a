use Rattle.std.proofs.Common.{◌≡◌, ◌<◌, ◌+◌, ◌∷◌, List, ℕ, true, ap, ◌∙◌, sym, arith, drop, take, length, Some}
use Rattle.kt_syntax.proofs.Common.{is_blank, after_modifier, mask_of}
use Rattle.kt_syntax.proofs.lemmas.Masking.{length-front}
use Rattle.kt_syntax.proofs.lemmas.ModifierLemmas.{next_rest, scan_blank, scan_next, scan_more, word_found, word_other, word_last, ahead_next, ahead_end}
use Rattle.kt_syntax.proofs.heads.after_modifiers.Goals as goal
use Rattle.kt_syntax.proofs.heads.after_modifiers.Goals.{then-is_blank+else-begin-place, else-begin-place-via-then-begin-place+else-not-is_modifier, else-begin-place-via-else-begin-place, then-begin-place-2, else-begin-place-2, else-is_blank}

pub loop-symbol-preserved : goal.loop-symbol-preserved
loop-symbol-preserved c =
    let text = c.args.text.now in
    let mask = take c.args.end (mask_of text) in
    let rest : List ℕ = c.next.new.self in
    let found = c.loop-symbol.found in
    let begin = c.loop-symbol.begin in
    let place = c.loop-symbol.place in
    let symbol = c.in-Some.symbol in
    let scan = c.loop-symbol.invariant.scan in
    let ahead = c.loop-symbol.invariant.ahead in
    let order = scan.order in
    let here : drop place mask ≡ symbol ∷ rest = sym c.loop-symbol.invariant.rest ∙ c.in-Some.ensures.steps in
    let sizes = ap length c.in-Some.ensures.steps in
    let size : place + 1 + length rest ≡ c.args.end = (let before = c.loop-symbol.invariant.size in omega arith) in
    let next : rest ≡ drop (place + 1) mask = next_rest mask rest place symbol here in
    let room : place < length mask = (let all = length-front text c.args.end c.requires.within in omega arith) in
    elim c.if-is_blank.branch [
      | then-is_blank+else-begin-place w ↦
          let blank : is_blank symbol ≡ true = sym c.is_blank.ensures ∙ w.if-is_blank.true in
          elim w.else-begin-place.branch [
            | else-begin-place-via-then-begin-place+else-not-is_modifier v ↦
                elim w.if-begin-place-2.branch [
                  | then-begin-place-2 u ↦
                      let comes : Some place ≡ after_modifier text mask found =
                      word_found text mask rest found begin place symbol scan here blank u.if-begin-place-2.true room
                      (sym v.is_modifier.ensures ∙ v.if-not-is_modifier.false) in
                      let further : found < place = (let some = u.if-begin-place-2.true in omega arith) in
                      let within : place < c.args.end = omega arith in
                      record {
                        size = size;
                        rest = next;
                        scan = rw (w.begin-is, w.found-is, u.found-is) (scan_next mask rest place symbol here blank);
                        ahead = rw (w.found-is, u.found-is) (ahead_next text mask c.args.end found place _ ahead comes further within);
                      }
                  | else-begin-place-2 u ↦ absurd (let l = v.if-begin-place.true in let g = u.if-begin-place-2.false in omega arith)
                ]
            | else-begin-place-via-else-begin-place v ↦
                elim w.if-begin-place-2.branch [
                  | then-begin-place-2 u ↦ absurd (let l = u.if-begin-place-2.true in let g = v.if-begin-place.false in omega arith)
                  | else-begin-place-2 u ↦ record {
                    size = size;
                    rest = next;
                    scan = rw (w.begin-is, w.found-is, u.found-is) (scan_blank mask rest found begin place symbol scan here blank v.if-begin-place.false);
                    ahead = rw (w.found-is, u.found-is) ahead;
                  }
                ]
          ]
      | else-is_blank w ↦ record {
        size = size;
        rest = next;
        scan = rw (w.begin-is, w.found-is) (scan_more mask rest found begin place symbol scan here (sym c.is_blank.ensures ∙ w.if-is_blank.false));
        ahead = rw w.found-is ahead;
      }
    ]

pub returns-then-not-is_modifier-clause-value : goal.returns-then-not-is_modifier-clause-value
returns-then-not-is_modifier-clause-value c =
    let text = c.args.text.now in
    let mask = take c.args.end (mask_of text) in
    let here = sym c.loop-symbol.invariant.rest ∙ c.in-Some.ensures.steps in
    ahead_end text mask c.args.end c.loop-symbol.found _ c.loop-symbol.invariant.ahead
    (word_other text mask c.next.new.self c.loop-symbol.found c.loop-symbol.begin c.loop-symbol.place c.in-Some.symbol c.loop-symbol.invariant.scan here
    (sym c.is_blank.ensures ∙ c.if-is_blank.true) c.if-begin-place.true (sym c.is_modifier.ensures ∙ c.if-not-is_modifier.true))

pub returns-clause-value : goal.returns-clause-value
returns-clause-value c =
    let text = c.args.text.now in
    let mask = take c.args.end (mask_of text) in
    let all = length-front text c.args.end c.requires.within in
    let sizes = ap length c.in-None.ensures.steps.0 in
    let size = c.loop-symbol.invariant.size in
    ahead_end text mask c.args.end c.loop-symbol.found _ c.loop-symbol.invariant.ahead
    (word_last text mask c.loop-symbol.found c.loop-symbol.begin c.loop-symbol.place c.loop-symbol.invariant.scan
    (sym c.loop-symbol.invariant.rest ∙ c.in-None.ensures.steps.0) (omega arith))
