use Rattle.std.proofs.Common.{◌≡◌, refl, ℕ, ◌+◌, ◌-◌, ◌<◌, ◌≤◌, List, ◌++◌, length, take, drop, get_or, Ok, sym, ap, subst, ◌∙◌, arith, rules, take_at, drop_at, length-take-le, length-drop, length-append}
use Rattle.std.proofs.lemmas.List.{take_all, get_or-drop, drop-take}
use Rattle.std.proofs.lemmas.Slice.{take-put_mid_below}
use borrow.Rule.Slice.PartMut.{put_mid}
use Rattle.capnp_stream_io.proofs.lemmas.Filling.{take-put_mid_more}
use Rattle.capnp_stream_packed.specs.Steps.{IsFirst, BeginsWithTag, Unpacks}
use Rattle.capnp_stream_packed.specs.Parts.{tagged}
use Rattle.capnp_stream_packed.specs.declared.runs.Run.{Run}
use Rattle.capnp_stream_packed.specs.declared.runs.Run.TheVariants.{Next}
use Rattle.capnp_stream_packed.specs.Tags.{marks}
use Rattle.capnp_stream_packed.proofs.HeadLemmas.{behind-front, next-shown}
use Rattle.capnp_stream_packed.proofs.TagLemmas.{not-full}
use Rattle.capnp_stream_packed.proofs.UnpackLemmas.{then_run, then-over, then-some, unpacks-nothing, unpacks-in, plain-unpacks, rest-of, first-at, left-within, left-rest, groups-more}
use Rattle.capnp_stream_packed.proofs.shown.Step.of_groups.Goals as goal
use Rattle.capnp_stream_packed.proofs.shown.Step.of_groups.Goals.{else-loop-filled-test, then-loop-filled-test+in_default, then-loop-filled-test+in-Some+else-tag-ne0+in_default-with_run}

pub loop-filled-init : goal.loop-filled-init
loop-filled-init c =
    let shown = c.args.shown.now in
    let buf = c.args.buf.now in
    let none : 0 ≡ length shown - length shown = omega arith in
    record {
      same = refl;
      within = omega arith;
      rest = ap (λ (k : ℕ). drop k shown) none;
      unpacked = subst (λ (k : ℕ). Unpacks c.args.run shown buf (record { taken = k; filled = 0; run = c.args.run })) none (unpacks-nothing c.args.run shown buf);
      tag = c.first_byte-tag.ensures;
    }

pub returns-else-filled-eq0 : goal.returns-else-filled-eq0
returns-else-filled-eq0 c =
    let l = c.loop-filled in
    let run = c.args.run in
    let shown = c.args.shown.now in
    let taken = length shown - length l.left.now in
    let some : 0 < l.filled = omega (arith, c.if-filled-eq0.false) in
    let before : Unpacks run shown l.buf (record { taken = taken; filled = l.filled; run = Next }) = subst (λ (r : Run). Unpacks run shown l.buf (record { taken = taken; filled = l.filled; run = r })) (then-some l.filled run some) l.invariant.unpacked in
    elim c.loop-filled-test.branch [
      | else-loop-filled-test w ↦ subst (λ (b : List ℕ). Unpacks run shown b (record { taken = taken; filled = l.filled; run = Next })) (sym w.buf-is) before
      | then-loop-filled-test+in_default w ↦ subst (λ (b : List ℕ). Unpacks run shown b (record { taken = taken; filled = l.filled; run = Next })) (sym w.buf-is) before
      | then-loop-filled-test+in-Some+else-tag-ne0+in_default-with_run w ↦ (
          let word = w.copy_from_slice.new.self in
          let mid = put_mid l.filled (l.filled + 8 - l.filled) l.buf word in
          let tail = w.with_run.new.buf in
          let after = put_mid l.filled (length mid - l.filled) mid tail in
          let within : l.filled ≤ length l.buf = omega (arith, l.invariant.unpacked.fits) in
          let steady : length mid ≡ length l.buf = search rules in
          let kept : length after ≡ length l.buf = ap length (sym w.buf-is) ∙ c.loop-filled-test.auto.buf in
          let front : take l.filled after ≡ take l.filled l.buf = take-put_mid_below l.filled _ mid tail l.filled (omega arith) (omega (arith, steady, within)) ∙ take-put_mid_below l.filled _ l.buf word l.filled (omega arith) within in
          subst (λ (b : List ℕ). Unpacks run shown b (record { taken = taken; filled = l.filled; run = Next })) (sym w.buf-is) (unpacks-in run shown l.buf after (record { taken = taken; filled = l.filled; run = Next }) kept front before)
          )
    ]

pub loop-filled-preserved-then-tag : goal.loop-filled-preserved-then-tag
loop-filled-preserved-then-tag c =
    let l = c.loop-filled in
    let i = l.invariant in
    let shown = c.args.shown.now in
    let left = l.left.now in
    let tag = l.tag in
    let m = c.marked.result in
    let n = 1 + m in
    let word = c.copy_from_slice.new.self in
    let new = take (length left - n) (drop n left) in
    let is : new ≡ drop n left = rest-of n left in
    let long : 10 ≤ length left = omega (arith, c.in-Some.ensures.cases.enough) in
    let at : tag ≡ get_or left 0 0 = i.tag (omega arith) in
    let behind : c.behind_tag-behind.result.now ≡ take 8 (drop 1 left) = c.behind_tag-behind.ensures ∙ ap (λ (x : List ℕ). take 8 (drop 1 x)) c.in-Some.ensures.cases.same ∙ behind-front left long in
    let group : BeginsWithTag tag c.spread-word.result left = record { here = at; spells = subst (λ (x : List ℕ). (more : List ℕ) → tagged tag (take (marks 8 tag) x ++ more) ≡ Ok (c.spread-word.result, more)) behind c.spread-word.ensures } in
    let same : c.spread-word.result ≡ word = cc in
    let eight : length word ≡ 8 = search rules in
    let room : l.filled + 8 ≤ length l.buf = omega (arith, c.loop-filled-test.true, c.requires.whole, i.unpacked.whole, i.same) in
    let tail = word ++ drop (l.filled + 8) l.buf in
    let size : length tail ≡ length l.buf - l.filled = omega (arith, length-append word (drop (l.filled + 8) l.buf), length-drop (l.filled + 8) l.buf) in
    let after = put_mid l.filled (l.filled + 8 - l.filled) l.buf word in
    let kept : length after ≡ length l.buf = search rules in
    let front : take 8 tail ≡ word = take_at word (drop (l.filled + 8) l.buf) 8 eight in
    let joined : take (l.filled + 8) after ≡ take l.filled l.buf ++ take 8 tail =
    take-put_mid_more l.filled _ 8 l.buf word (omega arith) (omega arith) ∙ ap (λ (x : List ℕ). take l.filled l.buf ++ x) (take_all 8 word (omega arith) ∙ sym front) in
    let here : n ≤ length left = omega (arith, c.marked.ensures.most) in
    let place : get_or left 0 0 ≡ get_or shown (length shown - length left) 0 = ap (λ (x : List ℕ). get_or x 0 0) i.rest ∙ get_or-drop (length shown - length left) shown 0 0 ∙ ap (λ (k : ℕ). get_or shown k 0) (omega arith) in
    let byte : tag < 256 = omega (arith, at, place, c.type_inv.shown (length shown - length left)) in
    let below : marks 8 tag < 8 = not-full tag byte c.if-tag.true in
    let second = plain-unpacks left tail word tag long (omega arith) (rw same at group) front (then_run l.filled c.args.run) (then-over l.filled c.args.run c.requires.over) m c.marked.ensures.count c.marked.ensures.most c.if-tag-ne0.true c.if-tag.true in
    record {
      same = kept ∙ i.same;
      within = left-within shown left new n i.within i.rest here is;
      rest = left-rest shown left new n i.within i.rest here is;
      unpacked = groups-more shown left new n i.within i.rest here is c.args.run l.filled 8 l.buf tail after (omega arith) i.unpacked second size kept joined;
      tag = subst (IsFirst c.byte_behind-tag.result) (sym is) (first-at left c.byte_behind-tag.result n (next-shown left c.byte_behind-tag.result tag m long below c.marked.ensures.count (c.byte_behind-tag.ensures ∙ ap (λ (x : List ℕ). get_or x (marks 8 tag) 0) behind)));
    }

pub loop-filled-preserved : goal.loop-filled-preserved
loop-filled-preserved c =
    let l = c.loop-filled in
    let i = l.invariant in
    let shown = c.args.shown.now in
    let left = l.left.now in
    let next = c.in-Some-with_run.next in
    let fills = c.in-Some-with_run.ensures in
    let word = c.copy_from_slice.new.self in
    let new = take (length left - next.taken) (drop next.taken left) in
    let is : new ≡ drop next.taken left = rest-of next.taken left in
    let mid = put_mid l.filled (l.filled + 8 - l.filled) l.buf word in
    let tail = c.with_run.new.buf in
    let after = put_mid l.filled (length mid - l.filled) mid tail in
    let within : l.filled ≤ length l.buf = omega (arith, i.unpacked.fits) in
    let steady : length mid ≡ length l.buf = search rules in
    let size : length tail ≡ length l.buf - l.filled = search rules in
    let kept : length after ≡ length l.buf = search rules in
    let second = fills.unpacked (then_run l.filled c.args.run) (then-over l.filled c.args.run c.requires.over) in
    let below : take l.filled mid ≡ take l.filled l.buf = take-put_mid_below l.filled _ l.buf word l.filled (omega arith) within in
    let joined : take (l.filled + next.filled) after ≡ take l.filled l.buf ++ take next.filled tail =
    take-put_mid_more l.filled _ next.filled mid tail (omega arith) second.fits ∙ ap (λ (x : List ℕ). x ++ take next.filled tail) below in
    let here : next.taken ≤ length left = second.within in
    record {
      same = kept ∙ i.same;
      within = left-within shown left new next.taken i.within i.rest here is;
      rest = left-rest shown left new next.taken i.within i.rest here is;
      unpacked = groups-more shown left new next.taken i.within i.rest here is c.args.run l.filled next.filled l.buf tail after fills.some i.unpacked second size kept joined;
      tag = subst (IsFirst next.next) (sym is) fills.next;
    }

pub with_run-requires-clause-front : goal.with_run-requires-clause-front
with_run-requires-clause-front c =
    let l = c.loop-filled in
    let left = l.left.now in
    let tag = l.tag in
    let word = c.copy_from_slice.new.self in
    let mid = put_mid l.filled (l.filled + 8 - l.filled) l.buf word in
    let long : 10 ≤ length left = omega (arith, c.in-Some.ensures.cases.enough) in
    let behind : c.behind_tag-behind.result.now ≡ take 8 (drop 1 left) = c.behind_tag-behind.ensures ∙ ap (λ (x : List ℕ). take 8 (drop 1 x)) c.in-Some.ensures.cases.same ∙ behind-front left long in
    let group : BeginsWithTag tag c.spread-word.result left = record { here = l.invariant.tag (omega arith); spells = subst (λ (x : List ℕ). (more : List ℕ) → tagged tag (take (marks 8 tag) x ++ more) ≡ Ok (c.spread-word.result, more)) behind c.spread-word.ensures } in
    let same : c.spread-word.result ≡ word = cc in
    let eight : length word ≡ 8 = search rules in
    let within : l.filled ≤ length l.buf = omega (arith, l.invariant.unpacked.fits) in
    let front : take 8 (drop l.filled mid) ≡ word = sym (drop-take l.filled 8 mid) ∙ ap (drop l.filled) (take-put_mid_more l.filled _ 8 l.buf word within (omega arith))
    ∙ drop_at (take l.filled l.buf) (take 8 word) l.filled (length-take-le l.filled l.buf within) ∙ take_all 8 word (omega arith) in
    let put : take 8 (take (length mid - l.filled) (drop l.filled mid)) ≡ c.spread-word.result = ap (take 8) (rest-of l.filled mid) ∙ front ∙ sym same in
    subst (λ (x : List ℕ). BeginsWithTag tag x left) (sym put) group
