use Rattle.std.proofs.Common.{◌≡◌, ◌+◌, ◌-◌, ◌≤◌, List, ℕ, [], length, subst, sym, ap, refl, ◌∙◌, arith, rules, length-take-le}
use Rattle.std.proofs.lemmas.Bool.{eqb-true}
use Rattle.std.proofs.lemmas.List.{nil_from_length}
use borrow.Rule.Slice.PartMut.{put_mid}
use Rattle.capnp_stream_io.proofs.lemmas.Filling.{take-put_mid_more}
use Rattle.capnp_stream.specs.Segments.{whole_words}
use Rattle.capnp_stream_packed.specs.Written.{PacksFront}
use Rattle.capnp_stream_packed.specs.declared.runs.Run.TheVariants.{Next}
use Rattle.capnp_stream_packed.proofs.RunLemmas.{words-front}
use Rattle.capnp_stream_packed.proofs.lemmas.WriteLemmas.{packs-head, Spelled-of, Spelled-then, next-longest}
use Rattle.capnp_stream_packed.proofs.written.pack_groups.Goals as goal

pub loop-buf-preserved-then-tag : goal.loop-buf-preserved-then-tag
loop-buf-preserved-then-tag c =
    let l = c.loop-buf in
    let left = l.left.now in
    let word = c.in-Some.word.now in
    let behind = c.in-Some.behind.now in
    let parts = c.in-Some.ensures.cases in
    let long : 8 ≤ length left = omega (arith, parts.2) in
    let front = words-front left word behind long parts.0 parts.1 in
    let tail = c.put_head-len.new.buf in
    let k = c.put_head-len.result in
    let size : length tail ≡ length l.buf - l.len = search rules in
    let after = put_mid l.len (length l.buf - l.len) l.buf tail in
    let kept : length after ≡ length l.buf = search rules in
    let within : k ≤ length tail = omega (arith, c.put_head-len.ensures.most, size, c.loop-buf-test.true) in
    let group : PacksFront left tail k [] behind =
    packs-head word behind c.tag_of-tag.result Next left tail [] behind k (ap length parts.0 ∙ length-take-le 8 left long) c.are_bytes.ensures c.are_bytes-then-tag.ensures c.tag_of-tag.ensures
    (next-longest c.tag_of-tag.result (whole_words behind) c.if-tag-ne0.true c.if-tag.true) (omega arith) c.put_head-len.ensures.head refl refl front (omega (arith, parts.2)) l.invariant.spelled.whole within in
    record {
      same = kept ∙ l.invariant.same;
      spelled = Spelled-of c.args.bytes.now after (l.len + k) behind
          (Spelled-then c.args.bytes.now l.buf tail after left [] behind l.len k l.invariant.spelled group size kept (take-put_mid_more l.len _ k l.buf tail l.invariant.spelled.within within));
    }

pub returns-then-not-is_empty : goal.returns-then-not-is_empty
returns-then-not-is_empty c =
    let l = c.loop-buf in
    let next = c.pack_group-made in
    let tail = next.new.buf in
    let after = put_mid l.len (length l.buf - l.len) l.buf tail in
    let kept : length after ≡ length l.buf = search rules in
    let size : length tail ≡ length l.buf - l.len = search rules in
    Spelled-then c.args.bytes.now l.buf tail after l.left.now next.result.run.now next.result.rest.now l.len next.result.len l.invariant.spelled next.ensures size kept (take-put_mid_more l.len _ next.result.len l.buf tail l.invariant.spelled.within next.ensures.within)

pub loop-buf-preserved : goal.loop-buf-preserved
loop-buf-preserved c =
    let l = c.loop-buf in
    let next = c.pack_group-made in
    let tail = next.new.buf in
    let after = put_mid l.len (length l.buf - l.len) l.buf tail in
    let kept : length after ≡ length l.buf = search rules in
    let size : length tail ≡ length l.buf - l.len = search rules in
    let run = next.result.run.now in
    let none : run ≡ [] = nil_from_length run (eqb-true (length run) 0 (sym c.is_empty.ensures ∙ c.if-not-is_empty.false)) in
    let packed = Spelled-then c.args.bytes.now l.buf tail after l.left.now run next.result.rest.now l.len next.result.len l.invariant.spelled next.ensures size kept (take-put_mid_more l.len _ next.result.len l.buf tail l.invariant.spelled.within next.ensures.within) in
    record {
      same = kept ∙ l.invariant.same;
      spelled = Spelled-of c.args.bytes.now after (l.len + next.result.len) next.result.rest.now (subst (λ (r : List ℕ). PacksFront c.args.bytes.now after (l.len + next.result.len) r next.result.rest.now) none packed);
    }
