use Rattle.std.proofs.Common.{◌≡◌, ◌+◌, ℕ, List, [], ◌∷◌, ◌++◌, length, take, set, ap, sym, ◌∙◌, arith, rules}
use Rattle.std.proofs.lemmas.List.{take_more_set}
use borrow.Rule.Slice.PartMut.{put_mid}
use Rattle.capnp_model.specs.Packing.{nonzero}
use Rattle.capnp_stream_packed.proofs.lemmas.WriteLemmas.{head-front, no-count, one-count}
use Rattle.capnp_stream_packed.proofs.written.put_head.Goals as goal

pub returns-in-First-clause-head : goal.returns-in-First-clause-head
returns-in-First-clause-head c =
    let m = c.marked-len.result in
    let bytes = c.copy_from_slice.new.self in
    let same : c.gather.result ≡ bytes = cc in
    let marked : take m bytes ≡ nonzero c.args.word.now = ap (λ (k : ℕ). take k bytes) c.marked-len.ensures.count ∙ ap (take _) (sym same) ∙ c.gather.ensures in
    head-front c.args.buf.now bytes c.args.tag m (omega arith) (omega (arith, ap length same, c.marked-len.ensures.most))
    ∙ ap (λ (l : List ℕ). c.args.tag ∷ l) (marked ∙ sym (no-count (nonzero c.args.word.now) c.args.run c.in-First.is))

pub returns-in-Zeros-clause-head : goal.returns-in-Zeros-clause-head
returns-in-Zeros-clause-head c =
    let m = c.marked-len.result in
    let bytes = c.copy_from_slice.new.self in
    let same : c.gather.result ≡ bytes = cc in
    let marked : take m bytes ≡ nonzero c.args.word.now = ap (λ (k : ℕ). take k bytes) c.marked-len.ensures.count ∙ ap (take _) (sym same) ∙ c.gather.ensures in
    let buf = put_mid 1 8 (set c.args.buf.now 0 c.args.tag) bytes in
    let front : take (1 + m) buf ≡ c.args.tag ∷ nonzero c.args.word.now = head-front c.args.buf.now bytes c.args.tag m (omega arith) (omega (arith, ap length same, c.marked-len.ensures.most)) ∙ ap (λ (l : List ℕ). c.args.tag ∷ l) marked in
    let kept : length buf ≡ length c.args.buf.now = search rules in
    take_more_set buf (1 + m) c.in-Zeros.count (omega (arith, kept, c.requires.room, c.marked-len.ensures.most)) ∙ ap (λ (l : List ℕ). l ++ c.in-Zeros.count ∷ []) front
    ∙ ap (λ (l : List ℕ). c.args.tag ∷ (nonzero c.args.word.now ++ l)) (sym (one-count c.in-Zeros.count c.args.run c.in-Zeros.is))
