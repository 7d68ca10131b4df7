use Rattle.std.proofs.Common.{◌≡◌, ◌-◌, ◌≤◌, List, ℕ, ◌++◌, length, take, ap, ◌∙◌, arith, rules, length-take-le, length-drop}
use borrow.Rule.Slice.PartMut.{put_mid}
use Rattle.capnp_stream_io.proofs.lemmas.Filling.{take-put_mid_more}
use Rattle.capnp_stream_packed.proofs.UnpackLemmas.{rest-of}
use Rattle.capnp_stream_packed.proofs.RunLemmas.{words-front}
use Rattle.capnp_stream_packed.proofs.lemmas.WriteLemmas.{run-front, packs-head, packs-group}
use Rattle.capnp_stream_packed.proofs.written.pack_group.Goals as goal

pub returns-then-is_empty : goal.returns-then-is_empty
returns-then-is_empty c =
    let bytes = c.args.bytes.now in
    let word = c.in-Some.word.now in
    let behind = c.in-Some.behind.now in
    let parts = c.in-Some.ensures.cases in
    let long : 8 ≤ length bytes = omega (arith, parts.2) in
    let front = words-front bytes word behind long parts.0 parts.1 in
    packs-head word behind c.tag_of-tag.result c.longest_run-run.result bytes c.put_head-len.new.buf c.split.result.0.now c.split.result.1.now c.put_head-len.result
    (ap length parts.0 ∙ length-take-le 8 bytes long) c.are_bytes.ensures c.are_bytes-2.ensures c.tag_of-tag.ensures c.longest_run-run.ensures.run c.longest_run-run.ensures.fits c.put_head-len.ensures.head c.split.ensures.written c.split.ensures.rest
    front (omega (arith, parts.2)) c.requires.whole (omega (arith, c.put_head-len.ensures.most))

pub copy_front-requires : goal.copy_front-requires
copy_front-requires c =
    let buf = c.put_head-len.new.buf in
    let len = c.put_head-len.result in
    let front = run-front c.longest_run-run.result c.in-Some.behind.now c.split.result.0.now c.longest_run-run.ensures.fits c.split.ensures.written in
    record { here = front.0; room = omega (arith, ap length (rest-of len buf), length-drop len buf) }

pub returns : goal.returns
returns c =
    let bytes = c.args.bytes.now in
    let word = c.in-Some.word.now in
    let behind = c.in-Some.behind.now in
    let parts = c.in-Some.ensures.cases in
    let long : 8 ≤ length bytes = omega (arith, parts.2) in
    let split = words-front bytes word behind long parts.0 parts.1 in
    let buf = c.put_head-len.new.buf in
    let len = c.put_head-len.result in
    let verbatim = c.split.result.0.now in
    let tail = c.copy_front.new.to in
    let front = run-front c.longest_run-run.result behind verbatim c.longest_run-run.ensures.fits c.split.ensures.written in
    let room : length tail ≡ length buf - len = c.copy_front.ensures.kept ∙ ap length (rest-of len buf) ∙ length-drop len buf in
    let after = put_mid len (length buf - len) buf tail in
    let kept : length after ≡ length buf = search rules in
    packs-group word behind c.tag_of-tag.result c.longest_run-run.result bytes buf verbatim c.split.result.1.now len
    (ap length parts.0 ∙ length-take-le 8 bytes long) c.are_bytes.ensures c.are_bytes-2.ensures c.tag_of-tag.ensures c.longest_run-run.ensures.run c.longest_run-run.ensures.fits c.put_head-len.ensures.head c.split.ensures.written c.split.ensures.rest
    split (omega (arith, parts.2)) c.requires.whole (omega (arith, c.put_head-len.ensures.most)) after kept (omega arith)
    (take-put_mid_more len _ (length verbatim) buf tail (omega (arith, c.put_head-len.ensures.most)) (omega arith) ∙ ap (λ (l : List ℕ). take len buf ++ l) (c.copy_front.ensures.copied ∙ front.1))
