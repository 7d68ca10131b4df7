-- Bytes at whose front a message is read begin with a text of that message.
use Rattle.std.proofs.Common.{◌≡◌, ℕ, ◌+◌, ◌*◌, ◌/◌, Option, ltb, List, [], ◌∷◌, ◌++◌, take, sum, Ok, refl, subst}
use Rattle.capnp_model.specs.Kinds.{InvalidNumberOfSegments, MessageTooLarge}
use Rattle.capnp_model.specs.Chains.{guard}
use Rattle.capnp_model.specs.Segments.{Segments}
use Rattle.capnp_model.specs.Bytes.{words_in_bytes, taken}
use Rattle.capnp_model.specs.Packing.{first, unpacked}
use Rattle.capnp_model.specs.Messages.{Reader, within, message_by, plain_words, halves, cut, behind_lengths, behind_first, message_at, frame_at, packed_at}
use Rattle.capnp_model.specs.Spelling.{Frames, Packs}
use Rattle.capnp_model.proofs.lemmas.Chaining.{ok_then, ok_is, bind_ok}
use Rattle.capnp_model.proofs.PackedFronts.{Front, joined, taken_fronts, unpacked_from_fronts}
use Rattle.capnp_model.proofs.lemmas.MessagePrefixes.{LooksNoFurther, plain_words_more, unpacked_more}

-- A reader that reads the same of just the bytes that it takes.
abbrev pub ReadsFront : Reader → Type 0
ReadsFront read = (n : ℕ) (b : List ℕ) (r : List ℕ × List ℕ) → read n b ≡ Ok r → Front (read n) b r.0 r.1

plain_fronts : ReadsFront plain_words
plain_fronts n b r e =
    let t = bind_ok (taken (8 * n) b) _ r e in
    let p = taken_fronts (8 * n) b t.0 t.1 in
    let reads = ok_then (taken (8 * n) p.0) _ (t.0.0, []) (Ok (words_in_bytes n t.0.0, [])) p.2 refl in
    subst (λ (q : List ℕ × List ℕ). Front (plain_words n) b q.0 q.1) (ok_is _ r t.2) (p.0, p.1, reads)

unpacked_fronts : ReadsFront unpacked
unpacked_fronts n b r e = unpacked_from_fronts n first b r e

module _ (read : Reader) (more : LooksNoFurther read) (fronts : ReadsFront read) (limit : Option ℕ) where
  lengths_fronts : (ns b : List ℕ) (r : Segments × List ℕ) → behind_lengths read limit ns b ≡ Ok r → Front (behind_lengths read limit ns) b r.0 r.1
  lengths_fronts ns b r e =
      let g = bind_ok (guard (within (sum ns) limit) MessageTooLarge) _ r e in
      let t = bind_ok (read (sum ns) b) _ r g.2 in
      let p = fronts (sum ns) b t.0 t.1 in
      let reads = ok_then (guard (within (sum ns) limit) MessageTooLarge) _ g.0 (Ok (cut ns t.0.0, [])) g.1 (ok_then (read (sum ns) p.0) _ (t.0.0, []) _ p.2 refl) in
      subst (λ (q : Segments × List ℕ). Front (behind_lengths read limit ns) b q.0 q.1) (ok_is _ r t.2) (p.0, p.1, reads)

  first_fronts : (w b : List ℕ) (r : Segments × List ℕ) → behind_first read read limit w b ≡ Ok r → Front (behind_first read read limit w) b r.0 r.1
  first_fronts [] b r e = absurd cc
  first_fronts (n ∷ l) b r e =
      let g = bind_ok (guard (ltb n 511) InvalidNumberOfSegments) _ r e in
      let t = bind_ok (read ((n + 1) / 2) b) _ r g.2 in
      let ns = take (n + 1) (l ++ halves t.0.0) in
      let p = fronts ((n + 1) / 2) b t.0 t.1 in
      let q = lengths_fronts ns t.0.1 r t.2 in
      let reads = ok_then (guard (ltb n 511) InvalidNumberOfSegments) _ g.0 (Ok (r.0, [])) g.1 (ok_then (read ((n + 1) / 2) (p.0 ++ q.0)) _ (t.0.0, q.0) _ (more ((n + 1) / 2) p.0 (t.0.0, []) q.0 p.2) q.2) in
      (p.0 ++ q.0, joined b t.0.1 r.1 p.0 q.0 p.1 q.1, reads)

  message_fronts : (b : List ℕ) (r : Segments × List ℕ) → message_by read read limit b ≡ Ok r → Front (message_by read read limit) b r.0 r.1
  message_fronts b r e =
      let t = bind_ok (read 1 b) _ r e in
      let p = fronts 1 b t.0 t.1 in
      let q = first_fronts (halves t.0.0) t.0.1 r t.2 in
      let reads = ok_then (read 1 (p.0 ++ q.0)) _ (t.0.0, q.0) (Ok (r.0, [])) (more 1 p.0 (t.0.0, []) q.0 p.2) q.2 in
      (p.0 ++ q.0, joined b t.0.1 r.1 p.0 q.0 p.1 q.1, reads)

-- THE LAWS
pub framed_front : (limit : Option ℕ) (b : List ℕ) (s : Segments) (rest : List ℕ) → frame_at limit b ≡ Ok (s, rest) → (x : List ℕ) × (b ≡ x ++ rest) × Frames limit x s
unfolding message_at
framed_front limit b s rest e = message_fronts plain_words plain_words_more plain_fronts limit b (s, rest) e

pub packed_front : (limit : Option ℕ) (b : List ℕ) (s : Segments) (rest : List ℕ) → packed_at limit b ≡ Ok (s, rest) → (x : List ℕ) × (b ≡ x ++ rest) × Packs limit x s
unfolding message_at
packed_front limit b s rest e = message_fronts unpacked unpacked_more unpacked_fronts limit b (s, rest) e
