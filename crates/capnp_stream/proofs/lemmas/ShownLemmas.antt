-- Messages of which a source shows every byte.
use Rattle.std.proofs.Common.{◌≡◌, ℕ, ◌+◌, ◌*◌, ◌/◌, ◌%◌, ◌^◌, ◌<◌, ◌≤◌, ltb, List, [], ◌∷◌, ◌++◌, true, None, Some, IfSome, Result, Ok, refl, sym, ap, ◌∙◌, arith, length, take, drop, sum, length-drop, length-take-le, take-append-drop, take-take}
use Rattle.std.proofs.lemmas.List.{nil_from_length}
use Rattle.std.proofs.Math.Seq.{take-add}
use Rattle.std.specs.Int.{from_le_bytes, w64}
use Rattle.std.specs.declared.option.Option.{Option}
use Rattle.std.specs.Io.KnownBytes.{Keeps, Consumes}
use Rattle.capnp_stream_io.specs.Streams.{Drops}
use Rattle.capnp_units.specs.Segments.{whole_words, words_in}
use Rattle.capnp_model.specs.Kinds as kinds
use Rattle.capnp_model.specs.Kinds.{Kind}
use Rattle.capnp_model.specs.Chains.{guard}
use Rattle.capnp_model.specs.Segments.{Segments}
use Rattle.capnp_model.specs.Messages.{within, plain_words, flat_words, halves, cut, behind_lengths, behind_first, message_at, flat_at}
use Rattle.capnp_model.proofs.lemmas.Chaining.{ok_then, bind_ok}
use Rattle.capnp_model.proofs.lemmas.MessagePrefixes.{ok_else_refused}
use Rattle.capnp_stream.specs.Flat.{table_lengths, table_bytes, frame_segments, Describes}
use Rattle.capnp_stream.specs.Lent.{HoldsMessage}
use Rattle.capnp_stream.specs.Shown.{bytes_in_all, Lays}
use Rattle.capnp_stream.specs.declared.flat.NoAllocSegmentTableInfo.{NoAllocSegmentTableInfo}
use Rattle.capnp_stream.proofs.lemmas.WordLemmas.{from_le_bytes-take, sum-cons}
use Rattle.capnp_stream.proofs.FlatLemmas.{table-grown, message-in, joined-table, flat-whole}

-- ---- what is a message in a slice is one on a stream

module _ (limit : Option ℕ) (r : Segments × List ℕ) where
  lengths-plain : (ns b : List ℕ) → behind_lengths flat_words limit ns b ≡ Ok r → behind_lengths plain_words limit ns b ≡ Ok r
  lengths-plain ns b e =
      let g = bind_ok (guard (within (sum ns) limit) kinds.MessageTooLarge) _ r e in
      let t = bind_ok (flat_words (sum ns) b) _ r g.2 in
      ok_then _ _ g.0 _ g.1 (ok_then (plain_words (sum ns) b) _ t.0 _ (ok_else_refused kinds.MessageEndsPrematurely (plain_words (sum ns) b) t.0 t.1) t.2)

  first-plain : (w b : List ℕ) → behind_first plain_words flat_words limit w b ≡ Ok r → behind_first plain_words plain_words limit w b ≡ Ok r
  first-plain [] b e = absurd cc
  first-plain (n ∷ l) b e =
      let g = bind_ok (guard (ltb n 511) kinds.InvalidNumberOfSegments) _ r e in
      let t = bind_ok (plain_words ((n + 1) / 2) b) _ r g.2 in
      ok_then _ _ g.0 _ g.1 (ok_then _ _ t.0 _ t.1 (lengths-plain (take (n + 1) (l ++ halves t.0.0)) t.0.1 t.2))

  message-plain : (b : List ℕ) → flat_at limit b ≡ Ok r → message_at plain_words limit b ≡ Ok r
  unfolding flat_at message_at
  message-plain [] e = absurd cc
  message-plain (x ∷ xs) e =
      let t = bind_ok (plain_words 1 (x ∷ xs)) _ r e in
      ok_then _ _ t.0 _ t.1 (first-plain (halves t.0.0) t.0.1 t.2)

-- ---- a message and what lies behind it

module _ (info : NoAllocSegmentTableInfo) (bytes : List ℕ) (d : Describes info bytes) where
  size : length (take (bytes_in_all info) bytes) ≡ bytes_in_all info
  size = length-take-le (bytes_in_all info) bytes d.fits

  front-lengths : table_lengths info.segments_count (take (bytes_in_all info) bytes) ≡ table_lengths info.segments_count bytes
  front-lengths =
      let text = take (bytes_in_all info) bytes in
      let rest = drop (bytes_in_all info) bytes in
      sym (table-grown info.segments_count text rest (omega (arith, size, d.table))) ∙ ap (table_lengths info.segments_count) (take-append-drop (bytes_in_all info) bytes)

  front-described : Describes info (take (bytes_in_all info) bytes)
  front-described =
      let word : from_le_bytes w64 (take (bytes_in_all info) bytes) ≡ from_le_bytes w64 bytes = from_le_bytes-take (bytes_in_all info) bytes (omega (arith, d.table)) d.fits in
      record {
        count = d.count ∙ ap (λ w. w % 2 ^ 32 + 1) (sym word);
        few = d.few;
        table = d.table;
        total = d.total ∙ ap (λ l. 8 * sum l) (sym front-lengths);
        fits = omega (arith, size);
      }

  front-segments : words_in (frame_segments info.segments_count (take (bytes_in_all info) bytes)) ≡ words_in (frame_segments info.segments_count bytes)
  front-segments =
      let n = info.segments_count in
      let at = table_bytes n in
      let t = take at bytes in
      let body = drop at bytes in
      let total = 8 * sum (table_lengths n t) in
      let ends : length t ≡ at = length-take-le at bytes (omega (arith, d.table, d.fits)) in
      let same : table_lengths n t ≡ table_lengths n bytes = sym (table-grown n t body (omega (arith, ends))) ∙ ap (table_lengths n) (take-append-drop at bytes) in
      let long : bytes_in_all info ≡ at + total = omega (arith, d.table, d.total, ap sum same) in
      let inside : total ≤ length body = omega (arith, length-drop at bytes, d.fits, long) in
      let front : take (bytes_in_all info) bytes ≡ t ++ take total body = ap (λ k. take k bytes) long ∙ take-add at total bytes in
      let Cut : List ℕ → Segments = λ b. cut (table_lengths n t) (whole_words b) in
      ap (λ l. words_in (frame_segments n l)) front ∙ message-in n t (take total body) ends (omega (arith, length-take-le total body inside))
      ∙ ap Cut (take-take total total body (omega arith)) ∙ sym (message-in n t body ends inside) ∙ ap (λ l. words_in (frame_segments n l)) (take-append-drop at bytes)

-- a message that ends its slice is one on a stream
whole-message : (limit : Option ℕ) (info : NoAllocSegmentTableInfo) (text : List ℕ) → Describes info text → length text ≡ bytes_in_all info → within (sum (table_lengths info.segments_count text)) limit ≡ true
    → message_at plain_words limit text ≡ Ok (words_in (frame_segments info.segments_count text), [])
whole-message limit info text d size kept =
    let word = from_le_bytes w64 text in
    let n = word % 2 ^ 32 + 1 in
    let at = table_bytes n + 8 * sum (table_lengths n text) in
    let total : 8 * sum (table_lengths info.segments_count text) ≡ 8 * sum (table_lengths n text) = ap (λ k. 8 * sum (table_lengths k text)) d.count in
    let ends : at ≡ length text = omega (arith, d.count, d.table, d.total, size, total) in
    let few : word % 2 ^ 32 < 511 = omega (arith, d.count, d.few) in
    let fine : within (sum (table_lengths n text)) limit ≡ true = ap (λ k. within (sum (table_lengths k text)) limit) (sym d.count) ∙ kept in
    let none : drop at text ≡ [] = nil_from_length (drop at text) (omega (arith, length-drop at text, ends)) in
    let flat = flat-whole limit text word refl (omega (arith, ends)) few (omega (arith, ends)) fine (omega (arith, ends)) in
    message-plain limit (words_in (frame_segments n text), drop at text) text flat
    ∙ ap (λ l. Ok (words_in (frame_segments n text), l)) none ∙ ap (λ k. Ok (words_in (frame_segments k text), [])) (sym d.count)

-- ---- what was shown and then taken

-- a beginning of the bytes that were shown
pub shown-taken : (a b c : Option (List ℕ)) (shown : List ℕ) (n : ℕ) → n ≤ length shown → Keeps a b → IfSome a (λ xs. take (length shown) xs ≡ shown) → Drops b c n → Consumes a c (take n shown)
shown-taken None b c shown n within kept front gone = tt
shown-taken (Some x) None c shown n within kept front gone = absurd kept
shown-taken (Some x) (Some y) None shown n within kept front gone = absurd gone
shown-taken (Some x) (Some y) (Some z) shown n within kept front gone =
    let rest : z ≡ drop n x = gone ∙ ap (drop n) kept in
    let begins : take n shown ≡ take n x = ap (take n) (sym front) ∙ take-take n (length shown) x within in
    sym (take-append-drop n x) ∙ ap (λ (l : List ℕ). l ++ drop n x) (sym begins) ∙ ap (λ (l : List ℕ). take n shown ++ l) (sym rest)

-- a message that was shown, copied and taken
pub HoldsMessage-shown : (limit : Option ℕ) (a b c : Option (List ℕ)) (shown bytes : List ℕ) (info : NoAllocSegmentTableInfo) → Lays limit shown bytes info → Keeps a b → IfSome a (λ xs. take (length shown) xs ≡ shown) → Drops b c (bytes_in_all info)
    → HoldsMessage plain_words limit a c bytes info
HoldsMessage-shown limit a b c shown bytes info lays kept front gone =
    let d = lays.described in
    let text = take (bytes_in_all info) bytes in
    let fine : within (sum (table_lengths info.segments_count text)) limit ≡ true = ap (λ l. within (sum l) limit) (front-lengths info bytes d) ∙ lays.kept in
    let says : message_at plain_words limit text ≡ Ok (words_in (frame_segments info.segments_count bytes), []) = whole-message limit info text (front-described info bytes d) (size info bytes d) fine ∙ ap (λ s. Ok (s, [])) (front-segments info bytes d) in
    let f : List ℕ → Result (Segments × List ℕ) Kind = message_at plain_words limit in
    record {
      described = d;
      taken = (take (bytes_in_all info) shown, ap f (sym lays.same) ∙ says, shown-taken a b c shown (bytes_in_all info) lays.there kept front gone);
      kept = lays.kept;
    }

-- ---- a message of one segment

-- a table of one segment tells its length
one-length : (bytes : List ℕ) (word : ℕ) → 8 ≤ length bytes → word ≡ from_le_bytes w64 bytes → table_lengths 1 bytes ≡ word / 2 ^ 32 ∷ []
one-length bytes word long reads =
    let front = take 8 bytes in
    let behind = drop 8 bytes in
    let word_is : word ≡ from_le_bytes w64 front = reads ∙ sym (from_le_bytes-take 8 bytes (omega arith) long) in
    ap (table_lengths 1) (sym (take-append-drop 8 bytes)) ∙ joined-table 0 word front behind (length-take-le 8 bytes long) word_is (omega arith)

pub Describes-one : (bytes : List ℕ) (word words : ℕ) → word ≡ from_le_bytes w64 bytes → word % 2 ^ 32 ≡ 0 → words ≡ word / 2 ^ 32 → 8 + 8 * words ≤ length bytes
    → Describes (record { segments_count = 1; segment_table_length_bytes = 8; total_segments_length_bytes = 8 * words }) bytes
Describes-one bytes word words reads one is there =
    let ns : table_lengths 1 bytes ≡ words ∷ [] = one-length bytes word (omega (arith, there)) reads ∙ ap (λ k. k ∷ []) (sym is) in
    let total : sum (table_lengths 1 bytes) ≡ words = ap sum ns ∙ omega (arith, sum-cons words []) in
    record {
      count = omega (arith, one, ap (λ w. w % 2 ^ 32) reads);
      few = omega arith;
      table = refl;
      total = ap (λ k. 8 * k) (sym total);
      fits = there;
    }

-- ---- a copy

-- a buffer that begins with the bytes of a message has that message
pub Lays-copied : (limit : Option ℕ) (shown bytes : List ℕ) (info : NoAllocSegmentTableInfo) → Describes info shown → bytes_in_all info ≤ length bytes → take (bytes_in_all info) bytes ≡ take (bytes_in_all info) shown
    → within (info.total_segments_length_bytes / 8) limit ≡ true → Lays limit shown bytes info
Lays-copied limit shown bytes info d room same fine =
    let n = info.segments_count in
    let len = bytes_in_all info in
    let f : List ℕ → ℕ = from_le_bytes w64 in
    let text = take len bytes in
    let size : length text ≡ len = length-take-le len bytes room in
    let laid : table_lengths n bytes ≡ table_lengths n text = sym (ap (table_lengths n) (take-append-drop len bytes)) ∙ table-grown n text (drop len bytes) (omega (arith, size, d.table)) in
    let lengths : table_lengths n bytes ≡ table_lengths n shown = laid ∙ ap (table_lengths n) same ∙ front-lengths info shown d in
    let word : f bytes ≡ f shown = sym (from_le_bytes-take len bytes (omega (arith, d.table)) room) ∙ ap f same ∙ from_le_bytes-take len shown (omega (arith, d.table)) d.fits in
    let words : sum (table_lengths n bytes) ≡ info.total_segments_length_bytes / 8 = ap sum lengths ∙ omega (arith, d.total) in
    record {
      described = record {
        count = d.count ∙ ap (λ w. w % 2 ^ 32 + 1) (sym word);
        few = d.few;
        table = d.table;
        total = d.total ∙ ap (λ l. 8 * sum l) (sym lengths);
        fits = room;
      };
      kept = ap (λ k. within k limit) words ∙ fine;
      there = d.fits;
      same = same;
    }
