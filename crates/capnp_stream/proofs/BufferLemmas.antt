-- Segments in the buffer of their message, by their numbers.
use Rattle.std.proofs.Common.{◌≡◌, ℕ, zero, suc, ◌+◌, ◌-◌, ◌*◌, ◌<◌, ◌≤◌, List, [], ◌∷◌, get_or, true, None, Some, refl, sym, ap, subst, ◌∙◌, arith, length, map, take, drop, sum, length-drop}
use Rattle.std.specs.List.{slice_get, slice_range}
use Rattle.std.specs.Option.{option_map}
use Rattle.std.proofs.lemmas.List.{drop-drop, length-map}
use Rattle.std.proofs.lemmas.Option.{slice_get-map, slice_get_past}
use Rattle.std.specs.declared.option.Option.{Option}
use Rattle.capnp_units.specs.Segments.{whole_words, words_in}
use Rattle.capnp_model.specs.Bytes.{words_in_bytes, AreBytes}
use Rattle.capnp_model.specs.Messages.{halves, cut, within}
use Rattle.capnp_model.specs.Spelling.{CanSpell}
use Rattle.capnp_model.proofs.lemmas.WordsInBytes.{words_in_bytes-length}
use Rattle.capnp_stream.specs.Shown.{bytes_in_all}
use Rattle.capnp_stream.specs.Ranges.{ranges_from}
use Rattle.capnp_stream.specs.Flat.{table_lengths, table_bytes, message_bytes, frame_segments, Describes}
use Rattle.capnp_stream.specs.Writing.{AreWritable}
use Rattle.capnp_stream.specs.declared.flat.NoAllocSegmentTableInfo.{NoAllocSegmentTableInfo}
use Rattle.capnp_model.proofs.lemmas.ByteLists.{bytes_behind}
use Rattle.capnp_stream.proofs.lemmas.WordLemmas.{sum-cons, cut-of_joined, writable-joined}
use Rattle.capnp_stream.proofs.SpellLemmas.{lengths-cut, CanSpell-of_cut}
use Rattle.capnp_stream.proofs.FlatLemmas.{table-holds}
use Rattle.capnp_stream.proofs.TableLemmas.{table-short}

length-ranges : (at : ℕ) (ns : List ℕ) → length (ranges_from at ns) ≡ length ns
length-ranges at [] = refl
length-ranges at (n ∷ ns) = ap suc (length-ranges (at + n) ns)

range-there : (at : ℕ) (ns : List ℕ) (id : ℕ) → id < length ns → slice_get (ranges_from at ns) id ≡ Some (at + sum (take id ns), at + sum (take id ns) + get_or ns id 0)
range-there at [] id inside = absurd (omega (arith, inside))
range-there at (n ∷ ns) zero inside = let none : at + 0 ≡ at = omega arith in rw none refl
range-there at (n ∷ ns) (suc id) inside =
    let total : at + n + sum (take id ns) ≡ at + sum (n ∷ take id ns) = omega (arith, sum-cons n (take id ns)) in
    range-there (at + n) ns id (omega (arith, inside)) ∙ ap (λ k. Some (k, k + get_or ns id 0)) total

sum-front : (ns : List ℕ) (id : ℕ) → id < length ns → sum (take id ns) + get_or ns id 0 ≤ sum ns
sum-front [] id inside = absurd (omega (arith, inside))
sum-front (n ∷ ns) zero inside = omega (arith, sum-cons n ns)
sum-front (n ∷ ns) (suc id) inside = omega (arith, sum-cons n ns, sum-cons n (take id ns), sum-front ns id (omega (arith, inside)))

front-front : (n id : ℕ) (xs : List ℕ) → id ≤ n → take id (take n xs) ≡ take id xs
front-front n zero xs fits = refl
front-front zero (suc id) xs fits = absurd (omega (arith, fits))
front-front (suc n) (suc id) [] fits = refl
front-front (suc n) (suc id) (x ∷ xs) fits = ap (λ l. x ∷ l) (front-front n id xs (omega (arith, fits)))

front-item : (n id : ℕ) (xs : List ℕ) → id < n → get_or (take n xs) id 0 ≡ get_or xs id 0
front-item zero id xs inside = absurd (omega (arith, inside))
front-item (suc n) id [] inside = refl
front-item (suc n) zero (x ∷ xs) inside = refl
front-item (suc n) (suc id) (x ∷ xs) inside = front-item n id xs (omega (arith, inside))

pub range-behind : (t a b : ℕ) (xs : List ℕ) → slice_range (drop t xs) a b ≡ slice_range xs (t + a) (t + b)
range-behind t a b xs =
    let width : b - a ≡ t + b - (t + a) = omega arith in
    let at : drop a (drop t xs) ≡ drop (t + a) xs = drop-drop a t xs in
    ap (λ k. take k (drop a (drop t xs))) width ∙ ap (take (t + b - (t + a))) at

-- ---- the segments that a table describes

module _ (n : ℕ) (bytes : List ℕ) (whole : table_bytes n ≤ length bytes) where
  pub segments-count : length (frame_segments n bytes) ≡ n
  segments-count = length-map (ranges_from 0 (table_lengths n bytes)) (λ r. slice_range (drop (table_bytes n) bytes) (8 * r.0) (8 * r.1)) ∙ length-ranges 0 (table_lengths n bytes) ∙ table-holds n bytes whole

  module _ (id : ℕ) where
    pub segment-past : n ≤ id → slice_get (frame_segments n bytes) id ≡ None
    segment-past past = slice_get_past (frame_segments n bytes) id (omega (arith, segments-count))

    module _ (a b : ℕ) (inside : id < n) (before : a ≡ sum (table_lengths id bytes)) (long : b ≡ get_or (drop 1 (halves (whole_words bytes))) id 0) where
      pub segment-ends : a + b ≤ sum (table_lengths n bytes)
      segment-ends =
          let all = drop 1 (halves (whole_words bytes)) in
          omega (arith, before, long, sum-front (table_lengths n bytes) id (omega (arith, table-holds n bytes whole)), ap sum (front-front n id all (omega arith)), front-item n id all inside)

      pub segment-here : slice_get (frame_segments n bytes) id ≡ Some (slice_range bytes (table_bytes n + 8 * a) (table_bytes n + 8 * a + 8 * b))
      segment-here =
          let all = drop 1 (halves (whole_words bytes)) in
          let ns = table_lengths n bytes in
          let part : ℕ × ℕ → List ℕ = λ r. slice_range (drop (table_bytes n) bytes) (8 * r.0) (8 * r.1) in
          let start : 0 + sum (take id ns) ≡ a = omega (arith, ap sum (front-front n id all (omega arith)), before) in
          let size : get_or ns id 0 ≡ b = front-item n id all inside ∙ sym long in
          let range : slice_get (ranges_from 0 ns) id ≡ Some (a, a + b) = range-there 0 ns id (omega (arith, table-holds n bytes whole)) ∙ ap (λ k. Some (k, k + get_or ns id 0)) start ∙ ap (λ k. Some (a, a + k)) size in
          let end : table_bytes n + 8 * (a + b) ≡ table_bytes n + 8 * a + 8 * b = omega arith in
          slice_get-map part (ranges_from 0 ns) id ∙ ap (option_map part) range ∙ ap Some (range-behind (table_bytes n) (8 * a) (8 * (a + b)) bytes ∙ ap (slice_range bytes (table_bytes n + 8 * a)) end)

-- ---- segments that a table describes

module _ (info : NoAllocSegmentTableInfo) (bytes : List ℕ) (d : Describes info bytes) where
  lengths : List ℕ
  lengths = table_lengths info.segments_count bytes

  behind : List ℕ
  behind = drop (table_bytes info.segments_count) bytes

  count : length lengths ≡ info.segments_count
  unfolding lengths
  count = table-holds info.segments_count bytes (omega (arith, d.table, d.fits))

  room : 8 * sum lengths ≤ length behind
  unfolding lengths behind
  room = omega (arith, length-drop (table_bytes info.segments_count) bytes, d.table, d.total, d.fits)

  parts : words_in (frame_segments info.segments_count bytes) ≡ cut lengths (words_in_bytes (sum lengths) behind)
  unfolding lengths behind
  parts = cut-of_joined behind behind (ranges_from 0 lengths) lengths refl refl room

  -- with the table they have so many bytes
  pub described-size : message_bytes (map length (words_in (frame_segments info.segments_count bytes))) ≡ bytes_in_all info
  unfolding lengths behind
  described-size =
      let words = words_in_bytes (sum lengths) behind in
      let sizes : map length (words_in (frame_segments info.segments_count bytes)) ≡ lengths = ap (map length) parts ∙ lengths-cut lengths words (omega (arith, words_in_bytes-length (sum lengths) behind)) in
      let total : message_bytes (map length (words_in (frame_segments info.segments_count bytes))) ≡ message_bytes lengths = ap message_bytes sizes in
      omega (arith, total, ap table_bytes count, d.table, d.total)

  -- they fit into the bytes
  pub described-room : message_bytes (map length (words_in (frame_segments info.segments_count bytes))) ≤ length bytes
  described-room = omega (arith, described-size, d.fits)

  -- they can be written again
  module _ (small : AreBytes bytes) where
    pub described-spells : (limit : Option ℕ) → within (sum (table_lengths info.segments_count bytes)) limit ≡ true → CanSpell limit (words_in (frame_segments info.segments_count bytes))
    unfolding lengths behind
    described-spells limit kept =
        subst (CanSpell limit) (sym parts)
        (CanSpell-of_cut limit lengths behind (omega (arith, count, d.count)) (omega (arith, count, d.few)) (table-short info.segments_count bytes small) kept (bytes_behind (table_bytes info.segments_count) bytes small))

    pub described-writable : AreWritable (frame_segments info.segments_count bytes)
    unfolding lengths behind
    described-writable =
        writable-joined behind behind (ranges_from 0 lengths) lengths refl refl room (table-short info.segments_count bytes small) (omega (arith, count, d.count)) (omega (arith, count, d.few))
