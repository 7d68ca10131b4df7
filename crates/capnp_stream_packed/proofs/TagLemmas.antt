-- The bytes that a tag marks.
use Rattle.std.proofs.Common.{◌≡◌, ◌≢◌, ℕ, zero, suc, ◌+◌, ◌-◌, ◌*◌, ◌/◌, ◌%◌, ◌^◌, ◌<◌, ◌≤◌, Bool, true, false, cond, eqb, leb, List, [], ◌∷◌, ◌++◌, length, take, drop, get_or, map, replicate, refl, sym, ap, ◌∙◌, arith}
use Rattle.std.specs.List.{range_with_len}
use Rattle.std.specs.Int.RustNames.{count_ones}
use Rattle.std.proofs.lemmas.List.FromFn.{get_or-map-range_with_len}
use Rattle.std.proofs.lemmas.Simd.{pick_l_whole}
use Rattle.std.specs.Simd.Lanes.{pick_l}
use Rattle.std.proofs.Common.{Result, Ok, add-one, drop-cons, not, take_at}
use Rattle.std.specs.Int.{w8, w64, from_le_bytes, to_le_bytes}
use Rattle.std.specs.Simd.Lanes.{mask_l, top, zip2}
use Rattle.std.proofs.lemmas.Simd.{bitmask_splat}
use Rattle.std.proofs.lemmas.List.{length-map, map-append}
use Rattle.capnp_model.specs.Bytes.{AreBytes}
use Rattle.capnp_stream_packed.proofs.RunLemmas.{bytes-again}
use Rattle.capnp_model.specs.Kinds.{Kind}
use Rattle.std.proofs.lemmas.List.{get_or_past}
use Rattle.capnp_model.specs.Chains.{◌and_then◌}
use Rattle.capnp_model.specs.Packing.{byte_at, spread, byte_tag, nonzero, zero_bytes}
use Rattle.capnp_model.proofs.lemmas.Chaining.{ok_then}
use Rattle.capnp_stream_packed.specs.Parts.{tagged}
use Rattle.capnp_stream_packed.specs.Tags.{marks, sources, places, eight_places}

-- ---- lanes

padded : (bytes : List ℕ) (k r : ℕ) → get_or (bytes ++ replicate k 0) r 0 ≡ get_or bytes r 0
padded [] zero r = refl
padded [] (suc k) zero = refl
padded [] (suc k) (suc r) = padded [] k r
padded (b ∷ bytes) k zero = refl
padded (b ∷ bytes) k (suc r) = padded bytes k r

-- byte r of eight bytes, and zero behind them
pub lane : (bytes : List ℕ) (r : ℕ) → length bytes ≡ 8 → r < 9 → cond (leb 128 r) 0 (get_or (pick_l 0 bytes (range_with_len 0 8) ++ replicate 8 0) (0 + r) 0) ≡ get_or bytes r 0
lane bytes r eight small =
    let low : leb 128 r ≡ false = search arith in
    let none : 0 + r ≡ r = omega arith in
    ap (λ (t : Bool). cond t 0 (get_or (pick_l 0 bytes (range_with_len 0 8) ++ replicate 8 0) (0 + r) 0)) low
    ∙ ap (λ (i : ℕ). get_or (pick_l 0 bytes (range_with_len 0 8) ++ replicate 8 0) i 0) none
    ∙ ap (λ (l : List ℕ). get_or (l ++ replicate 8 0) r 0) (pick_l_whole 0 bytes 8 eight) ∙ padded bytes 8 r

pub eight_alike : (a b c d e f g h i j k l m n o p : ℕ) → a ≡ i → b ≡ j → c ≡ k → d ≡ l → e ≡ m → f ≡ n → g ≡ o → h ≡ p
    → ◌≡◌ {A = List ℕ} (a ∷ b ∷ c ∷ d ∷ e ∷ f ∷ g ∷ h ∷ []) (i ∷ j ∷ k ∷ l ∷ m ∷ n ∷ o ∷ p ∷ [])
eight_alike a b c d e f g h i j k l m n o p ea eb ec ed ee ef eg eh = cc

-- ---- how many bytes

pub ones-marks : (t : ℕ) → t < 256 → count_ones t ≡ marks 8 t
unfolding marks count_ones
ones-marks t small =
    let rows : map count_ones (range_with_len 0 256) ≡ map (marks 8) (range_with_len 0 256) = refl in
    sym (get_or-map-range_with_len count_ones 0 256 t t 0 small (omega arith)) ∙ ap (λ (l : List ℕ). get_or l t 0) rows ∙ get_or-map-range_with_len (marks 8) 0 256 t t 0 small (omega arith)

pub marks-most : (n t : ℕ) → marks n t ≤ n
unfolding marks
marks-most zero t = omega arith
marks-most (suc n) t = let rest = marks-most n (t / 2) in omega arith

-- ---- the bytes behind a tag

sources-small : (n t k i : ℕ) → k + n ≤ 8 → get_or (sources n t k) i 0 < 9
unfolding sources
sources-small zero t k i most = omega arith
sources-small (suc n) t k zero most = by (eqb (t % 2) 0)
  where
    by : (c : Bool) → cond c 8 k < 9
    by true = omega arith
    by false = omega arith
sources-small (suc n) t k (suc i) most = sources-small n (t / 2) (k + t % 2) i (omega arith)

pub row-small : (tag i : ℕ) → get_or (sources 8 tag 0) i 0 < 9
row-small tag i = sources-small 8 tag 0 i (omega arith)

abbrev pub byte_of : List ℕ → ℕ → ℕ
byte_of bytes i = get_or bytes i 0

abbrev joined : ℕ → List ℕ × List ℕ → Result (List ℕ × List ℕ) Kind
joined b bs = Ok (b ∷ bs.0, bs.1)

abbrev then_spread : ℕ → ℕ → ℕ × List ℕ → Result (List ℕ × List ℕ) Kind
then_spread n t b = spread n t b.1 and_then joined b.0

-- one byte of a word, marked or not, in front of those that the rest of the tag marks
byte-step : (m n t k : ℕ) (bytes more : List ℕ) → m < 2 → length bytes ≡ 8 → k < 8
    → ((j : ℕ) → j ≤ k + 1 → spread n t (take (marks n t) (drop j bytes) ++ more) ≡ Ok (map (byte_of bytes) (sources n t j), more))
    → (byte_at m (take (m + marks n t) (drop k bytes) ++ more) and_then then_spread n t) ≡ Ok (byte_of bytes (cond (eqb m 0) 8 k) ∷ map (byte_of bytes) (sources n t (k + m)), more)
byte-step zero n t k bytes more small eight below rest =
    let none : byte_of bytes 8 ≡ 0 = get_or_past bytes 8 0 (omega arith) in
    let same : k + 0 ≡ k = omega arith in
    let count : 0 + marks n t ≡ marks n t = omega arith in
    ap (λ (c : ℕ). byte_at 0 (take c (drop k bytes) ++ more) and_then then_spread n t) count
    ∙ ok_then (spread n t (take (marks n t) (drop k bytes) ++ more)) (joined 0) _ _ (rest k (omega arith)) (rw (none, same) refl)
byte-step (suc zero) n t k bytes more small eight below rest =
    let b = byte_of bytes k in
    let next : drop k bytes ≡ b ∷ drop (k + 1) bytes = rw add-one (drop-cons bytes k 0 (omega arith)) in
    let count : 1 + marks n t ≡ suc (marks n t) = omega arith in
    ap (λ (l : List ℕ). byte_at 1 (take (1 + marks n t) l ++ more) and_then then_spread n t) next
    ∙ ap (λ (c : ℕ). byte_at 1 (take c (b ∷ drop (k + 1) bytes) ++ more) and_then then_spread n t) count
    ∙ ok_then (spread n t (take (marks n t) (drop (k + 1) bytes) ++ more)) (joined b) _ _ (rest (k + 1) (omega arith)) refl
byte-step (suc (suc m)) n t k bytes more small eight below rest = absurd (omega arith)

spread-sources : (n t k : ℕ) (bytes more : List ℕ) → length bytes ≡ 8 → k + n ≤ 8 → spread n t (take (marks n t) (drop k bytes) ++ more) ≡ Ok (map (byte_of bytes) (sources n t k), more)
unfolding sources marks
spread-sources zero t k bytes more eight most = refl
spread-sources (suc n) t k bytes more eight most = byte-step (t % 2) n (t / 2) k bytes more (omega arith) eight (omega arith) (λ j near. spread-sources n (t / 2) j bytes more eight (omega arith))

pub spread-is : (tag : ℕ) (bytes row word : List ℕ) → length bytes ≡ 8 → row ≡ sources 8 tag 0 → word ≡ map (byte_of bytes) row → (more : List ℕ) → tagged tag (take (marks 8 tag) bytes ++ more) ≡ Ok (word, more)
unfolding tagged
spread-is tag bytes row word eight places made more =
    spread-sources 8 tag 0 bytes more eight (omega arith) ∙ ap (λ (w : List ℕ). Ok (w, more)) (sym (made ∙ ap (map (byte_of bytes)) places))

-- ---- the marked bytes of a word

tag-low : (c : Bool) (t : ℕ) → (cond c 0 1 + 2 * t) % 2 ≡ cond c 0 1
tag-low true t = omega arith
tag-low false t = omega arith

tag-high : (c : Bool) (t : ℕ) → (cond c 0 1 + 2 * t) / 2 ≡ t
tag-high true t = omega arith
tag-high false t = omega arith

places-step : (c : Bool) (n t i : ℕ) → places (suc n) (cond c 0 1 + 2 * t) i ≡ cond c (places n t (i + 1)) (i ∷ places n t (i + 1))
unfolding places
places-step true n t i = let low = tag-low true t in let high = tag-high true t in rw (low, high) refl
places-step false n t i = let low = tag-low false t in let high = tag-high false t in rw (low, high) refl

nonzero-step : (c : Bool) (word : List ℕ) (b : ℕ) (bs ps : List ℕ) (i : ℕ) → byte_of word i ≡ b → map (byte_of word) ps ≡ nonzero bs → map (byte_of word) (cond c ps (i ∷ ps)) ≡ cond c (nonzero bs) (b ∷ nonzero bs)
nonzero-step true word b bs ps i here rest = rest
nonzero-step false word b bs ps i here rest = ap (λ (l : List ℕ). byte_of word i ∷ l) rest ∙ ap (λ (x : ℕ). x ∷ nonzero bs) here

places-nonzero : (n i : ℕ) (word ws : List ℕ) → length ws ≡ n → ((j : ℕ) → byte_of word (i + j) ≡ get_or ws j 0) → map (byte_of word) (places n (byte_tag ws) i) ≡ nonzero ws
unfolding places
places-nonzero zero i word [] long at = refl
places-nonzero zero i word (b ∷ bs) long at = absurd (omega arith)
places-nonzero (suc n) i word [] long at = absurd (omega arith)
places-nonzero (suc n) i word (b ∷ bs) long at =
    let here : byte_of word i ≡ b = ap (byte_of word) (omega arith) ∙ at 0 in
    let rest = places-nonzero n (i + 1) word bs (omega arith) (λ j. ap (byte_of word) (omega arith) ∙ at (suc j)) in
    ap (map (byte_of word)) (places-step (eqb b 0) n (byte_tag bs) i) ∙ nonzero-step (eqb b 0) word b bs (places n (byte_tag bs) (i + 1)) i here rest

places-length : (n t i : ℕ) → length (places n t i) ≡ marks n t
unfolding places marks
places-length zero t i = refl
places-length (suc n) t i = by (t % 2) (omega arith) (places-length n (t / 2) (i + 1))
  where
    by : (m : ℕ) → m < 2 → length (places n (t / 2) (i + 1)) ≡ marks n (t / 2) → length (cond (eqb m 0) (places n (t / 2) (i + 1)) (i ∷ places n (t / 2) (i + 1))) ≡ m + marks n (t / 2)
    by zero small rest = rest ∙ omega arith
    by (suc zero) small rest = omega arith
    by (suc (suc m)) small rest = absurd (omega arith)

filled-small : (m j : ℕ) → get_or (replicate m 8) j 0 < 9
filled-small zero j = omega arith
filled-small (suc m) zero = omega arith
filled-small (suc m) (suc j) = filled-small m j

places-small : (n t i m j : ℕ) → i + n ≤ 8 → get_or (places n t i ++ replicate m 8) j 0 < 9
unfolding places
places-small zero t i m j most = filled-small m j
places-small (suc n) t i m j most = by (eqb (t % 2) 0) j (λ k. places-small n (t / 2) (i + 1) m k (omega arith))
  where
    by : (c : Bool) (j : ℕ) → ((k : ℕ) → get_or (places n (t / 2) (i + 1) ++ replicate m 8) k 0 < 9) → get_or (cond c (places n (t / 2) (i + 1)) (i ∷ places n (t / 2) (i + 1)) ++ replicate m 8) j 0 < 9
    by true j rest = rest j
    by false zero rest = omega arith
    by false (suc j) rest = rest j

pub gathers-small : (tag j : ℕ) → get_or (eight_places tag) j 0 < 9
gathers-small tag j = places-small 8 tag 0 (8 - marks 8 tag) j (omega arith)

pub gather-is : (tag : ℕ) (word row bytes : List ℕ) → length word ≡ 8 → tag ≡ byte_tag word → row ≡ eight_places tag → bytes ≡ map (byte_of word) row → take (marks 8 tag) bytes ≡ nonzero word
gather-is tag word row bytes eight is places_are made =
    let front = map (byte_of word) (places 8 tag 0) in
    let long : length front ≡ marks 8 tag = length-map (places 8 tag 0) (byte_of word) ∙ places-length 8 tag 0 in
    let whole : bytes ≡ front ++ map (byte_of word) (replicate (8 - marks 8 tag) 8) = made ∙ ap (map (byte_of word)) places_are ∙ map-append (byte_of word) (places 8 tag 0) (replicate (8 - marks 8 tag) 8) in
    let gathered : map (byte_of word) (places 8 (byte_tag word) 0) ≡ nonzero word = places-nonzero 8 0 word word eight (λ j. ap (byte_of word) (omega arith)) in
    ap (take (marks 8 tag)) whole ∙ take_at front (map (byte_of word) (replicate (8 - marks 8 tag) 8)) (marks 8 tag) long ∙ ap (λ (t : ℕ). map (byte_of word) (places 8 t 0)) is ∙ gathered

-- ---- the tag of a word

not_zero : (c : Bool) → ◌≡◌ {A = ℕ} (cond (not c) 1 0) (cond c 0 1)
not_zero true = refl
not_zero false = refl

mask-tag : (bytes : List ℕ) → mask_l (map (λ (b : ℕ). not (eqb b 0)) bytes) ≡ byte_tag bytes
mask-tag [] = refl
mask-tag (b ∷ bytes) = let rest = mask-tag bytes in let low = not_zero (eqb b 0) in omega arith

pub tag-is : (word : List ℕ) → length word ≡ 8 → mask_l (map (top 7) (zip2 (λ (a b : ℕ). cond (not (eqb a b)) 255 0) word (replicate 8 0))) % 2 ^ 64 ≡ byte_tag word
tag-is word eight = bitmask_splat w8 (λ (a b : ℕ). not (eqb a b)) word 8 0 eight (omega arith) ∙ mask-tag word

tag-zeros : (n : ℕ) (bytes : List ℕ) → length bytes ≡ n → zero_bytes bytes + marks n (byte_tag bytes) ≡ n
unfolding marks
tag-zeros zero [] long = refl
tag-zeros zero (b ∷ bytes) long = absurd (omega arith)
tag-zeros (suc n) [] long = absurd (omega arith)
tag-zeros (suc n) (b ∷ bytes) long = by (eqb b 0) (tag-zeros n bytes (omega arith))
  where
    by : (c : Bool) → zero_bytes bytes + marks n (byte_tag bytes) ≡ n → (cond c 1 0 + zero_bytes bytes) + ((cond c 0 1 + 2 * byte_tag bytes) % 2 + marks n ((cond c 0 1 + 2 * byte_tag bytes) / 2)) ≡ suc n
    by true rest = let low = tag-low true (byte_tag bytes) in let high = ap (marks n) (tag-high true (byte_tag bytes)) in omega arith
    by false rest = let low = tag-low false (byte_tag bytes) in let high = ap (marks n) (tag-high false (byte_tag bytes)) in omega arith

pub dense-is : (word : List ℕ) → length word ≡ 8 → AreBytes word → leb 7 (marks 8 (byte_tag word)) ≡ leb (zero_bytes (to_le_bytes w64 (from_le_bytes w64 word))) 1
dense-is word eight small =
    let sum = tag-zeros 8 word eight in
    let same : leb 7 (marks 8 (byte_tag word)) ≡ leb (zero_bytes word) 1 = grind arith in
    same ∙ ap (λ (bytes : List ℕ). leb (zero_bytes bytes) 1) (sym (bytes-again word eight small))

-- ---- the byte behind those that a tag marks

full-tag : (n t : ℕ) → t < 2 ^ n → marks n t ≡ n → t + 1 ≡ 2 ^ n
unfolding marks
full-tag zero t small all = omega arith
full-tag (suc n) t small all =
    let most = marks-most n (t / 2) in
    let rest = full-tag n (t / 2) (omega arith) (omega arith) in
    omega arith

pub not-full : (t : ℕ) → t < 256 → t ≢ 255 → marks 8 t < 8
not-full t small other = let most = marks-most 8 t in let full = full-tag 8 t small in grind arith

pub byte-shifted : (bytes : List ℕ) (word k m : ℕ) → length bytes ≡ 8 → AreBytes bytes → m < 8 → word ≡ from_le_bytes w64 bytes → k ≡ m → word / 2 ^ (8 * k) % 256 ≡ get_or bytes m 0
byte-shifted bytes word k m eight small below is same = ap (λ (n : ℕ). word / 2 ^ (8 * n) % 256) same ∙ ap (λ (w : ℕ). w / 2 ^ (8 * m) % 256) is ∙ by m below (small 0) (small 1) (small 2) (small 3) (small 4) (small 5) (small 6) (small 7)
  where
    by : (m : ℕ) → m < 8 → get_or bytes 0 0 < 256 → get_or bytes 1 0 < 256 → get_or bytes 2 0 < 256 → get_or bytes 3 0 < 256 → get_or bytes 4 0 < 256 → get_or bytes 5 0 < 256 → get_or bytes 6 0 < 256 → get_or bytes 7 0 < 256
        → from_le_bytes w64 bytes / 2 ^ (8 * m) % 256 ≡ get_or bytes m 0
    by zero below a b c d e f g h = omega arith
    by (suc zero) below a b c d e f g h = omega arith
    by (suc (suc zero)) below a b c d e f g h = omega arith
    by (suc (suc (suc zero))) below a b c d e f g h = omega arith
    by (suc (suc (suc (suc zero)))) below a b c d e f g h = omega arith
    by (suc (suc (suc (suc (suc zero))))) below a b c d e f g h = omega arith
    by (suc (suc (suc (suc (suc (suc zero)))))) below a b c d e f g h = omega arith
    by (suc (suc (suc (suc (suc (suc (suc zero))))))) below a b c d e f g h = omega arith
    by (suc (suc (suc (suc (suc (suc (suc (suc m)))))))) below a b c d e f g h = absurd (omega arith)
