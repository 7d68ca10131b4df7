-- Structs that get more words of data, or fewer.
use Rattle.std.proofs.Common.{◌≡◌, ℕ, zero, suc, ◌+◌, ◌-◌, ◌*◌, ◌%◌, ◌^◌, ◌<◌, ◌≤◌, List, [], ◌∷◌, ◌++◌, length, take, drop, replicate, refl, ap, sym, ◌∙◌, append_assoc, length-append, arith}
use Rattle.std.proofs.Math.Nat.{mod-eq_of_lt, div-eq_of_lt}
use Rattle.std.proofs.lemmas.List.{append-nil, replicate_more, length-replicate, take-append-drop}
use Rattle.std.proofs.lemmas.Nat.{pow_pos}
use Rattle.capnp_model.specs.Sections.{bits_at, words_of}
use Rattle.capnp_model.specs.Encoding.{links, bodies}
use Rattle.capnp_model.specs.Edits.{Cell}
use Rattle.capnp_model.proofs.lemmas.Numbers.{length-numbers_in, wider}
use Rattle.capnp_model.proofs.lemmas.SectionElements.{numbers_in-more}
use Rattle.capnp_wire_canonical.specs.Writes.{words_view, filled}
use Rattle.capnp_calls_splice.specs.Cells.{Frame, StandsIn, with_data_words}
use Rattle.capnp_calls_splice.specs.declared.area.Area.{Area}
use Rattle.capnp_calls_splice.proofs.Segmenting.{run_put}

-- Words behind those that a section needs are zeros.
words_more : (d m s : ℕ) → s < 2 ^ (64 * d) → words_of (d + m) s ≡ words_of d s ++ replicate m 0
words_more d zero s small = ap (λ (n : ℕ). words_of n s) none ∙ sym (append-nil (words_of d s))
  where
    none : d + 0 ≡ d
    none = omega arith
words_more d (suc m) s small =
    let count : d + suc m ≡ suc (d + m) = omega arith in
    let fits : s < 2 ^ (64 * (d + m)) = wider s (64 * d) (64 * (d + m)) (omega arith) small in
    let last : bits_at (64 * (d + m)) 64 s ≡ 0 = mod_of_none (64 * (d + m)) fits in
    let more : replicate m 0 ++ 0 ∷ [] ≡ replicate (suc m) 0 = replicate_more m 0 ∙ ap (λ (n : ℕ). replicate n 0) one_more in
    ap (λ (n : ℕ). words_of n s) count ∙ numbers_in-more 64 (d + m) s ∙ ap (λ (w : ℕ). words_of (d + m) s ++ w ∷ []) last
    ∙ ap (λ (ws : List ℕ). ws ++ 0 ∷ []) (words_more d m s small) ∙ append_assoc (words_of d s) (replicate m 0) (0 ∷ []) ∙ ap (λ (ws : List ℕ). words_of d s ++ ws) more
  where
    one_more : m + 1 ≡ suc m
    one_more = omega arith

    mod_of_none : (k : ℕ) → s < 2 ^ k → bits_at k 64 s ≡ 0
    mod_of_none k h = ap (λ (n : ℕ). n % 2 ^ 64) (div-eq_of_lt h) ∙ mod-eq_of_lt (pow_pos 64)

wide_words : (d w s : ℕ) → d ≤ w → s < 2 ^ (64 * d) → words_of w s ≡ words_of d s ++ replicate (w - d) 0
wide_words d w s le small = let sum : d + (w - d) ≡ w = omega arith in ap (λ (n : ℕ). words_of n s) (sym sum) ∙ words_more d (w - d) s small

-- What stands behind the data of a cell.
abbrev behind_data : Frame → Cell → List ℕ
behind_data f c = links f.behind f.before c.kids ++ (f.middle ++ (bodies c.kids ++ f.back))

stands_so : (area : Area) (f : Frame) (c : Cell) (w : ℕ) (ws new : List ℕ) → StandsIn area f c ws → c.section < 2 ^ (64 * w) → new ≡ f.front ++ (words_of w c.section ++ behind_data f c) → StandsIn (with_data_words area w) f c new
stands_so area f c w ws new st small is = record { place = st.place; between = st.between; spelled = is; section = small; pointers = st.pointers; each = st.each }

-- Zeros are added behind the data.
pub grown : (area : Area) (f : Frame) (c : Cell) (count w q p : ℕ) (xs moved ys : List (List ℕ)) → StandsIn area f c (filled count xs) → count ≤ length xs → area.data_words ≤ w → c.section < 2 ^ (64 * w)
    → area.at + area.data_words + q ≡ count → area.at + w + q ≤ length xs → moved ≡ take (area.at + w) xs ++ (take q (drop (area.at + area.data_words) xs) ++ drop (area.at + w + q) xs)
    → length ys ≡ w - area.data_words → words_view ys ≡ replicate (w - area.data_words) 0 → p ≡ w - area.data_words
    → StandsIn (with_data_words area w) f c (filled (area.at + w + q) (take (area.at + area.data_words) moved ++ (ys ++ drop p (drop (area.at + area.data_words) moved))))
grown area f c count w q p xs moved ys st room le small sum fits is size zeros same =
    let d : ℕ = area.data_words in
    let s : ℕ = c.section in
    let rest : List ℕ = behind_data f c in
    let x : List ℕ = f.front ++ words_of d s in
    let spelled : filled count xs ≡ x ++ ([] ++ rest) = st.spelled ∙ sym (append_assoc f.front (words_of d s) rest) in
    let begins : length x ≡ area.at + d = length-append f.front (words_of d s) ∙ (let a = st.place in let b = length-numbers_in 64 d s in omega arith) in
    let reach : area.at + d + (w - d) ≡ area.at + w = omega arith in
    let moved_is : moved ≡ take (area.at + d + (w - d)) xs ++ (take q (drop (area.at + d + 0) xs) ++ drop (area.at + d + (w - d) + q) xs) =
    is ∙ ap (λ (k : ℕ). take k xs ++ (take q (drop (area.at + d) xs) ++ drop (k + q) xs)) (sym reach) ∙ ap (λ (k : ℕ). take (area.at + d + (w - d)) xs ++ (take q (drop k xs) ++ drop (area.at + d + (w - d) + q) xs)) none in
    let put = run_put xs moved ys count (area.at + d) 0 (w - d) q p x [] rest room (omega arith) spelled begins refl (omega arith) moved_is size same in
    let words : x ++ (words_view ys ++ rest) ≡ f.front ++ (words_of w s ++ rest) =
    ap (λ (zs : List ℕ). x ++ (zs ++ rest)) zeros ∙ append_assoc f.front (words_of d s) (replicate (w - d) 0 ++ rest)
    ∙ ap (λ (ws : List ℕ). f.front ++ ws) (sym (append_assoc (words_of d s) (replicate (w - d) 0) rest) ∙ ap (λ (ws : List ℕ). ws ++ rest) (sym (wide_words d w s le st.section))) in
    stands_so area f c w (filled count xs) (filled (area.at + w + q) (take (area.at + d) moved ++ (ys ++ drop p (drop (area.at + d) moved)))) st small
    (ap (λ (k : ℕ). filled (k + q) (take (area.at + d) moved ++ (ys ++ drop p (drop (area.at + d) moved)))) (sym reach) ∙ put ∙ words)
  where
    none : area.at + area.data_words ≡ area.at + area.data_words + 0
    none = omega arith

-- Zeros are dropped there.
pub shrunk : (area : Area) (f : Frame) (c : Cell) (count w q : ℕ) (xs moved : List (List ℕ)) → StandsIn area f c (filled count xs) → count ≤ length xs → w ≤ area.data_words → c.section < 2 ^ (64 * w)
    → area.at + area.data_words + q ≡ count → moved ≡ take (area.at + w) xs ++ (take q (drop (area.at + area.data_words) xs) ++ drop (area.at + w + q) xs)
    → StandsIn (with_data_words area w) f c (filled (area.at + w + q) moved)
shrunk area f c count w q xs moved st room le small sum is =
    let d : ℕ = area.data_words in
    let s : ℕ = c.section in
    let rest : List ℕ = behind_data f c in
    let x : List ℕ = f.front ++ words_of w s in
    let spelled : filled count xs ≡ x ++ (replicate (d - w) 0 ++ rest) =
    st.spelled ∙ ap (λ (ws : List ℕ). f.front ++ (ws ++ rest)) (wide_words w d s le small) ∙ ap (λ (ws : List ℕ). f.front ++ ws) (append_assoc (words_of w s) (replicate (d - w) 0) rest)
    ∙ sym (append_assoc f.front (words_of w s) (replicate (d - w) 0 ++ rest)) in
    let begins : length x ≡ area.at + w = length-append f.front (words_of w s) ∙ (let a = st.place in let b = length-numbers_in 64 w s in omega arith) in
    let none : area.at + w + 0 ≡ area.at + w = omega arith in
    let edge : area.at + d ≡ area.at + w + (d - w) = omega arith in
    let moved_is : moved ≡ take (area.at + w + 0) xs ++ (take q (drop (area.at + w + (d - w)) xs) ++ drop (area.at + w + 0 + q) xs) =
    is ∙ ap (λ (k : ℕ). take k xs ++ (take q (drop (area.at + d) xs) ++ drop (k + q) xs)) (sym none) ∙ ap (λ (k : ℕ). take (area.at + w + 0) xs ++ (take q (drop k xs) ++ drop (area.at + w + 0 + q) xs)) edge in
    let put = run_put xs moved [] count (area.at + w) (d - w) 0 q 0 x (replicate (d - w) 0) rest room (omega arith) spelled begins (length-replicate (d - w) 0) (omega arith) moved_is refl refl in
    let whole : take (area.at + w) moved ++ ([] ++ drop 0 (drop (area.at + w) moved)) ≡ moved = take-append-drop (area.at + w) moved in
    stands_so area f c w (filled count xs) (filled (area.at + w + q) moved) st small
    (ap (filled (area.at + w + q)) (sym whole) ∙ ap (λ (k : ℕ). filled (k + q) (take (area.at + w) moved ++ ([] ++ drop 0 (drop (area.at + w) moved)))) (sym none) ∙ put ∙ append_assoc f.front (words_of w s) rest)
