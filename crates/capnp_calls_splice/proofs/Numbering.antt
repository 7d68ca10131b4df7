-- Numbers are put into a struct among words.
use Rattle.std.proofs.Common.{◌≡◌, ℕ, ◌*◌, ◌^◌, ◌<◌, ◌≤◌, List, ◌++◌, length, take, drop, ap, sym, subst, ◌∙◌}
use Rattle.std.specs.Int.{from_le_bytes, w64}
use Rattle.std.proofs.lemmas.List.{length-map}
use Rattle.capnp_model.specs.Sections.{words_of}
use Rattle.capnp_model.specs.Edits.{Cell}
use Rattle.capnp_model.specs.Encoding.{links, bodies}
use Rattle.capnp_model.proofs.lemmas.Numbers.{length-numbers_in}
use Rattle.capnp_wire_canonical.specs.Writes.{words_view, filled}
use Rattle.capnp_calls_splice.specs.DataWords.{AreData}
use Rattle.capnp_calls_splice.specs.Cells.{Frame, StandsIn}
use Rattle.capnp_calls_splice.specs.declared.area.Area.{Area}
use Rattle.capnp_calls_splice.proofs.lemmas.DataWords.{long_as}
use Rattle.capnp_calls_splice.proofs.Segmenting.{part_is, part_put}

-- As many words as the data have.
pub data_long : (area : Area) (f : Frame) (c : Cell) (n m : ℕ) (xs : List (List ℕ)) → StandsIn area f c (filled n xs) → m ≡ area.data_words → length (take m (drop area.at xs)) ≡ area.data_words
data_long area f c n m xs st size =
    let d : ℕ = area.data_words in
    let all = length-numbers_in 64 d c.section in
    sym (length-map (take m (drop area.at xs)) (from_le_bytes w64))
    ∙ ap length (part_is xs n area.at m f.front (words_of d c.section) (links f.behind f.before c.kids ++ (f.middle ++ (bodies c.kids ++ f.back))) st.spelled st.place (all ∙ sym size)) ∙ all

-- The words of the data are those of the cell's section.
pub data_there : (area : Area) (f : Frame) (c : Cell) (n m : ℕ) (xs : List (List ℕ)) → StandsIn area f c (filled n xs) → m ≡ area.data_words → AreData (take m (drop area.at xs)) c.section
data_there area f c n m xs st size =
    let d : ℕ = area.data_words in
    let s : ℕ = c.section in
    let old : List (List ℕ) = take m (drop area.at xs) in
    let r : List ℕ = links f.behind f.before c.kids ++ (f.middle ++ (bodies c.kids ++ f.back)) in
    let all = length-numbers_in 64 d s in
    let part : words_view old ≡ words_of d s = part_is xs n area.at m f.front (words_of d s) r st.spelled st.place (all ∙ sym size) in
    long_as old d s (data_long area f c n m xs st size) st.section part

pub data_put : (area : Area) (f : Frame) (c : Cell) (u n m : ℕ) (xs ys : List (List ℕ)) → StandsIn area f c (filled n xs) → n ≤ length xs → m ≡ area.data_words
    → (AreData (take m (drop area.at xs)) c.section → AreData ys u) → length ys ≡ length (take m (drop area.at xs))
    → StandsIn area f (record { section = u; kids = c.kids }) (filled n (take area.at xs ++ (ys ++ drop m (drop area.at xs))))
data_put area f c u n m xs ys st room size puts same =
    let d : ℕ = area.data_words in
    let s : ℕ = c.section in
    let old : List (List ℕ) = take m (drop area.at xs) in
    let r : List ℕ = links f.behind f.before c.kids ++ (f.middle ++ (bodies c.kids ++ f.back)) in
    let all = length-numbers_in 64 d s in
    let there : AreData old s = data_there area f c n m xs st size in
    let long : length old ≡ d = data_long area f c n m xs st size in
    let now : AreData ys u = puts there in
    let wide : length ys ≡ d = same ∙ long in
    let words : words_view ys ≡ words_of d u = now.words ∙ ap (λ (k : ℕ). words_of k u) wide in
    record {
      place = st.place;
      between = st.between;
      spelled = part_put xs ys n area.at m f.front (words_of d s) r (words_of d u) room st.spelled st.place (all ∙ sym size) words (length-numbers_in 64 d u ∙ sym size);
      section = subst (λ (k : ℕ). u < 2 ^ (64 * k)) wide now.fits;
      pointers = st.pointers;
      each = st.each;
    }
