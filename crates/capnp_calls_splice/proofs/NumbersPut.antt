-- What stands in a struct after numbers are put into its data.
use Rattle.std.proofs.Common.{◌≡◌, ℕ, suc, ◌*◌, ◌^◌, ◌<◌, ◌≤◌, Some, None, List, ◌++◌, length, take, drop, refl, ap, sym, subst, ◌∙◌, arith}
use Rattle.capnp_model.specs.Sections.{needed_words}
use Rattle.capnp_model.specs.Edits.{Cell}
use Rattle.capnp_model.proofs.lemmas.Numbers.{wider, needed_words_le, needed_words_hold, needed_words-again}
use Rattle.capnp_wire_canonical.specs.Writes.{filled}
use Rattle.capnp_calls_splice.specs.DataWords.{put_set, AreData}
use Rattle.capnp_calls_splice.specs.Splices.{PutsNumber, PutsMember}
use Rattle.capnp_calls_splice.specs.Cells.{Frame, StandsIn, with_data_words, HasChanged}
use Rattle.capnp_calls_splice.specs.declared.area.Area.{Area}
use Rattle.capnp_calls_splice.specs.declared.plain.PlainSet.{PlainSet}
use Rattle.capnp_calls_splice.proofs.lemmas.DataWords.{put_lt, needed_still}
use Rattle.capnp_calls_splice.proofs.Numbering.{data_long, data_there, data_put}

abbrev pub with_number : PlainSet → Cell → Cell
with_number p c = record { section = put_set p c.section; kids = c.kids }

-- A number below the last word.
pub low_number : (p : PlainSet) (area : Area) (f : Frame) (c : Cell) (n m : ℕ) (xs ys : List (List ℕ)) → StandsIn area f c (filled n xs) → n ≤ length xs → m ≡ area.data_words → suc p.word < area.data_words
    → ((s : ℕ) → AreData (take m (drop area.at xs)) s → AreData ys (put_set p s)) → length ys ≡ length (take m (drop area.at xs))
    → HasChanged (PutsNumber p) area f c area.data_words (filled n (take area.at xs ++ (ys ++ drop m (drop area.at xs))))
low_number p area f c n m xs ys st room size less puts same =
    record {
      cell = with_number p c;
      changes = record {
        made = refl;
        fits = put_lt area.data_words c.section p.word p.shift p.width p.bits st.section (omega arith) p.inside p.fits;
        most = omega arith;
        least = needed_still p area.data_words c.section less;
      };
      stands = data_put area f c (put_set p c.section) n m xs ys st room size (puts c.section) same;
    }

-- A number in the last word, or behind it: the data get room for it, and then what they need.
pub sized_number : (p : PlainSet) (area : Area) (f : Frame) (c : Cell) (w m k more now : ℕ) (ws : List ℕ) (wide ys put last : List (List ℕ)) → StandsIn area f c ws → w ≡ suc p.word → area.data_words ≤ w → m ≡ w
    → StandsIn (with_data_words area w) f c (filled more wide) → more ≤ length wide
    → ((s : ℕ) → AreData (take m (drop area.at wide)) s → AreData ys (put_set p s)) → length ys ≡ length (take m (drop area.at wide))
    → put ≡ take area.at wide ++ (ys ++ drop m (drop area.at wide))
    → ((s : ℕ) → AreData (take m (drop area.at put)) s → k ≡ needed_words (length (take m (drop area.at put))) s)
    → ((g : Frame) (e : Cell) → StandsIn (with_data_words area w) g e (filled more put) → e.section < 2 ^ (64 * k) → StandsIn (with_data_words area k) g e (filled now last))
    → HasChanged (PutsNumber p) area f c k (filled now last)
sized_number p area f c w m k more now ws wide ys put last st w_is le size grown room puts same is counts shrinks =
    let new : Cell = with_number p c in
    let u : ℕ = put_set p c.section in
    let first : c.section < 2 ^ (64 * w) = wider c.section (64 * area.data_words) (64 * w) (omega arith) st.section in
    let small : u < 2 ^ (64 * w) = put_lt w c.section p.word p.shift p.width p.bits first (omega arith) p.inside p.fits in
    let stands : StandsIn (with_data_words area w) f new (filled more put) =
    subst (λ (xs : List (List ℕ)). StandsIn (with_data_words area w) f new (filled more xs)) (sym is) (data_put (with_data_words area w) f c u more m wide ys grown room size (puts c.section) same) in
    let long : length (take m (drop area.at put)) ≡ w = data_long (with_data_words area w) f new more m put stands size in
    let k_is : k ≡ needed_words w u = counts u (data_there (with_data_words area w) f new more m put stands size) ∙ ap (λ (n : ℕ). needed_words n u) long in
    let fits : u < 2 ^ (64 * k) = subst (λ (n : ℕ). u < 2 ^ (64 * n)) (sym k_is) (needed_words_hold w u small) in
    let less = needed_words_le w u in
    record {
      cell = new;
      changes = record {
        made = refl;
        fits = fits;
        most = omega arith;
        least = λ e. ap (λ (n : ℕ). needed_words n u) k_is ∙ needed_words-again w u small ∙ sym k_is;
      };
      stands = shrinks f new stands fits;
    }

-- ---- members

-- The discriminant alone.
pub marked_alone : (mark : PlainSet) (area : Area) (f : Frame) (c : Cell) (m : ℕ) (ws : List ℕ) → HasChanged (PutsNumber mark) area f c m ws → HasChanged (PutsMember mark None) area f c m ws
marked_alone mark area f c m ws h = record { cell = h.cell; changes = record { words = m; marked = h.cell; first = h.changes; second = (refl, refl) }; stands = h.stands }

-- The discriminant, and then the number.
pub marked_then : (mark p : PlainSet) (area : Area) (f : Frame) (c : Cell) (n m : ℕ) (ws new : List ℕ) → HasChanged (PutsNumber mark) area f c n ws
    → ((g : Frame) (e : Cell) → StandsIn (with_data_words area n) g e ws → HasChanged (PutsNumber p) (with_data_words area n) g e m new) → HasChanged (PutsMember mark (Some p)) area f c m new
marked_then mark p area f c n m ws new h more =
    let then = more f h.cell h.stands in
    record { cell = then.cell; changes = record { words = n; marked = h.cell; first = h.changes; second = then.changes }; stands = then.stands }
