-- Lists that are made lie whole.
use Rattle.std.proofs.Common.{◌≡◌, ℕ, zero, suc, cond, eqb, ◌+◌, ◌*◌, ◌^◌, ◌<◌, ◌≤◌, true, ap, sym, ◌∙◌, subst, arith}
use Rattle.std.specs.Option.{is_some}
use Rattle.capnp_model.specs.Sections.{words_for}
use Rattle.capnp_model.specs.Segments.{Segments, Place, after, words_at}
use Rattle.capnp_wire_objects.specs.Objects.{AreThere}
use Rattle.capnp_wire_objects.specs.declared.place.Place as code
use Rattle.capnp_units.specs.declared.sizes.ElementSize.{ElementSize}
use Rattle.capnp_units.specs.Sizes.{size_number, data_bits}
use Rattle.capnp_wire.specs.Elements.{step_bits, step_words}
use Rattle.capnp_wire_objects.specs.Places.{place_view}
use Rattle.capnp_copy_arenas.specs.Elements.{IsWhole}
use Rattle.capnp_copy_arenas.specs.Lists.{words_of_list}
use Rattle.capnp_copy_arenas.specs.declared.init.ListPlace.{ListPlace}
use Rattle.capnp_copy_widening.proofs.lemmas.WholeLists.{structs_whole, at_front}
use Rattle.capnp_copy_arenas.proofs.lemmas.Parts.{front_there}
use Rattle.capnp_units.proofs.lemmas.Sizes.{composite_by_number}

-- what a list that lies whole is, by the number of its size
abbrev WholeOf : Segments → code.Place → ℕ → ℕ → ℕ → ℕ → ℕ → Type 0
WholeOf s start z d k n c =
    (AreThere s (after (place_view start) (cond (eqb z 7) 1 0)) (words_for (step_bits z d k * n)) × ((after (place_view start) (cond (eqb z 7) 1 0)).position + step_words z d k * n < 2 ^ 61))
    × (z ≡ 6 → AreThere s (place_view start) n)
    × (z ≡ 7 → AreThere s (place_view start) (1 + c) × (n * (d + k) ≤ c))

whole_by : (s : Segments) (start : code.Place) (z d k n c : ℕ) → z < 7 → AreThere s (place_view start) (words_of_list z n) → WholeOf s start z d k n c
whole_by s start zero d k n c l h = ((at_front s (place_view start) _ h, omega (arith, h.1)), (λ e. absurd (omega (arith, e))), λ e. absurd (omega (arith, e)))
whole_by s start (suc zero) d k n c l h = ((at_front s (place_view start) _ h, omega (arith, h.1)), (λ e. absurd (omega (arith, e))), λ e. absurd (omega (arith, e)))
whole_by s start (suc (suc zero)) d k n c l h = ((at_front s (place_view start) _ h, omega (arith, h.1)), (λ e. absurd (omega (arith, e))), λ e. absurd (omega (arith, e)))
whole_by s start (suc (suc (suc zero))) d k n c l h = ((at_front s (place_view start) _ h, omega (arith, h.1)), (λ e. absurd (omega (arith, e))), λ e. absurd (omega (arith, e)))
whole_by s start (suc (suc (suc (suc zero)))) d k n c l h = ((at_front s (place_view start) _ h, omega (arith, h.1)), (λ e. absurd (omega (arith, e))), λ e. absurd (omega (arith, e)))
whole_by s start (suc (suc (suc (suc (suc zero))))) d k n c l h = ((at_front s (place_view start) _ h, omega (arith, h.1)), (λ e. absurd (omega (arith, e))), λ e. absurd (omega (arith, e)))
whole_by s start (suc (suc (suc (suc (suc (suc zero)))))) d k n c l h =
    let zero_words : 0 ≡ words_for (data_bits 6 * n) = omega arith in
    let front : AreThere s (place_view start) 0 = (front_there s (place_view start) 0 n (omega arith) h.0, omega (arith, h.1)) in
    ((subst (λ (w : ℕ). AreThere s (after (place_view start) 0) w) zero_words (at_front s (place_view start) 0 front), omega (arith, h.1)), (λ e. h), λ e. absurd (omega (arith, e)))
whole_by s start (suc (suc (suc (suc (suc (suc (suc z))))))) d k n c l h = absurd (omega (arith, l))

pub list_whole : (s : Segments) (o : ListPlace) (size : ElementSize) (n : ℕ) → size_number size < 7 → o.size ≡ size → o.count ≡ n → is_some (words_at s (place_view o.start) (words_of_list (size_number size) n)) ≡ true → o.start.position + words_of_list (size_number size) n < 2 ^ 61 → IsWhole s o
list_whole s o size n l es en there near =
    let all = whole_by s o.start (size_number size) o.data_words o.pointers n o.claimed l (there, near) in
    let sized = subst (λ (z : ElementSize). WholeOf s o.start (size_number z) o.data_words o.pointers n o.claimed) (sym es) all in
    subst (λ (m : ℕ). WholeOf s o.start (size_number o.size) o.data_words o.pointers m o.claimed) (sym en) sized

pub struct_list_whole : (s : Segments) (o : ListPlace) (n d k : ℕ) → size_number o.size ≡ 7 → o.claimed ≡ n * (d + k) → o.count ≡ n → o.data_words ≡ d → o.pointers ≡ k → is_some (words_at s (place_view o.start) (1 + o.claimed)) ≡ true → o.start.position + (1 + o.claimed) < 2 ^ 61 → IsWhole s o
struct_list_whole s o n d k seven ec en ed ek there near =
    let many : o.count * (o.data_words + o.pointers) ≡ o.claimed = ap (λ (m : ℕ). m * (o.data_words + o.pointers)) en ∙ ap (λ (w : ℕ). n * (w + o.pointers)) ed ∙ ap (λ (w : ℕ). n * (d + w)) ek ∙ sym ec in
    structs_whole s o (composite_by_number o.size seven) (there, near) (omega (arith, many))
