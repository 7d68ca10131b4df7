-- The bytes of words.
use Rattle.std.proofs.Common.{◌≡◌, ℕ, suc, ◌*◌, ◌/◌, ◌<◌, List, [], ◌∷◌, ◌++◌, length, drop, get_or, refl, ap, sym, ◌∙◌, arith}
use Rattle.std.specs.List.{flat_map}
use Rattle.std.specs.Simd.{first_chunks}
use Rattle.std.proofs.lemmas.List.{length-append, take_at, drop_at}
use Rattle.capnp_units.specs.Segments.{whole_words}
use Rattle.capnp_wire_canonical.specs.Writes.{words_view}
use Rattle.capnp_wire_objects.proofs.lemmas.Words.{chunks_are_words}

-- Each word has eight bytes.
abbrev pub Eights : List (List ℕ) → Type 0
Eights ws = (i : ℕ) → i < length ws → length (get_or ws i []) ≡ 8

long : (ws : List (List ℕ)) → Eights ws → length (flat_map (λ w. w) ws) ≡ 8 * length ws
long [] h = refl
long (w ∷ ws) h =
    let first : length w ≡ 8 = h 0 (omega arith) in
    let rest = long ws (λ i less. h (suc i) (omega arith)) in
    omega (arith, length-append w (flat_map (λ w. w) ws), first, rest)

chunks : (ws : List (List ℕ)) → Eights ws → first_chunks 8 (length ws) (flat_map (λ w. w) ws) ≡ ws
chunks [] h = refl
chunks (w ∷ ws) h =
    let first : length w ≡ 8 = h 0 (omega arith) in
    let rest = flat_map (λ w. w) ws in
    ap (λ (x : List ℕ). x ∷ first_chunks 8 (length ws) (drop 8 (w ++ rest))) (take_at w rest 8 first)
    ∙ ap (λ (x : List ℕ). w ∷ first_chunks 8 (length ws) x) (drop_at w rest 8 first)
    ∙ ap (λ (x : List (List ℕ)). w ∷ x) (chunks ws (λ i less. h (suc i) (omega arith)))

pub flat_words : (ws : List (List ℕ)) → Eights ws → whole_words (flat_map (λ w. w) ws) ≡ words_view ws
flat_words ws h =
    let bytes = flat_map (λ w. w) ws in
    let count : length bytes / 8 ≡ length ws = omega (arith, long ws h) in
    sym (chunks_are_words (length bytes / 8) bytes) ∙ ap (λ (n : ℕ). words_view (first_chunks 8 n bytes)) count ∙ ap words_view (chunks ws h)
