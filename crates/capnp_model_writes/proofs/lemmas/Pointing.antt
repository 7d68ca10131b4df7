-- What the word of a pointer leads to.
use Rattle.std.proofs.Common.{◌≡◌, ℕ, ◌+◌, Some, refl, ◌∙◌, arith, ◌*◌, ◌^◌, ◌<◌, ap, false, Ok, [], ◌∷◌, eqb, Result}
use Rattle.std.proofs.lemmas.Bool.Decides.{nat_tests}
use Rattle.capnp_model.specs.Chains.{◌and_then◌}
use Rattle.capnp_model.specs.Coverage.{span, pad_of, pads_by, pads_at}
use Rattle.capnp_model.specs.Encoding.{struct_pointer, list_pointer}
use Rattle.capnp_model.specs.Kinds.{Kind}
use Rattle.capnp_model.specs.Pointers.{Object, a_struct, a_list, found_at, to_struct, to_list, to_pad, pointer_of, begins, described, Found, found_by}
use Rattle.capnp_model.specs.Sections.{bits_at}
use Rattle.capnp_model.specs.Segments.{Segments, Place, after, words_at, word_at}
use Rattle.capnp_model.proofs.lemmas.Locality.{word_is}
use Rattle.capnp_model.proofs.lemmas.PointerWords.{struct_says, list_says, begins_behind}
use Rattle.capnp_model_writes.specs.NewObjects.{Fits, new_list, New, new_struct, filled_list, new_pointers, new_structs, new_pointer, new_object, far_pointer, IsNamed}
use Rattle.capnp_model_writes.proofs.lemmas.Rows.{after_none}

-- what a word names, where an object begins at what is made of the offset
pub record Names (w offset : ℕ) (make : Place → Object) : Type 0 where
  pub names : (start : ℕ → Result Place Kind) (q : Place) → start offset ≡ Ok q → described start (pointer_of w) ≡ Ok (make q)
  pub no_pad : pad_of (pointer_of w) ≡ []
  pub by_itself : (s : Segments) (p : Place) → found_by s p (pointer_of w) ≡ (described (begins (after p 1)) (pointer_of w) and_then λ o. (let f : Result Found Kind = Ok (record { pads = 0; object = o }) in f))

struct_of : (start : ℕ → Result Place Kind) (o d k : ℕ) (q : Place) → start o ≡ Ok q → described start (to_struct o d k) ≡ Ok (a_struct q d k)
struct_of start o d k q e = rw e refl

list_of : (start : ℕ → Result Place Kind) (o size n : ℕ) (q : Place) → start o ≡ Ok q → described start (to_list o size n) ≡ Ok (a_list q size n)
list_of start o size n q e = rw e refl

pub struct_names : (o d k : ℕ) → o < 2 ^ 30 → d < 2 ^ 16 → k < 2 ^ 16 → Names (struct_pointer o d k) o (λ q. a_struct q d k)
struct_names o d k lo ld lk =
    let says = struct_says o d k lo ld lk in
    record {
      names = λ start q e. ap (described start) says ∙ struct_of start o d k q e;
      no_pad = ap pad_of says;
      by_itself = λ s p. rw says refl;
    }

pub list_names : (o size n : ℕ) → o < 2 ^ 30 → size < 8 → n < 2 ^ 29 → Names (list_pointer o size n) o (λ q. a_list q size n)
list_names o size n lo ls ln =
    let says = list_says o size n lo ls ln in
    record {
      names = λ start q e. ap (described start) says ∙ list_of start o size n q e;
      no_pad = ap pad_of says;
      by_itself = λ s p. rw says refl;
    }

pub new_names : (o : ℕ) (x : New) → o < 2 ^ 30 → Fits x → Names (new_pointer o x) o (λ q. new_object q x)
new_names o (new_struct d k) lo f = struct_names o d k lo f.0 f.1
new_names o (new_list size count) lo f = list_names o size count lo (omega (arith, f.0)) f.1
new_names o (filled_list size count ws) lo f = list_names o size count lo (omega (arith, f.0)) f.1
new_names o (new_pointers count) lo f = list_names o 6 count lo (omega arith) f
new_names o (new_structs count d k) lo f = list_names o 7 (count * (d + k)) lo (omega arith) f.3

pub not_zero : (w : ℕ) → 0 < w → eqb w 0 ≡ false
not_zero w l = grind (arith, nat_tests)

-- a pointer without a pad
pub near_found : (s : Segments) (p q : Place) (w o : ℕ) (make : Place → Object) → Names w o make → word_at s p ≡ Some w → 0 < w → begins (after p 1) o ≡ Ok q → found_at s p ≡ Ok (record { pads = 0; object = make q })
near_found s p q w o make h e l b =
    let nz : eqb w 0 ≡ false = not_zero w l in
    rw (e, nz) (h.by_itself s p ∙ ap (λ (r : Result Object Kind). r and_then λ a. (let f : Result Found Kind = Ok (record { pads = 0; object = a }) in f)) (h.names (begins (after p 1)) q b))

pub near_pads : (s : Segments) (p : Place) (w o : ℕ) (make : Place → Object) → Names w o make → word_at s p ≡ Some w → pads_at s p ≡ []
near_pads s p w o make h e = ap pads_by e ∙ h.no_pad

-- a pointer to a pad of one word
pub far_says : (pad : Place) → IsNamed pad → pointer_of (far_pointer pad) ≡ to_pad 1 pad
far_says pad l =
    let i = pad.segment in
    let j = pad.position in
    let lj = l.position_fits in
    let li = l.segment_fits in
    let kind : bits_at 0 2 (2 + 8 * pad.position + 2 ^ 32 * pad.segment) ≡ 2 = omega (arith, lj, li) in
    let one : bits_at 2 1 (2 + 8 * pad.position + 2 ^ 32 * pad.segment) ≡ 0 = omega (arith, lj, li) in
    let segment : bits_at 32 32 (2 + 8 * pad.position + 2 ^ 32 * pad.segment) ≡ pad.segment = omega (arith, lj, li) in
    let position : bits_at 3 29 (2 + 8 * pad.position + 2 ^ 32 * pad.segment) ≡ pad.position = omega (arith, lj, li) in
    rw (kind, one, segment, position) refl

pub far_found : (s : Segments) (p pad : Place) (w : ℕ) (make : Place → Object) → Names w 0 make → IsNamed pad → word_at s p ≡ Some (far_pointer pad) → word_at s pad ≡ Some w → found_at s p ≡ Ok (record { pads = 1; object = make (after pad 1) })
far_found s p pad w make h l e e' =
    let nz : eqb (far_pointer pad) 0 ≡ false = not_zero (far_pointer pad) (omega arith) in
    let one : words_at s pad 1 ≡ Some (w ∷ []) = word_is s pad w e' in
    let start : begins (after pad 1) 0 ≡ Ok (after pad 1) = begins_behind (after pad 1) 0 (omega arith) ∙ ap (λ (q : Place). let o : Result Place Kind = Ok q in o) (after_none (after pad 1)) in
    rw (e, nz) (ap (found_by s p) (far_says pad l) ∙ by_pad one (h.names (begins (after pad 1)) (after pad 1) start))
  where
    by_pad : words_at s pad 1 ≡ Some (w ∷ []) → described (begins (after pad 1)) (pointer_of w) ≡ Ok (make (after pad 1)) → found_by s p (to_pad 1 pad) ≡ Ok (record { pads = 1; object = make (after pad 1) })
    by_pad one named = rw (one, named) refl

pub far_pads : (s : Segments) (p pad : Place) → IsNamed pad → word_at s p ≡ Some (far_pointer pad) → pads_at s p ≡ span pad 1 ∷ []
far_pads s p pad l e = ap pads_by e ∙ ap pad_of (far_says pad l)
