-- A path that ends at an element.
use Rattle.std.proofs.Common.{◌≡◌, ℕ, zero, suc, ◌+◌, ◌*◌, ◌/◌, ◌%◌, ◌^◌, ◌<◌, ◌≤◌, Bool, true, false, ◌-◌, if◌then◌else◌, List, [], ◌∷◌, refl, sym, ◌∙◌, ap, subst, arith}
use Rattle.std.proofs.lemmas.Nat.{pow_pos}
use Rattle.std.proofs.Math.Nat.{mod-lt}
use lib.Pow as pow
use Rattle.capnp_model.specs.Kinds.{Kind, TypeMismatch, ExpectedAListOrBlob}
use Rattle.capnp_model.specs.Sections.{bits_at}
use Rattle.capnp_model.specs.Trees.{Tree, null, structure, Trees, none, ◌▸◌, child, with_child, resized, tree_count}
use Rattle.capnp_model.specs.Schemas.{PlainType, width, Ty, void, plain, text, blob, untyped, interface, struct, list, Shape, shape, plain_slot, Schema}
use Rattle.capnp_model.specs.Readings.{Reading, number, record_as, is_list_of, read, read_child}
use Rattle.capnp_model.specs.Accepted.{Area, bit_area, pointer_area, areas_of}
use Rattle.capnp_model.specs.Calls.{CallValue, enumerant, text_value, blob_value, message, Verb, get, set_to, init, initn, clear, Content, refused_by, bits_of, object, message_root, struct_content, plain_content, value_content, empty_structs, initn_content, element_content}
use Rattle.capnp_model.specs.Steps.{done, reading_after, at_element}
use Rattle.capnp_model.specs.Edits.{Cell, put_in_element}
use Rattle.capnp_model.specs.InKind.{in_kind, child_in_kind}
use Rattle.capnp_model.specs.InKindCalls.{at_value}
use Rattle.capnp_model.specs.NamedPaths.{IsInRange}
use Rattle.capnp_model.specs.CallRuns.{IsGiven}
use Rattle.capnp_model.proofs.lemmas.SoundShapes.{FitsSlot}
use Rattle.capnp_model.proofs.lemmas.FitCalls.{plain_fits}
use Rattle.capnp_model.proofs.lemmas.Stripping.{count-resized}
use Rattle.capnp_model.proofs.lemmas.Bits.{bits_at-with_bits}
use Rattle.capnp_model.proofs.Views.{shape_record-same}
use Rattle.capnp_model.proofs.lemmas.Marks.{view_of}
use Rattle.capnp_model.proofs.lemmas.Paths.{read_child-with_child, done_is, shown_not_done}
use Rattle.capnp_model.proofs.lemmas.KeptCells.{KeptAll, kept_views, child-with_child, child_in_kind-is, shape_in_kind-kept}
use Rattle.capnp_model.proofs.lemmas.ListElements.{HasRoom, ElementRoom, IsElement}
use Rattle.capnp_model.proofs.lemmas.ReachedStructs.{AllInside, IsWithin}
use Rattle.capnp_model.proofs.KindsOfContents.{ContentInKind, initn_kinds, value_kinds, verb_in_kind}

-- ---- what an element is given

-- the content is of the element's kind, and its bits fit
abbrev FitsElement : Content → Ty → Type 0
FitsElement (refused_by k) ty = Unit {0}
FitsElement (bits_of m) void = m ≡ 0
FitsElement (bits_of m) (plain p) = m < 2 ^ width p
FitsElement (bits_of m) ty = ⊥
FitsElement (object t) void = ⊥
FitsElement (object t) (plain p) = ⊥
FitsElement (object (structure w n k)) (struct id) = Unit {0}
FitsElement (object t) (struct id) = ⊥
FitsElement (object t) ty = Unit {0}

pub in_range : (v : CallValue) → IsGiven (set_to v) → IsInRange (set_to v)
in_range (enumerant n) h = h
in_range _ h = tt

fits_as_slot : (p : PlainType) (content : Content) → FitsSlot (plain_slot p 0 0) content → FitsElement content (plain p)
fits_as_slot p (refused_by k) h = tt
fits_as_slot p (bits_of m) h = h.0
fits_as_slot p (object t) h = absurd h

struct_element : (t : Tree) (id : ℕ) → FitsElement (struct_content t) (struct id)
struct_element (structure w n k) id = tt
struct_element null id = tt
struct_element _ id = tt

list_element : (b : Bool) (t : Tree) (ty : Ty) → FitsElement (if b then object t else refused_by TypeMismatch) (list ty)
list_element true null ty = tt
list_element true _ ty = tt
list_element false t ty = tt

value_element : (v : CallValue) (ty : Ty) → IsGiven (set_to v) → FitsElement (value_content v ty) ty
value_element v void h = refl
value_element v (plain p) h = fits_as_slot p (plain_content p v) (plain_fits p v 0 0 (in_range v h) (pow_pos (width p)))
value_element (text_value bs) text h = tt
value_element _ text h = tt
value_element (blob_value bs) blob h = tt
value_element _ blob h = tt
value_element (message t) (struct id) h = struct_element (message_root t) id
value_element _ (struct id) h = tt
value_element (message t) (list ty) h = list_element (is_list_of t ty) t ty
value_element _ (list ty) h = tt
value_element (text_value bs) untyped h = tt
value_element (blob_value bs) untyped h = tt
value_element (message null) untyped h = tt
value_element (message _) untyped h = tt
value_element _ untyped h = tt
value_element v interface h = tt

initn_element : (s : Schema) (n : ℕ) (ty : Ty) (k : Kind) → FitsElement (initn_content s n ty k) ty
initn_element s n text k = tt
initn_element s n blob k = tt
initn_element s n (list void) k = tt
initn_element s n (list (struct id)) k = by (s.shape_of id)
  where
    by : (g : Shape) → FitsElement (object (empty_structs g n)) (list (struct id))
    by (shape nid w p u fs) = tt
initn_element s n (list _) k = tt
initn_element s n _ k = tt

pub element_fits : (s : Schema) (verb : Verb) (ty : Ty) → IsGiven verb → FitsElement (element_content s verb ty) ty
element_fits s get ty h = tt
element_fits s init ty h = tt
element_fits s clear ty h = tt
element_fits s (set_to v) untyped h = tt
element_fits s (set_to v) interface h = tt
element_fits s (set_to v) void h = value_element v void h
element_fits s (set_to v) (plain p) h = value_element v (plain p) h
element_fits s (set_to v) text h = value_element v text h
element_fits s (set_to v) blob h = value_element v blob h
element_fits s (set_to v) (struct id) h = value_element v (struct id) h
element_fits s (set_to v) (list ty) h = value_element v (list ty) h
element_fits s (initn n) untyped h = tt
element_fits s (initn n) void h = initn_element s n void ExpectedAListOrBlob
element_fits s (initn n) (plain p) h = initn_element s n (plain p) ExpectedAListOrBlob
element_fits s (initn n) text h = initn_element s n text ExpectedAListOrBlob
element_fits s (initn n) blob h = initn_element s n blob ExpectedAListOrBlob
element_fits s (initn n) interface h = initn_element s n interface ExpectedAListOrBlob
element_fits s (initn n) (struct id) h = initn_element s n (struct id) ExpectedAListOrBlob
element_fits s (initn n) (list ty) h = initn_element s n (list ty) ExpectedAListOrBlob

pub element_content_kinds : (s : Schema) (verb : Verb) (ty : Ty) → verb_in_kind s verb (at_value ty) ≡ true → ContentInKind s ty (element_content s verb ty)
element_content_kinds s get ty h = tt
element_content_kinds s init ty h = tt
element_content_kinds s clear ty h = tt
element_content_kinds s (set_to v) untyped h = tt
element_content_kinds s (set_to v) interface h = tt
element_content_kinds s (set_to v) void h = value_kinds s v void h
element_content_kinds s (set_to v) (plain p) h = value_kinds s v (plain p) h
element_content_kinds s (set_to v) text h = value_kinds s v text h
element_content_kinds s (set_to v) blob h = value_kinds s v blob h
element_content_kinds s (set_to v) (struct id) h = value_kinds s v (struct id) h
element_content_kinds s (set_to v) (list ty) h = value_kinds s v (list ty) h
element_content_kinds s (initn n) untyped h = tt
element_content_kinds s (initn n) void h = initn_kinds s n void ExpectedAListOrBlob
element_content_kinds s (initn n) (plain p) h = initn_kinds s n (plain p) ExpectedAListOrBlob
element_content_kinds s (initn n) text h = initn_kinds s n text ExpectedAListOrBlob
element_content_kinds s (initn n) blob h = initn_kinds s n blob ExpectedAListOrBlob
element_content_kinds s (initn n) interface h = initn_kinds s n interface ExpectedAListOrBlob
element_content_kinds s (initn n) (struct id) h = initn_kinds s n (struct id) ExpectedAListOrBlob
element_content_kinds s (initn n) (list ty) h = initn_kinds s n (list ty) ExpectedAListOrBlob

-- ---- a struct that is cut to an element's sizes

cut_bits : (a n k section : ℕ) → a + n ≤ k → bits_at a n section ≡ bits_at a n (section % 2 ^ k)
cut_bits a n k section h =
    let e : (k - (a + n)) + (n + a) ≡ k = omega arith in
    let low : section % 2 ^ k % 2 ^ (n + a) ≡ section % 2 ^ (n + a) = subst (λ z. section % 2 ^ z % 2 ^ (n + a) ≡ section % 2 ^ (n + a)) e (pow.mod-mod-pow section (k - (a + n)) (n + a)) in
    sym (sym (pow.field (section % 2 ^ k) n a) ∙ ap (λ z. z / 2 ^ a) low ∙ pow.field section n a)

cut_child : (p : ℕ) (ts : Trees) (i : ℕ) → i < p → child ts i ≡ child (resized p ts) i
cut_child zero ts i h = absurd (omega arith)
cut_child (suc p) none zero h = refl
cut_child (suc p) none (suc i) h = cut_child p none i (omega arith)
cut_child (suc p) (t ▸ ts) zero h = refl
cut_child (suc p) (t ▸ ts) (suc i) h = cut_child p ts i (omega arith)

kept_if_cut : (w p words pointers section : ℕ) (kids : Trees) (ys : List Area) → AllInside w p ys → w ≤ words → p ≤ pointers → KeptAll ys (record { section = section; kids = kids }) (record { section = section % 2 ^ (64 * words); kids = resized pointers kids })
kept_if_cut w p words pointers section kids [] h j k = tt
kept_if_cut w p words pointers section kids (bit_area a n ∷ ys) h j k = let inside = h.0 in (cut_bits a n (64 * words) section (omega arith), kept_if_cut w p words pointers section kids ys h.1 j k)
kept_if_cut w p words pointers section kids (pointer_area i ∷ ys) h j k = let inside = h.0 in (cut_child pointers kids i (omega arith), kept_if_cut w p words pointers section kids ys h.1 j k)

shape_cut : (g : Shape) (words pointers section : ℕ) (kids : Trees) → IsWithin g → HasRoom g words pointers → KeptAll (areas_of g) (record { section = section; kids = kids }) (record { section = section % 2 ^ (64 * words); kids = resized pointers kids })
shape_cut (shape nid w p u fs) words pointers section kids h room = kept_if_cut w p words pointers section kids (areas_of (shape nid w p u fs)) h room.0 room.1

pub cut_words : (words pointers id w section : ℕ) (kids : Trees) (c : Cell) → (put_in_element words pointers (struct id) (object (structure w section kids)) c).section < 2 ^ (64 * words)
cut_words words pointers id w section kids c = mod-lt section (pow_pos (64 * words))

pub cut_pointers : (words pointers id w section : ℕ) (kids : Trees) (c : Cell) → tree_count (put_in_element words pointers (struct id) (object (structure w section kids)) c).kids ≡ pointers
cut_pointers words pointers id w section kids c = count-resized pointers kids

struct_put : (s : Schema) (id words pointers w n : ℕ) (k : Trees) (r : Reading) → HasRoom (s.shape_of id) words pointers → IsWithin (s.shape_of id) → in_kind s (structure w n k) (struct id) ≡ true → read s (structure w n k) (struct id) ≡ r
    → IsElement s (struct id) (record { section = n % 2 ^ (64 * words); kids = resized pointers k }) r
unfolding read in_kind
struct_put s id words pointers w n k r room inside kind h =
    let from : Cell = record { section = n; kids = k } in
    let to : Cell = record { section = n % 2 ^ (64 * words); kids = resized pointers k } in
    let kept = shape_cut (s.shape_of id) words pointers n k inside room in
    record {
      reads = ap record_as (sym (shape_record-same (s.shape_of id) (view_of s from) (view_of s to) (kept_views s (areas_of (s.shape_of id)) from to kept))) ∙ h;
      kinds = sym (shape_in_kind-kept s (s.shape_of id) from to kept) ∙ kind;
    }

pub pointer_put : (s : Schema) (ty : Ty) (c : Cell) (t : Tree) (r : Reading) → in_kind s t ty ≡ true → read s t ty ≡ r → (read_child s (with_child c.kids 0 t) 0 ty ≡ r) × (child_in_kind s (with_child c.kids 0 t) 0 ty ≡ true)
pointer_put s ty c t r kind h = (read_child-with_child s c.kids 0 t ty ∙ h, child_in_kind-is s (with_child c.kids 0 t) 0 ty ∙ ap (λ z. in_kind s z ty) (child-with_child c.kids 0 t) ∙ kind)

-- what is put into an element
pub put_law : (s : Schema) (ty : Ty) (words pointers : ℕ) (c : Cell) (content : Content) (r : Reading) → ElementRoom s ty words pointers → ((id : ℕ) → ty ≡ struct id → IsWithin (s.shape_of id))
    → FitsElement content ty → ContentInKind s ty content → reading_after s ty content ≡ done r → IsElement s ty (put_in_element words pointers ty content c) r
put_law s ty words pointers c (refused_by k) r room within fits kind h = absurd (cc h)
put_law s void words pointers c (bits_of m) r room within fits kind h = record { reads = ap number (sym fits) ∙ done_is _ _ h; kinds = refl }
put_law s (plain p) words pointers c (bits_of m) r room within fits kind h = record { reads = ap number (bits_at-with_bits 0 (width p) m c.section fits) ∙ done_is _ _ h; kinds = refl }
put_law s _ words pointers c (bits_of m) r room within fits kind h = absurd fits
put_law s void words pointers c (object t) r room within fits kind h = absurd fits
put_law s (plain p) words pointers c (object t) r room within fits kind h = absurd fits
put_law s (struct id) words pointers c (object (structure w n k)) r room within fits kind h = struct_put s id words pointers w n k r room (within id refl) kind (done_is _ _ h)
put_law s (struct id) words pointers c (object null) r room within fits kind h = absurd fits
put_law s (struct id) words pointers c (object _) r room within fits kind h = absurd fits
put_law s text words pointers c (object t) r room within fits kind h = let d = pointer_put s text c t r kind (done_is _ _ h) in record { reads = d.0; kinds = d.1 }
put_law s blob words pointers c (object t) r room within fits kind h = let d = pointer_put s blob c t r kind (done_is _ _ h) in record { reads = d.0; kinds = d.1 }
put_law s untyped words pointers c (object t) r room within fits kind h = let d = pointer_put s untyped c t r kind (done_is _ _ h) in record { reads = d.0; kinds = d.1 }
put_law s interface words pointers c (object t) r room within fits kind h = let d = pointer_put s interface c t r kind (done_is _ _ h) in record { reads = d.0; kinds = d.1 }
put_law s (list e) words pointers c (object t) r room within fits kind h = let d = pointer_put s (list e) c t r kind (done_is _ _ h) in record { reads = d.0; kinds = d.1 }

pub element_after : (s : Schema) (verb : Verb) (ty : Ty) (x r : Reading) → at_element s verb ty x ≡ done r → reading_after s ty (element_content s verb ty) ≡ done r
element_after s get ty x r h = absurd (shown_not_done _ x r h)
element_after s (set_to v) ty x r h = h
element_after s init ty x r h = h
element_after s (initn n) ty x r h = h
element_after s clear ty x r h = h
