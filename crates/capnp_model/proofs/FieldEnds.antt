-- A path that ends at a field, which may be a group.
use Rattle.std.proofs.Common.{◌≡◌, ℕ, ◌^◌, ◌<◌, true, ◌⊎◌, inl, inr, List, Option, Some, None, refl, sym, ◌∙◌, ap, subst}
use lib.Bits.{bit_xor, xor_lt}
use Rattle.capnp_model.specs.Kinds.{Kind}
use Rattle.capnp_model.specs.Trees.{Tree, null, capability, structure, plain_list, pointer_list, struct_list, with_child}
use Rattle.capnp_model.specs.Schemas.{width, void, plain, Shape, Fields, Body, void_slot, plain_slot, pointer_slot, group_slot, Schema}
use Rattle.capnp_model.specs.Readings.{Reading, number, record_as, Record, whole_words, no_children, shape_record, body_of, record_by_shape}
use Rattle.capnp_model.specs.Accepted.{union_area, areas_of_body, has_no_overlap}
use Rattle.capnp_model.specs.Calls.{whole_number, truth, enumerant, text_value, blob_value, message, Verb, get, set_to, init, initn, clear, Content, refused_by, bits_of, object, message_root, slot_content}
use Rattle.capnp_model.specs.Groups.{group_fault, copied_record}
use Rattle.capnp_model.specs.Steps.{done, reading_after, slot_type, copied_or_refused, set_group_from, at_field}
use Rattle.capnp_model.specs.Edits.{Cell, mark, put_bits, put_child, put_content, put_field, cleared, group_writes, after_writes, from_message}
use Rattle.capnp_model.specs.InKind.{in_kind, fields_in_kind}
use Rattle.capnp_model.specs.InKindCalls.{defaults_in_kind, at_slot, group_source_in_kind}
use Rattle.capnp_model.specs.NamedPaths.{IsInRange, IsSlot}
use Rattle.capnp_model.specs.CallRuns.{IsGiven}
use Rattle.capnp_model.proofs.lemmas.SoundShapes.{HasPlace, Apart, FitsSlot, IsFine}
use Rattle.capnp_model.proofs.lemmas.Bits.{bits_at-with_bits, xor_twice}
use Rattle.capnp_model.proofs.lemmas.Paths.{read_child-with_child, done_is, shown_not_done, after_call, put_is}
use Rattle.capnp_model.proofs.lemmas.KeptCells.{KeptAll-refl, child-with_child, kept_if_put, kept_if_written, child_in_kind-is, IsPut}
use Rattle.capnp_model.proofs.ClearedGroups.{group_cleared}
use Rattle.capnp_model.proofs.CopiedFields.{behind_mark}
use Rattle.capnp_model.proofs.CopiedGroups.{group_copied}
use Rattle.capnp_model.proofs.lemmas.ReachedStructs.{IsSoundBody}
use Rattle.capnp_model.proofs.KindsOfContents.{ContentInKind, plain_kinds, slot_kinds, verb_in_kind}
use Rattle.capnp_model.proofs.ElementEnds.{in_range}

-- ---- the end of a path at a field

slot_leaf : (s : Schema) (u member : Option ℕ) (body : Body) (content : Content) (c : Cell) (r : Reading) → HasPlace u member whole_words → Apart (areas_of_body body) (union_area u)
    → IsSlot body → FitsSlot body content → ContentInKind s (slot_type body) content → reading_after s (slot_type body) content ≡ done r → IsPut s u member body c (put_content body content (mark u member c)) r
unfolding body_of areas_of_body fields_in_kind
slot_leaf s u member body (refused_by k) c r place off slot fits kind h = absurd (cc h)
slot_leaf s u member (void_slot j) (bits_of m) c r place off slot fits kind h =
    let rest = behind_mark s u member (void_slot j) c (mark u member c) place off (λ ys k. KeptAll-refl ys (mark u member c)) in
    record { reads = ap number (sym fits) ∙ done_is _ _ h; keeps = rest.0; marks = rest.1; kinds = refl }
slot_leaf s u member (plain_slot p at d) (bits_of m) c r place off slot fits kind h =
    let small : bit_xor m d < 2 ^ width p = xor_lt (width p) m d fits.0 fits.1 in
    let k = mark u member c in
    let rest = behind_mark s u member (plain_slot p at d) c (put_bits at (width p) (bit_xor m d) k) place off (λ ys h. kept_if_written k at (width p) (bit_xor m d) small ys h.0) in
    record {
      reads = ap (λ b. number (bit_xor b d)) (bits_at-with_bits at (width p) (bit_xor m d) k.section small) ∙ ap number (xor_twice m d) ∙ done_is _ _ h;
      keeps = rest.0;
      marks = rest.1;
      kinds = refl;
    }
slot_leaf s u member (pointer_slot i ty d) (object t) c r place off slot fits kind h =
    let k = mark u member c in
    let rest = behind_mark s u member (pointer_slot i ty d) c (put_child i t k) place off (λ ys h. kept_if_put k i t ys h.0) in
    record {
      reads = read_child-with_child s k.kids i t ty ∙ done_is _ _ h;
      keeps = rest.0;
      marks = rest.1;
      kinds = child_in_kind-is s (with_child k.kids i t) i ty ∙ ap (λ z. in_kind s z ty) (child-with_child k.kids i t) ∙ kind;
    }
slot_leaf s u member (void_slot j) (object t) c r place off slot fits kind h = absurd fits
slot_leaf s u member (plain_slot p at d) (object t) c r place off slot fits kind h = absurd fits
slot_leaf s u member (pointer_slot i ty d) (bits_of m) c r place off slot fits kind h = absurd fits
slot_leaf s u member (group_slot g) content c r place off slot fits kind h = absurd slot

-- a group that is cleared or set
module _ (s : Schema) (R : ℕ → Type 0) (u member : Option ℕ) (g : Shape) (c : Cell) (r : Reading) (place : HasPlace u member whole_words) (off : Apart (areas_of_body (group_slot g)) (union_area u)) (sound : IsSoundBody s R (group_slot g)) where
  clear_leaf : done (record_as (shape_record g whole_words 0 no_children)) ≡ done r → IsPut s u member (group_slot g) c (cleared g (mark u member c)) r
  unfolding body_of areas_of_body fields_in_kind has_no_overlap
  clear_leaf h =
      let k = mark u member c in
      let d = group_cleared s g sound.good sound.apart k in
      let rest = behind_mark s u member (group_slot g) c (cleared g k) place off (λ ys h. d.keeps ys h) in
      record { reads = ap record_as d.reads ∙ done_is _ _ h; keeps = rest.0; marks = rest.1; kinds = d.kinds }

  copied_done : (x : Reading) (r' : Record) (o : Option Kind) → copied_or_refused s g r' o ≡ done x → record_as (copied_record s g r') ≡ x
  copied_done x r' None h = done_is _ _ h
  copied_done x r' (Some k) h = absurd (cc h)

  set_leaf : (t : Tree) → group_source_in_kind s g t ≡ true → set_group_from s g t ≡ done r → IsPut s u member (group_slot g) c (from_message s g t (mark u member c)) r
  unfolding body_of areas_of_body fields_in_kind has_no_overlap record_by_shape defaults_in_kind
  set_leaf (structure w n ts) kind h =
      let from : Cell = record { section = n; kids = ts } in
      let k = mark u member c in
      let d = group_copied s g sound.good sound.apart sound.default_kind from kind (λ x. x) k in
      let c' = after_writes (group_writes s g (λ x. x) from) k in
      let rest = behind_mark s u member (group_slot g) c c' place off (λ ys h. d.keeps ys h) in
      let from_record = record_by_shape s g (structure w n ts) in
      record { reads = ap record_as d.reads ∙ copied_done r from_record (group_fault g from_record) h; keeps = rest.0; marks = rest.1; kinds = d.kinds }
  set_leaf null kind h = absurd (cc h)
  set_leaf (capability i) kind h = absurd (cc h)
  set_leaf (plain_list z n k) kind h = absurd (cc h)
  set_leaf (pointer_list ts) kind h = absurd (cc h)
  set_leaf (struct_list w p es) kind h = absurd (cc h)

  group_leaf : (verb : Verb) (x : Reading) → verb_in_kind s verb (at_slot (group_slot g)) ≡ true → at_field s verb (group_slot g) x ≡ done r → IsPut s u member (group_slot g) c (put_field s verb (group_slot g) (mark u member c)) r
  group_leaf get x kind h = absurd (shown_not_done _ x r h)
  group_leaf init x kind h = clear_leaf h
  group_leaf clear x kind h = clear_leaf h
  group_leaf (initn n) x kind h = absurd (cc h)
  group_leaf (set_to (message t)) x kind h = set_leaf (message_root t) kind h
  group_leaf (set_to (whole_number z)) x kind h = absurd (cc h)
  group_leaf (set_to (truth b)) x kind h = absurd (cc h)
  group_leaf (set_to (enumerant n)) x kind h = absurd (cc h)
  group_leaf (set_to (text_value bs)) x kind h = absurd (cc h)
  group_leaf (set_to (blob_value bs)) x kind h = absurd (cc h)

to_range : (verb : Verb) → IsGiven verb → (verb ≡ get) ⊎ IsInRange verb
to_range get h = inl refl
to_range (set_to v) h = inr (in_range v h)
to_range init h = inr tt
to_range (initn n) h = inr tt
to_range clear h = inr tt

got_nothing : (s : Schema) (body : Body) (x r : Reading) → at_field s get body x ≡ done r → ⊥
got_nothing s body x r h = shown_not_done _ x r h

slot_kinds_of : (s : Schema) (verb : Verb) (body : Body) → IsSlot body → verb_in_kind s verb (at_slot body) ≡ true → ContentInKind s (slot_type body) (slot_content s verb body)
slot_kinds_of s verb (void_slot j) slot h = void_kinds verb
  where
    void_kinds : (verb : Verb) → ContentInKind s void (slot_content s verb (void_slot j))
    void_kinds get = tt
    void_kinds (set_to v) = tt
    void_kinds init = tt
    void_kinds (initn n) = tt
    void_kinds clear = tt
slot_kinds_of s verb (plain_slot p at d) slot h = plain_slot_kinds verb
  where
    plain_slot_kinds : (verb : Verb) → ContentInKind s (plain p) (slot_content s verb (plain_slot p at d))
    plain_slot_kinds get = tt
    plain_slot_kinds (set_to v) = plain_kinds s p v
    plain_slot_kinds init = tt
    plain_slot_kinds (initn n) = tt
    plain_slot_kinds clear = tt
slot_kinds_of s verb (pointer_slot i ty d) slot h = slot_kinds s verb i ty d h
slot_kinds_of s verb (group_slot g) slot h = absurd slot

at_slot_leaf : (s : Schema) (verb : Verb) → IsGiven verb → (n : List ℕ) (u member : Option ℕ) (body : Body) (fs : Fields) (c : Cell) (x r : Reading) → IsFine s n u member body fs → IsSlot body
    → verb_in_kind s verb (at_slot body) ≡ true → at_field s verb body x ≡ done r → IsPut s u member body c (put_field s verb body (mark u member c)) r
at_slot_leaf s verb given n u member body fs c x r fine slot kind h = elim (to_range verb given) [
  | inl e ↦ absurd (got_nothing s body x r (subst (λ z. at_field s z body x ≡ done r) e h))
  | inr range ↦ subst (λ z. IsPut s u member body c z r) (put_is s verb body (mark u member c) slot)
      (slot_leaf s u member body (slot_content s verb body) c r fine.place fine.off_union slot (fine.contents verb range) (slot_kinds_of s verb body slot kind) (after_call s verb body x r slot h))
]

pub field_leaf : (s : Schema) (R : ℕ → Type 0) (verb : Verb) → IsGiven verb → (n : List ℕ) (u member : Option ℕ) (body : Body) (fs : Fields) (c : Cell) (x r : Reading) → IsFine s n u member body fs → IsSoundBody s R body
    → verb_in_kind s verb (at_slot body) ≡ true → at_field s verb body x ≡ done r → IsPut s u member body c (put_field s verb body (mark u member c)) r
field_leaf s R verb given n u member (group_slot g) fs c x r fine sound kind h = group_leaf s R u member g c r fine.place fine.off_union sound verb x kind h
field_leaf s R verb given n u member (void_slot j) fs c x r fine sound kind h = at_slot_leaf s verb given n u member (void_slot j) fs c x r fine tt kind h
field_leaf s R verb given n u member (plain_slot p at d) fs c x r fine sound kind h = at_slot_leaf s verb given n u member (plain_slot p at d) fs c x r fine tt kind h
field_leaf s R verb given n u member (pointer_slot i ty d) fs c x r fine sound kind h = at_slot_leaf s verb given n u member (pointer_slot i ty d) fs c x r fine tt kind h
