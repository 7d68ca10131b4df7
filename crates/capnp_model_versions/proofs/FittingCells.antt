-- Changes of a cell keep what fits.
use Rattle.std.proofs.Common.{◌≡◌, ℕ, ◌+◌, ◌*◌, ◌^◌, ◌<◌, ◌≤◌, Bool, true, false, mod-lt, Option, Some, None, List, [], ◌∷◌, ◌++◌, ◌∙◌, arith}
use Rattle.std.specs.List.{AllByRecursion}
use Rattle.std.proofs.lemmas.Nat.{pow_pos}
use lib.Bits.{bit_xor, xor_lt}
use Rattle.capnp_model.specs.Trees.{Tree, null, capability, structure, plain_list, pointer_list, struct_list, child, tree_count}
use Rattle.capnp_model.specs.Schemas.{PlainType, width, Ty, void, plain, text, blob, untyped, interface, struct, list, Shape, shape, Fields, no_fields, field, Body, void_slot, plain_slot, pointer_slot, group_slot, Schema, default_or_null, words_of_shape, pointers_of_shape}
use Rattle.capnp_model.specs.Readings.{discriminant, whole_words, field_bits}
use Rattle.capnp_model.specs.Calls.{whole_number, truth, enumerant, text_value, blob_value, message, Verb, get, set_to, init, initn, clear, Content, refused_by, bits_of, object, plain_content, struct_content, message_root, slot_content, element_content}
use Rattle.capnp_model.specs.Groups.{empty_tree, source_tree}
use Rattle.capnp_model.specs.Edits.{Cell, Edit, put_bits, put_child, mark, put_content, is_kept, edit_if, cleared, cleared_fields, cleared_body, pointer_writes, has_turn, group_writes, field_writes, body_writes, after_writes, from_message, put_group, put_field, put_in_element}
use Rattle.capnp_model.specs.NamedPaths.{IsInRange}
use Rattle.capnp_model.proofs.lemmas.Bounds.{with_bits_lt}
use Rattle.capnp_model.proofs.lemmas.Stripping.{count-resized}
use Rattle.capnp_model.proofs.lemmas.SoundShapes.{FitsSlot}
use Rattle.capnp_model.proofs.lemmas.FitCalls.{IsGoodSlot, contents_fit}
use Rattle.capnp_model.proofs.lemmas.Counts.{count-with_child}
use Rattle.capnp_model_versions.proofs.SameContents.{IsWrite}
use Rattle.capnp_model_versions.proofs.FittingParts.{Lengths, FitsBy, AllFitBy, SpelledBy, all-with, all-resized, child-fits, UnionFits, MemberFits, ShapeFits, FieldsFit, BodyFits, SchemaFits}
use Rattle.capnp_model_versions.proofs.FittingContents.{ContentFits, blob-fits, text-fits, root-fits, new-list-fits, slot-content}

-- an element has room for its type
abbrev pub Room : Schema → ℕ → ℕ → Ty → Type 0
Room s w q void = Unit {0}
Room s w q (plain p) = width p ≤ 64 * w
Room s w q (struct id) = (words_of_shape (s.shape_of id) ≤ w) × (pointers_of_shape (s.shape_of id) ≤ q)
Room s w q ty = 0 < q

-- what is put into an element is of its type
abbrev pub ElementOk : Ty → Content → Type 0
ElementOk (plain p) (bits_of n) = n < 2 ^ width p
ElementOk (plain p) (object t) = ⊥
ElementOk void (object t) = ⊥
ElementOk (struct id) (object (structure w n ts)) = Unit {0}
ElementOk (struct id) (object t) = ⊥
ElementOk ty x = Unit {0}

pub slot-number : (p : PlainType) (x : Content) → FitsSlot (plain_slot p 0 0) x → ElementOk (plain p) x
slot-number p (refused_by k) h = tt
slot-number p (bits_of n) h = h.0
slot-number p (object t) h = h

pub struct-ok : (id : ℕ) (t : Tree) → ElementOk (struct id) (struct_content t)
struct-ok id null = tt
struct-ok id (capability i) = tt
struct-ok id (structure w n ts) = tt
struct-ok id (plain_list z n x) = tt
struct-ok id (pointer_list ts) = tt
struct-ok id (struct_list w p es) = tt

pub element-ok : (s : Schema) (verb : Verb) → IsInRange verb → (ty : Ty) → ElementOk ty (element_content s verb ty)
element-ok s (set_to (whole_number z)) r void = tt
element-ok s (set_to (whole_number z)) r (plain p) = slot-number p (plain_content p (whole_number z)) (contents_fit s (plain_slot p 0 0) (pow_pos (width p)) (set_to (whole_number z)) r)
element-ok s (set_to (whole_number z)) r text = tt
element-ok s (set_to (whole_number z)) r blob = tt
element-ok s (set_to (whole_number z)) r untyped = tt
element-ok s (set_to (whole_number z)) r interface = tt
element-ok s (set_to (whole_number z)) r (struct id) = tt
element-ok s (set_to (whole_number z)) r (list ty) = tt
element-ok s (set_to (truth b)) r void = tt
element-ok s (set_to (truth b)) r (plain p) = slot-number p (plain_content p (truth b)) (contents_fit s (plain_slot p 0 0) (pow_pos (width p)) (set_to (truth b)) r)
element-ok s (set_to (truth b)) r text = tt
element-ok s (set_to (truth b)) r blob = tt
element-ok s (set_to (truth b)) r untyped = tt
element-ok s (set_to (truth b)) r interface = tt
element-ok s (set_to (truth b)) r (struct id) = tt
element-ok s (set_to (truth b)) r (list ty) = tt
element-ok s (set_to (enumerant n)) r void = tt
element-ok s (set_to (enumerant n)) r (plain p) = slot-number p (plain_content p (enumerant n)) (contents_fit s (plain_slot p 0 0) (pow_pos (width p)) (set_to (enumerant n)) r)
element-ok s (set_to (enumerant n)) r text = tt
element-ok s (set_to (enumerant n)) r blob = tt
element-ok s (set_to (enumerant n)) r untyped = tt
element-ok s (set_to (enumerant n)) r interface = tt
element-ok s (set_to (enumerant n)) r (struct id) = tt
element-ok s (set_to (enumerant n)) r (list ty) = tt
element-ok s (set_to (text_value bs)) r void = tt
element-ok s (set_to (text_value bs)) r (plain p) = slot-number p (plain_content p (text_value bs)) (contents_fit s (plain_slot p 0 0) (pow_pos (width p)) (set_to (text_value bs)) r)
element-ok s (set_to (text_value bs)) r text = tt
element-ok s (set_to (text_value bs)) r blob = tt
element-ok s (set_to (text_value bs)) r untyped = tt
element-ok s (set_to (text_value bs)) r interface = tt
element-ok s (set_to (text_value bs)) r (struct id) = tt
element-ok s (set_to (text_value bs)) r (list ty) = tt
element-ok s (set_to (blob_value bs)) r void = tt
element-ok s (set_to (blob_value bs)) r (plain p) = slot-number p (plain_content p (blob_value bs)) (contents_fit s (plain_slot p 0 0) (pow_pos (width p)) (set_to (blob_value bs)) r)
element-ok s (set_to (blob_value bs)) r text = tt
element-ok s (set_to (blob_value bs)) r blob = tt
element-ok s (set_to (blob_value bs)) r untyped = tt
element-ok s (set_to (blob_value bs)) r interface = tt
element-ok s (set_to (blob_value bs)) r (struct id) = tt
element-ok s (set_to (blob_value bs)) r (list ty) = tt
element-ok s (set_to (message t)) r void = tt
element-ok s (set_to (message t)) r (plain p) = slot-number p (plain_content p (message t)) (contents_fit s (plain_slot p 0 0) (pow_pos (width p)) (set_to (message t)) r)
element-ok s (set_to (message t)) r text = tt
element-ok s (set_to (message t)) r blob = tt
element-ok s (set_to (message t)) r untyped = tt
element-ok s (set_to (message t)) r interface = tt
element-ok s (set_to (message t)) r (struct id) = struct-ok id (message_root t)
element-ok s (set_to (message t)) r (list ty) = tt
element-ok s get r void = absurd r
element-ok s get r (plain p) = absurd r
element-ok s get r text = absurd r
element-ok s get r blob = absurd r
element-ok s get r untyped = absurd r
element-ok s get r interface = absurd r
element-ok s get r (struct id) = absurd r
element-ok s get r (list ty) = absurd r
element-ok s init r void = tt
element-ok s init r (plain p) = tt
element-ok s init r text = tt
element-ok s init r blob = tt
element-ok s init r untyped = tt
element-ok s init r interface = tt
element-ok s init r (struct id) = tt
element-ok s init r (list ty) = tt
element-ok s clear r void = tt
element-ok s clear r (plain p) = tt
element-ok s clear r text = tt
element-ok s clear r blob = tt
element-ok s clear r untyped = tt
element-ok s clear r interface = tt
element-ok s clear r (struct id) = tt
element-ok s clear r (list ty) = tt
element-ok s (initn n) r void = tt
element-ok s (initn n) r (plain p) = tt
element-ok s (initn n) r text = tt
element-ok s (initn n) r blob = tt
element-ok s (initn n) r untyped = tt
element-ok s (initn n) r interface = tt
element-ok s (initn n) r (struct id) = tt
element-ok s (initn n) r (list ty) = tt

module _ (L : Lengths) where
  -- ---- changes of a cell

  -- the section lies within so many words, there are so many children, and their numbers fit
  abbrev pub Good : ℕ → ℕ → Cell → Type 0
  Good w q c = (c.section < 2 ^ (64 * w)) × (tree_count c.kids ≡ q) × AllFitBy L c.kids

  abbrev pub KeepsGood : ℕ → ℕ → Edit → Type 0
  KeepsGood w q f = (c : Cell) → Good w q c → Good w q (f c)

  pub put-bits-keeps : (w q at width value : ℕ) → value < 2 ^ width → at + width ≤ 64 * w → KeepsGood w q (put_bits at width value)
  put-bits-keeps w q at width value small inside c h = (with_bits_lt at width value c.section (64 * w) small inside h.0, h.1, h.2)

  pub put-child-keeps : (w q i : ℕ) (t : Tree) → i < q → FitsBy L t → KeepsGood w q (put_child i t)
  put-child-keeps w q i t less fits c h = let n = h.1 in (h.0, count-with_child c.kids i t (omega arith) ∙ n, all-with L c.kids i t h.2 fits)

  pub mark-keeps : (w q : ℕ) (u m : Option ℕ) → UnionFits w u → MemberFits m → KeepsGood w q (mark u m)
  mark-keeps w q (Some at) (Some k) h g c good = put-bits-keeps w q at 16 k g h c good
  mark-keeps w q (Some at) None h g c good = good
  mark-keeps w q None (Some k) h g c good = good
  mark-keeps w q None None h g c good = good

  pub content-keeps : (w q : ℕ) (b : Body) (x : Content) → BodyFits L w q b → ContentFits L x → FitsSlot b x → KeepsGood w q (put_content b x)
  content-keeps w q (void_slot j) x h f slot c good = good
  content-keeps w q (plain_slot p at d) (refused_by k) h f slot c good = good
  content-keeps w q (plain_slot p at d) (bits_of n) h f slot c good = put-bits-keeps w q at (width p) (bit_xor n d) (xor_lt (width p) n d slot.0 slot.1) h.0 c good
  content-keeps w q (plain_slot p at d) (object t) h f slot c good = good
  content-keeps w q (pointer_slot i ty d) (refused_by k) h f slot c good = good
  content-keeps w q (pointer_slot i ty d) (bits_of n) h f slot c good = good
  content-keeps w q (pointer_slot i ty d) (object t) h f slot c good = put-child-keeps w q i t h.0 f c good
  content-keeps w q (group_slot g) x h f slot c good = good

  pub if-keeps : (w q : ℕ) (b : Bool) (f : Edit) → KeepsGood w q f → KeepsGood w q (edit_if b f)
  if-keeps w q true f h c good = h c good
  if-keeps w q false f h c good = good

  mutual
    unfolding cleared

    pub cleared-keeps : (w q : ℕ) (g : Shape) → ShapeFits L w q g → KeepsGood w q (cleared g)
    cleared-keeps w q (shape nid x p u fs) h c good = cleared-fields w q fs h.1 (mark u (Some 0) c) (mark-keeps w q u (Some 0) h.0 (omega arith) c good)

    pub cleared-fields : (w q : ℕ) (fs : Fields) → FieldsFit L w q fs → KeepsGood w q (cleared_fields fs)
    cleared-fields w q no_fields h c good = good
    cleared-fields w q (field n m b fs) h c good = cleared-fields w q fs h.2 _ (if-keeps w q (is_kept m) (cleared_body b) (cleared-body w q b h.1) c good)

    pub cleared-body : (w q : ℕ) (b : Body) → BodyFits L w q b → KeepsGood w q (cleared_body b)
    cleared-body w q (void_slot j) h c good = good
    cleared-body w q (plain_slot p at d) h c good = put-bits-keeps w q at (width p) 0 (pow_pos (width p)) h.0 c good
    cleared-body w q (pointer_slot i ty d) h c good = put-child-keeps w q i null h.0 tt c good
    cleared-body w q (group_slot g) h c good = cleared-keeps w q g h c good

  -- ---- a group that is set

  module _ (s : Schema) (fits : SchemaFits L s) where
    pub empty-tree-fits : (ty : Ty) → FitsBy L (empty_tree s ty)
    empty-tree-fits void = tt
    empty-tree-fits (plain p) = tt
    empty-tree-fits text = text-fits L [] (L.short 1 (omega arith))
    empty-tree-fits blob = blob-fits L [] (L.short 0 (omega arith))
    empty-tree-fits untyped = tt
    empty-tree-fits interface = tt
    empty-tree-fits (struct id) = (omega arith, omega arith, omega arith, tt)
    empty-tree-fits (list void) = new-list-fits L s fits 0 void (L.short 0 (omega arith))
    empty-tree-fits (list (plain p)) = new-list-fits L s fits 0 (plain p) (L.short 0 (omega arith))
    empty-tree-fits (list text) = new-list-fits L s fits 0 text (L.short 0 (omega arith))
    empty-tree-fits (list blob) = new-list-fits L s fits 0 blob (L.short 0 (omega arith))
    empty-tree-fits (list untyped) = new-list-fits L s fits 0 untyped (L.short 0 (omega arith))
    empty-tree-fits (list interface) = new-list-fits L s fits 0 interface (L.short 0 (omega arith))
    empty-tree-fits (list (struct id)) = (omega arith, omega arith, L.few 0 (omega arith), tt)
    empty-tree-fits (list (list ty)) = new-list-fits L s fits 0 (list ty) (L.short 0 (omega arith))

    pub source-fits : (ty : Ty) (d t : Tree) → FitsBy L d → FitsBy L t → FitsBy L (source_tree s ty d t)
    source-fits ty null null h k = empty-tree-fits ty
    source-fits ty null (capability j) h k = k
    source-fits ty null (structure w' n' us) h k = k
    source-fits ty null (plain_list z' n' x') h k = k
    source-fits ty null (pointer_list us) h k = k
    source-fits ty null (struct_list w' p' fs) h k = k
    source-fits ty (capability i) null h k = h
    source-fits ty (capability i) (capability j) h k = k
    source-fits ty (capability i) (structure w' n' us) h k = k
    source-fits ty (capability i) (plain_list z' n' x') h k = k
    source-fits ty (capability i) (pointer_list us) h k = k
    source-fits ty (capability i) (struct_list w' p' fs) h k = k
    source-fits ty (structure w n ts) null h k = h
    source-fits ty (structure w n ts) (capability j) h k = k
    source-fits ty (structure w n ts) (structure w' n' us) h k = k
    source-fits ty (structure w n ts) (plain_list z' n' x') h k = k
    source-fits ty (structure w n ts) (pointer_list us) h k = k
    source-fits ty (structure w n ts) (struct_list w' p' fs) h k = k
    source-fits ty (plain_list z n x) null h k = h
    source-fits ty (plain_list z n x) (capability j) h k = k
    source-fits ty (plain_list z n x) (structure w' n' us) h k = k
    source-fits ty (plain_list z n x) (plain_list z' n' x') h k = k
    source-fits ty (plain_list z n x) (pointer_list us) h k = k
    source-fits ty (plain_list z n x) (struct_list w' p' fs) h k = k
    source-fits ty (pointer_list ts) null h k = h
    source-fits ty (pointer_list ts) (capability j) h k = k
    source-fits ty (pointer_list ts) (structure w' n' us) h k = k
    source-fits ty (pointer_list ts) (plain_list z' n' x') h k = k
    source-fits ty (pointer_list ts) (pointer_list us) h k = k
    source-fits ty (pointer_list ts) (struct_list w' p' fs) h k = k
    source-fits ty (struct_list w p es) null h k = h
    source-fits ty (struct_list w p es) (capability j) h k = k
    source-fits ty (struct_list w p es) (structure w' n' us) h k = k
    source-fits ty (struct_list w p es) (plain_list z' n' x') h k = k
    source-fits ty (struct_list w p es) (pointer_list us) h k = k
    source-fits ty (struct_list w p es) (struct_list w' p' fs) h k = k

    module _ (w q : ℕ) where
      abbrev pub AllKeep : List Edit → Type 0
      AllKeep fs = AllByRecursion (KeepsGood w q) fs

      pub keep-both : (fs gs : List Edit) → AllKeep fs → AllKeep gs → AllKeep (fs ++ gs)
      keep-both [] gs h k = k
      keep-both (f ∷ fs) gs h k = (h.0, keep-both fs gs h.1 k)

      pub after-keeps : (fs : List Edit) → AllKeep fs → KeepsGood w q (after_writes fs)
      after-keeps [] h c good = good
      after-keeps (f ∷ fs) h c good = after-keeps fs h.1 (f c) (h.0 c good)

      pub pointer-keep : (m : Option ℕ) (i : ℕ) (ty : Ty) (d : Tree) (before : Edit) (t : Tree) → i < q → FitsBy L d → KeepsGood w q before → FitsBy L t → AllKeep (pointer_writes s m i ty d before t)
      pointer-keep None i ty d before null l h b k = tt
      pointer-keep None i ty d before (capability j) l h b k = ((λ c good. put-child-keeps w q i (source_tree s ty d (capability j)) l (source-fits ty d (capability j) h k) (before c) (b c good)), tt)
      pointer-keep None i ty d before (structure w' n' us) l h b k = ((λ c good. put-child-keeps w q i (source_tree s ty d (structure w' n' us)) l (source-fits ty d (structure w' n' us) h k) (before c) (b c good)), tt)
      pointer-keep None i ty d before (plain_list z' n' x') l h b k = ((λ c good. put-child-keeps w q i (source_tree s ty d (plain_list z' n' x')) l (source-fits ty d (plain_list z' n' x') h k) (before c) (b c good)), tt)
      pointer-keep None i ty d before (pointer_list us) l h b k = ((λ c good. put-child-keeps w q i (source_tree s ty d (pointer_list us)) l (source-fits ty d (pointer_list us) h k) (before c) (b c good)), tt)
      pointer-keep None i ty d before (struct_list w' p' fs) l h b k = ((λ c good. put-child-keeps w q i (source_tree s ty d (struct_list w' p' fs)) l (source-fits ty d (struct_list w' p' fs) h k) (before c) (b c good)), tt)
      pointer-keep (Some m) i ty d before null l h b k = ((λ c good. put-child-keeps w q i (source_tree s ty d null) l (source-fits ty d null h k) (before c) (b c good)), tt)
      pointer-keep (Some m) i ty d before (capability j) l h b k = ((λ c good. put-child-keeps w q i (source_tree s ty d (capability j)) l (source-fits ty d (capability j) h k) (before c) (b c good)), tt)
      pointer-keep (Some m) i ty d before (structure w' n' us) l h b k = ((λ c good. put-child-keeps w q i (source_tree s ty d (structure w' n' us)) l (source-fits ty d (structure w' n' us) h k) (before c) (b c good)), tt)
      pointer-keep (Some m) i ty d before (plain_list z' n' x') l h b k = ((λ c good. put-child-keeps w q i (source_tree s ty d (plain_list z' n' x')) l (source-fits ty d (plain_list z' n' x') h k) (before c) (b c good)), tt)
      pointer-keep (Some m) i ty d before (pointer_list us) l h b k = ((λ c good. put-child-keeps w q i (source_tree s ty d (pointer_list us)) l (source-fits ty d (pointer_list us) h k) (before c) (b c good)), tt)
      pointer-keep (Some m) i ty d before (struct_list w' p' fs) l h b k = ((λ c good. put-child-keeps w q i (source_tree s ty d (struct_list w' p' fs)) l (source-fits ty d (struct_list w' p' fs) h k) (before c) (b c good)), tt)

      module _ (from : Cell) (kids : AllFitBy L from.kids) where
        mutual
          unfolding group_writes

          pub group-keep : (g : Shape) (before : Edit) → ShapeFits L w q g → KeepsGood w q before → AllKeep (group_writes s g before from)
          group-keep (shape nid x p u fs) before h b =
              let active : Option ℕ = discriminant u whole_words from.section in (
                (λ c good. cleared-keeps w q (shape nid x p u fs) h (before c) (b c good)),
                keep-both (field_writes s true fs u active from) (field_writes s false fs u active from) (fields-keep true fs u active h.0 h.1) (fields-keep false fs u active h.0 h.1),
              )

          pub fields-keep : (members : Bool) (fs : Fields) (u active : Option ℕ) → UnionFits w u → FieldsFit L w q fs → AllKeep (field_writes s members fs u active from)
          fields-keep members no_fields u active g h = tt
          fields-keep members (field n m body fs) u active g h =
              elim (has_turn members m active) as (λ x. AllKeep (elim x [ true ↦ body_writes s body m (mark u m) from ++ field_writes s members fs u active from | false ↦ field_writes s members fs u active from ])) [
                | true ↦ keep-both (body_writes s body m (mark u m) from) (field_writes s members fs u active from) (body-keep body m (mark u m) h.1 (mark-keeps w q u m g h.0)) (fields-keep members fs u active g h.2)
                | false ↦ fields-keep members fs u active g h.2
              ]

          pub body-keep : (body : Body) (m : Option ℕ) (before : Edit) → BodyFits L w q body → KeepsGood w q before → AllKeep (body_writes s body m before from)
          body-keep (void_slot j) m before h b = (b, tt)
          body-keep (plain_slot p at d) m before h b = ((λ c good. put-bits-keeps w q at (width p) (field_bits whole_words from.section at (width p)) (mod-lt _ (pow_pos (width p))) h.0 (before c) (b c good)), tt)
          body-keep (pointer_slot i ty d) m before h b = pointer-keep m i ty (default_or_null d) before (child from.kids i) h.0 h.2 b (child-fits L from.kids i kids)
          body-keep (group_slot g) m before h b = group-keep g before h b

      pub message-keeps : (g : Shape) → ShapeFits L w q g → (t : Tree) → FitsBy L t → KeepsGood w q (from_message s g t)
      message-keeps g h null f c good = good
      message-keeps g h (capability i) f c good = good
      message-keeps g h (structure x n ts) f c good =
          after-keeps (group_writes s g (λ y. y) (record { section = n; kids = ts })) (group-keep (record { section = n; kids = ts }) f.3 g (λ y. y) h (λ y l. l)) c good
      message-keeps g h (plain_list z n x) f c good = good
      message-keeps g h (pointer_list ts) f c good = good
      message-keeps g h (struct_list x p es) f c good = good

      pub group-put : (verb : Verb) → SpelledBy L verb → (g : Shape) → ShapeFits L w q g → KeepsGood w q (put_group s verb g)
      group-put get v g h c good = cleared-keeps w q g h c good
      group-put (set_to (whole_number z)) v g h c good = cleared-keeps w q g h c good
      group-put (set_to (truth b)) v g h c good = cleared-keeps w q g h c good
      group-put (set_to (enumerant n)) v g h c good = cleared-keeps w q g h c good
      group-put (set_to (text_value bs)) v g h c good = cleared-keeps w q g h c good
      group-put (set_to (blob_value bs)) v g h c good = cleared-keeps w q g h c good
      group-put (set_to (message t)) v g h c good = message-keeps g h (message_root t) (root-fits L t v) c good
      group-put init v g h c good = cleared-keeps w q g h c good
      group-put (initn n) v g h c good = cleared-keeps w q g h c good
      group-put clear v g h c good = cleared-keeps w q g h c good

      pub good-slot : (b : Body) → BodyFits L w q b → IsGoodSlot b
      good-slot (void_slot j) h = tt
      good-slot (plain_slot p at d) h = h.1
      good-slot (pointer_slot i ty d) h = h.3
      good-slot (group_slot g) h = tt

      pub in-range : (verb : Verb) → IsWrite verb → SpelledBy L verb → IsInRange verb
      in-range get x h = x
      in-range (set_to (whole_number z)) x h = tt
      in-range (set_to (truth b)) x h = tt
      in-range (set_to (enumerant k)) x h = h
      in-range (set_to (text_value bs)) x h = tt
      in-range (set_to (blob_value bs)) x h = tt
      in-range (set_to (message t)) x h = tt
      in-range init x h = tt
      in-range (initn n) x h = tt
      in-range clear x h = tt

      pub field-put : (verb : Verb) → IsWrite verb → SpelledBy L verb → (b : Body) → BodyFits L w q b → KeepsGood w q (put_field s verb b)
      field-put verb x v (void_slot j) h c good = good
      field-put verb x v (plain_slot p at d) h c good =
          content-keeps w q (plain_slot p at d) (slot_content s verb (plain_slot p at d)) h (slot-content L s fits verb v (plain_slot p at d)) (contents_fit s (plain_slot p at d) (good-slot (plain_slot p at d) h) verb (in-range verb x v)) c good
      field-put verb x v (pointer_slot i ty d) h c good =
          content-keeps w q (pointer_slot i ty d) (slot_content s verb (pointer_slot i ty d)) h (slot-content L s fits verb v (pointer_slot i ty d)) (contents_fit s (pointer_slot i ty d) (good-slot (pointer_slot i ty d) h) verb (in-range verb x v)) c good
      field-put verb x v (group_slot g) h c good = group-put verb v g h c good

  -- ---- the end of a path at an element

  pub element-put : (s : Schema) (w q : ℕ) (ty : Ty) (x : Content) → Room s w q ty → ContentFits L x → ElementOk ty x → KeepsGood w q (put_in_element w q ty x)
  element-put s w q void (refused_by k) room f ok c good = good
  element-put s w q void (bits_of n) room f ok c good = good
  element-put s w q void (object t) room f ok c good = absurd ok
  element-put s w q (plain p) (refused_by k) room f ok c good = good
  element-put s w q (plain p) (bits_of n) room f ok c good = put-bits-keeps w q 0 (width p) n ok (omega arith) c good
  element-put s w q (plain p) (object t) room f ok c good = absurd ok
  element-put s w q text (refused_by k) room f ok c good = good
  element-put s w q text (bits_of n) room f ok c good = good
  element-put s w q text (object t) room f ok c good = put-child-keeps w q 0 t room f c good
  element-put s w q blob (refused_by k) room f ok c good = good
  element-put s w q blob (bits_of n) room f ok c good = good
  element-put s w q blob (object t) room f ok c good = put-child-keeps w q 0 t room f c good
  element-put s w q untyped (refused_by k) room f ok c good = good
  element-put s w q untyped (bits_of n) room f ok c good = good
  element-put s w q untyped (object t) room f ok c good = put-child-keeps w q 0 t room f c good
  element-put s w q interface (refused_by k) room f ok c good = good
  element-put s w q interface (bits_of n) room f ok c good = good
  element-put s w q interface (object t) room f ok c good = put-child-keeps w q 0 t room f c good
  element-put s w q (struct id) (refused_by k) room f ok c good = good
  element-put s w q (struct id) (bits_of n) room f ok c good = good
  element-put s w q (struct id) (object null) room f ok c good = absurd ok
  element-put s w q (struct id) (object (capability i)) room f ok c good = absurd ok
  element-put s w q (struct id) (object (plain_list z n x)) room f ok c good = absurd ok
  element-put s w q (struct id) (object (pointer_list ts)) room f ok c good = absurd ok
  element-put s w q (struct id) (object (struct_list x p es)) room f ok c good = absurd ok
  element-put s w q (struct id) (object (structure x n ts)) room f ok c good = (mod-lt n (pow_pos (64 * w)), count-resized q ts, all-resized L q ts f.3)
  element-put s w q (list ty) (refused_by k) room f ok c good = good
  element-put s w q (list ty) (bits_of n) room f ok c good = good
  element-put s w q (list ty) (object t) room f ok c good = put-child-keeps w q 0 t room f c good
