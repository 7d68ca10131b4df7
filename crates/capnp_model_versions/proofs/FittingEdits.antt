-- Edited values fit their spelling, where no list gets too long.
use Rattle.std.proofs.Common.{◌≡◌, ℕ, ◌*◌, ◌≤◌, max, Bool, true, false, Option, List, [], ◌∷◌, refl, sym, subst, arith}
use Rattle.std.specs.Str.{bytes_eq}
use Rattle.std.proofs.lemmas.Nat.{pow_pos}
use Rattle.capnp_model.specs.Trees.{Tree, null, capability, structure, plain_list, pointer_list, struct_list, none, child, resized, padded_to, plain_elements, size_bits, tree_count}
use Rattle.capnp_model.specs.Schemas.{Ty, void, plain, text, blob, untyped, interface, struct, list, Shape, shape, Fields, no_fields, field, Body, void_slot, plain_slot, pointer_slot, group_slot, Schema, default_or_null, words_of_shape, pointers_of_shape}
use Rattle.capnp_model.specs.Readings.{Reading, Record, record_as, whole_words, only_if, body_of, element_as, read, read_child, record_by_shape, no_children}
use Rattle.capnp_model.specs.Calls.{Step, name, index, Verb, element_content}
use Rattle.capnp_model.specs.Steps.{target, target_if, target_of, on_name, step_path, step_field, step_element, through_value, through_field, opened}
use Rattle.capnp_model.specs.Edits.{Cell, mark, opened_tree, edit_target, edit_named, edit_struct, elements_of_plain, elements_of_pointers, padded_elements, least_words, widened_list, as_list, edit_list, edit_value, edit_through, edit_through_element, edit_field, edit_element, write_path}
use Rattle.capnp_model.specs.NamedPaths.{IsOpen}
use Rattle.capnp_model.specs.Printing.{fields_in}
use Rattle.capnp_model.proofs.lemmas.Numbers.{wider}
use Rattle.capnp_model.proofs.lemmas.Stripping.{count-resized}
use Rattle.capnp_model.proofs.lemmas.EveryPath.{opened_null}
use Rattle.capnp_model.proofs.lemmas.FittingValues.{count-padded_to}
use Rattle.capnp_model_versions.proofs.WroteLists.{at-plain-element, at-child, at-pointer-element, at-element, at-padded-element}
use Rattle.capnp_model_versions.proofs.Wrote.{Wrote, wrote-map, field-is-write, element-is-write, WritesField, WritesElement, WritesName, FoundName, found_name, find_name, WritesStruct, into_struct, WritesList, into_list, no-name, no-index, through-pointer, reads-padded, reads-nothing}
use Rattle.capnp_model_versions.proofs.Within.{AllNarrow}
use Rattle.capnp_model_versions.proofs.FittingParts.{Lengths, FitsBy, SpelledBy, all-padded, child-fits, UnionFits, MemberFits, ShapeFits, FieldsFit, BodyFits, StructFits, SchemaFits, shape-wider}
use Rattle.capnp_model_versions.proofs.FittingContents.{nulls-fit, element-content}
use Rattle.capnp_model_versions.proofs.FittingCells.{Good, put-child-keeps, mark-keeps, in-range, field-put, Room, element-ok, element-put}
use Rattle.capnp_model_versions.proofs.FittingLists.{count-on-elements, count-on-pointers, widened-list-fits, plain-list-fits, elements-keep, pointers-keep, NoStruct, pointer-room, struct-room}

module _ (L : Lengths) where
  -- ---- the path

  found-fits : (w q : ℕ) (n : List ℕ) (fs : Fields) (m : Option ℕ) (b : Body) → target_of n fs ≡ target m b → FieldsFit L w q fs → MemberFits m × BodyFits L w q b
  found-fits w q n no_fields m b e h = absurd (cc e)
  found-fits w q n (field l k body fs) m b e h = by (bytes_eq l n) (found-fits w q n fs m b) e
    where
      by : (c : Bool) → (target_of n fs ≡ target m b → FieldsFit L w q fs → MemberFits m × BodyFits L w q b) → target_if c (target k body) (target_of n fs) ≡ target m b → MemberFits m × BodyFits L w q b
      by true more e = let x : k ≡ m = cc in let y : body ≡ b = cc in (subst MemberFits x h.0, subst (λ z. BodyFits L w q z) y h.1)
      by false more e = more e h.2

  opened-fits : (ty : Ty) (d t : Tree) → FitsBy L d → FitsBy L t → FitsBy L (opened_tree ty d t)
  opened-fits ty d null h k = h
  opened-fits ty d (capability i) h k = k
  opened-fits ty d (structure w n ts) h k = k
  opened-fits ty d (plain_list z n x) h k = k
  opened-fits ty d (pointer_list ts) h k = k
  opened-fits ty d (struct_list w p es) h k = k

  module _ (s : Schema) (fits : SchemaFits L s) (verb : Verb) (spelled : SpelledBy L verb) where
    abbrev FieldKeeps : List Step → Type 0
    FieldKeeps path = (u m : Option ℕ) (b : Body) (w q : ℕ) (c : Cell) → UnionFits w u → MemberFits m → BodyFits L w q b → WritesField s verb path b c → Good L w q c → Good L w q (edit_field s path verb u m b c)

    abbrev ElementKeeps : List Step → Type 0
    ElementKeeps path = (ty : Ty) (w q : ℕ) (c : Cell) → AllNarrow ty → Room s w q ty → WritesElement s verb path ty c → Good L w q c → Good L w q (edit_element s path verb ty w q c)

    module _ (path : List Step) (fields : FieldKeeps path) (elements : ElementKeeps path) where
      name-keeps : (l : List ℕ) (nid x y w q : ℕ) (u : Option ℕ) (fs : Fields) (c : Cell) → ShapeFits L w q (shape nid x y u fs) → WritesName s verb path l (shape nid x y u fs) c → Good L w q c → Good L w q (edit_named (edit_field s path verb) l u fs c)
      name-keeps l nid x y w q u fs c h write good = by (find_name s verb path l nid x y u fs c write)
        where
          by : FoundName s verb path l fs c → Good L w q (edit_target (edit_field s path verb) u (target_of l fs) c)
          by (found_name m b e field-writes) =
              let f = found-fits w q l fs m b e h.1 in
              subst (λ z. Good L w q (edit_target (edit_field s path verb) u z c)) (sym e) (fields u m b w q c h.0 f.0 f.1 field-writes good)

      struct-by : (l : List ℕ) (g : Shape) → StructFits L g → (t : Tree) → FitsBy L t → IsOpen t → Wrote (on_name (step_field s path verb) l (fields_in g) (record_by_shape s g t)) → FitsBy L (edit_struct (edit_field s path verb) l g t)
      unfolding record_by_shape
      struct-by l (shape nid x y u fs) g null h o wrote =
          let c : Cell = record { section = 0; kids = resized y none } in
          let good = name-keeps l nid x y x y u fs c g.inside (record { size = whole_words; section = 0; kids = no_children; reads = λ i ty. reads-nothing s y i ty; wrote = wrote }) (pow_pos (64 * x), count-resized y none, nulls-fit L y) in
          let n = good.1 in let p = g.pointers in
          (g.words, omega arith, good.0, good.2)
      struct-by l (shape nid x y u fs) g (structure n section ts) h o wrote =
          let c : Cell = record { section = section; kids = padded_to y ts } in
          let k = count-padded_to y ts in
          let inside = shape-wider L x y (max x n) (max y (tree_count ts)) (shape nid x y u fs) (omega arith) (omega arith) g.inside in
          let good = name-keeps l nid x y (max x n) (max y (tree_count ts)) u fs c inside (record { size = whole_words; section = section; kids = read_child s ts; reads = λ i ty. reads-padded s y ts i ty; wrote = wrote })
          (wider section (64 * n) (64 * max x n) (omega arith) h.2, k, all-padded L y ts h.3) in
          let few = good.1 in let a = g.words in let b = g.pointers in let e = h.0 in let f = h.1 in
          (omega arith, omega arith, good.0, good.2)
      struct-by l g f (capability i) h o wrote = absurd o
      struct-by l g f (plain_list z n k) h o wrote = absurd o
      struct-by l g f (pointer_list ts) h o wrote = absurd o
      struct-by l g f (struct_list d k es) h o wrote = absurd o

      struct-fits : (l : List ℕ) (id : ℕ) (t : Tree) → FitsBy L t → WritesStruct s verb path l id t → FitsBy L (edit_struct (edit_field s path verb) l (s.shape_of id) t)
      struct-fits l id t h write = struct-by l (s.shape_of id) (fits id) t h write.open' write.wrote

      -- an element of a list of structs of larger sizes
      wider-room : (id w q : ℕ) → words_of_shape (s.shape_of id) ≤ w → pointers_of_shape (s.shape_of id) ≤ q → Room s w q (struct id)
      wider-room id w q a b = (a, b)

      structs-by : (k id : ℕ) (g : Shape) → s.shape_of id ≡ g → StructFits L g → (t : Tree) → FitsBy L t → WritesList s verb path k (struct id) t → FitsBy L (edit_list (edit_element s path verb (struct id)) k (widened_list g t))
      structs-by k id (shape nid w p u fs) is g (plain_list z n x) h write =
          let whole = widened-list-fits L (shape nid w p u fs) g (plain_list z n x) h in
          let at = at-plain-element s verb path (struct id) (size_bits z) p k (plain_elements z n x) write.1 in (
            whole.0,
            whole.1,
            subst L.elements (sym (count-on-elements (edit_element s path verb (struct id) (max w (least_words z)) p) k (elements_of_plain p (plain_elements z n x)))) whole.2,
            elements-keep L (WritesElement s verb path (struct id)) (max w (least_words z)) p (edit_element s path verb (struct id) (max w (least_words z)) p)
                (λ c writes good. elements (struct id) (max w (least_words z)) p c tt (wider-room id (max w (least_words z)) p (rw is (omega arith)) (rw is (omega arith))) writes good) k (elements_of_plain p (plain_elements z n x)) at whole.3,
          )
      structs-by k id (shape nid w p u fs) is g (pointer_list ts) h write =
          let whole = widened-list-fits L (shape nid w p u fs) g (pointer_list ts) h in
          let at = at-pointer-element s verb path (struct id) p k ts write.1 in (
            whole.0,
            whole.1,
            subst L.elements (sym (count-on-elements (edit_element s path verb (struct id) w (max p 1)) k (elements_of_pointers p ts))) whole.2,
            elements-keep L (WritesElement s verb path (struct id)) w (max p 1) (edit_element s path verb (struct id) w (max p 1))
                (λ c writes good. elements (struct id) w (max p 1) c tt (wider-room id w (max p 1) (rw is (omega arith)) (rw is (omega arith))) writes good) k (elements_of_pointers p ts) at whole.3,
          )
      structs-by k id (shape nid w p u fs) is g (struct_list d e es) h write =
          let whole = widened-list-fits L (shape nid w p u fs) g (struct_list d e es) h in
          let at = at-padded-element s verb path (struct id) p k es write.1 in (
            whole.0,
            whole.1,
            subst L.elements (sym (count-on-elements (edit_element s path verb (struct id) (max w d) (max p e)) k (padded_elements p es))) whole.2,
            elements-keep L (WritesElement s verb path (struct id)) (max w d) (max p e) (edit_element s path verb (struct id) (max w d) (max p e))
                (λ c writes good. elements (struct id) (max w d) (max p e) c tt (wider-room id (max w d) (max p e) (rw is (omega arith)) (rw is (omega arith))) writes good) k (padded_elements p es) at whole.3,
          )
      structs-by k id g is f null h write = absurd write
      structs-by k id g is f (capability i) h write = absurd write
      structs-by k id g is f (structure n x ts) h write = absurd write

      others-by : (k : ℕ) (ty : Ty) → NoStruct ty → AllNarrow ty → (t : Tree) → FitsBy L t → WritesList s verb path k ty t → FitsBy L (edit_list (edit_element s path verb ty) k t)
      others-by k ty single narrow (plain_list z n x) h write = plain-list-fits L (edit_element s path verb ty 1 0) k z n x h
      others-by k ty single narrow (pointer_list ts) h write =
          (subst L.lists (sym (count-on-pointers (edit_element s path verb ty 0 1) k ts)) h.0, pointers-keep L (WritesElement s verb path ty) (edit_element s path verb ty 0 1) (λ c writes good. elements ty 0 1 c narrow (pointer-room s ts ty single write.0) writes good) k ts (at-child s verb path ty k ts write.1) h.1)
      others-by k ty single narrow (struct_list d e es) h write =
          (h.0, h.1, subst L.elements (sym (count-on-elements (edit_element s path verb ty d e) k es)) h.2, elements-keep L (WritesElement s verb path ty) d e (edit_element s path verb ty d e) (λ c writes good. elements ty d e c narrow (struct-room s d e es ty single narrow write.0) writes good) k es (at-element s verb path ty k es write.1) h.3)
      others-by k ty single narrow null h write = absurd write
      others-by k ty single narrow (capability i) h write = absurd write
      others-by k ty single narrow (structure n x ts) h write = absurd write

      list-fits : (k : ℕ) (ty : Ty) → AllNarrow ty → (t : Tree) → FitsBy L t → WritesList s verb path k ty t → FitsBy L (edit_list (edit_element s path verb ty) k (as_list s ty t))
      list-fits k void narrow t h write = others-by k void tt narrow t h write
      list-fits k (plain p) narrow t h write = others-by k (plain p) tt narrow t h write
      list-fits k text narrow t h write = others-by k text tt narrow t h write
      list-fits k blob narrow t h write = others-by k blob tt narrow t h write
      list-fits k untyped narrow t h write = others-by k untyped tt narrow t h write
      list-fits k interface narrow t h write = others-by k interface tt narrow t h write
      list-fits k (struct id) narrow t h write = structs-by k id (s.shape_of id) refl (fits id) t h write
      list-fits k (list ty) narrow t h write = others-by k (list ty) tt narrow t h write

      value-fits : (st : Step) (ty : Ty) (d t : Tree) → AllNarrow ty → FitsBy L d → FitsBy L t → Wrote (through_value s st (step_field s path verb) (step_element s path verb) ty (opened s ty d (read s t ty)))
          → FitsBy L (edit_value s st (edit_field s path verb) (edit_element s path verb) ty (opened_tree ty d t))
      value-fits (name l) void d t narrow h k write = opened-fits void d t h k
      value-fits (name l) (plain p) d t narrow h k write = opened-fits (plain p) d t h k
      value-fits (name l) text d t narrow h k write = opened-fits text d t h k
      value-fits (name l) blob d t narrow h k write = opened-fits blob d t h k
      value-fits (name l) untyped d t narrow h k write = opened-fits untyped d t h k
      value-fits (name l) interface d t narrow h k write = opened-fits interface d t h k
      value-fits (name l) (struct id) d t narrow h k write = struct-fits l id (opened_tree (struct id) d t) (opened-fits (struct id) d t h k) (into_struct s verb path l id d t write)
      value-fits (name l) (list ty) d t narrow h k write = opened-fits (list ty) d t h k
      value-fits (index i) void d t narrow h k write = opened-fits void d t h k
      value-fits (index i) (plain p) d t narrow h k write = opened-fits (plain p) d t h k
      value-fits (index i) text d t narrow h k write = opened-fits text d t h k
      value-fits (index i) blob d t narrow h k write = opened-fits blob d t h k
      value-fits (index i) untyped d t narrow h k write = opened-fits untyped d t h k
      value-fits (index i) interface d t narrow h k write = opened-fits interface d t h k
      value-fits (index i) (struct id) d t narrow h k write = opened-fits (struct id) d t h k
      value-fits (index i) (list ty) d t narrow h k write = list-fits i ty narrow (opened_tree (list ty) d t) (opened-fits (list ty) d t h k) (into_list s verb path i ty d t write)

      active-pointer : (st : Step) (i : ℕ) (ty : Ty) (d : Option Tree) (active : Bool) (x : Reading) (t : Tree) → x ≡ read s t ty → Wrote (through_field s st (step_field s path verb) (step_element s path verb) (pointer_slot i ty d) (only_if active x))
          → Wrote (through_value s st (step_field s path verb) (step_element s path verb) ty (opened s ty (default_or_null d) (read s t ty)))
      active-pointer (name l) i ty d false x t e h = absurd h
      active-pointer (index k) i ty d false x t e h = absurd h
      active-pointer st i ty d true x t e h = subst (λ r. Wrote (through_value s st (step_field s path verb) (step_element s path verb) ty (opened s ty (default_or_null d) r))) e (through-pointer s verb path st i ty d x h)

      active-group : (l : List ℕ) (g : Shape) (active : Bool) (r : Record) → Wrote (through_field s (name l) (step_field s path verb) (step_element s path verb) (group_slot g) (only_if active (record_as r))) → Wrote (on_name (step_field s path verb) l (fields_in g) r)
      active-group l g false r h = absurd h
      active-group l g true r h = wrote-map record_as _ h

      through-keeps : (st : Step) (b : Body) (w q : ℕ) (c : Cell) → BodyFits L w q b → WritesField s verb (st ∷ path) b c → Good L w q c → Good L w q (edit_through s st (edit_field s path verb) (edit_element s path verb) b c)
      unfolding step_field body_of
      through-keeps (name l) (void_slot j) w q c h write good = good
      through-keeps (index i) (void_slot j) w q c h write good = good
      through-keeps (name l) (plain_slot p at d) w q c h write good = good
      through-keeps (index i) (plain_slot p at d) w q c h write good = good
      through-keeps (index i) (group_slot g) w q c h write good = good
      through-keeps (name l) (group_slot (shape nid x y u fs)) w q c h write good =
          name-keeps l nid x y w q u fs c h (record { size = write.size; section = write.section; kids = write.kids; reads = write.reads; wrote = active-group l (shape nid x y u fs) write.active _ write.wrote }) good
      through-keeps (name l) (pointer_slot i ty d) w q c h write good =
          put-child-keeps L w q i _ h.0 (value-fits (name l) ty (default_or_null d) (child c.kids i) h.1 h.2 (child-fits L c.kids i good.2) (active-pointer (name l) i ty d write.active (write.kids i ty) (child c.kids i) (write.reads i ty) write.wrote)) c good
      through-keeps (index k) (pointer_slot i ty d) w q c h write good =
          put-child-keeps L w q i _ h.0 (value-fits (index k) ty (default_or_null d) (child c.kids i) h.1 h.2 (child-fits L c.kids i good.2) (active-pointer (index k) i ty d write.active (write.kids i ty) (child c.kids i) (write.reads i ty) write.wrote)) c good

      list-element : (i : ℕ) (ty : Ty) (t : Tree) → AllNarrow ty → FitsBy L t → Wrote (through_value s (index i) (step_field s path verb) (step_element s path verb) (list ty) (opened s (list ty) null (read s t (list ty)))) → FitsBy L (edit_value s (index i) (edit_field s path verb) (edit_element s path verb) (list ty) t)
      list-element i ty t narrow h write = subst (λ z. FitsBy L (edit_value s (index i) (edit_field s path verb) (edit_element s path verb) (list ty) z)) (opened_null (list ty) t) (value-fits (index i) (list ty) null t narrow tt h write)

      named-element : (l : List ℕ) (g : Shape) (w q : ℕ) (c : Cell) → StructFits L g → words_of_shape g ≤ w → pointers_of_shape g ≤ q → WritesName s verb path l g c → Good L w q c → Good L w q (elim g as (λ x. Cell) [ shape nid x y u fs ↦ edit_named (edit_field s path verb) l u fs c ])
      named-element l (shape nid x y u fs) w q c g a b write good = name-keeps l nid x y w q u fs c (shape-wider L x y w q (shape nid x y u fs) a b g.inside) write good

      through-element : (st : Step) (ty : Ty) (w q : ℕ) (c : Cell) → AllNarrow ty → Room s w q ty → WritesElement s verb (st ∷ path) ty c → Good L w q c → Good L w q (edit_through_element s st (edit_field s path verb) (edit_element s path verb) ty c)
      unfolding step_field
      through-element (name l) void w q c narrow room write good = absurd (no-name s verb path l void (opened s void null (element_as s void write.size write.section write.kids)) (λ id e. absurd (cc e)) write.wrote)
      through-element (name l) (plain p) w q c narrow room write good = absurd (no-name s verb path l (plain p) (opened s (plain p) null (element_as s (plain p) write.size write.section write.kids)) (λ id e. absurd (cc e)) write.wrote)
      through-element (name l) text w q c narrow room write good = absurd (no-name s verb path l text (opened s text null (element_as s text write.size write.section write.kids)) (λ id e. absurd (cc e)) write.wrote)
      through-element (name l) blob w q c narrow room write good = absurd (no-name s verb path l blob (opened s blob null (element_as s blob write.size write.section write.kids)) (λ id e. absurd (cc e)) write.wrote)
      through-element (name l) untyped w q c narrow room write good = absurd (no-name s verb path l untyped (opened s untyped null (element_as s untyped write.size write.section write.kids)) (λ id e. absurd (cc e)) write.wrote)
      through-element (name l) interface w q c narrow room write good = absurd (no-name s verb path l interface (opened s interface null (element_as s interface write.size write.section write.kids)) (λ id e. absurd (cc e)) write.wrote)
      through-element (name l) (struct id) w q c narrow room write good =
          named-element l (s.shape_of id) w q c (fits id) room.0 room.1 (record { size = write.size; section = write.section; kids = write.kids; reads = write.reads; wrote = wrote-map record_as _ write.wrote }) good
      through-element (name l) (list ty) w q c narrow room write good = absurd (no-name s verb path l (list ty) (opened s (list ty) null (element_as s (list ty) write.size write.section write.kids)) (λ id e. absurd (cc e)) write.wrote)
      through-element (index i) void w q c narrow room write good = absurd (no-index s verb path i void (opened s void null (element_as s void write.size write.section write.kids)) (λ e x. absurd (cc x)) write.wrote)
      through-element (index i) (plain p) w q c narrow room write good = absurd (no-index s verb path i (plain p) (opened s (plain p) null (element_as s (plain p) write.size write.section write.kids)) (λ e x. absurd (cc x)) write.wrote)
      through-element (index i) text w q c narrow room write good = absurd (no-index s verb path i text (opened s text null (element_as s text write.size write.section write.kids)) (λ e x. absurd (cc x)) write.wrote)
      through-element (index i) blob w q c narrow room write good = absurd (no-index s verb path i blob (opened s blob null (element_as s blob write.size write.section write.kids)) (λ e x. absurd (cc x)) write.wrote)
      through-element (index i) untyped w q c narrow room write good = absurd (no-index s verb path i untyped (opened s untyped null (element_as s untyped write.size write.section write.kids)) (λ e x. absurd (cc x)) write.wrote)
      through-element (index i) interface w q c narrow room write good = absurd (no-index s verb path i interface (opened s interface null (element_as s interface write.size write.section write.kids)) (λ e x. absurd (cc x)) write.wrote)
      through-element (index i) (struct id) w q c narrow room write good = absurd (no-index s verb path i (struct id) (opened s (struct id) null (element_as s (struct id) write.size write.section write.kids)) (λ e x. absurd (cc x)) write.wrote)
      through-element (index i) (list ty) w q c narrow room write good =
          let wrote = subst (λ r. Wrote (through_value s (index i) (step_field s path verb) (step_element s path verb) (list ty) (opened s (list ty) null r))) (write.reads 0 (list ty)) write.wrote in
          put-child-keeps L w q 0 _ room (list-element i ty (child c.kids 0) narrow (child-fits L c.kids 0 good.2) wrote) c good

    mutual
      unfolding step_field edit_field

      fields-keep-path : (path : List Step) → FieldKeeps path
      fields-keep-path [] u m b w q c g k h write good =
          field-put L s fits w q verb (field-is-write s verb b _ write.wrote) spelled b h (mark u m c) (mark-keeps L w q u m g k c good)
      fields-keep-path (st ∷ path) u m b w q c g k h write good = through-keeps path (fields-keep-path path) (elements-keep-path path) st b w q c h write good

      elements-keep-path : (path : List Step) → ElementKeeps path
      elements-keep-path [] ty w q c narrow room write good =
          element-put L s w q ty (element_content s verb ty) room (element-content L s fits verb spelled ty) (element-ok s verb (in-range L s fits w q verb (element-is-write s verb ty _ write.wrote) spelled) ty) c good
      elements-keep-path (st ∷ path) ty w q c narrow room write good = through-element path (fields-keep-path path) (elements-keep-path path) st ty w q c narrow room write good

    -- a call that is carried out
    pub written-fits : (id : ℕ) (path : List Step) (t : Tree) → FitsBy L t → IsOpen t → Wrote (step_path s (fields_in (s.shape_of id)) path verb (record_by_shape s (s.shape_of id) t)) → FitsBy L (write_path s (s.shape_of id) path verb t)
    written-fits id [] t h o wrote = h
    written-fits id (index i ∷ path) t h o wrote = h
    written-fits id (name n ∷ path) t h o wrote = struct-by path (fields-keep-path path) (elements-keep-path path) n (s.shape_of id) (fits id) t h o wrote
