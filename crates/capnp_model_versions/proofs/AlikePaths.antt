-- Calls that are carried out leave values of one trimmed value, under schemas that have their paths in common.
use Rattle.std.proofs.Common.{◌≡◌, ℕ, ◌*◌, ◌^◌, ◌<◌, ◌≤◌, max, Bool, true, false, List, [], ◌∷◌, Option, Some, None, refl, sym, ◌∙◌, ap, subst, arith}
use Rattle.std.proofs.lemmas.Nat.{pow_pos}
use Rattle.capnp_model.specs.Trees.{Tree, null, capability, structure, plain_list, pointer_list, struct_list, none, child, resized, padded_to, size_bits}
use Rattle.capnp_model.specs.Trimming.{trim}
use Rattle.capnp_model.specs.Schemas.{PlainType, Ty, void, plain, text, blob, untyped, interface, struct, list, Shape, shape, Fields, Body, void_slot, plain_slot, pointer_slot, group_slot, Schema, default_or_null, words_of_shape}
use Rattle.capnp_model.specs.Readings.{Children, inactive, number, record_as, no_children, whole_words, shape_record, only_if, body_of, element_as, read, read_child, record_by_shape}
use Rattle.capnp_model.specs.Printing.{fields_in}
use Rattle.capnp_model.specs.Calls.{Step, name, index, Verb}
use Rattle.capnp_model.specs.Steps.{on_name, opened, through_value, through_field, step_field, step_element}
use Rattle.capnp_model.specs.Edits.{Cell, mark, edit_target, edit_named, edit_struct, widened_list, as_list, edit_list, edit_value, edit_field, edit_element, opened_tree, put_child, put_field}
use Rattle.capnp_model.specs.Admitted.{is_group_write, is_struct_type}
use Rattle.capnp_model.proofs.lemmas.Numbers.{wider}
use Rattle.capnp_model.proofs.lemmas.Widening.{bare-padded_to}
use Rattle.capnp_model.proofs.lemmas.OlderReading.{Related, related_void, related_plain', related_text, related_blob, related_untyped, related_interface, related_struct, related_list}
use Rattle.capnp_model.proofs.lemmas.EveryPath.{opened_null}
use Rattle.capnp_model_versions.specs.Whole.{IsWhole, IsWholeVerb}
use Rattle.capnp_model_versions.proofs.lemmas.WholeValues.{whole-padded_to, whole-resized}
use Rattle.capnp_model_versions.proofs.Alike.{Alike, SameCell, Agree, agree-more, agree-then, agree-put_bits, agree-put_child, alike-child, alike-structure, IsStructLike, struct_like, struct-like}
use Rattle.capnp_model_versions.proofs.SameLists.{IsListLike, list_like, list-like}
use Rattle.capnp_model_versions.proofs.SameShapes.{Congruent, no_change, AnyPair}
use Rattle.capnp_model_versions.specs.SameReplies.{IsWrite}
use Rattle.capnp_model_versions.proofs.SameContents.{element_bits, bare_nulls, congruent-field, congruent-element}
use Rattle.capnp_model_versions.proofs.Wrote.{Wrote, wrote-map, field-is-write, element-is-write, group-is-write, WritesField, WritesElement, WritesName, FoundName, found_name, find_name, WritesStruct, into_struct, WritesList, into_list, no-name, no-index, through-pointer, reads-nothing, reads-padded}
use Rattle.capnp_model_versions.proofs.WroteLists.{at-plain, at-plain-element, at-child, at-pointer-element, at-element, at-padded-element}
use Rattle.capnp_model_versions.proofs.Follows.{SameMark, IsNarrow, HasWords, NameFollows, ValueFollows, PointerFollows, EndFollows, FieldFollows, ElementFollows}
use Rattle.capnp_model_versions.proofs.RelatedTypes.{not_struct, same_sort, same_bits, roomy}
use Rattle.capnp_model_versions.proofs.OpenedValues.{opened_alike}
use Rattle.capnp_model_versions.proofs.AlikeLists.{plain-like, IsPointersLike, pointers_like, pointers-like, edited-structs, widened-plain, widened-pointers, widened-structs, edited-plain, edited-pointers}

congruent_marks : (bits : ℕ) (u m u' m' : Option ℕ) → SameMark bits u m u' m' → Congruent bits (mark u m) (mark u' m')
congruent_marks bits (Some a) None (Some b) None h = no_change bits
congruent_marks bits (Some a) None None None h = no_change bits
congruent_marks bits None None (Some b) None h = no_change bits
congruent_marks bits None None None None h = no_change bits
congruent_marks bits (Some a) (Some k) (Some b) (Some j) h =
    subst (λ z. Congruent bits (mark (Some a) (Some k)) (mark (Some z) (Some j))) h.0
    (subst (λ z. Congruent bits (mark (Some a) (Some k)) (mark (Some a) (Some z))) h.1 (λ c d s. agree-put_bits bits a 16 k c d h.3 h.2 s))
congruent_marks bits u m u' m' h = absurd h

module _ (o n : Schema) (verb : Verb) (whole : IsWholeVerb verb) where
  -- what the rest of a path does to a field, and to an element
  abbrev pub FieldAgrees : List Step → Type 0
  FieldAgrees path =
      (bits : ℕ) (u m u' m' : Option ℕ) (b b' : Body) → SameMark bits u m u' m' → FieldFollows o n verb path bits b b' → (c d : Cell) → SameCell c d → WritesField o verb path b c → WritesField n verb path b' d
      → Agree bits c (edit_field o path verb u m b c) (edit_field n path verb u' m' b' d)

  abbrev pub ElementAgrees : List Step → Type 0
  ElementAgrees path =
      (ty ty' : Ty) → Related o n AnyPair ty ty' → ElementFollows o n verb path ty ty' → (w p v q : ℕ) (c d : Cell) → SameCell c d → WritesElement o verb path ty c → WritesElement n verb path ty' d
      → Agree (element_bits o ty) c (edit_element o path verb ty w p c) (edit_element n path verb ty' v q d)

  -- ---- the end of a path

  end_agrees : FieldAgrees []
  unfolding edit_field step_field
  end_agrees bits u m u' m' b b' mark' follows c d same k l =
      let write : IsWrite verb = field-is-write o verb b _ k.wrote in
      let a = congruent_marks bits u m u' m' mark' c d same in
      agree-then bits c (mark u m c) (mark u' m' d) _ _ a (by b b' follows (λ g e. group-is-write o verb g _ (subst (λ z. Wrote (step_field o [] verb z (only_if k.active (body_of z k.size k.section k.kids)))) e k.wrote)) write (mark u m c) (mark u' m' d) a.same)
    where
      by : (b b' : Body) → EndFollows o n verb bits b b' → ((g : Shape) → b ≡ group_slot g → is_group_write verb ≡ true) → IsWrite verb → Congruent bits (put_field o verb b) (put_field n verb b')
      by (void_slot i) b' f g w = congruent-field o n bits verb (void_slot i) b' f w whole
      by (plain_slot p at d) b' f g w = congruent-field o n bits verb (plain_slot p at d) b' f w whole
      by (pointer_slot i ty d) b' f g w = congruent-field o n bits verb (pointer_slot i ty d) b' f w whole
      by (group_slot x) (void_slot i) f g w = congruent-field o n bits verb (group_slot x) (void_slot i) f w whole
      by (group_slot x) (plain_slot p at d) f g w = congruent-field o n bits verb (group_slot x) (plain_slot p at d) f w whole
      by (group_slot x) (pointer_slot i ty d) f g w = congruent-field o n bits verb (group_slot x) (pointer_slot i ty d) f w whole
      by (group_slot x) (group_slot y) f g w = congruent-field o n bits verb (group_slot x) (group_slot y) (f (g x refl)) w whole

  element_end_agrees : ElementAgrees []
  unfolding edit_element step_element
  element_end_agrees ty ty' r follows w p v q c d same k l = congruent-element o n verb w p v q ty ty' r (element-is-write o verb ty _ k.wrote) whole follows c d same

  -- ---- a step

  module _ (path : List Step) (fields : FieldAgrees path) (elements : ElementAgrees path) where
    -- by a name
    named : (l : List ℕ) (bits nid w p nid' w' p' : ℕ) (u u' : Option ℕ) (fs fs' : Fields) → NameFollows o n verb (FieldFollows o n verb path) l bits (shape nid w p u fs) (shape nid' w' p' u' fs')
        → (c d : Cell) → SameCell c d → WritesName o verb path l (shape nid w p u fs) c → WritesName n verb path l (shape nid' w' p' u' fs') d
        → Agree bits c (edit_named (edit_field o path verb) l u fs c) (edit_named (edit_field n path verb) l u' fs' d)
    named l bits nid w p nid' w' p' u u' fs fs' follows c d same k k' = by (find_name o verb path l nid w p u fs c k) (find_name n verb path l nid' w' p' u' fs' d k')
      where
        by : FoundName o verb path l fs c → FoundName n verb path l fs' d → Agree bits c (edit_named (edit_field o path verb) l u fs c) (edit_named (edit_field n path verb) l u' fs' d)
        by (found_name m b e x) (found_name m' b' e' x') =
            let f = follows m b m' b' e e' in
            subst (λ z. Agree bits c (edit_target (edit_field o path verb) u z c) (edit_named (edit_field n path verb) l u' fs' d)) (sym e)
            (subst (λ z. Agree bits c (edit_field o path verb u m b c) (edit_target (edit_field n path verb) u' z d)) (sym e') (fields bits u m u' m' b b' f.0 f.1 c d same x x'))

    -- into a struct
    in_cells : (l : List ℕ) (nid w p nid' w' p' : ℕ) (u u' : Option ℕ) (fs fs' : Fields) → NameFollows o n verb (FieldFollows o n verb path) l (64 * w) (shape nid w p u fs) (shape nid' w' p' u' fs') → (x y : ℕ) → w ≤ x → w ≤ y
        → (c d : Cell) → SameCell c d → c.section < 2 ^ (64 * x) → c.section < 2 ^ (64 * y) → WritesName o verb path l (shape nid w p u fs) c → WritesName n verb path l (shape nid' w' p' u' fs') d
        → let e : Cell = edit_named (edit_field o path verb) l u fs c in let e' : Cell = edit_named (edit_field n path verb) l u' fs' d in Alike (structure x e.section e.kids) (structure y e'.section e'.kids)
    in_cells l nid w p nid' w' p' u u' fs fs' follows x y le le' c d same small small' k k' =
        let a = named l (64 * w) nid w p nid' w' p' u u' fs fs' follows c d same k k' in
        alike-structure x y _ _ _ _ a.same.sections a.same.kids (a.within (64 * x) (omega arith) small) (a.within (64 * y) (omega arith) small') a.same.whole a.same.whole'

    into_structs : (l : List ℕ) (i j : ℕ) (g g' : Shape) → o.shape_of i ≡ g → n.shape_of j ≡ g' → NameFollows o n verb (FieldFollows o n verb path) l (64 * words_of_shape g) g g' → words_of_shape g ≤ words_of_shape g' → (t t' : Tree) → Alike t t'
        → WritesStruct o verb path l i t → WritesStruct n verb path l j t' → Alike (edit_struct (edit_field o path verb) l g t) (edit_struct (edit_field n path verb) l g' t')
    unfolding record_by_shape trim
    into_structs l i j (shape nid w p u fs) (shape nid' w' p' u' fs') e e' follows le null null a k k' =
        in_cells l nid w p nid' w' p' u u' fs fs' follows w w' (omega arith) le (record { section = 0; kids = resized p none }) (record { section = 0; kids = resized p' none })
        (record { sections = refl; kids = bare_nulls p ∙ sym (bare_nulls p'); whole = whole-resized p none tt; whole' = whole-resized p' none tt }) (pow_pos (64 * w)) (pow_pos (64 * w'))
        (record { size = whole_words; section = 0; kids = no_children; reads = reads-nothing o p; wrote = subst (λ g. Wrote (on_name (step_field o path verb) l (fields_in g) (record_by_shape o g null))) e k.wrote })
        (record { size = whole_words; section = 0; kids = no_children; reads = reads-nothing n p'; wrote = subst (λ g. Wrote (on_name (step_field n path verb) l (fields_in g) (record_by_shape n g null))) e' k'.wrote })
    into_structs l i j (shape nid w p u fs) (shape nid' w' p' u' fs') e e' follows le (structure x m ts) t' a k k' = by t' (struct-like x m ts t' a) k'
      where
        by : (t' : Tree) → IsStructLike x m ts t' → WritesStruct n verb path l j t' → Alike (edit_struct (edit_field o path verb) l (shape nid w p u fs) (structure x m ts)) (edit_struct (edit_field n path verb) l (shape nid' w' p' u' fs') t')
        by t' (struct_like y us kids small small' wholes wholes') k' =
            in_cells l nid w p nid' w' p' u u' fs fs' follows (max w x) (max w' y) (omega arith) (omega arith) (record { section = m; kids = padded_to p ts }) (record { section = m; kids = padded_to p' us })
            (record { sections = refl; kids = bare-padded_to p ts ∙ kids ∙ sym (bare-padded_to p' us); whole = whole-padded_to p ts wholes; whole' = whole-padded_to p' us wholes' })
            (wider m (64 * x) (64 * max w x) (omega arith) small) (wider m (64 * y) (64 * max w' y) (omega arith) small')
            (record { size = whole_words; section = m; kids = read_child o ts; reads = reads-padded o p ts; wrote = subst (λ g. Wrote (on_name (step_field o path verb) l (fields_in g) (record_by_shape o g (structure x m ts)))) e k.wrote })
            (record { size = whole_words; section = m; kids = read_child n us; reads = reads-padded n p' us; wrote = subst (λ g. Wrote (on_name (step_field n path verb) l (fields_in g) (record_by_shape n g (structure y m us)))) e' k'.wrote })
    into_structs l i j g g' e e' follows le null (structure y m us) a k k' = absurd (cc (a.trims))
    into_structs l i j g g' e e' follows le null t' a k k' = absurd (k'.open')
    into_structs l i j g g' e e' follows le t t' a k k' = absurd (k.open')

    -- into a list

    module _ (ty ty' : Ty) (r : Related o n AnyPair ty ty') (follows : ElementFollows o n verb path ty ty') where
      agree : (w p v q : ℕ) (c d : Cell) → SameCell c d → WritesElement o verb path ty c → WritesElement n verb path ty' d → Agree (element_bits o ty) c (edit_element o path verb ty w p c) (edit_element n path verb ty' v q d)
      agree w p v q c d s k l = elements ty ty' r follows w p v q c d s k l

      other_lists : (k : ℕ) (t t' : Tree) → is_struct_type ty ≡ false → IsNarrow ty → Alike t t' → WritesList o verb path k ty t → WritesList n verb path k ty' t'
          → Alike (edit_list (edit_element o path verb ty) k t) (edit_list (edit_element n path verb ty') k t')
      other_lists k (plain_list z m x) t' e narrow a h h' =
          let is : t' ≡ plain_list z m x = plain-like z m x t' a in
          let there : WritesList n verb path k ty' (plain_list z m x) = subst (λ y. WritesList n verb path k ty' y) is h' in
          subst (λ y. Alike (edit_list (edit_element o path verb ty) k (plain_list z m x)) (edit_list (edit_element n path verb ty') k y)) (sym is)
          (edited-plain (WritesElement o verb path ty) (WritesElement n verb path ty') (element_bits o ty) (edit_element o path verb ty) (edit_element n path verb ty') agree k z m x
          (at-plain o verb path ty (size_bits z) k _ h.1) (at-plain n verb path ty' (size_bits z) k _ there.1))
      other_lists k (pointer_list ts) t' e narrow a h h' = by t' (pointers-like ts t' a) h'
        where
          by : (t' : Tree) → IsPointersLike ts t' → WritesList n verb path k ty' t' → Alike (edit_list (edit_element o path verb ty) k (pointer_list ts)) (edit_list (edit_element n path verb ty') k t')
          by t' (pointers_like us s) h' =
              edited-pointers (WritesElement o verb path ty) (WritesElement n verb path ty') (element_bits o ty) (edit_element o path verb ty) (edit_element n path verb ty') agree k ts us
              (at-child o verb path ty k ts h.1) (at-child n verb path ty' k us h'.1) s
      other_lists k (struct_list w p es) t' e narrow a h h' = by t' (list-like w p es t' a) h'
        where
          by : (t' : Tree) → IsListLike w es t' → WritesList n verb path k ty' t' → Alike (edit_list (edit_element o path verb ty) k (struct_list w p es)) (edit_list (edit_element n path verb ty') k t')
          by t' (list_like v q es' s x y) h' =
              let newer = same_bits o n ty ty' r e narrow in
              let room = roomy n ty' v q es' (sym (same_sort o n ty ty' r) ∙ e) newer.1 h'.0 in
              let sizes = newer.0 in
              edited-structs (WritesElement o verb path ty) (WritesElement n verb path ty') (element_bits o ty) (edit_element o path verb ty) (edit_element n path verb ty') agree k w p v q es es'
              (roomy o ty w p es e narrow h.0) (omega arith) (at-element o verb path ty k es h.1) (at-element n verb path ty' k es' h'.1) s x y
      other_lists k null t' e narrow a h h' = absurd h
      other_lists k (capability i) t' e narrow a h h' = absurd h
      other_lists k (structure w m ts) t' e narrow a h h' = absurd h

      other_list : (k : ℕ) (t t' : Tree) → is_struct_type ty ≡ false → IsNarrow ty → Alike t t' → WritesList o verb path k ty t → WritesList n verb path k ty' t'
          → Alike (edit_list (edit_element o path verb ty) k (as_list o ty t)) (edit_list (edit_element n path verb ty') k (as_list n ty' t'))
      other_list k t t' e narrow a h h' =
          subst (λ z. Alike (edit_list (edit_element o path verb ty) k z) (edit_list (edit_element n path verb ty') k (as_list n ty' t'))) (sym (not_struct o ty t e))
          (subst (λ z. Alike (edit_list (edit_element o path verb ty) k t) (edit_list (edit_element n path verb ty') k z)) (sym (not_struct n ty' t' (sym (same_sort o n ty ty' r) ∙ e))) (other_lists k t t' e narrow a h h'))

    struct_lists : (i j k : ℕ) (g g' : Shape) → o.shape_of i ≡ g → n.shape_of j ≡ g' → ElementFollows o n verb path (struct i) (struct j) → words_of_shape g ≤ words_of_shape g' → (t t' : Tree) → Alike t t'
        → WritesList o verb path k (struct i) t → WritesList n verb path k (struct j) t'
        → Alike (edit_list (edit_element o path verb (struct i)) k (widened_list g t)) (edit_list (edit_element n path verb (struct j)) k (widened_list g' t'))
    struct_lists i j k (shape nid w p u fs) (shape nid' w' p' u' fs') e e' follows le (plain_list z m x) t' a h h' =
        let is : t' ≡ plain_list z m x = plain-like z m x t' a in
        let there : WritesList n verb path k (struct j) (plain_list z m x) = subst (λ y. WritesList n verb path k (struct j) y) is h' in
        let words : words_of_shape (o.shape_of i) ≡ w = ap words_of_shape e in
        subst (λ y. Alike (edit_list (edit_element o path verb (struct i)) k (widened_list (shape nid w p u fs) (plain_list z m x))) (edit_list (edit_element n path verb (struct j)) k (widened_list (shape nid' w' p' u' fs') y))) (sym is)
        (widened-plain (WritesElement o verb path (struct i)) (WritesElement n verb path (struct j)) (element_bits o (struct i)) (edit_element o path verb (struct i)) (edit_element n path verb (struct j)) (agree (struct i) (struct j) (related_struct tt) follows) k w w' p p' z m x (omega arith) le
        (at-plain-element o verb path (struct i) (size_bits z) p k _ h.1) (at-plain-element n verb path (struct j) (size_bits z) p' k _ there.1))
    struct_lists i j k (shape nid w p u fs) (shape nid' w' p' u' fs') e e' follows le (pointer_list ts) t' a h h' = by t' (pointers-like ts t' a) h'
      where
        by : (t' : Tree) → IsPointersLike ts t' → WritesList n verb path k (struct j) t' → Alike (edit_list (edit_element o path verb (struct i)) k (widened_list (shape nid w p u fs) (pointer_list ts))) (edit_list (edit_element n path verb (struct j)) k (widened_list (shape nid' w' p' u' fs') t'))
        by t' (pointers_like us s) h' =
            let words : words_of_shape (o.shape_of i) ≡ w = ap words_of_shape e in
            widened-pointers (WritesElement o verb path (struct i)) (WritesElement n verb path (struct j)) (element_bits o (struct i)) (edit_element o path verb (struct i)) (edit_element n path verb (struct j)) (agree (struct i) (struct j) (related_struct tt) follows) k w w' p p' ts us (omega arith) le s
            (at-pointer-element o verb path (struct i) p k ts h.1) (at-pointer-element n verb path (struct j) p' k us h'.1)
    struct_lists i j k (shape nid w p u fs) (shape nid' w' p' u' fs') e e' follows le (struct_list x y es) t' a h h' = by t' (list-like x y es t' a) h'
      where
        by : (t' : Tree) → IsListLike x es t' → WritesList n verb path k (struct j) t' → Alike (edit_list (edit_element o path verb (struct i)) k (widened_list (shape nid w p u fs) (struct_list x y es))) (edit_list (edit_element n path verb (struct j)) k (widened_list (shape nid' w' p' u' fs') t'))
        by t' (list_like v q es' s c d) h' =
            let words : words_of_shape (o.shape_of i) ≡ w = ap words_of_shape e in
            widened-structs (WritesElement o verb path (struct i)) (WritesElement n verb path (struct j)) (element_bits o (struct i)) (edit_element o path verb (struct i)) (edit_element n path verb (struct j)) (agree (struct i) (struct j) (related_struct tt) follows) k w w' p p' x y v q es es' (omega arith) le s c d
            (at-padded-element o verb path (struct i) p k es h.1) (at-padded-element n verb path (struct j) p' k es' h'.1)
    struct_lists i j k g g' e e' follows le null t' a h h' = absurd h
    struct_lists i j k g g' e e' follows le (capability x) t' a h h' = absurd h
    struct_lists i j k g g' e e' follows le (structure w m ts) t' a h h' = absurd h

    -- ---- through a pointer

    into_value : (st : Step) (ty ty' : Ty) → Related o n AnyPair ty ty' → ValueFollows o n verb st (FieldFollows o n verb path) (ElementFollows o n verb path) ty ty' → (d t t' : Tree) → IsWhole d → Alike t t'
        → Wrote (through_value o st (step_field o path verb) (step_element o path verb) ty (opened o ty d (read o t ty))) → Wrote (through_value n st (step_field n path verb) (step_element n path verb) ty' (opened n ty' d (read n t' ty')))
        → Alike (edit_value o st (edit_field o path verb) (edit_element o path verb) ty (opened_tree ty d t)) (edit_value n st (edit_field n path verb) (edit_element n path verb) ty' (opened_tree ty' d t'))
    into_value (name l) ty ty' (related_struct {i = i} {j = j} r) follows d t t' h a k k' =
        into_structs l i j (o.shape_of i) (n.shape_of j) refl refl follows.0 follows.1 (opened_tree (struct i) d t) (opened_tree (struct j) d t') (opened_alike (struct i) (struct j) d t t' a h) (into_struct o verb path l i d t k) (into_struct n verb path l j d t' k')
    into_value (name l) ty ty' related_void follows d t t' h a k k' = absurd (no-name o verb path l void _ (λ id e. cc e) k)
    into_value (name l) ty ty' (related_plain' {p = p} r) follows d t t' h a k k' = absurd (no-name o verb path l (plain p) _ (λ id e. cc e) k)
    into_value (name l) ty ty' related_text follows d t t' h a k k' = absurd (no-name o verb path l text _ (λ id e. cc e) k)
    into_value (name l) ty ty' related_blob follows d t t' h a k k' = absurd (no-name o verb path l blob _ (λ id e. cc e) k)
    into_value (name l) ty ty' related_untyped follows d t t' h a k k' = absurd (no-name o verb path l untyped _ (λ id e. cc e) k)
    into_value (name l) ty ty' related_interface follows d t t' h a k k' = absurd (no-name o verb path l interface _ (λ id e. cc e) k)
    into_value (name l) ty ty' (related_list {a = x} r) follows d t t' h a k k' = absurd (no-name o verb path l (list x) _ (λ id e. cc e) k)
    into_value (index i) ty ty' (related_list {a = x} {b = y} r) follows d t t' h a k k' =
        listed x y r follows (opened_tree (list x) d t) (opened_tree (list y) d t') (opened_alike (list x) (list y) d t t' a h) (into_list o verb path i x d t k) (into_list n verb path i y d t' k')
      where
        listed : (x y : Ty) → Related o n AnyPair x y → ElementFollows o n verb path x y × HasWords o n verb x y × IsNarrow x → (t t' : Tree) → Alike t t' → WritesList o verb path i x t → WritesList n verb path i y t'
            → Alike (edit_list (edit_element o path verb x) i (as_list o x t)) (edit_list (edit_element n path verb y) i (as_list n y t'))
        listed x y (related_struct {i = z} {j = z'} r) f t t' a k k' = struct_lists z z' i (o.shape_of z) (n.shape_of z') refl refl f.0 f.1 t t' a k k'
        listed x y related_void f t t' a k k' = other_list void void related_void f.0 i t t' refl tt a k k'
        listed x y (related_plain' {p = p} {q = q} r) f t t' a k k' = other_list (plain p) (plain q) (related_plain' r) f.0 i t t' refl f.2 a k k'
        listed x y related_text f t t' a k k' = other_list text text related_text f.0 i t t' refl tt a k k'
        listed x y related_blob f t t' a k k' = other_list blob blob related_blob f.0 i t t' refl tt a k k'
        listed x y related_untyped f t t' a k k' = other_list untyped untyped related_untyped f.0 i t t' refl tt a k k'
        listed x y related_interface f t t' a k k' = other_list interface interface related_interface f.0 i t t' refl tt a k k'
        listed x y (related_list {a = v} {b = w} r) f t t' a k k' = other_list (list v) (list w) (related_list r) f.0 i t t' refl tt a k k'
    into_value (index i) ty ty' related_void follows d t t' h a k k' = absurd (no-index o verb path i void _ (λ x e. cc e) k)
    into_value (index i) ty ty' (related_plain' {p = p} r) follows d t t' h a k k' = absurd (no-index o verb path i (plain p) _ (λ x e. cc e) k)
    into_value (index i) ty ty' related_text follows d t t' h a k k' = absurd (no-index o verb path i text _ (λ x e. cc e) k)
    into_value (index i) ty ty' related_blob follows d t t' h a k k' = absurd (no-index o verb path i blob _ (λ x e. cc e) k)
    into_value (index i) ty ty' related_untyped follows d t t' h a k k' = absurd (no-index o verb path i untyped _ (λ x e. cc e) k)
    into_value (index i) ty ty' related_interface follows d t t' h a k k' = absurd (no-index o verb path i interface _ (λ x e. cc e) k)
    into_value (index i) ty ty' (related_struct {i = z} r) follows d t t' h a k k' = absurd (no-index o verb path i (struct z) _ (λ x e. cc e) k)

    -- ---- through a field

    at_pointer : (st : Step) (bits i : ℕ) (ty ty' : Ty) (x : Tree) → Related o n AnyPair ty ty' → IsWhole x → ValueFollows o n verb st (FieldFollows o n verb path) (ElementFollows o n verb path) ty ty' → (c d : Cell) → SameCell c d
        → Wrote (through_value o st (step_field o path verb) (step_element o path verb) ty (opened o ty x (read o (child c.kids i) ty))) → Wrote (through_value n st (step_field n path verb) (step_element n path verb) ty' (opened n ty' x (read n (child d.kids i) ty')))
        → Agree bits c (put_child i (edit_value o st (edit_field o path verb) (edit_element o path verb) ty (opened_tree ty x (child c.kids i))) c) (put_child i (edit_value n st (edit_field n path verb) (edit_element n path verb) ty' (opened_tree ty' x (child d.kids i))) d)
    at_pointer st bits i ty ty' x r h follows c d s k k' =
        agree-more 0 bits c _ _ (omega arith) (agree-put_child i _ _ c d (into_value st ty ty' r follows x (child c.kids i) (child d.kids i) h (alike-child c d i s) k k') s)

    group_writes : (s : Schema) (l : List ℕ) (g : Shape) (c : Cell) → WritesField s verb (name l ∷ path) (group_slot g) c → WritesName s verb path l g c
    unfolding step_field body_of
    group_writes s l g c k = by k.active k.wrote
      where
        by : (b : Bool) → Wrote (through_field s (name l) (step_field s path verb) (step_element s path verb) (group_slot g) (only_if b (record_as (shape_record g k.size k.section k.kids)))) → WritesName s verb path l g c
        by true h = record { size = k.size; section = k.section; kids = k.kids; reads = k.reads; wrote = wrote-map record_as _ h }
        by false h = absurd h

    pointer_reads : (s : Schema) (st : Step) (i : ℕ) (ty : Ty) (d : Option Tree) (c : Cell) → WritesField s verb (st ∷ path) (pointer_slot i ty d) c
        → Wrote (through_value s st (step_field s path verb) (step_element s path verb) ty (opened s ty (default_or_null d) (read s (child c.kids i) ty)))
    unfolding step_field body_of
    pointer_reads s st i ty d c k = by k.active k.wrote
      where
        none_active : (st : Step) → Wrote (through_field s st (step_field s path verb) (step_element s path verb) (pointer_slot i ty d) inactive) → ⊥
        none_active (name l) h = h
        none_active (index j) h = h

        by : (b : Bool) → Wrote (through_field s st (step_field s path verb) (step_element s path verb) (pointer_slot i ty d) (only_if b (k.kids i ty)))
            → Wrote (through_value s st (step_field s path verb) (step_element s path verb) ty (opened s ty (default_or_null d) (read s (child c.kids i) ty)))
        by true h = subst (λ z. Wrote (through_value s st (step_field s path verb) (step_element s path verb) ty (opened s ty (default_or_null d) z))) (k.reads i ty) (through-pointer s verb path st i ty d (k.kids i ty) h)
        by false h = absurd (none_active st h)

    no_step : (s : Schema) (st : Step) (c : Cell) → ((i : ℕ) → WritesField s verb (st ∷ path) (void_slot i) c → ⊥) × ((p : PlainType) (at d : ℕ) → WritesField s verb (st ∷ path) (plain_slot p at d) c → ⊥)
    unfolding step_field body_of
    no_step s st c = ((λ i k. void_step st i k.active k.wrote), (λ p at d k. plain_step st p at d k.active _ k.wrote))
      where
        void_step : (st : Step) (i : ℕ) (b : Bool) → Wrote (through_field s st (step_field s path verb) (step_element s path verb) (void_slot i) (only_if b (number 0))) → ⊥
        void_step (name l) i true h = h
        void_step (name l) i false h = h
        void_step (index j) i true h = h
        void_step (index j) i false h = h

        plain_step : (st : Step) (p : PlainType) (at d : ℕ) (b : Bool) (x : ℕ) → Wrote (through_field s st (step_field s path verb) (step_element s path verb) (plain_slot p at d) (only_if b (number x))) → ⊥
        plain_step (name l) p at d true x h = h
        plain_step (name l) p at d false x h = h
        plain_step (index j) p at d true x h = h
        plain_step (index j) p at d false x h = h

    no_group_index : (s : Schema) (j : ℕ) (g : Shape) (c : Cell) → WritesField s verb (index j ∷ path) (group_slot g) c → ⊥
    unfolding step_field body_of
    no_group_index s j g c k = by k.active k.wrote
      where
        by : (b : Bool) → Wrote (through_field s (index j) (step_field s path verb) (step_element s path verb) (group_slot g) (only_if b (record_as (shape_record g k.size k.section k.kids)))) → ⊥
        by true h = h
        by false h = h

    through_pointer : (st : Step) (bits i j : ℕ) (ty ty' : Ty) (d d' : Option Tree) → PointerFollows o n verb st (FieldFollows o n verb path) (ElementFollows o n verb path) bits i j ty ty' d d' → (c e : Cell) → SameCell c e
        → WritesField o verb (st ∷ path) (pointer_slot i ty d) c → WritesField n verb (st ∷ path) (pointer_slot j ty' d') e
        → Agree bits c (put_child i (edit_value o st (edit_field o path verb) (edit_element o path verb) ty (opened_tree ty (default_or_null d) (child c.kids i))) c)
        (put_child j (edit_value n st (edit_field n path verb) (edit_element n path verb) ty' (opened_tree ty' (default_or_null d') (child e.kids j))) e)
    through_pointer st bits i j ty ty' d d' follows c e s k k' =
        let there = pointer_reads n st j ty' d' e k' in
        let moved = subst (λ z. Wrote (through_value n st (step_field n path verb) (step_element n path verb) ty' (opened n ty' (default_or_null d') (read n (child e.kids z) ty')))) (sym follows.0) there in
        let known = subst (λ z. Wrote (through_value n st (step_field n path verb) (step_element n path verb) ty' (opened n ty' z (read n (child e.kids i) ty')))) (sym follows.2) moved in
        subst
        (λ z. Agree bits c (put_child i (edit_value o st (edit_field o path verb) (edit_element o path verb) ty (opened_tree ty (default_or_null d) (child c.kids i))) c)
        (put_child z (edit_value n st (edit_field n path verb) (edit_element n path verb) ty' (opened_tree ty' (default_or_null d') (child e.kids z))) e))
        follows.0
        (subst
        (λ z. Agree bits c (put_child i (edit_value o st (edit_field o path verb) (edit_element o path verb) ty (opened_tree ty (default_or_null d) (child c.kids i))) c)
        (put_child i (edit_value n st (edit_field n path verb) (edit_element n path verb) ty' (opened_tree ty' z (child e.kids i))) e))
        follows.2
        (at_pointer st bits i ty ty' (default_or_null d) follows.1 follows.3 follows.4 c e s (pointer_reads o st i ty d c k) known))

    through_agrees : (st : Step) → FieldAgrees (st ∷ path)
    unfolding edit_field
    through_agrees (name l) bits u m u' m' (group_slot (shape nid w p v fs)) (group_slot (shape nid' w' p' v' fs')) mark' follows c d s k k' =
        named l bits nid w p nid' w' p' v v' fs fs' follows c d s (group_writes o l (shape nid w p v fs) c k) (group_writes n l (shape nid' w' p' v' fs') d k')
    through_agrees (index i) bits u m u' m' (group_slot g) (group_slot g') mark' follows c d s k k' = absurd (no_group_index o i g c k)
    through_agrees (name l) bits u m u' m' (pointer_slot i ty x) (pointer_slot j ty' x') mark' follows c d s k k' = through_pointer (name l) bits i j ty ty' x x' follows c d s k k'
    through_agrees (index y) bits u m u' m' (pointer_slot i ty x) (pointer_slot j ty' x') mark' follows c d s k k' = through_pointer (index y) bits i j ty ty' x x' follows c d s k k'
    through_agrees st bits u m u' m' (void_slot i) b' mark' follows c d s k k' = absurd ((no_step o st c).0 i k)
    through_agrees st bits u m u' m' (plain_slot p at x) b' mark' follows c d s k k' = absurd ((no_step o st c).1 p at x k)
    through_agrees (name l) bits u m u' m' b b' mark' follows c d s k k' = absurd follows
    through_agrees (index i) bits u m u' m' b b' mark' follows c d s k k' = absurd follows

    -- ---- through an element

    element_reads : (s : Schema) (st : Step) (ty : Ty) (c : Cell) (kids : Children) → ((i : ℕ) (t : Ty) → kids i t ≡ read s (child c.kids i) t) → Wrote (through_value s st (step_field s path verb) (step_element s path verb) ty (opened s ty null (kids 0 ty)))
        → Wrote (through_value s st (step_field s path verb) (step_element s path verb) ty (opened s ty null (read s (child c.kids 0) ty)))
    element_reads s st ty c kids reads h = subst (λ z. Wrote (through_value s st (step_field s path verb) (step_element s path verb) ty (opened s ty null z))) (reads 0 ty) h

    pointer_element : (st : Step) (bits : ℕ) (ty ty' : Ty) → Related o n AnyPair ty ty' → ValueFollows o n verb st (FieldFollows o n verb path) (ElementFollows o n verb path) ty ty' → (c d : Cell) → SameCell c d
        → Wrote (through_value o st (step_field o path verb) (step_element o path verb) ty (opened o ty null (read o (child c.kids 0) ty))) → Wrote (through_value n st (step_field n path verb) (step_element n path verb) ty' (opened n ty' null (read n (child d.kids 0) ty')))
        → Agree bits c (put_child 0 (edit_value o st (edit_field o path verb) (edit_element o path verb) ty (child c.kids 0)) c) (put_child 0 (edit_value n st (edit_field n path verb) (edit_element n path verb) ty' (child d.kids 0)) d)
    pointer_element st bits ty ty' r follows c d s k k' =
        subst (λ z. Agree bits c (put_child 0 (edit_value o st (edit_field o path verb) (edit_element o path verb) ty z) c) (put_child 0 (edit_value n st (edit_field n path verb) (edit_element n path verb) ty' (child d.kids 0)) d)) (opened_null ty (child c.kids 0))
        (subst (λ z. Agree bits c (put_child 0 (edit_value o st (edit_field o path verb) (edit_element o path verb) ty (opened_tree ty null (child c.kids 0))) c) (put_child 0 (edit_value n st (edit_field n path verb) (edit_element n path verb) ty' z) d)) (opened_null ty' (child d.kids 0))
        (at_pointer st bits 0 ty ty' null r tt follows c d s k k'))

    struct_element : (l : List ℕ) (i j : ℕ) (g g' : Shape) → o.shape_of i ≡ g → n.shape_of j ≡ g' → NameFollows o n verb (FieldFollows o n verb path) l (64 * words_of_shape g) g g' → (c d : Cell) → SameCell c d
        → WritesName o verb path l g c → WritesName n verb path l g' d
        → Agree (64 * words_of_shape g) c (elim g as (λ (x : Shape). Cell) [ shape nid w p union fs ↦ edit_named (edit_field o path verb) l union fs c ]) (elim g' as (λ (x : Shape). Cell) [ shape nid w p union fs ↦ edit_named (edit_field n path verb) l union fs d ])
    struct_element l i j (shape nid w p u fs) (shape nid' w' p' u' fs') e e' follows c d s k k' = named l (64 * w) nid w p nid' w' p' u u' fs fs' follows c d s k k'

    no_element_name : (s : Schema) (l : List ℕ) (ty : Ty) (c : Cell) → ((id : ℕ) → ty ≡ struct id → ⊥) → WritesElement s verb (name l ∷ path) ty c → ⊥
    unfolding step_element
    no_element_name s l ty c e h = no-name s verb path l ty (opened s ty null (element_as s ty h.size h.section h.kids)) e h.wrote

    no_element_index : (s : Schema) (k : ℕ) (ty : Ty) (c : Cell) → ((x : Ty) → ty ≡ list x → ⊥) → WritesElement s verb (index k ∷ path) ty c → ⊥
    unfolding step_element
    no_element_index s k ty c e h = no-index s verb path k ty (opened s ty null (element_as s ty h.size h.section h.kids)) e h.wrote

    element_name : (s : Schema) (l : List ℕ) (i : ℕ) (c : Cell) → WritesElement s verb (name l ∷ path) (struct i) c → WritesName s verb path l (s.shape_of i) c
    unfolding step_element
    element_name s l i c h = record { size = h.size; section = h.section; kids = h.kids; reads = h.reads; wrote = wrote-map record_as _ h.wrote }

    through_element_agrees : (st : Step) → ElementAgrees (st ∷ path)
    unfolding edit_element step_element
    through_element_agrees (name l) ty ty' (related_struct {i = i} {j = j} r) follows w p v q c d s k k' =
        struct_element l i j (o.shape_of i) (n.shape_of j) refl refl follows.0 c d s (element_name o l i c k) (element_name n l j d k')
    through_element_agrees (index y) ty ty' (related_struct {i = i} {j = j} r) follows w p v q c d s k k' = absurd (no_element_index o y (struct i) c (λ x e. cc e) k)
    through_element_agrees (name l) ty ty' related_void follows w p v q c d s k k' = absurd (no_element_name o l void c (λ id e. cc e) k)
    through_element_agrees (index y) ty ty' related_void follows w p v q c d s k k' = absurd (no_element_index o y void c (λ x e. cc e) k)
    through_element_agrees (name l) ty ty' (related_plain' {p = x} r) follows w p v q c d s k k' = absurd (no_element_name o l (plain x) c (λ id e. cc e) k)
    through_element_agrees (index y) ty ty' (related_plain' {p = x} r) follows w p v q c d s k k' = absurd (no_element_index o y (plain x) c (λ x e. cc e) k)
    through_element_agrees (name l) ty ty' related_text follows w p v q c d s k k' = absurd (no_element_name o l text c (λ id e. cc e) k)
    through_element_agrees (index y) ty ty' related_text follows w p v q c d s k k' = absurd (no_element_index o y text c (λ x e. cc e) k)
    through_element_agrees (name l) ty ty' related_blob follows w p v q c d s k k' = absurd (no_element_name o l blob c (λ id e. cc e) k)
    through_element_agrees (index y) ty ty' related_blob follows w p v q c d s k k' = absurd (no_element_index o y blob c (λ x e. cc e) k)
    through_element_agrees (name l) ty ty' related_untyped follows w p v q c d s k k' = absurd (no_element_name o l untyped c (λ id e. cc e) k)
    through_element_agrees (index y) ty ty' related_untyped follows w p v q c d s k k' = absurd (no_element_index o y untyped c (λ x e. cc e) k)
    through_element_agrees (name l) ty ty' related_interface follows w p v q c d s k k' = absurd (no_element_name o l interface c (λ id e. cc e) k)
    through_element_agrees (index y) ty ty' related_interface follows w p v q c d s k k' = absurd (no_element_index o y interface c (λ x e. cc e) k)
    through_element_agrees (name l) ty ty' (related_list {a = x} r) follows w p v q c d s k k' = absurd (no_element_name o l (list x) c (λ id e. cc e) k)
    through_element_agrees (index y) ty ty' (related_list {a = a} {b = b} r) follows w p v q c d s k k' =
        pointer_element (index y) 0 (list a) (list b) (related_list r) follows c d s (element_reads o (index y) (list a) c k.kids k.reads k.wrote) (element_reads n (index y) (list b) d k'.kids k'.reads k'.wrote)

  -- THE LAW, from a field or an element on
  mutual
    pub fields_agree : (path : List Step) → FieldAgrees path
    fields_agree [] = end_agrees
    fields_agree (st ∷ path) = through_agrees path (fields_agree path) (elements_agree path) st

    pub elements_agree : (path : List Step) → ElementAgrees path
    elements_agree [] = element_end_agrees
    elements_agree (st ∷ path) = through_element_agrees path (fields_agree path) (elements_agree path) st

  -- and from the root on
  pub structs_agree : (path : List Step) (l : List ℕ) (i j : ℕ) → NameFollows o n verb (FieldFollows o n verb path) l (64 * words_of_shape (o.shape_of i)) (o.shape_of i) (n.shape_of j) → words_of_shape (o.shape_of i) ≤ words_of_shape (n.shape_of j)
      → (t t' : Tree) → Alike t t' → WritesStruct o verb path l i t → WritesStruct n verb path l j t'
      → Alike (edit_struct (edit_field o path verb) l (o.shape_of i) t) (edit_struct (edit_field n path verb) l (n.shape_of j) t')
  structs_agree path l i j follows le t t' a k k' = into_structs path (fields_agree path) (elements_agree path) l i j (o.shape_of i) (n.shape_of j) refl refl follows le t t' a k k'
