-- A group that the newer does not extend is set alike under both: the same faults, and the older view of the same record.
use Rattle.std.proofs.Common.{◌≡◌, ℕ, zero, suc, ◌≤◌, ◌==◌, ◌&&◌, nat_le, Bool, true, false, List, Option, Some, None, refl, sym, ◌∙◌, ap, arith}
use Rattle.std.specs.Str.{bytes_eq}
use Rattle.capnp_model.specs.Kinds.{Kind}
use Rattle.capnp_model.specs.Trees.{Tree, null, capability, structure, plain_list, pointer_list, struct_list}
use Rattle.capnp_model.specs.Schemas.{Ty, void, plain, text, blob, untyped, interface, struct, list, Shape, Fields, no_fields, field, Body, void_slot, plain_slot, pointer_slot, group_slot, Schema, default_or_null}
use Rattle.capnp_model.specs.Readings.{Readings, Reading, inactive, null_pointer, fault, number, text_of, blob_of, list_of, record_as, opaque, Record, entry, Children, no_children, Extent, whole_words, discriminant, is_active, only_if, shape_record, fields_of, body_of, read, read_child, record_by_shape}
use Rattle.capnp_model.specs.Printing.{As, as_type, as_body, as_group, fields_in}
use Rattle.capnp_model.specs.Projection.{project, project_fields}
use Rattle.capnp_model.specs.Calls.{whole_number, truth, enumerant, text_value, blob_value, message, Verb, get, set_to, init, initn, clear, message_root}
use Rattle.capnp_model.specs.Groups.{empty_tree, source_tree, or_else, pointer_fault, field_fault, is_turn, group_fault, fields_fault, body_fault, has_active, copied_record, copied_entries, copied_reading}
use Rattle.capnp_model.specs.Steps.{done, outcome_map, at_field, copied_or_refused, set_group_from}
use Rattle.capnp_model.specs.Compatible.{Pairs, related, same_option, is_new, member_count, keeps_union, same_default, keeps, keeps_fields, keeps_body}
use Rattle.capnp_model.specs.Admitted.{is_group_write}
use Rattle.capnp_model.proofs.lemmas.KeptRules.{and_three, and_four}
use Rattle.capnp_model.proofs.lemmas.KeptShapes.{HasPair}
use Rattle.capnp_model.proofs.lemmas.FineShapes.{IsGood, AreGood, IsGoodBody}
use Rattle.capnp_model.proofs.lemmas.OlderReading.{same_bool, same_int, same_uint, same_enum, Related, related_void, related_plain', related_text, related_blob, related_untyped, related_interface, related_struct, related_list, KeptShape, KidsAgree, shape_record-project, body_of-project, no_children_agree, read-project, read_child-project}
use Rattle.capnp_model.proofs.lemmas.Tests.{and_right}
use Rattle.capnp_model_versions.proofs.SameShapes.{SameShape, same_shape, SameFields, same_none, same_field, SameBody, same_void, same_plain', same_pointer, same_group}
use Rattle.capnp_model_versions.specs.SameReplies.{IsWrite}
use Rattle.capnp_model_versions.proofs.ReplacedViews.{take_shared}
use Rattle.capnp_model_versions.proofs.KeptViews.{related-pairs, shape-kept, body-kept}

field_count : Fields → ℕ
field_count no_fields = 0
field_count (field l m b fs) = suc (field_count fs)

le_by : (a b c : ℕ) → suc a ≤ b → b ≡ a → c ≡ c → ⊥
le_by a b c h e x = omega arith

module _ (o n : Schema) (pairs : Pairs) (closed : (i j : ℕ) → HasPair o n pairs i j → KeptShape o n (HasPair o n pairs) (o.shape_of i) (n.shape_of j)) (bits : ℕ) where
  abbrev R : ℕ → ℕ → Type 0
  R i j = HasPair o n pairs i j

  -- ---- the same fields stand in the same order

  counts : (count : ℕ) (fs fs' : Fields) → keeps_fields o n pairs count fs fs' ≡ true → field_count fs ≤ field_count fs'
  unfolding keeps field_count
  counts count no_fields fs' h = omega arith
  counts count (field k m b fs) no_fields h = absurd (cc h)
  counts count (field k m b fs) (field k' m' b' fs') h = by (bytes_eq k k') (counts count fs fs') (counts count (field k m b fs) fs') h
    where
      by : (c : Bool) → (keeps_fields o n pairs count fs fs' ≡ true → field_count fs ≤ field_count fs') → (keeps_fields o n pairs count (field k m b fs) fs' ≡ true → suc (field_count fs) ≤ field_count fs')
          → (elim c as (λ (x : Bool). Bool) [ true ↦ same_option m m' && keeps_body o n pairs b b' && keeps_fields o n pairs count fs fs' | false ↦ is_new count m' && keeps_fields o n pairs count (field k m b fs) fs' ]) ≡ true
          → suc (field_count fs) ≤ suc (field_count fs')
      by true rest behind x = let less = rest (and_right (same_option m m' && keeps_body o n pairs b b') _ x) in omega arith
      by false rest behind x = let less = behind (and_right (is_new count m') _ x) in omega arith

  count_same : (u : Option ℕ) (fs fs' : Fields) → SameFields o n bits u fs fs' → field_count fs ≡ field_count fs'
  unfolding field_count
  count_same u fs fs' same_none = refl
  count_same u fs fs' (same_field {fs = gs} {fs' = gs'} w s rest) = ap suc (count_same u gs gs' rest)

  -- the first fields are partners
  in_place : (count : ℕ) (l l' : List ℕ) (m m' : Option ℕ) (b b' : Body) (fs fs' : Fields) → keeps_fields o n pairs count (field l m b fs) (field l' m' b' fs') ≡ true → field_count fs ≡ field_count fs'
      → (bytes_eq l l' ≡ true) × (keeps_body o n pairs b b' ≡ true) × (keeps_fields o n pairs count fs fs' ≡ true)
  unfolding keeps field_count
  in_place count l l' m m' b b' fs fs' h e = by (bytes_eq l l') refl h
    where
      by : (c : Bool) → bytes_eq l l' ≡ c
          → (elim c as (λ (x : Bool). Bool) [ true ↦ same_option m m' && keeps_body o n pairs b b' && keeps_fields o n pairs count fs fs' | false ↦ is_new count m' && keeps_fields o n pairs count (field l m b fs) fs' ]) ≡ true
          → (bytes_eq l l' ≡ true) × (keeps_body o n pairs b b' ≡ true) × (keeps_fields o n pairs count fs fs' ≡ true)
      by true f x = let three = and_three (same_option m m') (keeps_body o n pairs b b') (keeps_fields o n pairs count fs fs') x in (f, three.1, three.2)
      by false f x =
          let more = counts count (field l m b fs) fs' (and_right (is_new count m') _ x) in
          absurd (le_by (field_count fs) (field_count fs') 0 more (sym e) refl)

  shape_fields : (g g' : Shape) → SameShape o n bits g g' → keeps o n pairs g g' ≡ true → keeps_fields o n pairs (member_count (fields_in g)) (fields_in g) (fields_in g') ≡ true
  unfolding keeps
  shape_fields g g' (same_shape {w = w} {w' = w'} {p = p} {p' = p'} {u = u} {fs = fs} {fs' = fs'} x y) h = (and_four (nat_le w w') (nat_le p p') (keeps_union u u) (keeps_fields o n pairs (member_count fs) fs fs') h).3

  pointer_types_of : (i : ℕ) (ty ty' : Ty) (d d' : Option Tree) → keeps_body o n pairs (pointer_slot i ty d) (pointer_slot i ty' d') ≡ true → Related o n R ty ty'
  unfolding keeps
  pointer_types_of i ty ty' d d' h = related-pairs o n pairs ty ty' (and_three (i == i) (related o n pairs ty ty') (same_default d d') h).1

  -- ---- faults

  turn_view : (members : Bool) (m : Option ℕ) (how : As) (z : Reading) → is_turn members m (project o how z) ≡ is_turn members m z
  unfolding project
  turn_view members m how inactive = refl
  turn_view members m how null_pointer = refl
  turn_view members m how (fault k) = refl
  turn_view members m how (number k) = refl
  turn_view members m how (text_of k) = refl
  turn_view members m how (blob_of k) = refl
  turn_view members m how (opaque k) = refl
  turn_view true None how (list_of k) = refl
  turn_view true (Some a) how (list_of k) = refl
  turn_view false None how (list_of k) = refl
  turn_view false (Some a) how (list_of k) = refl
  turn_view true None how (record_as k) = refl
  turn_view true (Some a) how (record_as k) = refl
  turn_view false None how (record_as k) = refl
  turn_view false (Some a) how (record_as k) = refl

  pointer_types : (ty ty' : Ty) (z : Reading) → Related o n R ty ty' → pointer_fault ty z ≡ pointer_fault ty' z
  pointer_types ty ty' z related_void = refl
  pointer_types ty ty' z related_text = refl
  pointer_types ty ty' z related_blob = refl
  pointer_types ty ty' z related_untyped = refl
  pointer_types ty ty' z related_interface = refl
  pointer_types ty ty' (fault k) (related_plain' same) = refl
  pointer_types ty ty' z (related_plain' same) = refl
  pointer_types ty ty' (fault k) (related_struct r) = refl
  pointer_types ty ty' z (related_struct r) = refl
  pointer_types ty ty' (fault k) (related_list r) = refl
  pointer_types ty ty' z (related_list r) = refl

  field_types : (members : Bool) (ty ty' : Ty) (z : Reading) → Related o n R ty ty' → field_fault members ty z ≡ field_fault members ty' z
  field_types true ty ty' z r = pointer_types ty ty' z r
  field_types false ty ty' null_pointer r = refl
  field_types false ty ty' inactive r = pointer_types ty ty' inactive r
  field_types false ty ty' (fault k) r = pointer_types ty ty' (fault k) r
  field_types false ty ty' (number k) r = pointer_types ty ty' (number k) r
  field_types false ty ty' (text_of k) r = pointer_types ty ty' (text_of k) r
  field_types false ty ty' (blob_of k) r = pointer_types ty ty' (blob_of k) r
  field_types false ty ty' (list_of k) r = pointer_types ty ty' (list_of k) r
  field_types false ty ty' (record_as k) r = pointer_types ty ty' (record_as k) r
  field_types false ty ty' (opaque k) r = pointer_types ty ty' (opaque k) r

  lists_fault : (members : Bool) (ty : Ty) (a b : Readings) → field_fault members ty (list_of a) ≡ field_fault members ty (list_of b)
  lists_fault true void a b = refl
  lists_fault true (plain p) a b = refl
  lists_fault true text a b = refl
  lists_fault true blob a b = refl
  lists_fault true untyped a b = refl
  lists_fault true interface a b = refl
  lists_fault true (struct i) a b = refl
  lists_fault true (list e) a b = refl
  lists_fault false void a b = refl
  lists_fault false (plain p) a b = refl
  lists_fault false text a b = refl
  lists_fault false blob a b = refl
  lists_fault false untyped a b = refl
  lists_fault false interface a b = refl
  lists_fault false (struct i) a b = refl
  lists_fault false (list e) a b = refl

  records_fault : (members : Bool) (ty : Ty) (a b : Record) → field_fault members ty (record_as a) ≡ field_fault members ty (record_as b)
  records_fault true void a b = refl
  records_fault true (plain p) a b = refl
  records_fault true text a b = refl
  records_fault true blob a b = refl
  records_fault true untyped a b = refl
  records_fault true interface a b = refl
  records_fault true (struct i) a b = refl
  records_fault true (list e) a b = refl
  records_fault false void a b = refl
  records_fault false (plain p) a b = refl
  records_fault false text a b = refl
  records_fault false blob a b = refl
  records_fault false untyped a b = refl
  records_fault false interface a b = refl
  records_fault false (struct i) a b = refl
  records_fault false (list e) a b = refl

  view_fault : (members : Bool) (ty : Ty) (how : As) (z : Reading) → field_fault members ty (project o how z) ≡ field_fault members ty z
  unfolding project
  view_fault members ty how inactive = refl
  view_fault members ty how null_pointer = refl
  view_fault members ty how (fault k) = refl
  view_fault members ty how (number k) = refl
  view_fault members ty how (text_of k) = refl
  view_fault members ty how (blob_of k) = refl
  view_fault members ty how (opaque k) = refl
  view_fault members ty how (list_of k) = lists_fault members ty _ k
  view_fault members ty how (record_as k) = records_fault members ty _ k

  -- what is found at an entry
  abbrev entry_fault : Bool → Option ℕ → Body → Reading → Option Kind
  entry_fault members m b x = elim (is_turn members m x) [ true ↦ body_fault members b x | false ↦ None ]

  entry_same : (members : Bool) (m : Option ℕ) (b b' : Body) (x x' : Reading) → x ≡ project o (as_body b) x' → body_fault members b x ≡ body_fault members b' x' → entry_fault members m b x ≡ entry_fault members m b' x'
  entry_same members m b b' x x' e f =
      ap (λ (t : Bool). elim t as (λ (z : Bool). Option Kind) [ true ↦ body_fault members b x | false ↦ None ]) (ap (is_turn members m) e ∙ turn_view members m (as_body b) x')
      ∙ ap (λ (k : Option Kind). elim (is_turn members m x') as (λ (z : Bool). Option Kind) [ true ↦ k | false ↦ None ]) f

  -- ---- records

  -- a field that reads as its older view is active alike
  active_view : (known known' : Bool) (l l' : List ℕ) (k : ℕ) (b b' : Body) (fs fs' : Fields) (how : As) (z : Reading) (r r' : Record) → has_active fs r ≡ has_active fs' r'
      → has_active (field l (Some k) b fs) (entry l (project o how z) r) ≡ has_active (field l' (Some k) b' fs') (entry l' z r')
  unfolding project
  active_view known known' l l' k b b' fs fs' how inactive r r' e = e
  active_view known known' l l' k b b' fs fs' how null_pointer r r' e = refl
  active_view known known' l l' k b b' fs fs' how (fault j) r r' e = refl
  active_view known known' l l' k b b' fs fs' how (number j) r r' e = refl
  active_view known known' l l' k b b' fs fs' how (text_of j) r r' e = refl
  active_view known known' l l' k b b' fs fs' how (blob_of j) r r' e = refl
  active_view known known' l l' k b b' fs fs' how (list_of j) r r' e = refl
  active_view known known' l l' k b b' fs fs' how (record_as j) r r' e = refl
  active_view known known' l l' k b b' fs fs' how (opaque j) r r' e = refl

  empty_is : (ty ty' : Ty) → Related o n R ty ty' → empty_tree o ty ≡ empty_tree n ty'
  empty_is ty ty' related_void = refl
  empty_is ty ty' (related_plain' same) = refl
  empty_is ty ty' related_text = refl
  empty_is ty ty' related_blob = refl
  empty_is ty ty' related_untyped = refl
  empty_is ty ty' related_interface = refl
  empty_is ty ty' (related_struct r) = refl
  empty_is ty ty' (related_list related_void) = refl
  empty_is ty ty' (related_list (related_plain' same_bool)) = refl
  empty_is ty ty' (related_list (related_plain' (same_int w))) = refl
  empty_is ty ty' (related_list (related_plain' (same_uint w))) = refl
  empty_is ty ty' (related_list (related_plain' (same_enum i j))) = refl
  empty_is ty ty' (related_list related_text) = refl
  empty_is ty ty' (related_list related_blob) = refl
  empty_is ty ty' (related_list related_untyped) = refl
  empty_is ty ty' (related_list related_interface) = refl
  empty_is ty ty' (related_list (related_struct r)) = refl
  empty_is ty ty' (related_list (related_list r)) = refl

  source_is : (ty ty' : Ty) (d : Tree) → Related o n R ty ty' → source_tree o ty d null ≡ source_tree n ty' d null
  source_is ty ty' null r = empty_is ty ty' r
  source_is ty ty' (capability i) r = refl
  source_is ty ty' (structure w m ts) r = refl
  source_is ty ty' (plain_list z m x) r = refl
  source_is ty ty' (pointer_list ts) r = refl
  source_is ty ty' (struct_list w p es) r = refl

  module _ (i j : ℕ) (ty ty' : Ty) (d d' : Option Tree) (r : Related o n R ty ty') (same : default_or_null d ≡ default_or_null d') where
    null_copied : read o (source_tree o ty (default_or_null d) null) ty ≡ project o (as_type ty (default_or_null d)) (read n (source_tree n ty' (default_or_null d') null) ty')
    null_copied =
        let e : source_tree o ty (default_or_null d) null ≡ source_tree n ty' (default_or_null d') null = source_is ty ty' (default_or_null d) r ∙ ap (λ z. source_tree n ty' z null) same in
        ap (λ z. read o z ty) e ∙ read-project o n R closed (source_tree n ty' (default_or_null d') null) ty ty' (default_or_null d) r

    pointer_copied : (known : Bool) (m : Option ℕ) (z : Reading) → copied_reading o known m (pointer_slot i ty d) (project o (as_type ty (default_or_null d)) z) ≡ project o (as_type ty (default_or_null d)) (copied_reading n known m (pointer_slot j ty' d') z)
    unfolding project copied_record body_of
    pointer_copied known None inactive = refl
    pointer_copied known None null_pointer = refl
    pointer_copied known None (fault k) = refl
    pointer_copied known None (number k) = refl
    pointer_copied known None (text_of k) = refl
    pointer_copied known None (blob_of k) = refl
    pointer_copied known None (list_of k) = refl
    pointer_copied known None (record_as k) = refl
    pointer_copied known None (opaque k) = refl
    pointer_copied true (Some zero) inactive = refl
    pointer_copied false (Some zero) inactive = refl
    pointer_copied known (Some (suc a)) inactive = refl
    pointer_copied known (Some zero) null_pointer = null_copied
    pointer_copied known (Some (suc a)) null_pointer = null_copied
    pointer_copied known (Some zero) (fault k) = refl
    pointer_copied known (Some (suc a)) (fault k) = refl
    pointer_copied known (Some zero) (number k) = refl
    pointer_copied known (Some (suc a)) (number k) = refl
    pointer_copied known (Some zero) (text_of k) = refl
    pointer_copied known (Some (suc a)) (text_of k) = refl
    pointer_copied known (Some zero) (blob_of k) = refl
    pointer_copied known (Some (suc a)) (blob_of k) = refl
    pointer_copied known (Some zero) (list_of k) = refl
    pointer_copied known (Some (suc a)) (list_of k) = refl
    pointer_copied known (Some zero) (record_as k) = refl
    pointer_copied known (Some (suc a)) (record_as k) = refl
    pointer_copied known (Some zero) (opaque k) = refl
    pointer_copied known (Some (suc a)) (opaque k) = refl

  stays_inactive : (s : Schema) (known : Bool) (b : Body) → copied_reading s known None b inactive ≡ inactive
  unfolding copied_record
  stays_inactive s known (void_slot x) = refl
  stays_inactive s known (plain_slot p at d) = refl
  stays_inactive s known (pointer_slot i ty d) = refl
  stays_inactive s known (group_slot g) = refl

  -- a member that is not active
  inactive_copied : (known : Bool) (m : Option ℕ) (b b' : Body) → keeps_body o n pairs b b' ≡ true → IsGoodBody o b → copied_reading o known m b inactive ≡ project o (as_body b) (copied_reading n known m b' inactive)
  unfolding project copied_record
  inactive_copied true (Some zero) b b' h good = refl
  inactive_copied false (Some zero) b b' h good = body_of-project o n R b b' whole_words 0 no_children no_children (no_children_agree o n R closed) (body-kept o n pairs b b' h good)
  inactive_copied known (Some (suc a)) b b' h good = refl
  inactive_copied known None b b' h good = stays_inactive o known b ∙ ap (project o (as_body b)) (sym (stays_inactive n known b'))

  module _ (size : Extent) (section : ℕ) (ko kn : Children) (agree : KidsAgree o n R ko kn) where
    -- an entry of both
    entry_view : (a : Bool) (b b' : Body) → keeps_body o n pairs b b' ≡ true → IsGoodBody o b → only_if a (body_of b size section ko) ≡ project o (as_body b) (only_if a (body_of b' size section kn))
    unfolding project
    entry_view true b b' h good = body_of-project o n R b b' size section ko kn agree (body-kept o n pairs b b' h good)
    entry_view false b b' h good = refl

    mutual
      unfolding group_fault shape_record keeps

      pub group-fault-same : (g g' : Shape) → SameShape o n bits g g' → keeps o n pairs g g' ≡ true → IsGood o g → group_fault g (shape_record g size section ko) ≡ group_fault g' (shape_record g' size section kn)
      group-fault-same g g' (same_shape {u = u} {fs = fs} {fs' = fs'} w s) h good =
          let k = shape_fields g g' (same_shape w s) h in
          let first = fields_fault_same true u (discriminant u size section) (member_count fs) fs fs' s k good in
          let later = fields_fault_same false u (discriminant u size section) (member_count fs) fs fs' s k good in
          ap (λ z. or_else z (fields_fault false fs (fields_of fs (discriminant u size section) size section ko))) first
          ∙ ap (or_else (fields_fault true fs' (fields_of fs' (discriminant u size section) size section kn))) later

      fields_fault_same : (members : Bool) (u d : Option ℕ) (count : ℕ) (fs fs' : Fields) → SameFields o n bits u fs fs' → keeps_fields o n pairs count fs fs' ≡ true → AreGood o u fs
          → fields_fault members fs (fields_of fs d size section ko) ≡ fields_fault members fs' (fields_of fs' d size section kn)
      fields_fault_same members u d count fs fs' same_none h good = refl
      fields_fault_same members u d count fs fs' (same_field {m = m} {l = l} {l' = l'} {b = b} {b' = b'} {fs = gs} {fs' = gs'} w s rest) h good =
          let at = in_place count l l' m m b b' gs gs' h (count_same u gs gs' rest) in
          let x : Reading = only_if (is_active m d) (body_of b size section ko) in
          let x' : Reading = only_if (is_active m d) (body_of b' size section kn) in
          let here = entry_same members m b b' x x' (entry_view (is_active m d) b b' at.1 good.3) (body_fault_same members (is_active m d) b b' s at.1 good.3) in
          ap (λ z. or_else z (fields_fault members gs (fields_of gs d size section ko))) here
          ∙ ap (or_else (entry_fault members m b' x')) (fields_fault_same members u d count gs gs' rest at.2 good.4)

      body_fault_same : (members a : Bool) (b b' : Body) → SameBody o n bits b b' → keeps_body o n pairs b b' ≡ true → IsGoodBody o b
          → body_fault members b (only_if a (body_of b size section ko)) ≡ body_fault members b' (only_if a (body_of b' size section kn))
      body_fault_same members a b b' same_void h good = refl
      body_fault_same members a b b' (same_plain' s le small) h good = refl
      body_fault_same members a b b' (same_pointer {i = i} {ty = ty} {ty' = ty'} {d = d} {d' = d'} types defaults whole) h good =
          let view = entry_view a (pointer_slot i ty d) (pointer_slot i ty' d') h good in
          ap (field_fault members ty) view ∙ view_fault members ty (as_type ty (default_or_null d)) (only_if a (kn i ty')) ∙ field_types members ty ty' (only_if a (kn i ty')) (pointer_types_of i ty ty' d d' h)
      body_fault_same members true b b' (same_group {g = g} {g' = g'} s) h good = group-fault-same g g' s h good
      body_fault_same members false b b' (same_group {g = g} {g' = g'} s) h good = refl

    -- the same members are active
    active_same : (u d : Option ℕ) (count : ℕ) (fs fs' : Fields) → SameFields o n bits u fs fs' → keeps_fields o n pairs count fs fs' ≡ true → AreGood o u fs → has_active fs (fields_of fs d size section ko) ≡ has_active fs' (fields_of fs' d size section kn)
    unfolding shape_record
    active_same u d count fs fs' same_none h good = refl
    active_same u d count fs fs' (same_field {m = None} {l = l} {l' = l'} {b = b} {b' = b'} {fs = gs} {fs' = gs'} w s rest) h good =
        active_same u d count gs gs' rest (in_place count l l' None None b b' gs gs' h (count_same u gs gs' rest)).2 good.4
    active_same u d count fs fs' (same_field {m = Some k} {l = l} {l' = l'} {b = b} {b' = b'} {fs = gs} {fs' = gs'} w s rest) h good =
        let at = in_place count l l' (Some k) (Some k) b b' gs gs' h (count_same u gs gs' rest) in
        ap (λ z. has_active (field l (Some k) b gs) (entry l z (fields_of gs d size section ko))) (entry_view (is_active (Some k) d) b b' at.1 good.3)
        ∙ active_view true true l l' k b b' gs gs' (as_body b) (only_if (is_active (Some k) d) (body_of b' size section kn)) (fields_of gs d size section ko) (fields_of gs' d size section kn) (active_same u d count gs gs' rest at.2 good.4)

    mutual
      unfolding copied_record shape_record keeps project

      pub copied-same : (g g' : Shape) → SameShape o n bits g g' → keeps o n pairs g g' ≡ true → IsGood o g → copied_record o g (shape_record g size section ko) ≡ project_fields o (fields_in g) (copied_record n g' (shape_record g' size section kn))
      copied-same g g' (same_shape {u = u} {fs = fs} {fs' = fs'} w s) h good =
          let k = shape_fields g g' (same_shape w s) h in
          let d : Option ℕ = discriminant u size section in
          ap (λ z. copied_entries o fs z (fields_of fs d size section ko)) (active_same u d (member_count fs) fs fs' s k good)
          ∙ entries_same (has_active fs' (fields_of fs' d size section kn)) u d (member_count fs) fs fs' s k good

      entries_same : (known : Bool) (u d : Option ℕ) (count : ℕ) (fs fs' : Fields) → SameFields o n bits u fs fs' → keeps_fields o n pairs count fs fs' ≡ true → AreGood o u fs
          → copied_entries o fs known (fields_of fs d size section ko) ≡ project_fields o fs (copied_entries n fs' known (fields_of fs' d size section kn))
      entries_same known u d count fs fs' same_none h good = refl
      entries_same known u d count fs fs' (same_field {m = m} {l = l} {l' = l'} {b = b} {b' = b'} {fs = gs} {fs' = gs'} w s rest) h good =
          let at = in_place count l l' m m b b' gs gs' h (count_same u gs gs' rest) in
          let x : Reading = only_if (is_active m d) (body_of b size section ko) in
          let x' : Reading = only_if (is_active m d) (body_of b' size section kn) in
          ap (λ z. entry l z (copied_entries o gs known (fields_of gs d size section ko))) (reading_same known m (is_active m d) b b' s at.1 good.3)
          ∙ ap (entry l (project o (as_body b) (copied_reading n known m b' x'))) (entries_same known u d count gs gs' rest at.2 good.4)
          ∙ take_shared o n R l l' m b gs (copied_reading n known m b' x') (copied_entries n gs' known (fields_of gs' d size section kn)) at.0

      reading_same : (known : Bool) (m : Option ℕ) (a : Bool) (b b' : Body) → SameBody o n bits b b' → keeps_body o n pairs b b' ≡ true → IsGoodBody o b
          → copied_reading o known m b (only_if a (body_of b size section ko)) ≡ project o (as_body b) (copied_reading n known m b' (only_if a (body_of b' size section kn)))
      reading_same known m false b b' s h good = inactive_copied known m b b' h good
      reading_same known None true b b' same_void h good = refl
      reading_same known (Some zero) true b b' same_void h good = refl
      reading_same known (Some (suc k)) true b b' same_void h good = refl
      reading_same known None true b b' (same_plain' {p = p} {q = q} {at = at} {d = d} s le small) h good = body_of-project o n R (plain_slot p at d) (plain_slot q at d) size section ko kn agree (body-kept o n pairs (plain_slot p at d) (plain_slot q at d) h good)
      reading_same known (Some zero) true b b' (same_plain' {p = p} {q = q} {at = at} {d = d} s le small) h good = body_of-project o n R (plain_slot p at d) (plain_slot q at d) size section ko kn agree (body-kept o n pairs (plain_slot p at d) (plain_slot q at d) h good)
      reading_same known (Some (suc k)) true b b' (same_plain' {p = p} {q = q} {at = at} {d = d} s le small) h good = body_of-project o n R (plain_slot p at d) (plain_slot q at d) size section ko kn agree (body-kept o n pairs (plain_slot p at d) (plain_slot q at d) h good)
      reading_same known m true b b' (same_pointer {i = i} {ty = ty} {ty' = ty'} {d = d} {d' = d'} types defaults whole) h good =
          ap (copied_reading o known m (pointer_slot i ty d)) (entry_view true (pointer_slot i ty d) (pointer_slot i ty' d') h good)
          ∙ pointer_copied i i ty ty' d d' (pointer_types_of i ty ty' d d' h) defaults known m (kn i ty')
      reading_same known None true b b' (same_group {g = g} {g' = g'} s) h good = ap record_as (copied-same g g' s h good)
      reading_same known (Some zero) true b b' (same_group {g = g} {g' = g'} s) h good = ap record_as (copied-same g g' s h good)
      reading_same known (Some (suc k)) true b b' (same_group {g = g} {g' = g'} s) h good = ap record_as (copied-same g g' s h good)

  -- ---- the end of a path at a group

  refused_alike : (g g' : Shape) (k : Option Kind) (r r' : Record) → record_as (copied_record o g r) ≡ project o (as_group g) (record_as (copied_record n g' r')) → copied_or_refused o g r k ≡ outcome_map (project o (as_group g)) (copied_or_refused n g' r' k)
  refused_alike g g' None r r' e = ap done e
  refused_alike g g' (Some k) r r' e = refl

  set_from : (g g' : Shape) (t : Tree) → SameShape o n bits g g' → keeps o n pairs g g' ≡ true → IsGood o g → set_group_from o g t ≡ outcome_map (project o (as_group g)) (set_group_from n g' t)
  unfolding record_by_shape project
  set_from g g' null s h good = refl
  set_from g g' (capability i) s h good = refl
  set_from g g' (structure w m ts) s h good =
      let agree : KidsAgree o n R (read_child o ts) (read_child n ts) = read_child-project o n R closed ts in
      let r : Record = shape_record g whole_words m (read_child o ts) in
      let r' : Record = shape_record g' whole_words m (read_child n ts) in
      ap (copied_or_refused o g r) (group-fault-same whole_words m (read_child o ts) (read_child n ts) agree g g' s h good)
      ∙ refused_alike g g' (group_fault g' r') r r' (ap record_as (copied-same whole_words m (read_child o ts) (read_child n ts) agree g g' s h good))
  set_from g g' (plain_list z m x) s h good = refl
  set_from g g' (pointer_list ts) s h good = refl
  set_from g g' (struct_list w p es) s h good = refl

  -- a group that is not extended, or a verb that takes no group as a whole
  pub group-view : (verb : Verb) (g g' : Shape) (x x' : Reading) → (is_group_write verb ≡ true → SameShape o n bits g g') → keeps o n pairs g g' ≡ true → IsGood o g → IsWrite verb
      → at_field o verb (group_slot g) x ≡ outcome_map (project o (as_body (group_slot g))) (at_field n verb (group_slot g') x')
  unfolding project
  group-view get g g' x x' s h good w = absurd w
  group-view init g g' x x' s h good w = ap (λ z. done (record_as z)) (shape_record-project o n R g g' whole_words 0 no_children no_children (no_children_agree o n R closed) (shape-kept o n pairs g g' h good))
  group-view clear g g' x x' s h good w = ap (λ z. done (record_as z)) (shape_record-project o n R g g' whole_words 0 no_children no_children (no_children_agree o n R closed) (shape-kept o n pairs g g' h good))
  group-view (initn k) g g' x x' s h good w = refl
  group-view (set_to (message t)) g g' x x' s h good w = set_from g g' (message_root t) (s refl) h good
  group-view (set_to (whole_number z)) g g' x x' s h good w = refl
  group-view (set_to (truth b)) g g' x x' s h good w = refl
  group-view (set_to (enumerant k)) g g' x x' s h good w = refl
  group-view (set_to (text_value bs)) g g' x x' s h good w = refl
  group-view (set_to (blob_value bs)) g g' x x' s h good w = refl
