-- A call ends alike under an older schema and, along the path in the newer's words, under the same schema in these words.
use Rattle.std.proofs.Common.{◌≡◌, ℕ, List, Option, refl, sym, ◌∙◌, ap}
use Rattle.capnp_model.specs.Kinds.{Kind, InactiveMember, WrongStep}
use Rattle.capnp_model.specs.Trees.{Tree}
use Rattle.capnp_model.specs.Schemas.{Ty, void, plain, text, blob, untyped, interface, struct, list, Body, pointer_slot, Schema, default_or_null}
use Rattle.capnp_model.specs.Partners.{Renaming}
use Rattle.capnp_model.specs.Readings.{Reading, inactive, null_pointer, fault, number, text_of, blob_of, list_of, record_as, opaque}
use Rattle.capnp_model.specs.Printing.{As}
use Rattle.capnp_model.specs.Calls.{Step, name, index, Content, refused_by, bits_of, object}
use Rattle.capnp_model.specs.Steps.{Outcome, refused, shown, done, outcome_map, got, reading_after, opened, through_value, through_field}
use Rattle.capnp_model_versions.proofs.RenamedReadings.{Head, no_value, one_null, some, fault_head, head, Like, like_null, like_fault, like_number, like_text, like_blob, like_opaque, like_struct, like_list}

-- ---- ends

-- how a call ends
pub data End : Type 0 where
  is_refused : Kind → End
  is_shown : End
  is_done : End

abbrev pub end_is : {A : Type 0} → Outcome A → End
end_is (refused k) = is_refused k
end_is (shown how r) = is_shown
end_is (done x) = is_done

pub end-mapped : {A B : Type 0} (f : A → B) (z : Outcome A) → end_is (outcome_map f z) ≡ end_is z
end-mapped f (refused k) = refl
end-mapped f (shown how r) = refl
end-mapped f (done x) = refl

-- both are mapped
pub both_mapped : {A B C D : Type 0} (f : A → B) (g : C → D) (y : Outcome A) (z : Outcome C) → end_is y ≡ end_is z → end_is (outcome_map f y) ≡ end_is (outcome_map g z)
both_mapped f g y z e = end-mapped f y ∙ e ∙ sym (end-mapped g z)

-- ---- the end of a path

abbrev pub content_end : Content → End
content_end (refused_by k) = is_refused k
content_end (bits_of n) = is_done
content_end (object t) = is_done

pub after_end : (s : Schema) (ty : Ty) (c : Content) → end_is (reading_after s ty c) ≡ content_end c
after_end s ty (refused_by k) = refl
after_end s ty (bits_of n) = refl
after_end s ty (object t) = refl

abbrev got_end : Head → End
got_end no_value = is_refused InactiveMember
got_end one_null = is_shown
got_end some = is_shown
got_end (fault_head k) = is_shown

got_is : (how : As) (x : Reading) → end_is (got how x) ≡ got_end (head x)
got_is how inactive = refl
got_is how null_pointer = refl
got_is how (fault k) = refl
got_is how (number n) = refl
got_is how (text_of bs) = refl
got_is how (blob_of bs) = refl
got_is how (list_of rs) = refl
got_is how (record_as r) = refl
got_is how (opaque t) = refl

pub got_alike : (how how' : As) (x y : Reading) → head x ≡ head y → end_is (got how x) ≡ end_is (got how' y)
got_alike how how' x y e = got_is how x ∙ ap got_end e ∙ sym (got_is how' y)

-- a reading that no step fits
abbrev pub IsFlat : Reading → Type 0
IsFlat null_pointer = Unit {0}
IsFlat (number n) = Unit {0}
IsFlat (text_of bs) = Unit {0}
IsFlat (blob_of bs) = Unit {0}
IsFlat (opaque t) = Unit {0}
IsFlat _ = ⊥

pub wrong_step : (s : Schema) (st : Step) (f : Body → Reading → Outcome Reading) (e : Ty → Reading → Outcome Reading) (ty : Ty) (x : Reading) → IsFlat x → through_value s st f e ty x ≡ refused WrongStep
wrong_step s (name l) f e void null_pointer h = refl
wrong_step s (name l) f e (plain p) null_pointer h = refl
wrong_step s (name l) f e text null_pointer h = refl
wrong_step s (name l) f e blob null_pointer h = refl
wrong_step s (name l) f e untyped null_pointer h = refl
wrong_step s (name l) f e interface null_pointer h = refl
wrong_step s (name l) f e (struct i) null_pointer h = refl
wrong_step s (name l) f e (list q) null_pointer h = refl
wrong_step s (index k) f e void null_pointer h = refl
wrong_step s (index k) f e (plain p) null_pointer h = refl
wrong_step s (index k) f e text null_pointer h = refl
wrong_step s (index k) f e blob null_pointer h = refl
wrong_step s (index k) f e untyped null_pointer h = refl
wrong_step s (index k) f e interface null_pointer h = refl
wrong_step s (index k) f e (struct i) null_pointer h = refl
wrong_step s (index k) f e (list q) null_pointer h = refl
wrong_step s (name l) f e void (number n) h = refl
wrong_step s (name l) f e (plain p) (number n) h = refl
wrong_step s (name l) f e text (number n) h = refl
wrong_step s (name l) f e blob (number n) h = refl
wrong_step s (name l) f e untyped (number n) h = refl
wrong_step s (name l) f e interface (number n) h = refl
wrong_step s (name l) f e (struct i) (number n) h = refl
wrong_step s (name l) f e (list q) (number n) h = refl
wrong_step s (index k) f e void (number n) h = refl
wrong_step s (index k) f e (plain p) (number n) h = refl
wrong_step s (index k) f e text (number n) h = refl
wrong_step s (index k) f e blob (number n) h = refl
wrong_step s (index k) f e untyped (number n) h = refl
wrong_step s (index k) f e interface (number n) h = refl
wrong_step s (index k) f e (struct i) (number n) h = refl
wrong_step s (index k) f e (list q) (number n) h = refl
wrong_step s (name l) f e void (text_of bs) h = refl
wrong_step s (name l) f e (plain p) (text_of bs) h = refl
wrong_step s (name l) f e text (text_of bs) h = refl
wrong_step s (name l) f e blob (text_of bs) h = refl
wrong_step s (name l) f e untyped (text_of bs) h = refl
wrong_step s (name l) f e interface (text_of bs) h = refl
wrong_step s (name l) f e (struct i) (text_of bs) h = refl
wrong_step s (name l) f e (list q) (text_of bs) h = refl
wrong_step s (index k) f e void (text_of bs) h = refl
wrong_step s (index k) f e (plain p) (text_of bs) h = refl
wrong_step s (index k) f e text (text_of bs) h = refl
wrong_step s (index k) f e blob (text_of bs) h = refl
wrong_step s (index k) f e untyped (text_of bs) h = refl
wrong_step s (index k) f e interface (text_of bs) h = refl
wrong_step s (index k) f e (struct i) (text_of bs) h = refl
wrong_step s (index k) f e (list q) (text_of bs) h = refl
wrong_step s (name l) f e void (blob_of bs) h = refl
wrong_step s (name l) f e (plain p) (blob_of bs) h = refl
wrong_step s (name l) f e text (blob_of bs) h = refl
wrong_step s (name l) f e blob (blob_of bs) h = refl
wrong_step s (name l) f e untyped (blob_of bs) h = refl
wrong_step s (name l) f e interface (blob_of bs) h = refl
wrong_step s (name l) f e (struct i) (blob_of bs) h = refl
wrong_step s (name l) f e (list q) (blob_of bs) h = refl
wrong_step s (index k) f e void (blob_of bs) h = refl
wrong_step s (index k) f e (plain p) (blob_of bs) h = refl
wrong_step s (index k) f e text (blob_of bs) h = refl
wrong_step s (index k) f e blob (blob_of bs) h = refl
wrong_step s (index k) f e untyped (blob_of bs) h = refl
wrong_step s (index k) f e interface (blob_of bs) h = refl
wrong_step s (index k) f e (struct i) (blob_of bs) h = refl
wrong_step s (index k) f e (list q) (blob_of bs) h = refl
wrong_step s (name l) f e void (opaque t) h = refl
wrong_step s (name l) f e (plain p) (opaque t) h = refl
wrong_step s (name l) f e text (opaque t) h = refl
wrong_step s (name l) f e blob (opaque t) h = refl
wrong_step s (name l) f e untyped (opaque t) h = refl
wrong_step s (name l) f e interface (opaque t) h = refl
wrong_step s (name l) f e (struct i) (opaque t) h = refl
wrong_step s (name l) f e (list q) (opaque t) h = refl
wrong_step s (index k) f e void (opaque t) h = refl
wrong_step s (index k) f e (plain p) (opaque t) h = refl
wrong_step s (index k) f e text (opaque t) h = refl
wrong_step s (index k) f e blob (opaque t) h = refl
wrong_step s (index k) f e untyped (opaque t) h = refl
wrong_step s (index k) f e interface (opaque t) h = refl
wrong_step s (index k) f e (struct i) (opaque t) h = refl
wrong_step s (index k) f e (list q) (opaque t) h = refl
wrong_step s st f e ty inactive h = absurd h
wrong_step s st f e ty (fault k) h = absurd h
wrong_step s st f e ty (list_of rs) h = absurd h
wrong_step s st f e ty (record_as r) h = absurd h

-- ---- fields

abbrev pub IsHere : Reading → Type 0
IsHere inactive = ⊥
IsHere _ = Unit {0}

pub like-here : (rs : List Renaming) (o : Schema) (ty : Ty) (x y : Reading) → Like rs o ty x y → IsHere x × IsHere y
like-here rs o ty x y (like_null t) = (tt, tt)
like-here rs o ty x y (like_fault t k) = (tt, tt)
like-here rs o ty x y (like_number t n) = (tt, tt)
like-here rs o ty x y (like_text t bs) = (tt, tt)
like-here rs o ty x y (like_blob t bs) = (tt, tt)
like-here rs o ty x y (like_opaque t u) = (tt, tt)
like-here rs o ty x y (like_struct i size section f) = (tt, tt)
like-here rs o ty x y (like_list t xs ys h) = (tt, tt)

-- a pointer that is there is stepped into
pub passes : (s : Schema) (st : Step) (f : Body → Reading → Outcome Reading) (e : Ty → Reading → Outcome Reading) (i : ℕ) (ty : Ty) (d : Option Tree) (x : Reading) → IsHere x
    → through_field s st f e (pointer_slot i ty d) x ≡ through_value s st f e ty (opened s ty (default_or_null d) x)
passes s (name l) f e i ty d null_pointer h = refl
passes s (name l) f e i ty d (fault k) h = refl
passes s (name l) f e i ty d (number n) h = refl
passes s (name l) f e i ty d (text_of bs) h = refl
passes s (name l) f e i ty d (blob_of bs) h = refl
passes s (name l) f e i ty d (list_of rs) h = refl
passes s (name l) f e i ty d (record_as r) h = refl
passes s (name l) f e i ty d (opaque t) h = refl
passes s (index k) f e i ty d null_pointer h = refl
passes s (index k) f e i ty d (fault j) h = refl
passes s (index k) f e i ty d (number n) h = refl
passes s (index k) f e i ty d (text_of bs) h = refl
passes s (index k) f e i ty d (blob_of bs) h = refl
passes s (index k) f e i ty d (list_of rs) h = refl
passes s (index k) f e i ty d (record_as r) h = refl
passes s (index k) f e i ty d (opaque t) h = refl
passes s st f e i ty d inactive h = absurd h
