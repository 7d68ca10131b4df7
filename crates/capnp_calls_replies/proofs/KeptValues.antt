-- What the values of messages are read as.
use Rattle.std.proofs.Common.{◌≡◌, ℕ, zero, suc, pos, ◌/◌, Bool, true, false, if◌then◌else◌, Option, Some, None, option_map, List, [], ◌∷◌, length, Result, Ok, Err, refl, ap, sym, subst, ◌∙◌, arith}
use Rattle.std.specs.Prelude.{IsSome}
use Rattle.std.specs.Option.{is_some}
use Rattle.capnp_model.specs.Kinds.{Kind, TypeMismatch}
use Rattle.capnp_model.specs.Chains.{◌and_then◌}
use Rattle.capnp_model.specs.Bytes.{words_in_bytes}
use Rattle.capnp_model.specs.Segments.{root}
use Rattle.capnp_model.specs.Traversal.{tree_at}
use Rattle.capnp_model.specs.Decoding.{decode}
use Rattle.capnp_model.specs.Trees.{Tree, null, capability, structure, plain_list, pointer_list, struct_list, is_null}
use Rattle.capnp_model.specs.Schemas.{Ty, struct, list, Schema, default_or_null}
use Rattle.capnp_model.specs.Accepted.{schema_of}
use Rattle.capnp_model.specs.Readings.{null_pointer, fault, record_as, Readings, Children, whole_words, shape_record, expected_size, is_list_of, list_reading, read, record_of, record_by_shape}
use Rattle.capnp_model.specs.Calls.{object, refused_by, message, message_root, struct_content, value_content}
use Rattle.capnp_model.proofs.lemmas.Chaining.{bind_some, provided_some}
use Rattle.capnp_units.specs.Segments.{words_in}
use Rattle.capnp_units.specs.Sizes.{size_number}
use Rattle.capnp_units.specs.declared.sizes.ElementSize.{ElementSize}
use Rattle.capnp_units.specs.declared.sizes.ElementSize.TheVariants.{Void, Bit, Byte, TwoBytes, FourBytes, EightBytes, Pointer, InlineComposite}
use Rattle.capnp_wire.specs.Views.{PointerView, StructView, ListView}
use Rattle.capnp_wire.specs.Reads.{is_null_pointer as pointer_is_null}
use Rattle.capnp_values.specs.ListSizes.{size_of}
use Rattle.capnp_values.specs.Sources.{pointed_struct, pointed_list}
use Rattle.capnp_values.specs.Shown.{a_struct, a_list}
use Rattle.capnp_values.specs.Standing.{LeadsToValue, IsRecord, AreItems, null_as_empty, Answers, PointersAreRead, NullsAreRead}
use Rattle.capnp_calls.specs.Replies.{content_reply}
use Rattle.capnp_calls_replies.specs.Messages.{RootLeadsTo, IsMessageStruct}
use Rattle.capnp_calls_replies.specs.Writes.{reply_by_type}
use Rattle.capnp_values.proofs.lemmas.AskedSizes.{size_asked}

-- ---- the words that are kept

value_there : (bs : List ℕ) (t : Tree) → decode bs ≡ Some t → tree_at 64 (words_in (bs ∷ [])) root ≡ Some t
unfolding decode
value_there bs t e =
    let a = bind_some (tree_at 64 (words_in_bytes (length bs / 8) bs ∷ []) root) _ t e in
    let b = provided_some a.0 t _ a.2 in
    a.1 ∙ ap (λ (x : Tree). Some x) b.1

pub value_leads : (bs : List ℕ) (o : Option Tree) → decode bs ≡ o → IsSome o → RootLeadsTo (bs ∷ []) (pos 2147483647) (default_or_null o)
value_leads bs None e h = absurd (cc h)
value_leads bs (Some t) e h = record { left = 2147483647; levels = refl; enough = omega arith; tree = value_there bs t e }

-- ---- structs

module _ (s : Schema) (id : ℕ) where
  struct_read : (v : StructView) (t : Tree) → IsRecord s (s.shape_of id) v (null_as_empty s (struct id) (read s t (struct id)))
      → (struct_content (message_root t) ≡ object (message_root t)) × IsRecord s (s.shape_of id) v (record_as (record_of s id (message_root t)))
  unfolding read record_of record_by_shape
  struct_read v null is = (refl, subst (IsRecord s (s.shape_of id) v) (ap (λ (k : Children). record_as (shape_record (s.shape_of id) whole_words 0 k)) (λ i j ty. null_pointer)) is)
  struct_read v (capability i) is = absurd (cc is.is)
  struct_read v (structure w n ts) is = (refl, is)
  struct_read v (plain_list size n x) is = absurd (cc is.is)
  struct_read v (pointer_list ts) is = absurd (cc is.is)
  struct_read v (struct_list w p es) is = absurd (cc is.is)

  no_struct : (t : Tree) (kind : Kind) → null_as_empty s (struct id) (read s t (struct id)) ≡ fault kind → struct_content (message_root t) ≡ refused_by TypeMismatch
  unfolding read
  no_struct null kind e = absurd (cc e)
  no_struct (capability i) kind e = refl
  no_struct (structure w n ts) kind e = absurd (cc e)
  no_struct (plain_list size n x) kind e = refl
  no_struct (pointer_list ts) kind e = refl
  no_struct (struct_list w p es) kind e = refl

  struct_answer : PointersAreRead → (p : PointerView) (t : Tree) (q : Result StructView Kind) → LeadsToValue 64 p t → q ≡ pointed_struct p → Answers s (q and_then λ v. Ok (a_struct s (s.shape_of id) v)) (null_as_empty s (struct id) (read s t (struct id)))
  struct_answer are_read p t q leads e =
      subst (λ (x : Result StructView Kind). Answers s (x and_then λ v. Ok (a_struct s (s.shape_of id) v)) (null_as_empty s (struct id) (read s t (struct id)))) (sym e) (are_read 64 p t s (struct id) tt leads)

any : Schema
any = schema_of []

-- what is got is the value's struct
pub struct_is : PointersAreRead → (p : PointerView) (t : Tree) (v : StructView) → LeadsToValue 64 p t → Ok v ≡ pointed_struct p → IsMessageStruct t (Some v)
struct_is are_read p t v leads e = ((struct_read any 0 v t (struct_answer any 0 are_read p t (Ok v) leads e).1).0, λ s id. (struct_read s id v t (struct_answer s id are_read p t (Ok v) leads e).1).1)

-- what is refused is none
pub struct_refused : PointersAreRead → (p : PointerView) (t : Tree) (kind : Kind) → LeadsToValue 64 p t → Err kind ≡ pointed_struct p → IsMessageStruct t None
struct_refused are_read p t kind leads e = no_struct any 0 t kind (struct_answer any 0 are_read p t (Err kind) leads e)

pub struct_taken : {X : Type 0} (view : X → StructView) (t : Tree) (id : ℕ) (o : Option X) → IsMessageStruct t (option_map view o) → reply_by_type (is_some o) ≡ content_reply (value_content (message t) (struct id))
struct_taken view t id (Some x) h = ap content_reply (sym h.0)
struct_taken view t id None h = ap content_reply (sym h)

-- ---- lists

size_at : ℕ → ElementSize
size_at zero = Void
size_at (suc zero) = Bit
size_at (suc (suc zero)) = Byte
size_at (suc (suc (suc zero))) = TwoBytes
size_at (suc (suc (suc (suc zero)))) = FourBytes
size_at (suc (suc (suc (suc (suc zero))))) = EightBytes
size_at (suc (suc (suc (suc (suc (suc zero)))))) = Pointer
size_at (suc (suc (suc (suc (suc (suc (suc n))))))) = InlineComposite

size_back : (a : ElementSize) → size_at (size_number a) ≡ a
unfolding size_at
size_back Void = refl
size_back Bit = refl
size_back Byte = refl
size_back TwoBytes = refl
size_back FourBytes = refl
size_back EightBytes = refl
size_back Pointer = refl
size_back InlineComposite = refl

-- a size is that of the type by its number
pub asked : (a : ElementSize) (ty : Ty) → size_number a ≡ expected_size ty → a ≡ size_of ty
asked a ty e = sym (size_back a) ∙ ap size_at (e ∙ sym (size_asked ty)) ∙ size_back (size_of ty)

module _ (s : Schema) (ty : Ty) where
  listed : (b : Bool) (rs : Readings) (l : ListView) → AreItems s ty l (null_as_empty s (list ty) (list_reading b rs)) → true ≡ b
  listed true rs l are = refl
  listed false rs l are = absurd (cc are.is)

  list_read : (t : Tree) (l : ListView) → is_null t ≡ false → AreItems s ty l (null_as_empty s (list ty) (read s t (list ty))) → true ≡ is_list_of t ty
  unfolding read
  list_read null l some are = absurd cc
  list_read (capability i) l some are = absurd (cc are.is)
  list_read (structure w n ts) l some are = absurd (cc are.is)
  list_read (plain_list size n x) l some are = listed (is_list_of (plain_list size n x) ty) _ l are
  list_read (pointer_list ts) l some are = listed (is_list_of (pointer_list ts) ty) _ l are
  list_read (struct_list w p es) l some are = listed (is_list_of (struct_list w p es) ty) _ l are

  unlisted : (b : Bool) (rs : Readings) (kind : Kind) → null_as_empty s (list ty) (list_reading b rs) ≡ fault kind → false ≡ b
  unlisted true rs kind e = absurd (cc e)
  unlisted false rs kind e = refl

  no_list : (t : Tree) (kind : Kind) → null_as_empty s (list ty) (read s t (list ty)) ≡ fault kind → false ≡ is_list_of t ty
  unfolding read
  no_list null kind e = refl
  no_list (capability i) kind e = refl
  no_list (structure w n ts) kind e = refl
  no_list (plain_list size n x) kind e = unlisted (is_list_of (plain_list size n x) ty) _ kind e
  no_list (pointer_list ts) kind e = unlisted (is_list_of (pointer_list ts) ty) _ kind e
  no_list (struct_list w p es) kind e = unlisted (is_list_of (struct_list w p es) ty) _ kind e

  list_answer : PointersAreRead → (p : PointerView) (t : Tree) (q : Result ListView Kind) → LeadsToValue 64 p t → q ≡ pointed_list (size_of ty) p → Answers s (q and_then λ l. Ok (a_list s ty l)) (null_as_empty s (list ty) (read s t (list ty)))
  list_answer are_read p t q leads e =
      subst (λ (x : Result ListView Kind). Answers s (x and_then λ l. Ok (a_list s ty l)) (null_as_empty s (list ty) (read s t (list ty)))) (sym e) (are_read 64 p t s (list ty) tt leads)

-- null is no list
pub null_list : NullsAreRead → (p : PointerView) (t : Tree) (ty : Ty) → LeadsToValue 64 p t → pointer_is_null p ≡ true → false ≡ is_list_of t ty
null_list are_read p t ty leads none = by t (sym (are_read 64 p t leads) ∙ none)
  where
    by : (t : Tree) → is_null t ≡ true → false ≡ is_list_of t ty
    by null e = refl
    by (capability i) e = absurd cc
    by (structure w n ts) e = absurd cc
    by (plain_list size n x) e = absurd cc
    by (pointer_list ts) e = absurd cc
    by (struct_list w p es) e = absurd cc

module _ (ty : Ty) (size : ElementSize) (same : size_number size ≡ expected_size ty) where
  -- what is got is a list of the type
  pub list_is : PointersAreRead → NullsAreRead → (p : PointerView) (t : Tree) (l : ListView) → LeadsToValue 64 p t → pointer_is_null p ≡ false → Ok l ≡ pointed_list size p → true ≡ is_list_of t ty
  list_is are_read nulls p t l leads some e =
      list_read any ty t l (sym (nulls 64 p t leads) ∙ some) (list_answer any ty are_read p t (Ok l) leads (e ∙ ap (λ (x : ElementSize). pointed_list x p) (asked size ty same))).1

  -- what is refused is none
  pub list_refused : PointersAreRead → (p : PointerView) (t : Tree) (kind : Kind) → LeadsToValue 64 p t → Err kind ≡ pointed_list size p → false ≡ is_list_of t ty
  list_refused are_read p t kind leads e = no_list any ty t kind (list_answer any ty are_read p t (Err kind) leads (e ∙ ap (λ (x : ElementSize). pointed_list x p) (asked size ty same)))

pub list_taken : (b : Bool) (t : Tree) → reply_by_type b ≡ content_reply (if b then object t else refused_by TypeMismatch)
list_taken true t = refl
list_taken false t = refl
