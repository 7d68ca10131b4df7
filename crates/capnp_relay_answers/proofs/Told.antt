-- Calls that write nothing, at a value that is read where its words stand.
use Rattle.std.proofs.Common.{◌≡◌, ℕ, zero, suc, pos, ◌+◌, ◌*◌, ◌^◌, ◌<◌, ◌≤◌, true, false, Option, Some, None, List, [], ◌∷◌, ◌++◌, length, map, append-nil, Result, Ok, Err, IfOk, IfSome, refl, ap, sym, subst, ◌∙◌, arith}
use Rattle.std.specs.Prelude.{nat_le, Vec}
use Rattle.std.specs.declared.alloc.Global.{Global}
use Rattle.std.proofs.lemmas.Bool.Decides.{nat_tests}
use Rattle.capnp_model.specs.Kinds.{Kind}
use Rattle.capnp_model.specs.Chains.{◌and_then◌}
use Rattle.capnp_model.specs.Segments.{Segments, Place, root}
use Rattle.capnp_model.specs.Trees.{Tree, null, capability, structure, plain_list, pointer_list, struct_list, Trees, none, ◌▸◌, is_null, depth, depths, padded_to}
use Rattle.capnp_model.specs.Fits.{Fits}
use Rattle.capnp_model.specs.Trimming.{trim}
use Rattle.capnp_model.specs.Encoding.{canonical_words}
use Rattle.capnp_model.specs.Traversal.{tree_at}
use Rattle.capnp_model.specs.Schemas.{Schema, Shape, shape, struct}
use Rattle.capnp_model.specs.Readings.{Record, record_as, record_of, record_by_shape, shape_record, whole_words, read}
use Rattle.capnp_model.specs.Calls.{Call}
use Rattle.capnp_model.specs.Steps.{Outcome, refused, shown, done, step}
use Rattle.capnp_model.specs.Edits.{edit, if_done, write_path}
use Rattle.capnp_model.specs.Answers.{Reply, reply_done, reply_of, written, replies, edits, widened_root}
use Rattle.capnp_model.specs.Printing.{as_it_is}
use Rattle.capnp_model.proofs.lemmas.Marks.{read_child-padded_to}
use Rattle.capnp_model.proofs.lemmas.Paths.{nothing_in}
use Rattle.capnp_model.proofs.lemmas.Widening.{trim-widened}
use Rattle.capnp_model_writes.specs.Footprints.{Owns}
use Rattle.capnp_model_writes.specs.Totals.{words_of_segments}
use Rattle.capnp_units.specs.Segments.{words_in}
use Rattle.capnp_wire.specs.Views.{PointerView, StructView}
use Rattle.capnp_wire_canonical.specs.Writes.{filled}
use Rattle.capnp_values_queries.specs.Structs.{schema_around, shape_of_struct, id_of}
use Rattle.capnp_values_queries.specs.declared.structs.StructSchema.{StructSchema}
use Rattle.capnp_values.specs.Sources.{pointed_struct, struct_seen}
use Rattle.capnp_values.specs.Shown.{a_struct}
use Rattle.capnp_values.specs.Standing.{LeadsToValue, IsRecord, null_as_empty, Answers, PointersAreRead}
use Rattle.capnp_values.specs.declared.dynamic_struct.Reader.{Reader as DynamicStruct}
use Rattle.capnp_calls.specs.Replies.{reply_view}
use Rattle.capnp_calls.specs.declared.reply.Reply.{Reply as Own}
use Rattle.capnp_calls.specs.declared.reply.Reply.TheVariants as reply
use Rattle.capnp_calls_replies.specs.Replies.{RepliesTo}
use Rattle.capnp_relay_answers.specs.Answers.{AnswersStruct}
use Rattle.capnp_relay_answers.specs.Gets.{HasRecordOf, ShowsRoot, LeavesRoot, LeavesValue, TellsAt, TellsWords}
use Rattle.capnp_relay_answers.specs.Reading.{can_be_opened}
use Rattle.capnp_relay_loop.specs.declared.answer.MessageAnswer.TheVariants as answers
use Rattle.capnp_relay_answers.proofs.Edited.{answers_written}
use Rattle.capnp_relay_answers.proofs.Whole.{OwnsWords}

-- ---- the record at the root

module _ (s : Schema) (id : ℕ) where
  struct_record : (v : StructView) (t : Tree) → IsRecord s (s.shape_of id) v (null_as_empty s (struct id) (read s t (struct id))) → IsRecord s (s.shape_of id) v (record_as (record_of s id t))
  unfolding read record_of record_by_shape
  struct_record v null is = is
  struct_record v (structure w n ts) is = is
  struct_record v (capability i) is = absurd (cc is.is)
  struct_record v (plain_list size n x) is = absurd (cc is.is)
  struct_record v (pointer_list ts) is = absurd (cc is.is)
  struct_record v (struct_list w p es) is = absurd (cc is.is)

  -- the struct behind a pointer has the record of the value that it leads to
  pointed_record : PointersAreRead → (n : ℕ) (p : PointerView) (t : Tree) (v : StructView) → LeadsToValue n p t → Ok v ≡ pointed_struct p → IsRecord s (s.shape_of id) v (record_as (record_of s id t))
  pointed_record are_read n p t v leads e =
      let P : Result StructView Kind → Type 0 = λ x. Answers s (x and_then λ w. Ok (a_struct s (s.shape_of id) w)) (null_as_empty s (struct id) (read s t (struct id))) in
      let got = subst P (sym e) (are_read n p t s (struct id) tt leads) in
      struct_record v t got.1

-- and has it as a reader, under the reader's schema
pub reader_has_record : {A : Type 0} → PointersAreRead → (bytes : A → List (List ℕ)) (reader : DynamicStruct A) (n : ℕ) (p q : PointerView) (t : Tree) (v : StructView) → p ≡ q → struct_seen bytes reader.source ≡ v → LeadsToValue n q t → Ok v ≡ pointed_struct p → HasRecordOf bytes reader t
reader_has_record are_read bytes reader n p q t v at same leads e =
    let s = schema_around reader.schema in
    let id = id_of reader.schema in
    subst (λ (x : StructView). IsRecord s (shape_of_struct reader.schema) x (record_as (record_of s id t))) (sym same) (pointed_record s id are_read n p t v (subst (λ (x : PointerView). LeadsToValue n x t) (sym at) leads) e)

-- ---- calls in turn

module _ (schema : StructSchema) (t : Tree) where
  abbrev s : Schema
  s = schema_around schema

  abbrev id : ℕ
  id = id_of schema

  abbrev one_reply : Call → Reply
  one_reply c = reply_of s as_it_is (step s id c (record_of s id t))

  -- a call that isn't done leaves the value
  left_by : (c : Call) → (one_reply c ≡ reply_done → ⊥) → edit s id c t ≡ t
  unfolding edit
  left_by c other = by (step s id c (record_of s id t)) other
    where
      by : (o : Outcome Record) → (reply_of s as_it_is o ≡ reply_done → ⊥) → if_done o (write_path s (s.shape_of id) c.path c.verb t) t ≡ t
      by (refused k) other = refl
      by (shown how r) other = refl
      by (done r) other = absurd (other refl)

  edits_more : (before : List Call) (c : Call) (u : Tree) → edits s id (before ++ c ∷ []) u ≡ edit s id c (edits s id before u)
  unfolding edits
  edits_more [] c u = refl
  edits_more (b ∷ bs) c u = edits_more bs c (edit s id b u)

  replies_more : (before : List Call) (c : Call) (u : Tree) → replies s as_it_is id (before ++ c ∷ []) u ≡ replies s as_it_is id before u ++ reply_of s as_it_is (step s id c (record_of s id (edits s id before u))) ∷ []
  unfolding edits replies
  replies_more [] c u = refl
  replies_more (b ∷ bs) c u = ap (λ (rs : List Reply). reply_of s as_it_is (step s id b (record_of s id u)) ∷ rs) (replies_more bs c (edit s id b u))

  pub none_left : LeavesValue schema [] t []
  unfolding edits replies
  none_left = record { replied = refl; left = refl }

  pub one_left : (before : List Call) (c : Call) (told : List Reply) (x : Reply) → LeavesValue schema before t told → x ≡ one_reply c → (x ≡ reply_done → ⊥) → LeavesValue schema (before ++ c ∷ []) t (told ++ x ∷ [])
  one_left before c told x h replied other =
      record {
        replied = ap (λ (rs : List Reply). rs ++ x ∷ []) h.replied ∙ ap (λ (y : Reply). replies s as_it_is id before t ++ y ∷ []) replied ∙ ap (λ (u : Tree). replies s as_it_is id before t ++ reply_of s as_it_is (step s id c (record_of s id u)) ∷ []) (sym h.left) ∙ sym (replies_more before c t);
        left = edits_more before c t ∙ ap (edit s id c) h.left ∙ left_by c (λ e. other (replied ∙ e));
      }

-- a reply other than that of a call that is to be written
pub other_reply : (r : Own) → (r ≡ reply.Done → ⊥) → reply_view r ≡ reply_done → ⊥
other_reply (reply.Text bytes) other h = cc h
other_reply reply.Done other h = other refl
other_reply (reply.Refused kind) other h = cc h

module _ {A : Type 0} (bytes : A → List (List ℕ)) (reader : DynamicStruct A) where
  pub tells_none : TellsAt bytes reader [] []
  tells_none t has = none_left reader.schema t

  pub tells_more : (before : List Call) (c : Call) (told : List Reply) (x : Reply) → TellsAt bytes reader before told → RepliesTo bytes reader c x → (x ≡ reply_done → ⊥) → TellsAt bytes reader (before ++ c ∷ []) (told ++ x ∷ [])
  tells_more before c told x h replies other t has =
      one_left reader.schema t before c told x (h t has) (replies (record_of (schema_around reader.schema) (id_of reader.schema) t) has) other

-- ---- the root as its schema opens it

opened_record : (s : Schema) (f g : Shape) (t : Tree) → record_by_shape s f (widened_root g t) ≡ record_by_shape s f t
unfolding record_by_shape
opened_record s f (shape nid w p u fs) null = ap (shape_record f whole_words 0) (λ k i ty. nothing_in s p i ty k)
opened_record s f (shape nid w p u fs) (structure words section kids) = ap (shape_record f whole_words section) (λ k i ty. read_child-padded_to s p kids i ty k)
opened_record s f (shape nid w p u fs) (capability i) = refl
opened_record s f (shape nid w p u fs) (plain_list z n k) = refl
opened_record s f (shape nid w p u fs) (pointer_list ts) = refl
opened_record s f (shape nid w p u fs) (struct_list w' p' es) = refl

-- the value has the same record then
pub has_opened : {A : Type 0} (bytes : A → List (List ℕ)) (reader : DynamicStruct A) (t : Tree) → HasRecordOf bytes reader t → HasRecordOf bytes reader (widened_root (shape_of_struct reader.schema) t)
unfolding record_of
has_opened bytes reader t has =
    let s = schema_around reader.schema in
    let g = shape_of_struct reader.schema in
    subst (λ (r : Record). IsRecord s g (struct_seen bytes reader.source) (record_as r)) (sym (opened_record s g g t)) has

depths_padded : (p : ℕ) (ts : Trees) → depths (padded_to p ts) ≡ depths ts
depths_padded zero ts = refl
depths_padded (suc p) none = let more = depths_padded p none in omega arith
depths_padded (suc p) (t ▸ ts) = let more = depths_padded p ts in omega arith

opened_trims : (g : Shape) (n s : ℕ) (kids : Trees) → s < 2 ^ (64 * n) → trim (structure n s kids) ≡ structure n s kids → trim (widened_root g (structure n s kids)) ≡ structure n s kids
opened_trims (shape nid words pointers union fs) n s kids small is = trim-widened words pointers n s kids small ∙ is

as_deep : (g : Shape) (n s : ℕ) (kids : Trees) → depth (widened_root g (structure n s kids)) ≡ depth (structure n s kids)
as_deep (shape nid words pointers union fs) n s kids = ap suc (depths_padded pointers kids)

-- ---- the answer

abbrev pub WordsMean : Type 0
WordsMean = (t : Tree) (n : ℕ) → Fits t → depth t ≤ n → length (canonical_words t) ≤ 2 ^ 29 → tree_at n (canonical_words t ∷ []) root ≡ Some t

-- how deep what is owned is
abbrev pub DepthsOwned : Type 0
DepthsOwned = (n : ℕ) (s : Segments) (p : Place) (t : Tree) → Owns n s p t → depth t ≤ words_of_segments s

-- a value is no deeper than its words are many
low_enough : OwnsWords → DepthsOwned → (t : Tree) → Fits t → length (canonical_words t) < 2 ^ 29 → depth t < 2 ^ 29
unfolding words_of_segments
low_enough owned depths t fits few =
    let s : Segments = canonical_words t ∷ [] in
    let owns = owned t (depth t) s [] fits (omega arith) (omega (arith, few)) (ap (λ (ws : List ℕ). Some ws) (sym (append-nil (canonical_words t)))) in
    let low : depth t ≤ length (canonical_words t) + 0 = depths (depth t) s root t owns in
    omega (arith, low, few)

-- what is replied at the struct that the root of canonical words is read as
pub tells_words : {A : Type 0} → WordsMean → OwnsWords → DepthsOwned → (bytes : A → List (List ℕ)) (reader : DynamicStruct A) (message : List (List ℕ)) (schema : StructSchema) (calls : List Call) (words : List ℕ) (told : List Reply)
    → length words < 2 ^ 29 → words_in message ≡ words ∷ [] → reader.schema ≡ schema → ShowsRoot bytes message (pos 2147483647) reader → TellsAt bytes reader calls told → ((t : Tree) → words ≡ canonical_words t → is_null t ≡ false) → TellsWords schema calls words told
tells_words means owned depths bytes reader message schema calls words told few is same shows tells some t fits spelled =
    let long = ap length spelled in
    let low = low_enough owned depths t fits (omega (arith, long, few)) in
    let there : tree_at (depth t) (words_in message) root ≡ Some t = ap (λ (x : Segments). tree_at (depth t) x root) (is ∙ ap (λ (ws : List ℕ). ws ∷ []) spelled) ∙ means t (depth t) fits (omega arith) (omega (arith, long, few)) in
    let has = has_opened bytes reader t (shows (depth t) 2147483647 t refl (omega (arith, low)) there) in
    record {
      some = some t spelled;
      leaves = subst (λ (g : StructSchema). LeavesValue g calls (widened_root (shape_of_struct g) t) told) same (tells (widened_root (shape_of_struct reader.schema) t) has);
    }

-- what is found in a result
pub over_found : {X E : Type 0} {P Q : X → Type 0} (r : Result (Option X) E) → ((x : X) → P x → Q x) → IfOk r (λ found. IfSome found P) → IfOk r (λ found. IfSome found Q)
over_found (Ok None) f h = tt
over_found (Ok (Some x)) f h = f x h
over_found (Err e) f h = tt

module _ (means : WordsMean) (schema : StructSchema) (calls : List Call) (nesting count : ℕ) (into : List (List ℕ)) (told : Vec Own Global) (inside : count ≤ length into) (few : count < 2 ^ 29) where
  -- the words of a struct are those that are written
  pub written_struct : (n s : ℕ) (kids : Trees) → Fits (structure n s kids) → trim (structure n s kids) ≡ structure n s kids → depth (structure n s kids) ≤ nesting → filled count into ≡ canonical_words (structure n s kids) → length (canonical_words (structure n s kids)) ≤ 2 ^ 29
      → LeavesValue schema calls (widened_root (shape_of_struct schema) (structure n s kids)) (map reply_view told.items) → AnswersStruct schema calls nesting into (widened_root (shape_of_struct schema) (structure n s kids)) (answers.Written count told)
  written_struct n s kids fits is deep words short leaves =
      let t : Tree = structure n s kids in
      let g = shape_of_struct schema in
      let e : Tree = widened_root g t in
      let replied = map reply_view told.items in
      let trims : trim e ≡ t = opened_trims g n s kids fits.2 is in
      let same = as_deep g n s kids in
      let keeps : nat_le (depth e) nesting ≡ true = let low : depth e ≤ nesting = omega (arith, same, deep) in grind (arith, nat_tests) in
      let after : trim (edits (schema_around schema) (id_of schema) calls e) ≡ t = ap trim leaves.left ∙ trims in
      record {
        same = ap (λ (ws : List ℕ). written (ws ∷ []) replied) (words ∙ ap canonical_words (sym trims)) ∙ answers_written schema calls nesting e e replied (sym leaves.left) leaves.replied keeps;
        means = ap (λ (ws : List ℕ). tree_at nesting (ws ∷ []) root) words ∙ means t nesting fits deep short ∙ ap (λ (x : Tree). Some x) (sym after);
        stands = (inside, few);
      }

  pub gets_struct : (t : Tree) → can_be_opened t ≡ true → Fits t → trim t ≡ t → depth t ≤ nesting → filled count into ≡ canonical_words t → length (canonical_words t) ≤ 2 ^ 29 → LeavesRoot schema calls t (map reply_view told.items)
      → AnswersStruct schema calls nesting into (widened_root (shape_of_struct schema) t) (answers.Written count told)
  gets_struct null opens fits is deep words short leaves = absurd (let some = leaves.some in cc some)
  gets_struct (structure n s kids) opens fits is deep words short leaves = written_struct n s kids fits is deep words short leaves.leaves
  gets_struct (capability i) opens fits is deep words short leaves = absurd cc
  gets_struct (plain_list z n x) opens fits is deep words short leaves = absurd cc
  gets_struct (pointer_list ts) opens fits is deep words short leaves = absurd cc
  gets_struct (struct_list w p es) opens fits is deep words short leaves = absurd cc
