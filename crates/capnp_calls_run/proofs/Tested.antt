-- A call at a struct that is owned: tested where it is read, and written.
use Rattle.std.proofs.Common.{◌≡◌, ℕ, ℤ, ◌^◌, ◌≤◌, ◌<◌, List, Some, Result, Ok, Err, IfOk, IfErr, refl, sym, subst, arith}
use Rattle.capnp_model.specs.Segments.{Segments}
use Rattle.capnp_model.specs.Trees.{Tree, structure}
use Rattle.capnp_model.specs.Readings.{Record, record_as, record_of, record_by_shape, shape_record, whole_words, read_child}
use Rattle.capnp_model.specs.Calls.{Call}
use Rattle.capnp_model.specs.Steps.{step}
use Rattle.capnp_model.specs.Edits.{Cell}
use Rattle.capnp_model.specs.Answers.{Reply, reply_done, reply_of, levels}
use Rattle.capnp_units.specs.Segments.{words_in}
use Rattle.capnp_wire_objects.specs.Places.{place_view}
use Rattle.capnp_wire.specs.Views as views
use Rattle.capnp_model_writes.proofs.lemmas.Algebra.{changes_nothing}
use Rattle.capnp_model_writes.proofs.lemmas.Turns.{struct_counted}
use Rattle.capnp_copy_arenas.specs.Structs.{object_of_struct}
use Rattle.capnp_copy_arenas.specs.declared.fields.StructPlace.{StructPlace}
use Rattle.capnp_values_queries.specs.Structs.{schema_around, shape_of_struct, id_of}
use Rattle.capnp_values_queries.specs.declared.structs.StructSchema.{StructSchema}
use Rattle.capnp_schema_structs.specs.Edits.{HoldsShape}
use Rattle.capnp_calls.specs.declared.reply.Reply.{Reply as Own}
use Rattle.capnp_calls.specs.declared.reply.Reply.TheVariants as reply
use Rattle.capnp_values.specs.Standing.{IsRecord}
use Rattle.capnp_model.specs.Printing.{as_it_is}
use Rattle.capnp_calls.specs.Replies.{reply_view}
use Rattle.capnp_calls.specs.LongLists.{content_put}
use Rattle.capnp_calls.specs.Sizes.{IsDone, content_len}
use Rattle.capnp_calls.specs.Paths.{shape_outcome, shape_edit}
use Rattle.capnp_model_writes.specs.Totals.{words_of_segments}
use Rattle.capnp_calls_edits.specs.Written.{WritesPath}
use Rattle.capnp_values.specs.declared.dynamic_struct.Reader.{Reader as DynamicStruct}
use Rattle.capnp_values.specs.Sources.{struct_seen}
use Rattle.capnp_calls_replies.specs.Replies.{RepliesTo}
use Rattle.capnp_calls_run.specs.Runs.{TestsAt, AnswersAt, PutsLongAt}
use Rattle.capnp_calls_run.proofs.Levels.{DepthLaws, After, at_levels, same_levels}
use Rattle.capnp_calls_run.proofs.Standing.{record_stands}
use Rattle.capnp_calls_run.proofs.OneCall.{told_done, outcome, outcome_is, stays, edited}

pub over_ok : {X E : Type 0} {P Q : X → Type 0} (r : Result X E) → ((x : X) → P x → Q x) → IfOk r P → IfOk r Q
over_ok (Ok x) f h = f x h
over_ok (Err e) f h = h

pub over_err : {X E : Type 0} {P Q : E → Type 0} (r : Result X E) → ((e : E) → P e → Q e) → IfErr r P → IfErr r Q
over_err (Ok x) f h = h
over_err (Err e) f h = f e h

pub other_reply : (r : Own) → (r ≡ reply.Done → ⊥) → reply_view r ≡ reply_done → ⊥
other_reply (reply.Text bytes) other h = cc h
other_reply reply.Done other h = other refl
other_reply (reply.Refused kind) other h = cc h

module _ {A : Type 0} (laws : DepthLaws) (seg : A → List (List ℕ)) (bytes : List (List ℕ)) (nesting : ℤ) (few : words_of_segments (words_in bytes) < 2 ^ 29) (deep : (n : ℕ) × (levels nesting ≡ Some n) × (2 ^ 29 ≤ n)) (p : StructPlace) (root : StructSchema) (c : Call) where
  -- a reply of the machine at what is read is one at what is owned
  pub tested : (r : DynamicStruct A) (told : Reply) → r.schema ≡ root → struct_seen seg r.source ≡ views.struct_at bytes nesting (place_view p.start) p.data_words p.pointers → RepliesTo seg r c told → TestsAt (words_in bytes) p root c told
  unfolding record_of record_by_shape
  tested r told same is replies n section kids most owns =
      let own = at_levels laws (words_in bytes) few n deep.0 (object_of_struct p) (structure p.data_words section kids) deep.2 owns in
      let stands = record_stands deep.0 deep.0 bytes nesting (place_view p.start) p.data_words p.pointers section kids (schema_around root) (shape_of_struct root) deep.1 (omega arith) own.means in
      let rec : Record = shape_record (shape_of_struct root) whole_words section (read_child (schema_around root) kids) in
      let P : StructSchema → Type 0 = λ g. ((x : Record) → IsRecord (schema_around g) (shape_of_struct g) (struct_seen seg r.source) (record_as x) → told ≡ reply_of (schema_around g) as_it_is (step (schema_around g) (id_of g) c x)) in
      let here : P root = subst P same replies in
      here rec (subst (λ w. IsRecord (schema_around root) (shape_of_struct root) w (record_as rec)) (sym is) stands)

pub written : DepthLaws → After → (s u : Segments) → words_of_segments s < 2 ^ 29 → words_of_segments u < 2 ^ 29 → (p : StructPlace) (root : StructSchema) (c : Call) → HoldsShape p (shape_of_struct root)
    → TestsAt s p root c reply_done → WritesPath s u p root c → AnswersAt s u (record { place = p; schema = root }) c reply_done
written laws after s u few few_later p root c wide tests writes n section kids most owns =
    let cell : Cell = record { section = section; kids = kids } in
    let told = tests n section kids most owns in
    let is : IsDone (shape_outcome (schema_around root) (shape_of_struct root) c.path c.verb cell) = subst IsDone (outcome_is root c p.data_words cell) (told_done (schema_around root) (outcome root c p.data_words cell) told) in
    let w = writes n section kids owns is in
    let d : Cell = shape_edit (schema_around root) (shape_of_struct root) c.path c.verb cell in
    let new : Tree = structure p.data_words d.section d.kids in
    let count = struct_counted n s (place_view p.start) p.data_words p.pointers p.data_words section kids owns in
    let wide' = wide.pointers in (
      new,
      same_levels laws s few after u few_later n w.0 (object_of_struct p) (structure p.data_words section kids) new most owns (λ deeper. w.1),
      record { replied = told; tree = edited root c p.data_words cell is wide.words (omega (arith, count, wide')) },
    )

pub left_alone : (s : Segments) (p : StructPlace) (root : StructSchema) (c : Call) (told : Reply) → TestsAt s p root c told → (told ≡ reply_done → ⊥) → AnswersAt s s (record { place = p; schema = root }) c told
left_alone s p root c told tests other n section kids most owns =
    let cell : Cell = record { section = section; kids = kids } in (
      structure p.data_words section kids,
      record { means = owns.means; changes = changes_nothing s _ },
      stays root c p.data_words cell told (tests n section kids most owns) other,
    )

-- a call that is done puts what is too long
pub puts_long : (s : Segments) (p : StructPlace) (root : StructSchema) (c : Call) → TestsAt s p root c reply_done → 2 ^ 29 ≤ content_len (content_put root c) → PutsLongAt s p root c
puts_long s p root c tests long n section kids most owns =
    record { is_done = told_done (schema_around root) (outcome root c p.data_words (record { section = section; kids = kids })) (tests n section kids most owns); is_long = long }
