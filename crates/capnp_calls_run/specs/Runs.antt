-- Calls in turn at a struct of a message, where it lies. (Encoding, "Structs")
use Rattle.std.specs.Prelude.{◌≡◌, ℕ, suc, ◌^◌, ◌<◌, ◌≤◌, ◌⊎◌, false, List, [], ◌∷◌, ◌++◌}
use Rattle.capnp_model.specs.Segments.{Segments, root}
use Rattle.capnp_model.specs.Coverage.{Grows}
use Rattle.capnp_model.specs.Trees.{Tree, Trees, structure}
use Rattle.capnp_model.specs.Schemas.{words_of_shape, pointers_of_shape}
use Rattle.capnp_model.specs.Calls.{Call}
use Rattle.capnp_model.specs.Steps.{step}
use Rattle.capnp_model.specs.Edits.{edit}
use Rattle.capnp_model.specs.CallRuns.{records_after}
use Rattle.capnp_model.specs.InKindCalls.{IsInKind}
use Rattle.capnp_model.specs.Answers.{Reply, reply_of, replies, edits, widened_root}
use Rattle.capnp_model_writes.specs.Footprints.{Owns, OwnsObject}
use Rattle.capnp_model_writes.specs.Changes.{Replaces, ReplacesObject}
use Rattle.capnp_wire_objects.specs.Objects.{object_at}
use Rattle.capnp_copy_arenas.specs.Structs.{object_of_struct}
use Rattle.capnp_copy_arenas.specs.declared.fields.StructPlace.{StructPlace}
use Rattle.capnp_values_queries.specs.Structs.{schema_around, shape_of_struct, id_of}
use Rattle.capnp_values_queries.specs.declared.structs.StructSchema.{StructSchema}
use Rattle.capnp_units.specs.declared.errors.Error.{Error}
use Rattle.capnp_units.specs.declared.kinds.ErrorKind.TheVariants.{OutOfMemory, SizeOverflow}
use Rattle.capnp_schema_structs.specs.declared.init.Part.{Part}
use Rattle.capnp_copy_widening.specs.Widened.{WideStructRefused, IsStructOrNull}
use Rattle.capnp_calls.specs.LongLists.{content_put, sets_message, PutsLong, LongInTurn}
use Rattle.capnp_calls.specs.Sizes.{content_len, IsDone}
use Rattle.capnp_calls_run.specs.declared.fault.RunFault.{RunFault}
use Rattle.capnp_calls_run.specs.declared.fault.RunFault.TheVariants as faults
use Rattle.capnp_model.specs.Printing.{as_it_is}
use Rattle.capnp_calls.specs.Roots.{record_at}

-- A call has the reply of the record machine at the record of the struct, and its edit.
pub record AnswersCall (schema : StructSchema) (c : Call) (old new : Tree) (told : Reply) : Type 0 where
  pub replied : told ≡ reply_of (schema_around schema) as_it_is (step (schema_around schema) (id_of schema) c (record_at schema old))
  pub tree : new ≡ edit (schema_around schema) (id_of schema) c old

-- Each call does in turn, on the tree of the struct, and, where all lists are in kind, on its record.
pub record RunsAll (schema : StructSchema) (calls : List Call) (old new : Tree) (told : List Reply) : Type 0 where
  pub replied : told ≡ replies (schema_around schema) as_it_is (id_of schema) calls old
  pub tree : new ≡ edits (schema_around schema) (id_of schema) calls old
  pub fields : IsInKind (schema_around schema) (id_of schema) calls old → record_at schema new ≡ records_after (schema_around schema) (id_of schema) calls (record_at schema old)

-- Whatever struct is owned at the place becomes another value of which this holds, and nothing else changes. No value of a message is more levels deep.
abbrev pub StructBecomes : Segments → Segments → StructPlace → (Tree → Tree → Type 0) → Type 0
StructBecomes s u p Holds =
    (n section : ℕ) (kids : Trees) → 2 ^ 29 ≤ n → OwnsObject n s (object_of_struct p) (structure p.data_words section kids)
    → (new : Tree) × ReplacesObject n s u (object_of_struct p) new × Holds (structure p.data_words section kids) new

-- The reply is the record machine's at the record of whatever struct is owned at the place.
abbrev pub TestsAt : Segments → StructPlace → StructSchema → Call → Reply → Type 0
TestsAt s p schema c told =
    (n section : ℕ) (kids : Trees) → 2 ^ 29 ≤ n → OwnsObject n s (object_of_struct p) (structure p.data_words section kids)
    → told ≡ reply_of (schema_around schema) as_it_is (step (schema_around schema) (id_of schema) c (record_at schema (structure p.data_words section kids)))

-- The struct at a place is answered, and edited.
abbrev pub AnswersAt : Segments → Segments → Part → Call → Reply → Type 0
AnswersAt s u x c told = StructBecomes s u x.place (λ old new. AnswersCall x.schema c old new told)

-- The struct at a place is answered, and edited, by calls in turn.
abbrev pub RunsAt : Segments → Segments → Part → List Call → List Reply → Type 0
RunsAt s u x calls told = StructBecomes s u x.place (λ old new. RunsAll x.schema calls old new told)

-- Whatever value is owned at a message's root, a struct or null, becomes what the calls make of it,
-- opened as a struct of at least the schema's sizes. Nothing else changes.
abbrev pub RunsRoot : Segments → Segments → StructSchema → List Call → List Reply → Type 0
RunsRoot s u schema calls told =
    (n : ℕ) (t : Tree) → 2 ^ 29 ≤ n → Owns (suc n) s root t
    → (new : Tree) × Replaces (suc n) s u root new × RunsAll schema calls (widened_root (shape_of_struct schema) t) new told

-- The call puts a list that is too long, whatever struct is owned at the place.
abbrev pub PutsLongAt : Segments → StructPlace → StructSchema → Call → Type 0
PutsLongAt s p schema c =
    (n section : ℕ) (kids : Trees) → 2 ^ 29 ≤ n → OwnsObject n s (object_of_struct p) (structure p.data_words section kids)
    → PutsLong schema c (structure p.data_words section kids)

-- One of the calls does, at what the calls before it make of the struct.
abbrev pub EndsLongAt : Segments → StructPlace → StructSchema → List Call → Type 0
EndsLongAt s p schema calls =
    (n section : ℕ) (kids : Trees) → 2 ^ 29 ≤ n → OwnsObject n s (object_of_struct p) (structure p.data_words section kids)
    → LongInTurn schema calls (structure p.data_words section kids)

-- One of the calls does, at whatever value is owned at a message's root, opened as a struct of at
-- least the schema's sizes.
abbrev pub EndsLongRoot : Segments → StructSchema → List Call → Type 0
EndsLongRoot s schema calls =
    (n : ℕ) (t : Tree) → 2 ^ 29 ≤ n → Owns (suc n) s root t → LongInTurn schema calls (widened_root (shape_of_struct schema) t)

-- No list that the call puts is too long; lists in values of messages aren't told.
abbrev pub PutsShortList : StructSchema → Call → Type 0
PutsShortList schema c = sets_message c.verb ≡ false → content_len (content_put schema c) < 2 ^ 29

-- Why a call that is done wasn't written: it puts a list that is too long, which passed a size; or, in the error's own words, anything else.
abbrev pub TellsWhy : StructSchema → Call → Error → RunFault → Type 0
TellsWhy schema c error faults.Size = 2 ^ 29 ≤ content_len (content_put schema c)
TellsWhy schema c error (faults.Refused e) = (e ≡ error) × (e.kind ≡ SizeOverflow → PutsShortList schema c)

-- A call is done at a struct of this tree, and its write is refused: `told` says of the error why.
-- Where a size was passed, no list that the call puts is too long.
pub record IsCallWriteRefused (told : Error → Type 0) (schema : StructSchema) (c : Call) (t : Tree) (e : Error) : Type 0 where
  pub is_done : IsDone (step (schema_around schema) (id_of schema) c (record_at schema t))
  pub why : told e
  pub short : e.kind ≡ SizeOverflow → PutsShortList schema c

-- Why a call fails at a struct of this tree. It is done, and puts a list that is too long; memory
-- for its reply is refused; or it is done, and its write is refused.
abbrev pub FailsBy : (Error → Type 0) → StructSchema → Call → Tree → RunFault → Type 0
FailsBy told schema c t faults.Size = PutsLong schema c t
FailsBy told schema c t (faults.Refused e) = (e.kind ≡ OutOfMemory) ⊎ IsCallWriteRefused told schema c t e

-- Why calls in turn stop at a struct of this tree: the first of them fails, or memory for the replies is refused.
abbrev pub StopsBy : (Error → Type 0) → StructSchema → List Call → Tree → RunFault → Type 0
StopsBy told schema [] t faults.Size = ⊥
StopsBy told schema [] t (faults.Refused e) = e.kind ≡ OutOfMemory
StopsBy told schema (c ∷ behind) t fault = FailsBy told schema c t fault

-- The call fails, whatever struct is owned at the place; each segment of the message is still there, and no shorter.
abbrev pub FailsAt : (Error → Type 0) → Segments → Segments → Part → Call → RunFault → Type 0
FailsAt told s u x c fault =
    (n section : ℕ) (kids : Trees) → 2 ^ 29 ≤ n → OwnsObject n s (object_of_struct x.place) (structure x.place.data_words section kids)
    → Grows s u × FailsBy told x.schema c (structure x.place.data_words section kids) fault

-- A value that a message owns, in its words, so many levels deep.
pub record ValueOwned : Type 0 where
  pub words : Segments
  pub levels : ℕ
  pub tree : Tree

-- Calls in turn that stop: some of them have their effect on a struct, and nothing else changed
-- when they had. Then the next failed, and may have a part of its own.
pub record Stops (told : Error → Type 0) (x : Part) (calls : List Call) (old : ValueOwned) (u : Segments) (fault : RunFault) : Type 0 where
  pub before : List Call
  pub behind : List Call
  pub split : calls ≡ before ++ behind
  pub mid : Segments
  pub made : ReplacesObject old.levels old.words mid (object_of_struct x.place) (edits (schema_around x.schema) (id_of x.schema) before old.tree)
  pub grows : Grows mid u
  pub why : StopsBy told x.schema behind (edits (schema_around x.schema) (id_of x.schema) before old.tree) fault

-- Calls in turn stop so at a message's root, whose value was opened as a struct of at least the
-- schema's sizes.
pub record StopsOpened (told : Error → Type 0) (schema : StructSchema) (calls : List Call) (old : ValueOwned) (u : Segments) (fault : RunFault) : Type 0 where
  pub before : List Call
  pub behind : List Call
  pub split : calls ≡ before ++ behind
  pub mid : Segments
  pub made : Replaces (suc old.levels) old.words mid root (edits (schema_around schema) (id_of schema) before old.tree)
  pub grows : Grows mid u
  pub why : StopsBy told schema behind (edits (schema_around schema) (id_of schema) before old.tree) fault

-- The root isn't got as a struct of at least the schema's sizes, all stands, and `told` says why where a struct or null is there.
abbrev pub RootRefused : (Error → Type 0) → Segments → Segments → StructSchema → RunFault → Type 0
RootRefused told s u schema faults.Size = ⊥
RootRefused told s u schema (faults.Refused e) =
    (u ≡ s) × WideStructRefused s (object_at s root) (words_of_shape (shape_of_struct schema)) (pointers_of_shape (shape_of_struct schema)) e × (IsStructOrNull (object_at s root) → told e)

-- Whatever value is owned at a message's root: it isn't got, or the calls stop there.
abbrev pub StopsRoot : (Error → Type 0) → Segments → Segments → StructSchema → List Call → RunFault → Type 0
StopsRoot told s u schema calls fault =
    (n : ℕ) (t : Tree) → 2 ^ 29 ≤ n → Owns (suc n) s root t
    → RootRefused told s u schema fault ⊎ StopsOpened told schema calls (record { words = s; levels = n; tree = widened_root (shape_of_struct schema) t }) u fault

-- So it is with whatever struct is owned at the place.
abbrev pub StopsAt : (Error → Type 0) → Segments → Segments → Part → List Call → RunFault → Type 0
StopsAt told s u x calls fault =
    (n section : ℕ) (kids : Trees) → 2 ^ 29 ≤ n → OwnsObject n s (object_of_struct x.place) (structure x.place.data_words section kids)
    → Stops told x calls (record { words = s; levels = n; tree = structure x.place.data_words section kids }) u fault
