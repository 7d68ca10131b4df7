-- What an older schema's calls leave for a newer one. (Schema language, "Evolving Your Protocol")
use Rattle.std.specs.Prelude.{◌≡◌, ℕ, ⊤, Some, List, map, IsTrue, Bool}
use Rattle.std.specs.List.{list_all}
use Rattle.capnp_model.specs.Segments.{Segments, root as message_root}
use Rattle.capnp_model.specs.Trees.{Tree}
use Rattle.capnp_model.specs.Traversal.{tree_at}
use Rattle.capnp_model.specs.Calls.{Call as ModelCall}
use Rattle.capnp_model.specs.CallRuns.{records_after, record_replies}
use Rattle.capnp_model.specs.InKindCalls.{IsInKind}
use Rattle.capnp_model.specs.Partners.{Renaming}
use Rattle.capnp_model.specs.Compatible.{IsCompatibleWith}
use Rattle.capnp_model.specs.Admitted.{is_admitted_with}
use Rattle.capnp_model.specs.RenamedCalls.{renamed_calls}
use Rattle.capnp_model.specs.Answers.{Answer, Reply, written, value_within}
use Rattle.capnp_values_queries.specs.Structs.{schema_around, id_of}
use Rattle.capnp_values_queries.specs.declared.structs.StructSchema.{StructSchema}
use Rattle.capnp_calls.specs.declared.call.Call.{Call}
use Rattle.capnp_calls.specs.CallViews.{call_view}
use Rattle.capnp_model.specs.Printing.{as_it_is}
use Rattle.capnp_relay_streams.specs.Answers.{limits_view}
use Rattle.capnp_relay_streams.specs.Answers.{Bounds}
use Rattle.capnp_model_versions.specs.SameReplies.{SameReplies}
use Rattle.capnp_calls.specs.Roots.{record_at}

-- The newer schema is compatible with the older, from the two roots on, with renamed fields.
abbrev pub AreCompatibleSchemas : List Renaming → StructSchema → StructSchema → Type 0
AreCompatibleSchemas rs root newer = IsCompatibleWith rs (schema_around root) (schema_around newer) (id_of root) (id_of newer)

-- A call at the older root is admitted beside the newer, with renamed fields.
abbrev pub is_admitted_between : List Renaming → StructSchema → StructSchema → ModelCall → Bool
is_admitted_between rs root newer c = is_admitted_with rs (schema_around root) (schema_around newer) (id_of root) (id_of newer) c

-- The newer schema is compatible with the older, and each call is admitted.
pub record MayRun (rs : List Renaming) (root newer : StructSchema) (calls : List Call) : Type 0 where
  pub compatible : AreCompatibleSchemas rs root newer
  pub admitted : IsTrue (list_all (is_admitted_between rs root newer) (map call_view calls))

-- What is written means a value whose newer record is the one that the newer machine makes of the
-- newer record of the message's value. The replies to calls other than `get` are those of the newer
-- machine.
pub record NewerMakes (newer : StructSchema) (calls : List ModelCall) (nesting : ℕ) (t : Tree) (segments : Segments) (replies : List Reply) : Type 0 where
  pub value : Tree
  pub means : tree_at nesting segments message_root ≡ Some value
  pub record_made : record_at newer value ≡ records_after (schema_around newer) (id_of newer) calls (record_at newer t)
  pub replied : SameReplies calls replies (record_replies (schema_around newer) as_it_is (id_of newer) calls (record_at newer t))

-- So it is with the answer to a message, where the lists of the message and the calls are in kind under the newer schema.
abbrev pub ReadsAsNewer : StructSchema → List ModelCall → Bounds → Segments → Answer → Type 0
ReadsAsNewer newer calls bounds s (written segments replies) =
    (t : Tree) → value_within (limits_view bounds) s ≡ Some t → IsInKind (schema_around newer) (id_of newer) calls t → NewerMakes newer calls bounds.nesting t segments replies
ReadsAsNewer newer calls bounds s _ = ⊤

-- An older and a newer version of a schema, each from its root on, and how fields are renamed.
pub record RootVersions : Type 0 where
  pub renamings : List Renaming
  pub older : StructSchema
  pub newer : StructSchema

-- Those by their parts, in the order of the record.
abbrev pub root_versions : List Renaming → StructSchema → StructSchema → RootVersions
root_versions rs older newer = record { renamings = rs; older = older; newer = newer }

-- So it is where fields are renamed too: the newer machine makes the calls in the newer's words.
abbrev pub ReadsAsRenamed : RootVersions → List ModelCall → Bounds → Segments → Answer → Type 0
ReadsAsRenamed v calls bounds s a = ReadsAsNewer v.newer (renamed_calls v.renamings (schema_around v.older) (id_of v.older) calls) bounds s a
