-- What a run is asked by its words and its files.
use Rattle.std.specs.Prelude.{ℕ, ℤ, pos, negsuc, ◌-◌, ◌^◌, ◌≡◌, Bool, true, false, nat_lt, if◌then◌else◌, Option, Some, None, option_map, ok_or, Result, Ok, Err, List, [], map, IsSome}
use Rattle.capnp_model.specs.Chains.{◌>>=◌, ◌provided◌}
use Rattle.capnp_model.specs.Schemas.{Node}
use Rattle.capnp_model.specs.Accepted.{fault_of, names_a, is_struct_node, schema_of}
use Rattle.capnp_model.specs.Partners.{Renaming, are_one_to_one}
use Rattle.capnp_model.specs.Compatible.{IsCompatibleWith}
use Rattle.capnp_model.specs.Admitted.{is_admitted_with}
use Rattle.capnp_model.specs.Calls.{Call}
use Rattle.capnp_values_queries.specs.declared.structs.StructSchema.{StructSchema}
use Rattle.capnp_values_queries.specs.Structs.{nodes_around, id_of}
use Rattle.capnp_calls.specs.declared.call.Call.{Call as RustCall}
use Rattle.capnp_calls.specs.CallViews.{call_view}
use Rattle.capnp_calls_versions.specs.Ways.{IsFirstRefused}
use Rattle.capnp_relay_files.specs.SchemaFiles.{schema_nodes_in}
use Rattle.capnp_relay_files.specs.CallsFiles.{CallsText, calls_in}
use Rattle.capnp_relay_files.specs.RenamesFiles.{renames_in}
use Rattle.capnp_relay_streams.specs.declared.options.RelayOptions.{RelayOptions}
use Rattle.capnp_relay_loop.specs.declared.ends.Fault.TheVariants.{Memory}
use Rattle.capnp_relay_program.specs.declared.stop.Stop.{Stop}
use Rattle.capnp_relay_program.specs.declared.stop.Stop.TheVariants as stop
use Rattle.capnp_relay_program.specs.declared.arguments.Forms.{Forms}
use Rattle.capnp_relay_program.specs.Arguments.{forms, arguments_in}
use Rattle.capnp_relay_program.specs.Calls.{calls_from}
use Rattle.capnp_relay_program.specs.Faults.{◌then_or_stop◌, IsStopRefusal}

-- ---- the schema and the root

-- The nodes of a schema file that keep the rules.
abbrev pub accepted_nodes : List Node → Result (List Node) Stop
accepted_nodes nodes = elim (fault_of nodes) [ None ↦ Ok nodes | Some broken ↦ Err (stop.SchemaRule broken.0 broken.1) ]

-- The nodes of a schema file, if there is one.
abbrev pub file_nodes : Option (List ℕ) → Result (List Node) Stop
file_nodes file = ok_or (file >>= schema_nodes_in) stop.SchemaFile then_or_stop accepted_nodes

-- The root, where its id names a struct that is no group.
abbrev pub root_in : List Node → ℕ → Result ℕ Stop
root_in nodes id = if names_a is_struct_node nodes id then Ok id else Err stop.Root

-- The nodes of a schema file in which the root is found.
abbrev pub version_in : Option (List ℕ) → ℕ → Result (List Node) Stop
version_in file id = file_nodes file then_or_stop λ nodes. root_in nodes id then_or_stop λ root. Ok nodes

-- Those of the newer schema file, where a word names one.
abbrev pub newer_in : Bool → Option (List ℕ) → ℕ → Result (Option (List Node)) Stop
newer_in false file id = Ok None
newer_in true file id = version_in file id then_or_stop λ nodes. Ok (Some nodes)

-- The renamings, of which no two of one node have the same older or the same newer name.
abbrev pub apart_in : List Renaming → Option (List Renaming)
apart_in rs = rs provided are_one_to_one rs

-- Those of the renames file, where a word names one.
abbrev pub file_renamings : Bool → Option (List ℕ) → Result (List Renaming) Stop
file_renamings false file = Ok []
file_renamings true file = ok_or (file >>= renames_in >>= apart_in) stop.RenamesFile

-- ---- the calls and the limits

-- What a calls file says, if there is one.
abbrev pub file_calls : Option (List ℕ) → Result CallsText Stop
file_calls file = ok_or (file >>= calls_in) stop.CallsFile

-- How many words a message may have, and how deep it may be nested.
pub record MessageLimits : Type 0 where
  pub words : ℕ
  pub nesting : ℕ

-- The nesting, where it isn't negative.
abbrev pub nesting_levels : ℤ → Option ℕ
nesting_levels (pos n) = Some n
nesting_levels (negsuc n) = None

-- The limits that a relay takes: fewer than 2^29 - 1 words.
abbrev pub limits_in : ℕ → ℤ → Result MessageLimits Stop
limits_in words nesting = ok_or (nesting_levels nesting >>= λ n. (record { words = words; nesting = n }) provided nat_lt words (2 ^ 29 - 1)) stop.Options

-- ---- all of it

-- The words of a run, and the bytes of the schema file, the calls file, the newer schema file and the renames file, where they can
-- be read.
pub record Request : Type 0 where
  pub words : List (List ℕ)
  pub schema : Option (List ℕ)
  pub calls : Option (List ℕ)
  pub newer : Option (List ℕ)
  pub renames : Option (List ℕ)

-- A request by its parts, in the order of the record.
abbrev pub request : List (List ℕ) → Option (List ℕ) → Option (List ℕ) → Option (List ℕ) → Option (List ℕ) → Request
request words schema calls newer renames = record { words = words; schema = schema; calls = calls; newer = newer; renames = renames }

-- What a run is asked: the schema, the newer one, if any, and its renamings, the root and the forms, the calls, and the limits.
pub record Asked : Type 0 where
  pub nodes : List Node
  pub newer : Option (List Node)
  pub renamings : List Renaming
  pub root : ℕ
  pub forms : Forms
  pub calls : List Call
  pub limits : MessageLimits

-- What a request asks for, or its first fault.
abbrev pub asked : Request → Result Asked Stop
asked r =
    ok_or (arguments_in r.words) stop.Arguments then_or_stop λ arguments.
    version_in r.schema arguments.root then_or_stop λ nodes.
    newer_in arguments.newer r.newer arguments.root then_or_stop λ newer.
    file_renamings arguments.renames r.renames then_or_stop λ renamings.
    file_calls r.calls then_or_stop λ text.
    calls_from 1 text.calls then_or_stop λ calls.
    limits_in text.words text.nesting then_or_stop λ limits.
    Ok (record {
      nodes = nodes;
      newer = newer;
      renamings = renamings;
      root = arguments.root;
      forms = arguments.forms;
      calls = calls;
      limits = limits;
    })

-- Why nothing can be asked: the first fault, or want of memory, where the words are good and there is a schema file.
abbrev pub RefusesToAsk : Request → Stop → Type 0
RefusesToAsk r = IsStopRefusal (IsSome (arguments_in r.words) × IsSome r.schema) (asked r)

-- This holds of the newer nodes, which there are.
abbrev pub IfNewer : Option (List Node) → (List Node → Type 0) → Type 0
IfNewer None P = ⊥
IfNewer (Some nodes) P = P nodes

-- The newer schema is compatible with the older.
abbrev pub IsNewerCompatible : Asked → List Node → Type 0
IsNewerCompatible a nodes = IsCompatibleWith a.renamings (schema_of a.nodes) (schema_of nodes) a.root a.root

-- A call is admitted beside the newer schema.
abbrev pub is_admitted_beside : Asked → List Node → Call → Bool
is_admitted_beside a nodes c = is_admitted_with a.renamings (schema_of a.nodes) (schema_of nodes) a.root a.root c

-- Why what is asked isn't relayed: the newer schema isn't compatible, or it is and this call is the first that isn't admitted; or
-- memory is wanting.
abbrev pub IsHeldBack : Asked → Stop → Type 0
IsHeldBack a stop.NotCompatible = IfNewer a.newer (λ nodes. IsNewerCompatible a nodes → ⊥)
IsHeldBack a (stop.NotAdmitted n) = IfNewer a.newer (λ nodes. IsNewerCompatible a nodes × IsFirstRefused (is_admitted_beside a nodes) a.calls n)
IsHeldBack a (stop.Relay fault) = fault ≡ Memory
IsHeldBack a _ = ⊥

-- The forms of a relay's options.
abbrev pub forms_of : RelayOptions → Forms
forms_of options = forms options.input options.output options.plain

-- The limits of a relay's options.
abbrev pub relay_limits : RelayOptions → MessageLimits
relay_limits options = record { words = options.bounds.words; nesting = options.bounds.nesting }

-- What a relay is asked by its arguments.
abbrev pub asked_by : StructSchema → Option StructSchema → List Renaming → List RustCall → RelayOptions → Asked
asked_by root newer rs calls options = record {
  nodes = nodes_around root;
  newer = option_map nodes_around newer;
  renamings = rs;
  root = id_of root;
  forms = forms_of options;
  calls = map call_view calls;
  limits = relay_limits options;
}
