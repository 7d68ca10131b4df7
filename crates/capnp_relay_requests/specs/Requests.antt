-- Requests of the compiler. (schema.capnp, CodeGeneratorRequest)
use Rattle.std.specs.Prelude.{◌≡◌, ◌⊎◌, ℕ, ℤ, pos, Option, option_map, List, [], ◌∷◌, ◌++◌, Result, Ok}
use Rattle.std.specs.Option.{ok_or}
use Rattle.std.specs.Result.{result_ok}
use Rattle.capnp_model.specs.Bytes.{bytes_of_words}
use Rattle.capnp_model.specs.Encoding.{canonical_words}
use Rattle.capnp_model.specs.Schemas.{Node}
use Rattle.capnp_model.specs.Trimming.{trim}
use Rattle.capnp_calls.specs.Frames.{value_in}
use Rattle.capnp_wire.specs.Reads.{root_of}
use Rattle.capnp_wire.specs.Views.{ListView, pointer_field}
use Rattle.capnp_relay_requests.specs.declared.fault.RequestFault.{RequestFault}
use Rattle.capnp_relay_bindings.specs.declared.plans.Plan.{Plan}
use Rattle.capnp_relay_bindings.specs.Plans.{planned_nodes}
use Rattle.capnp_relay_requests.specs.declared.fault.RequestFault.TheVariants.{Message, Request}
use Rattle.capnp_relay_requests.specs.Faults.{IsBindingRefusal}
use Rattle.capnp_relay_requests.specs.declared.request.Floats.{Floats}
use Rattle.capnp_relay_requests.specs.Steps.{◌and_read◌, IsRequestRefusal}
use Rattle.capnp_relay_requests.specs.Places.{struct_behind, structs_behind}
use Rattle.capnp_relay_requests.specs.Annotations.{ContextView, declared_from}
use Rattle.capnp_relay_requests.specs.Nodes.{nodes_among}
use Rattle.capnp_relay_requests.specs.Floats.{floats_of_nodes}

-- The nodes of a request of these segments. (CodeGeneratorRequest.nodes: pointer 0)
abbrev pub nodes_list : List (List ℕ) → ℤ → Result ListView RequestFault
nodes_list segments nesting =
    ok_or (result_ok (root_of segments nesting)) Request and_read λ p.
    ok_or (struct_behind p) Request and_read λ r.
    ok_or (structs_behind (pointer_field r 0)) Request

-- What is given to the reading of nodes: what floats become, and the types that annotations among them have.
abbrev pub context_of_nodes : Floats → ListView → ContextView
context_of_nodes floats l = record { floats = floats; types = λ id. declared_from l id 0 l.count }

-- The records of a request of these segments.
abbrev pub records_in : Floats → List (List ℕ) → ℤ → Result (List Node) RequestFault
records_in floats segments nesting = nodes_list segments nesting and_read λ l. nodes_among (context_of_nodes floats l) l l.count

-- Its float fields.
abbrev pub floats_in : List (List ℕ) → ℤ → Result (List (ℕ × ℕ)) RequestFault
floats_in segments nesting = nodes_list segments nesting and_read λ l. Ok (floats_of_nodes l l.count)

-- The one segment of a message's value in the canonical form. (Encoding, "Canonicalization")
abbrev pub segment_in : List ℕ → Option (List ℕ)
segment_in bytes = option_map (λ t. bytes_of_words (canonical_words (trim t))) (value_in bytes)

-- The records that the bytes of a message tell.
abbrev pub records_told : Floats → List ℕ → Result (List Node) RequestFault
records_told floats bytes = ok_or (segment_in bytes) Message and_read λ segment. records_in floats (segment ∷ []) (pos 64)

-- The float fields that they tell.
abbrev pub floats_told : List ℕ → Result (List (ℕ × ℕ)) RequestFault
floats_told bytes = ok_or (segment_in bytes) Message and_read λ segment. floats_in (segment ∷ []) (pos 64)

-- Nodes are those that are told or, where generic ones are bound, what plans make of them.
abbrev pub AreBound : List Node → List Node → Type 0
AreBound told nodes = (nodes ≡ told) ⊎ ((plans : List Plan) × (nodes ≡ planned_nodes told plans))

-- Nodes are those of a message's request, with its generic ones bound.
abbrev pub AreRecordsOf : Floats → List ℕ → List Node → Type 0
AreRecordsOf floats bytes nodes = (told : List Node) × (records_told floats bytes ≡ Ok told) × AreBound told nodes

-- Float fields are those that a message tells, and further ones of nodes that are bound.
abbrev pub AreFloatsOf : List ℕ → List (ℕ × ℕ) → Type 0
AreFloatsOf bytes fields = (told : List (ℕ × ℕ)) × (floats_told bytes ≡ Ok told) × (bound : List (ℕ × ℕ)) × (fields ≡ told ++ bound)

-- The refusal of a request that is read.
abbrev pub IsRequestOrBindingRefusal : Floats → List ℕ → RequestFault → Type 0
IsRequestOrBindingRefusal floats bytes e = IsBindingRefusal e ⊎ IsRequestRefusal (records_told floats bytes) e
