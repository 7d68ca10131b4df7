-- What a request asks for, step by step.
use Rattle.std.proofs.Common.{◌≡◌, refl, sym, ap, ◌∙◌, inl, inr, ℕ, ◌-◌, Option, Some, None, option_map, Ok, List, map}
use Rattle.std.specs.Prelude.{IsSome, ⊤}
use Rattle.capnp_model.specs.Schemas.{Node}
use Rattle.capnp_model.specs.Partners.{Renaming}
use Rattle.capnp_model.specs.Calls.{Call as ModelCall}
use Rattle.capnp_values_queries.specs.declared.structs.StructSchema.{StructSchema}
use Rattle.capnp_values_queries.specs.Structs.{nodes_around, id_of}
use Rattle.capnp_calls.specs.declared.call.Call.{Call}
use Rattle.capnp_calls.specs.CallViews.{call_view}
use Rattle.capnp_calls_versions.specs.Renamed.{renamings_of}
use Rattle.capnp_relay_files.specs.CallsFiles.{CallsText}
use Rattle.capnp_relay_streams.specs.declared.options.RelayOptions.{RelayOptions}
use Rattle.capnp_relay_program.specs.declared.arguments.Arguments.{Arguments}
use Rattle.capnp_relay_program.specs.declared.arguments.Forms.{Forms}
use Rattle.capnp_relay_program.specs.declared.version.Version.{Version}
use Rattle.capnp_relay_program.specs.declared.settings.Settings.{Settings}
use Rattle.capnp_relay_program.specs.Faults.{IsStopRefusal}
use Rattle.capnp_relay_program.specs.declared.stop.Stop.{Stop}
use Rattle.capnp_relay_program.specs.declared.stop.Stop.TheVariants as stop
use Rattle.capnp_relay_program.specs.Arguments.{arguments_in}
use Rattle.capnp_relay_program.specs.Calls.{calls_from}
use Rattle.capnp_relay_program.specs.Asked.{Request, Asked, MessageLimits, forms_of, relay_limits, version_in, newer_in, file_renamings, file_calls, limits_in, asked, RefusesToAsk, asked_by}
use Rattle.capnp_relay_program.specs.Settings.{asked_of}
use Rattle.capnp_relay_program.specs.Versions.{nodes_at}

-- All that is asked, where no step is refused.
pub asked_whole : (r : Request) (arguments : Arguments) (nodes : List Node) (newer : Option (List Node)) (rs : List Renaming) (text : CallsText) (calls : List ModelCall) (limits : MessageLimits)
    → arguments_in r.words ≡ Some arguments → version_in r.schema arguments.root ≡ Ok nodes → newer_in arguments.newer r.newer arguments.root ≡ Ok newer → file_renamings arguments.renames r.renames ≡ Ok rs → file_calls r.calls ≡ Ok text
    → calls_from 1 text.calls ≡ Ok calls → limits_in text.words text.nesting ≡ Ok limits
    → asked r ≡ Ok (record { nodes = nodes; newer = newer; renamings = rs; root = arguments.root; forms = arguments.forms; calls = calls; limits = limits })
asked_whole r arguments nodes newer rs text calls limits a n w s t m l = rw a (rw n (rw w (rw s (rw t (rw m (rw l refl))))))

-- What is asked of a relay by schemas, renamings, an id, calls and options.
abbrev pub asked_from : List Node → Option (List Node) → List Renaming → ℕ → List Call → RelayOptions → Asked
asked_from nodes newer rs id calls options = record {
  nodes = nodes;
  newer = newer;
  renamings = rs;
  root = id;
  forms = forms_of options;
  calls = map call_view calls;
  limits = relay_limits options;
}

-- What schemas, renamings, a root, calls and options ask for is what was asked.
pub parts_ask : (r : Request) (nodes : List Node) (newer : Option Version) (rs : List Renaming) (root : ℕ) (calls : List Call) (options : RelayOptions) (arguments : Arguments) (text : CallsText)
    → arguments_in r.words ≡ Some arguments → version_in r.schema arguments.root ≡ Ok nodes → root ≡ arguments.root → newer_in arguments.newer r.newer arguments.root ≡ Ok (option_map nodes_at newer) → file_renamings arguments.renames r.renames ≡ Ok rs → file_calls r.calls ≡ Ok text
    → calls_from 1 text.calls ≡ Ok (map call_view calls)
    → forms_of options ≡ arguments.forms → limits_in text.words text.nesting ≡ Ok (relay_limits options)
    → asked r ≡ Ok (asked_from nodes (option_map nodes_at newer) rs root calls options)
parts_ask r nodes newer rs root calls options arguments text a n f w s t m o l =
    let newer_nodes : Option (List Node) = option_map nodes_at newer in
    let rest : ℕ → Forms → Asked = λ id forms. record { nodes = nodes; newer = newer_nodes; renamings = rs; root = id; forms = forms; calls = map call_view calls; limits = relay_limits options } in
    asked_whole r arguments nodes newer_nodes rs text (map call_view calls) (relay_limits options) a n w s t m l
    ∙ ap (λ (x : ℕ). Ok (rest x arguments.forms)) (sym f)
    ∙ ap (λ (x : Forms). Ok (rest root x)) (sym o)

-- A relay is asked what the settings ask for.
module _ (root : StructSchema) (calls : List Call) (s : Settings) (n : nodes_around root ≡ nodes_at s.version) (i : id_of root ≡ s.version.root.id) (k : calls ≡ s.calls.items) where
  asks : (newer : Option StructSchema) → option_map nodes_around newer ≡ option_map nodes_at s.newer → asked_by root newer (renamings_of s.renamings) calls s.options ≡ asked_of s
  asks newer w =
      let rs = renamings_of s.renamings in
      ap (λ (x : List Node). asked_from x (option_map nodes_around newer) rs (id_of root) calls s.options) n
      ∙ ap (λ (x : Option (List Node)). asked_from (nodes_at s.version) x rs (id_of root) calls s.options) w
      ∙ ap (λ (x : ℕ). asked_from (nodes_at s.version) (option_map nodes_at s.newer) rs x calls s.options) i
      ∙ ap (λ (x : List Call). asked_from (nodes_at s.version) (option_map nodes_at s.newer) rs s.version.root.id x s.options) k

  pub asks_alone : s.newer ≡ None → asked_by root None (renamings_of s.renamings) calls s.options ≡ asked_of s
  asks_alone e = asks None (sym (ap (option_map nodes_at) e))

  pub asks_beside : (newer : StructSchema) (v : Version) → s.newer ≡ Some v → nodes_around newer ≡ nodes_at v → asked_by root (Some newer) (renamings_of s.renamings) calls s.options ≡ asked_of s
  asks_beside newer v e h = asks (Some newer) (ap Some h ∙ sym (ap (option_map nodes_at) e))

-- ---- a fault of the calls

some_file : (file : Option (List ℕ)) (id : ℕ) (nodes : List Node) → version_in file id ≡ Ok nodes → IsSome file
some_file None id nodes h = absurd (cc h)
some_file (Some bytes) id nodes h = refl

pub calls_refused : (r : Request) (arguments : Arguments) (nodes : List Node) (newer : Option (List Node)) (rs : List Renaming) (text : CallsText) (e : Stop)
    → arguments_in r.words ≡ Some arguments → version_in r.schema arguments.root ≡ Ok nodes → newer_in arguments.newer r.newer arguments.root ≡ Ok newer → file_renamings arguments.renames r.renames ≡ Ok rs → file_calls r.calls ≡ Ok text
    → IsStopRefusal ⊤ (calls_from 1 text.calls) e → RefusesToAsk r e
calls_refused r arguments nodes newer rs text e a n w s t (inl h) = inl (rw a (rw n (rw w (rw s (rw t (rw h refl))))))
calls_refused r arguments nodes newer rs text e a n w s t (inr h) = inr (h.0, (rw a refl, some_file r.schema arguments.root nodes n))

-- The same of a fault of the calls file.
pub text_refused : (W : Type 0) (r : Request) (arguments : Arguments) (nodes : List Node) (newer : Option (List Node)) (rs : List Renaming) (e : Stop)
    → arguments_in r.words ≡ Some arguments → version_in r.schema arguments.root ≡ Ok nodes → newer_in arguments.newer r.newer arguments.root ≡ Ok newer → file_renamings arguments.renames r.renames ≡ Ok rs
    → IsStopRefusal W (file_calls r.calls) e → RefusesToAsk r e
text_refused W r arguments nodes newer rs e a n w s (inl h) = inl (rw a (rw n (rw w (rw s (rw h refl)))))
text_refused W r arguments nodes newer rs e a n w s (inr h) = inr (h.0, (rw a refl, some_file r.schema arguments.root nodes n))
