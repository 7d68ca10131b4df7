-- What contracts see of settings, and of the words and files that they come of.
use Rattle.std.specs.Prelude.{List, String, map, option_map, string_bytes}
use Rattle.std.specs.Option.{option_copied}
use Rattle.capnp_calls.specs.CallViews.{call_view}
use Rattle.capnp_calls_versions.specs.Renamed.{renamings_of}
use Rattle.capnp_relay_program.specs.declared.run.Files.{Files}
use Rattle.capnp_relay_program.specs.declared.settings.Settings.{Settings}
use Rattle.capnp_relay_program.specs.Asked.{Request, request, Asked, forms_of, relay_limits}
use Rattle.capnp_relay_program.specs.Versions.{nodes_at}

-- The request of these words and the files that they name.
abbrev pub request_of : {Z : Type 0} → List (String Z) → Files → Request
request_of words files = request (map string_bytes words) (option_copied files.schema) (option_copied files.calls) (option_copied files.newer) (option_copied files.renames)

-- What the settings ask for.
abbrev pub asked_of : Settings → Asked
asked_of s = record {
  nodes = nodes_at s.version;
  newer = option_map nodes_at s.newer;
  renamings = renamings_of s.renamings;
  root = s.version.root.id;
  forms = forms_of s.options;
  calls = map call_view s.calls.items;
  limits = relay_limits s.options;
}
