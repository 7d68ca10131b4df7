-- The last step of a path.
use Rattle.std.proofs.Common.{◌≡◌, ◌-◌, List, map, length, ap, sym, ◌∙◌}
use Rattle.std.specs.Prelude.{slice_get, option_map}
use Rattle.std.proofs.lemmas.Option.{slice_get-map}
use Rattle.std.proofs.lemmas.List.{length-map}
use Rattle.capnp_calls.specs.CallViews.{step_view}
use Rattle.capnp_calls.specs.declared.call.Step.{Step}
use Rattle.hagzimot_commands.specs.Strict.{is_found_index, ends_with_index}

pub last_viewed : (path : List Step) → is_found_index (option_map step_view (slice_get path (length path - 1))) ≡ ends_with_index (map step_view path)
last_viewed path = ap is_found_index (sym (slice_get-map step_view path (length path - 1)) ∙ ap (λ n. slice_get (map step_view path) (n - 1)) (sym (length-map path step_view)))
