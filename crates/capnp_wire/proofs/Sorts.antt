-- The sorts of objects, as they are told.
use Rattle.std.proofs.Common.{◌≡◌, Option, Some, Result, Ok, Err, ap, sym, ◌∙◌}
use Rattle.capnp_model.specs.Kinds.{Kind, OutOfBounds}
use Rattle.capnp_model.specs.Chains.{◌and_then◌, guard}
use Rattle.capnp_model.specs.Segments.{Segments}
use Rattle.capnp_model.specs.Pointers as model
use Rattle.capnp_units.specs.declared.errors.Error.{Error}
use Rattle.capnp_units.specs.declared.sizes.PointerType.{PointerType}
use Rattle.capnp_units.specs.Errors.{kind_of}
use Rattle.capnp_wire_objects.specs.declared.place.Place as wire
use Rattle.capnp_wire_objects.specs.Places.{seen, place_view}
use Rattle.capnp_wire.specs.Views.{place_seen}
use Rattle.capnp_wire.specs.Reads.{pointer_type_of, type_at}

module _ (s : Segments) (o : Option wire.Place) (p : wire.Place) (here : o ≡ Some p) where
  behind : (f : Result model.Found Kind) → f ≡ model.found_at s (place_view p) → type_at s (place_seen o) ≡ (f and_then λ x. guard (model.begins_inside s x.object) OutOfBounds and_then λ _. Ok (pointer_type_of x.object))
  behind f found = ap (λ (x : Option wire.Place). type_at s (place_seen x)) here ∙ ap (λ (r : Result model.Found Kind). r and_then λ x. guard (model.begins_inside s x.object) OutOfBounds and_then λ _. Ok (pointer_type_of x.object)) (sym found)

  -- An object that begins inside its segment is of its sort.
  pub sort_told : (f : model.Found) (x : model.Object) (r : Result PointerType Kind) → Ok f ≡ model.found_at s (place_view p) → f.object ≡ x → r ≡ (guard (model.begins_inside s x) OutOfBounds and_then λ _. Ok (pointer_type_of x)) → r ≡ type_at s (place_seen o)
  sort_told f x r found is told = told ∙ sym (behind (Ok f) found ∙ ap (λ (y : model.Object). guard (model.begins_inside s y) OutOfBounds and_then λ _. Ok (pointer_type_of y)) is)

  -- Where none is found there is no sort.
  pub sort_untold : (d e : Error) (r : Result PointerType Error) → Err (kind_of d.kind) ≡ model.found_at s (place_view p) → r ≡ Err e → e ≡ d → seen (λ (t : PointerType). t) r ≡ type_at s (place_seen o)
  sort_untold d e r found a b = ap (seen (λ (t : PointerType). t)) (a ∙ ap (λ (x : Error). Err x) b) ∙ sym (behind (Err (kind_of d.kind)) found)
