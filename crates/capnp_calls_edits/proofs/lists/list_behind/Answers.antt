use Rattle.std.proofs.Common.{◌≡◌, ◌⊎◌, List, ℕ, Option, Result, Ok, Err, IfOk, sym}
use Rattle.capnp_model.specs.Schemas.{Ty, Schema}
use Rattle.capnp_model.specs.Edits.{as_list}
use Rattle.capnp_model.specs.Segments.{Segments, word_at}
use Rattle.std.specs.Prelude.{Some, option_copied}
use Rattle.capnp_units.specs.declared.errors.Error.{Error}
use Rattle.capnp_units.specs.declared.sizes.ElementSize.{ElementSize}
use Rattle.capnp_units.specs.Segments.{words_in}
use Rattle.capnp_wire_objects.specs.declared.place.Place as code
use Rattle.capnp_wire_objects.specs.Places.{place_view, seen}
use Rattle.capnp_records.specs.Sets.{nodes_of}
use Rattle.capnp_model.specs.Accepted.{schema_of}
use Rattle.capnp_values_queries.specs.Types.{ty_of}
use Rattle.capnp_copy_arenas.specs.Elements.{IsNullOrWhole}
use Rattle.capnp_copy_arenas.specs.Lists.{object_of_list}
use Rattle.capnp_copy_arenas.specs.Values.{LeadsTo}
use Rattle.capnp_copy_arenas.specs.declared.init.ListPlace.{ListPlace}
use Rattle.capnp_copy_widening.specs.Got.{list_named}
use Rattle.capnp_copy_widening.specs.declared.lists.Taker.TheVariants as taker
use Rattle.capnp_layout_builders.specs.Gets.{Gets}
use Rattle.capnp_calls_edits.specs.Elements.{ListBehind}
use Rattle.std.proofs.lemmas.Result.{err_from_is_err_and}
use Rattle.capnp_model.specs.Readings.{expected_size}
use Rattle.capnp_units.specs.Sizes.{size_number}
use Rattle.capnp_wire.specs.Laws.{ListsAreRead}
use Rattle.capnp_copy_arenas.specs.Refusals.{IsSizeOrRefusal}
use Rattle.capnp_calls_edits.proofs.ClaimsLists.{owned_count, named_accepted, never_refused}
use Rattle.capnp_calls_edits.proofs.GotLists.{list_leads, list_found}
use Rattle.capnp_calls_edits.proofs.lists.list_behind.Goals as goal

got_by : (default : Option (List (List ℕ))) (s u : Segments) (slot : code.Place) (expected : ElementSize) (around : Schema) (ty : Ty) → Gets default s u (place_view slot) (as_list around ty) → (r : Result ListPlace Error) → seen (λ o. o) r ≡ list_named taker.Reader u slot expected → IfOk r (λ o. (word_at u (place_view slot) ≡ Some 0) ⊎ LeadsTo u (place_view slot) (object_of_list o)) → IfOk r (IsNullOrWhole u (place_view slot)) → ListsAreRead → size_number expected ≡ expected_size ty → IfOk r (ListBehind default s u slot around ty)
got_by default s u slot expected around ty v (Err e) is o lies law same = tt
got_by default s u slot expected around ty v (Ok x) is o lies law same = record {
  value = v;
  object = list_leads u slot expected x (sym is) o;
  found = λ some. list_found u slot expected x (sym is) (list_leads u slot expected x (sym is) o some) lies some;
  counts = owned_count law u slot expected x (sym is);
  accepted = named_accepted u slot expected ty x same (sym is);
}

pub returns-clause-got : goal.returns-clause-got
returns-clause-got g c =
    let s : Segments = words_in (g.A.ReaderArena.segments c.args.arena.now) in
    let u : Segments = words_in (g.A.ReaderArena.segments c.begin_list.new.arena) in
    got_by (option_copied c.args.default) s u c.args.slot c.expected_element_size.result (schema_of (nodes_of c.args.set.now)) (ty_of c.args.ty) c.in_ok-begin_list.ensures.value c.get_list.result c.get_list.ensures.list c.get_list.ensures.object c.get_list.ensures.inside c.gets_are_readings.ensures.lists c.expected_element_size.ensures

pub returns-in_err-begin_list-clause-cause : goal.returns-in_err-begin_list-clause-cause
returns-in_err-begin_list-clause-cause g c d holds =
    let h = err_from_is_err_and c.from_residual.result c.from_residual.ensures.1 in
    rw (h.1, h.2) (c.in_err-begin_list.ensures.cause d holds)

pub returns-clause-cause : goal.returns-clause-cause
returns-clause-cause g c d holds =
    let s : Segments = words_in (g.A.ReaderArena.segments c.args.arena.now) in
    let u : Segments = words_in (g.A.ReaderArena.segments c.begin_list.new.arena) in
    never_refused (option_copied c.args.default) d holds c.args.slot (schema_of (nodes_of c.args.set.now)) (ty_of c.args.ty) c.gets_are_readings.ensures.lists s u c.in_ok-begin_list.ensures.value c.expected_element_size.result c.expected_element_size.ensures c.get_list.result c.get_list.ensures.list (IsSizeOrRefusal g.A.BuilderArena.refuses)
