use Rattle.std.proofs.Common.{◌≡◌, ◌⊎◌, ℕ, List, Option, Some, Result, Ok, Err, IfOk, sym, option_copied, inl, rules}
use Rattle.std.proofs.lemmas.Result.{err_from_is_err_and}
use Rattle.capnp_model.specs.Segments.{Segments, word_at}
use Rattle.capnp_units.specs.declared.errors.Error.{Error}
use Rattle.capnp_units.specs.declared.sizes.ElementSize.{ElementSize}
use Rattle.capnp_units.specs.Segments.{words_in}
use Rattle.capnp_wire_objects.specs.declared.place.Place as code
use Rattle.capnp_wire_objects.specs.Places.{place_view, seen}
use Rattle.capnp_copy_arenas.specs.Elements.{IsNullOrWhole}
use Rattle.capnp_copy_arenas.specs.Lists.{object_of_list}
use Rattle.capnp_copy_arenas.specs.Values.{LeadsTo}
use Rattle.capnp_copy_arenas.specs.declared.init.ListPlace.{ListPlace}
use Rattle.capnp_copy_widening.specs.Got.{list_named}
use Rattle.capnp_copy_widening.specs.declared.lists.Taker.TheVariants as taker
use Rattle.capnp_layout_builders.specs.Gets.{Begins, ListGot}
use Rattle.capnp_layout_builders.proofs.lemmas.Begun.{Laws, listed_then, refused_as, told_only, always_ok}
use Rattle.capnp_copy_arenas.specs.Refusals.{IsSizeOrRefusal}
use Rattle.capnp_copy_arenas.specs.States.{state_in}
use Rattle.capnp_layout_builders.proofs.gets.list_here.Goals as goal

got_by : (l : Laws) (default : Option (List (List ℕ))) (s u : Segments) (slot : code.Place) (expected : ElementSize) → Begins default s u (place_view slot) (Ok tt) → (r : Result ListPlace Error) → seen (λ o. o) r ≡ list_named taker.Builder u slot expected → IfOk r (λ o. (word_at u (place_view slot) ≡ Some 0) ⊎ LeadsTo u (place_view slot) (object_of_list o)) → IfOk r (IsNullOrWhole u (place_view slot)) → IfOk r (ListGot default s u slot expected)
got_by l default s u slot expected b (Err e) is o lies = tt
got_by l default s u slot expected b (Ok x) is o lies = record { begins = b; value = listed_then l default s u (place_view slot) tt b; list = sym is; object = o; inside = lies }

pub returns : goal.returns
returns g c =
    let s : Segments = words_in (g.A.ReaderArena.segments c.args.arena.now) in
    let u : Segments = words_in (g.A.ReaderArena.segments c.begin.new.arena) in
    let laws : Laws = record {
      none = c.changes_of_values.ensures.none;
      again = c.changes_of_values.ensures.again;
      owned = c.changes_of_values.ensures.owned;
      more_owned = c.changes_with_more_levels.ensures.owned;
      more_replaced = c.changes_with_more_levels.ensures.replaced;
    } in
    record {
      got = got_by laws (option_copied c.args.default) s u c.args.slot c.args.expected c.in_ok-begin.ensures.begins c.get_list.result c.get_list.ensures.list c.get_list.ensures.object c.get_list.ensures.inside;
      refused = refused_as (option_copied c.args.default) s u (place_view c.args.slot) (list_named taker.Builder u c.args.slot c.args.expected) c.in_ok-begin.ensures.begins c.get_list.result c.get_list.ensures.list;
      taken = always_ok c.get_list.result c.in_ok-begin.ensures.told;
      lacking = told_only (option_copied c.args.default) (state_in g.A.ReaderArena.segments g.A.BuilderArena.room g.A.BuilderArena.books c.args.arena.now) (state_in g.A.ReaderArena.segments g.A.BuilderArena.room g.A.BuilderArena.books c.begin.new.arena) (place_view c.args.slot) (IsSizeOrRefusal g.A.BuilderArena.refuses) c.get_list.result c.in_ok-begin.ensures.told;
      books = search rules;
    }

pub returns-in_err-begin : goal.returns-in_err-begin
returns-in_err-begin g c =
    let p = err_from_is_err_and c.from_residual.result c.from_residual.ensures.1 in
    let e = c.in_err-begin.ensures in
    rw (p.1, p.2) (record { got = tt; refused = inl e.begins; taken = tt; lacking = inl e.told; books = e.books })
