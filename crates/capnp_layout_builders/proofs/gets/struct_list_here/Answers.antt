use Rattle.std.proofs.Common.{◌≡◌, ℕ, List, Option, Result, Ok, Err, IsOk, IfOk, ap, option_copied, inl, rules}
use Rattle.std.proofs.lemmas.Result.{err_from_is_err_and}
use Rattle.capnp_model.specs.Segments.{Segments}
use Rattle.capnp_units.specs.declared.sizes.StructSize.{StructSize}
use Rattle.capnp_units.specs.Segments.{words_in}
use Rattle.capnp_wire_objects.specs.declared.place.Place as code
use Rattle.capnp_wire_objects.specs.Places.{place_view}
use Rattle.capnp_copy_arenas.specs.declared.init.ListPlace.{ListPlace}
use Rattle.capnp_copy_widening.specs.MovedElements.{as_structs}
use Rattle.capnp_copy_widening.specs.WidenedLists.{WidensList, StructsGot, HasWideList, WideListRefused, ListLacks, list_there}
use Rattle.capnp_layout_builders.specs.Gets.{Begins, StructListGot}
use Rattle.capnp_layout_builders.proofs.lemmas.Begun.{Laws, made_then, refused_then, lacking_then, both_on_ok}
use Rattle.capnp_copy_arenas.specs.Refusals.{IsSizeOrRefusal}
use Rattle.capnp_copy_arenas.specs.States.{ArenaState, state_in}
use Rattle.capnp_layout_builders.proofs.gets.struct_list_here.Goals as goal

got_by : {E : Type 0} (l : Laws) (default : Option (List (List ℕ))) (s m u : Segments) (slot : code.Place) (size : StructSize) → Begins default s m (place_view slot) (Ok tt) → (HasWideList m slot size.data_words size.pointers → u ≡ m) → (r : Result ListPlace E) → IfOk r (λ o. WidensList m u (place_view slot) size.data_words size.pointers) → IfOk r (StructsGot m u slot size.data_words size.pointers) → IfOk r (StructListGot default s u slot size)
got_by l default s m u slot size b stays (Err e) w o = tt
got_by l default s m u slot size b stays (Ok x) w o =
    record {
      begun_with = m;
      begins = b;
      stays = stays;
      value = made_then l default s m u (place_view slot) (as_structs size.data_words size.pointers) tt b w;
      list = o;
    }

pub returns : goal.returns
returns g c =
    let s : Segments = words_in (g.A.ReaderArena.segments c.args.arena.now) in
    let m : Segments = words_in (g.A.ReaderArena.segments c.begin.new.arena) in
    let u : Segments = words_in (g.A.ReaderArena.segments c.get_struct_list.new.arena) in
    let laws : Laws = record {
      none = c.changes_of_values.ensures.none;
      again = c.changes_of_values.ensures.again;
      owned = c.changes_of_values.ensures.owned;
      more_owned = c.changes_with_more_levels.ensures.owned;
      more_replaced = c.changes_with_more_levels.ensures.replaced;
    } in
    let e = c.get_struct_list.ensures in
    record {
      got = got_by laws (option_copied c.args.default) s m u c.args.slot c.args.size c.in_ok-begin.ensures.begins (λ wide. ap words_in (e.wide wide)) c.get_struct_list.result e.value e.list;
      refused = refused_then (option_copied c.args.default) s (g.A.ReaderArena.segments c.begin.new.arena) (g.A.ReaderArena.segments c.get_struct_list.new.arena) (place_view c.args.slot) (λ x. WideListRefused x (place_view c.args.slot) (list_there x c.args.slot) c.args.size.data_words c.args.size.pointers) c.in_ok-begin.ensures.begins c.get_struct_list.result e.refused e.kind;
      taken = both_on_ok c.get_struct_list.result e.taken e.bound (λ t b. record { begun_with = (state_in g.A.ReaderArena.segments g.A.BuilderArena.room g.A.BuilderArena.books c.begin.new.arena); begun = record { begins = c.in_ok-begin.ensures.begins; tells = c.in_ok-begin.ensures.told }; takes = t; bound = b });
      lacking = lacking_then (option_copied c.args.default) (state_in g.A.ReaderArena.segments g.A.BuilderArena.room g.A.BuilderArena.books c.args.arena.now) (state_in g.A.ReaderArena.segments g.A.BuilderArena.room g.A.BuilderArena.books c.begin.new.arena) (state_in g.A.ReaderArena.segments g.A.BuilderArena.room g.A.BuilderArena.books c.get_struct_list.new.arena) (place_view c.args.slot) (IsSizeOrRefusal g.A.BuilderArena.refuses) (λ (x : ArenaState). ListLacks (words_in x.segments) x.room c.args.slot.segment (list_there (words_in x.segments) c.args.slot) c.args.size.data_words c.args.size.pointers) (λ (x : ArenaState). IsOk (list_there (words_in x.segments) c.args.slot)) c.in_ok-begin.ensures.begins c.in_ok-begin.ensures.told c.get_struct_list.result e.refused e.full e.cause;
      books = search rules;
    }

pub returns-in_err-begin : goal.returns-in_err-begin
returns-in_err-begin g c =
    let p = err_from_is_err_and c.from_residual.result c.from_residual.ensures.1 in
    let e = c.in_err-begin.ensures in
    rw (p.1, p.2) (record { got = tt; refused = inl e.begins; taken = tt; lacking = inl e.told; books = e.books })
