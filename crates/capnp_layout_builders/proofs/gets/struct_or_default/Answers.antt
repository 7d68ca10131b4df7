use Rattle.std.proofs.Common.{◌≡◌, ℕ, ◌≤◌, List, Option, Result, Ok, Err, IfOk, ap, sym, ◌∙◌, subst, option_copied, inl, rules}
use Rattle.std.proofs.lemmas.Result.{err_from_is_err_and}
use Rattle.capnp_model.specs.Segments.{Segments, Place}
use Rattle.capnp_model.specs.Trees.{widened}
use Rattle.capnp_units.specs.declared.sizes.StructSize.{StructSize}
use Rattle.capnp_units.specs.Segments.{words_in}
use Rattle.capnp_wire_objects.specs.Objects.{object_at}
use Rattle.capnp_wire_objects.specs.Places.{place_view}
use Rattle.capnp_copy_arenas.specs.Structs.{object_of_struct}
use Rattle.capnp_copy_arenas.specs.Values.{LeadsTo}
use Rattle.capnp_copy_arenas.specs.declared.fields.StructPlace.{StructPlace}
use Rattle.capnp_copy_widening.specs.Widened.{Widens, IsWide, WideStructRefused, StructLacks, IsStructOrNull}
use Rattle.capnp_layout_builders.specs.Gets.{Begins, StructGot}
use Rattle.capnp_layout_builders.proofs.lemmas.Begun.{Laws, made_then, refused_then, wide_stays, lacking_then, on_ok}
use Rattle.capnp_copy_arenas.specs.Refusals.{IsSizeOrRefusal}
use Rattle.capnp_copy_arenas.specs.States.{ArenaState, state_in}
use Rattle.capnp_layout_builders.proofs.gets.struct_or_default.Goals as goal

got_by : {E : Type 0} (l : Laws) (default : Option (List (List ℕ))) (s m u : Segments) (p : Place) (size : StructSize) → Begins default s m p (Ok tt) → (IsWide m p size.data_words size.pointers → u ≡ m) → (r : Result StructPlace E) → IfOk r (λ o. Widens m u p size.data_words size.pointers) → IfOk r (λ o. LeadsTo u p (object_of_struct o)) → IfOk r (λ o. (size.data_words ≤ o.data_words) × (size.pointers ≤ o.pointers)) → IfOk r (StructGot default s u p size)
got_by l default s m u p size b stays (Err e) w o z = tt
got_by l default s m u p size b stays (Ok x) w o z =
    record {
      begun_with = m;
      begins = b;
      stays = stays;
      wide = λ wide. (let e : m ≡ s = wide_stays default s m p size.data_words size.pointers tt b wide in stays (subst (λ (x : Segments). IsWide x p size.data_words size.pointers) (sym e) wide) ∙ e);
      value = made_then l default s m u p (widened size.data_words size.pointers) tt b w;
      object = o;
      enough = z;
    }

pub returns : goal.returns
returns g c =
    let s : Segments = words_in (g.A.ReaderArena.segments c.args.arena.now) in
    let m : Segments = words_in (g.A.ReaderArena.segments c.begin.new.arena) in
    let u : Segments = words_in (g.A.ReaderArena.segments c.get_struct.new.arena) in
    let laws : Laws = record {
      none = c.changes_of_values.ensures.none;
      again = c.changes_of_values.ensures.again;
      owned = c.changes_of_values.ensures.owned;
      more_owned = c.changes_with_more_levels.ensures.owned;
      more_replaced = c.changes_with_more_levels.ensures.replaced;
    } in
    let e = c.get_struct.ensures in
    record {
      got = got_by laws (option_copied c.args.default) s m u (place_view c.args.slot) c.args.size c.in_ok-begin.ensures.begins (λ wide. ap words_in (e.wide wide)) c.get_struct.result e.value e.object e.size;
      there = e.there;
      near = e.near;
      refused = refused_then (option_copied c.args.default) s (g.A.ReaderArena.segments c.begin.new.arena) (g.A.ReaderArena.segments c.get_struct.new.arena) (place_view c.args.slot) (λ x. WideStructRefused x (object_at x (place_view c.args.slot)) c.args.size.data_words c.args.size.pointers) c.in_ok-begin.ensures.begins c.get_struct.result e.refused e.kind;
      taken = on_ok c.get_struct.result e.taken (λ t. ((state_in g.A.ReaderArena.segments g.A.BuilderArena.room g.A.BuilderArena.books c.begin.new.arena), record { begins = c.in_ok-begin.ensures.begins; tells = c.in_ok-begin.ensures.told }, t));
      lacking = lacking_then (option_copied c.args.default) (state_in g.A.ReaderArena.segments g.A.BuilderArena.room g.A.BuilderArena.books c.args.arena.now) (state_in g.A.ReaderArena.segments g.A.BuilderArena.room g.A.BuilderArena.books c.begin.new.arena) (state_in g.A.ReaderArena.segments g.A.BuilderArena.room g.A.BuilderArena.books c.get_struct.new.arena) (place_view c.args.slot) (IsSizeOrRefusal g.A.BuilderArena.refuses) (λ (x : ArenaState). StructLacks (words_in x.segments) x.room c.args.slot.segment (object_at (words_in x.segments) (place_view c.args.slot)) c.args.size.data_words c.args.size.pointers) (λ (x : ArenaState). IsStructOrNull (object_at (words_in x.segments) (place_view c.args.slot))) c.in_ok-begin.ensures.begins c.in_ok-begin.ensures.told c.get_struct.result e.refused e.full e.cause;
      books = search rules;
    }

pub returns-in_err-begin : goal.returns-in_err-begin
returns-in_err-begin g c =
    let p = err_from_is_err_and c.from_residual.result c.from_residual.ensures.1 in
    let e = c.in_err-begin.ensures in
    rw (p.1, p.2) (record { got = tt; there = tt; near = tt; refused = inl e.begins; taken = tt; lacking = inl e.told; books = e.books })
