use Rattle.std.proofs.Common.{◌≡◌, ◌⊎◌, ℕ, Result, Ok, Err, refl, subst, inl, inr, ◌+◌, ◌*◌, ◌<◌, sym, rules, arith}
use Rattle.capnp_units.specs.Segments.{words_in}
use Rattle.capnp_wire_objects.specs.Places.{place_view}
use Rattle.capnp_model.specs.Kinds.{Kind}
use Rattle.capnp_wire_objects.specs.Objects.{object_at}
use Rattle.capnp_wire_objects.specs.declared.place.Place.{Place}
use Rattle.capnp_wire_objects.specs.declared.object.Found.{Found}
use Rattle.capnp_wire_objects.specs.declared.object.Object.{Object}
use Rattle.capnp_wire_objects.specs.declared.object.Object.TheVariants as object
use Rattle.capnp_model.specs.Trees.{structure, resized, none}
use Rattle.capnp_copy_arenas.specs.Values.{Becomes}
use Rattle.capnp_copy_widening.specs.Widened.{Widens, GrowthRefused, WideStructRefused, IsStructOrNull, IsObjectOfStruct}
use Rattle.capnp_copy_widening.proofs.lemmas.GotStructs.{struct_there, null_there, null_is_not_wide, narrow_is_not_wide, null_widens, wide_widens, most_widens, ok_then, err_then, refused_widening}
use Rattle.capnp_copy_widening.proofs.Bounds.{both_ok, on_err, null_takes, wide_takes, struct_takes, null_lacks, struct_lacks}
use Rattle.capnp_copy_widening.proofs.structs.get_struct.Goals.{else-data_words-size-via-then-data_words-size+else-pointers-size, else-data_words-size-via-else-data_words-size}
use Rattle.capnp_copy_widening.proofs.structs.get_struct.Goals as goal

-- what is no struct and not null
no_fault : (x : Result Found Kind) (k : Kind) → Err k ≡ x → IsStructOrNull x → ⊥
no_fault x k e h = subst IsStructOrNull (sym e) h

no_struct : (o : Object) → (o ≡ object.Null → ⊥) → ((p : Place) (d k : ℕ) → o ≡ object.Struct p d k → ⊥) → IsObjectOfStruct o → ⊥
no_struct object.Null a b h = a refl
no_struct (object.Capability i) a b h = h
no_struct (object.Struct p d k) a b h = b p d k refl
no_struct (object.List p size n) a b h = h
no_struct (object.PointerList p n) a b h = h
no_struct (object.StructList p words n d k) a b h = h

no_other : (x : Result Found Kind) (f : Found) → x ≡ Ok f → (f.object ≡ object.Null → ⊥) → ((p : Place) (d k : ℕ) → f.object ≡ object.Struct p d k → ⊥) → IsStructOrNull x → ⊥
no_other x f e a b h = no_struct f.object a b (subst IsStructOrNull e h)

pub returns-in_err-found : goal.returns-in_err-found
returns-in_err-found g c =
    let s = words_in (g.A.ReaderArena.segments c.args.arena.now) in
    record {
      value = search rules;
      object = search rules;
      size = search rules;
      wide = search rules;
      there = search rules;
      near = search rules;
      taken = search rules;
      full = search rules;
      refused = search rules;
      kind = search rules;
      books = search rules;
      cause = λ there. absurd (no_fault (object_at s (place_view c.args.slot)) _ c.in_err-found.ensures.object there);
    }

pub returns-in_default : goal.returns-in_default
returns-in_default g c =
    let s = words_in (g.A.ReaderArena.segments c.args.arena.now) in
    record {
      value = search rules;
      object = search rules;
      size = search rules;
      wide = search rules;
      there = search rules;
      near = search rules;
      taken = search rules;
      full = search rules;
      refused = search rules;
      kind = search rules;
      books = search rules;
      cause = λ there. absurd (no_other (object_at s (place_view c.args.slot)) c.in_ok-found.found (sym c.in_ok-found.ensures.object) c.in_default.not-Null c.in_default.not-Struct there);
    }

pub returns-then-pointers-size : goal.returns-then-pointers-size
returns-then-pointers-size g c =
    let s = words_in (g.A.ReaderArena.segments c.args.arena.now) in
    let p = place_view c.args.slot in
    let x = c.in-Struct in
    let free = g.A.BuilderArena.room c.args.arena.now in
    record {
      value = wide_widens s p (place_view x.start) c.args.size.data_words c.args.size.pointers x.data_words x.pointers (struct_there s p c.in_ok-found.found x.start x.data_words x.pointers (sym c.in_ok-found.ensures.object) x.is) (omega (arith, c.if-data_words-size.true)) (omega (arith, c.if-pointers-size.true));
      object = struct_there s (place_view c.args.slot) c.in_ok-found.found x.start x.data_words x.pointers (sym c.in_ok-found.ensures.object) x.is;
      size = search rules;
      wide = search rules;
      there = search rules;
      near = search rules;
      taken = wide_takes s free c.args.slot.segment c.args.size.data_words c.args.size.pointers (object_at s (place_view c.args.slot)) c.in_ok-found.found x.start x.data_words x.pointers (sym c.in_ok-found.ensures.object) x.is (omega (arith, c.if-data_words-size.true)) (omega (arith, c.if-pointers-size.true));
      full = search rules;
      refused = search rules;
      kind = search rules;
      books = search rules;
      cause = λ there. tt;
    }

pub widen_struct-requires-clause-found : goal.widen_struct-requires-clause-found
widen_struct-requires-clause-found g c =
    let s = words_in (g.A.ReaderArena.segments c.args.arena.now) in
    let x = c.in-Struct in
    struct_there s (place_view c.args.slot) c.in_ok-found.found x.start x.data_words x.pointers (sym c.in_ok-found.ensures.object) x.is

pub returns-in-Null : goal.returns-in-Null
returns-in-Null g c =
    let s = words_in (g.A.ReaderArena.segments c.args.arena.now) in
    let u = words_in (g.A.ReaderArena.segments c.init_struct.new.arena) in
    let p = place_view c.args.slot in
    let none_there = null_there s p c.in_ok-found.found (sym c.in_ok-found.ensures.object) c.in-Null.is in
    let free = g.A.BuilderArena.room c.args.arena.now in
    record {
      value = ok_then (λ o. Becomes s u p (structure c.args.size.data_words 0 (resized c.args.size.pointers none))) (λ o. Widens s u p c.args.size.data_words c.args.size.pointers) (λ o h. null_widens s u p c.args.size.data_words c.args.size.pointers none_there h) c.init_struct.result c.init_struct.ensures.value;
      object = search rules;
      size = search rules;
      wide = λ wide. absurd (null_is_not_wide s p c.args.size.data_words c.args.size.pointers none_there wide);
      there = search rules;
      near = search rules;
      taken = both_ok (null_takes s free u c.args.slot.segment c.args.size.data_words c.args.size.pointers (object_at s (place_view c.args.slot)) c.in_ok-found.found (sym c.in_ok-found.ensures.object) c.in-Null.is) c.init_struct.result c.init_struct.ensures.taken c.init_struct.ensures.bound;
      full = on_err (null_lacks s free c.args.slot.segment c.args.size.data_words c.args.size.pointers (object_at s (place_view c.args.slot)) c.in_ok-found.found (sym c.in_ok-found.ensures.object) c.in-Null.is) c.init_struct.result c.init_struct.ensures.full;
      refused = search rules;
      kind = search rules;
      books = search rules;
      cause = λ there. c.init_struct.ensures.cause;
    }

pub returns-else-data_words-size : goal.returns-else-data_words-size
returns-else-data_words-size g c =
    let s = words_in (g.A.ReaderArena.segments c.args.arena.now) in
    let u = words_in (g.A.ReaderArena.segments c.widen_struct.new.arena) in
    let p = place_view c.args.slot in
    let x = c.in-Struct in
    let there = struct_there s p c.in_ok-found.found x.start x.data_words x.pointers (sym c.in_ok-found.ensures.object) x.is in
    let free = g.A.BuilderArena.room c.args.arena.now in
    let less : (c.in-Struct.data_words < c.args.size.data_words) ⊎ (c.in-Struct.pointers < c.args.size.pointers) = elim c.else-data_words-size.branch [
      | else-data_words-size-via-then-data_words-size+else-pointers-size w ↦ inr (omega (arith, w.if-pointers-size.false))
      | else-data_words-size-via-else-data_words-size w ↦ inl (omega (arith, w.if-data_words-size.false))
    ] in
    record {
      value = ok_then (λ o. Widens s u p c.max.result c.max-in-Struct.result) (λ o. Widens s u p c.args.size.data_words c.args.size.pointers) (λ o h. most_widens s u p (place_view x.start) c.args.size.data_words c.args.size.pointers x.data_words x.pointers c.max.result c.max-in-Struct.result there c.max.ensures c.max-in-Struct.ensures h) c.widen_struct.result c.widen_struct.ensures.value;
      object = search rules;
      size = search rules;
      wide = λ wide. absurd (narrow_is_not_wide s p (place_view x.start) c.args.size.data_words c.args.size.pointers x.data_words x.pointers there less wide);
      there = search rules;
      near = search rules;
      taken = both_ok (struct_takes s free u c.args.slot.segment c.args.size.data_words c.args.size.pointers (object_at s (place_view c.args.slot)) c.in_ok-found.found x.start x.data_words x.pointers c.max.result c.max-in-Struct.result (sym c.in_ok-found.ensures.object) x.is c.max.ensures c.max-in-Struct.ensures) c.widen_struct.result c.widen_struct.ensures.taken c.widen_struct.ensures.bound;
      full = on_err (struct_lacks s free c.args.slot.segment c.args.size.data_words c.args.size.pointers (object_at s (place_view c.args.slot)) c.in_ok-found.found x.start x.data_words x.pointers c.max.result c.max-in-Struct.result (sym c.in_ok-found.ensures.object) x.is c.max.ensures c.max-in-Struct.ensures) c.widen_struct.result c.widen_struct.ensures.full;
      refused = search rules;
      kind = err_then (GrowthRefused s (c.max.result + c.max-in-Struct.result + 1 + 2 * c.in-Struct.pointers)) (WideStructRefused s (object_at s (place_view c.args.slot)) c.args.size.data_words c.args.size.pointers) (λ e h. refused_widening s (object_at s (place_view c.args.slot)) c.in_ok-found.found x.start x.data_words x.pointers c.args.size.data_words c.args.size.pointers c.max.result c.max-in-Struct.result e (sym c.in_ok-found.ensures.object) x.is c.max.ensures c.max-in-Struct.ensures less h) c.widen_struct.result c.widen_struct.ensures.kind;
      books = search rules;
      cause = λ there. c.widen_struct.ensures.cause;
    }
