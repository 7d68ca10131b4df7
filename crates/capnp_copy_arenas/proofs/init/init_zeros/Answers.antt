use Rattle.std.proofs.Common.{◌≡◌, ◌≤◌, ◌+◌, ◌<◌, ◌^◌, ℕ, ap, true, ◌∙◌, sym, subst, arith, length, map}
use Rattle.std.specs.Option.{is_some}
use Rattle.capnp_model.specs.Segments.{Segments, Place, words_at}
use Rattle.capnp_units.specs.Segments.{words_in}
use Rattle.capnp_wire_objects.specs.Places.{place_view}
use Rattle.capnp_model_writes.specs.NewObjects.{new_pointer, new_object, new_tree}
use Rattle.capnp_copy_arenas.specs.Rooms.{begin_of, linked}
use Rattle.capnp_copy_arenas.specs.Values.{Becomes, LeadsTo}
use Rattle.capnp_model_writes.proofs.lemmas.Spans.{grows_then}
use Rattle.capnp_copy_arenas.proofs.lemmas.RoomLaws.{word_there, sizes_grow, still_some, still_linked, room_addressed, room_grows, room_pad, pad_stays, room_words, room_near}
use Rattle.capnp_copy_arenas.proofs.lemmas.Making.{made, leads}
use Rattle.capnp_copy_arenas.proofs.lemmas.Taken.{room_takes, room_bounds, linked_sizes, takes_so, bounds_so}
use Rattle.std.proofs.lemmas.Result.{err_from_is_err_and}
use Rattle.capnp_copy_arenas.specs.Allocations.{total_words}
use Rattle.capnp_copy_arenas.proofs.lemmas.Refusals.{size_or_refusal}
use Rattle.capnp_copy_arenas.proofs.init.init_zeros.Goals as goal

pub allocate_near-requires-clause-there : goal.allocate_near-requires-clause-there
allocate_near-requires-clause-there g c = word_there (words_in (g.A.ReaderArena.segments c.args.arena.now)) (place_view c.args.slot) c.requires.there

pub link-requires-clause-slot : goal.link-requires-clause-slot
link-requires-clause-slot g c =
    let s = words_in (g.A.ReaderArena.segments c.args.arena.now) in
    let m = words_in (g.A.ReaderArena.segments c.allocate_near.new.arena) in
    let u = words_in (g.A.ReaderArena.segments c.clear.new.arena) in
    let p = place_view c.args.slot in
    still_some m u p 1 (sizes_grow m u c.clear.ensures.sizes) (still_some s m p 1 (room_grows s m p c.args.words c.in_ok-room.room c.in_ok-room.ensures.ok) c.requires.there)

pub link-requires-clause-pad : goal.link-requires-clause-pad
link-requires-clause-pad g c =
    let s = words_in (g.A.ReaderArena.segments c.args.arena.now) in
    let m = words_in (g.A.ReaderArena.segments c.allocate_near.new.arena) in
    let u = words_in (g.A.ReaderArena.segments c.clear.new.arena) in
    pad_stays m u c.in_ok-room.room (sizes_grow m u c.clear.ensures.sizes) (room_pad s m (place_view c.args.slot) c.args.words c.in_ok-room.room c.in_ok-room.ensures.ok)

pub link-requires-clause-room : goal.link-requires-clause-room
link-requires-clause-room g c = room_addressed (words_in (g.A.ReaderArena.segments c.args.arena.now)) (words_in (g.A.ReaderArena.segments c.allocate_near.new.arena)) (place_view c.args.slot) c.args.words c.in_ok-room.room c.in_ok-room.ensures.ok

pub begin_of-requires-clause-room : goal.begin_of-requires-clause-room
begin_of-requires-clause-room g c = room_addressed (words_in (g.A.ReaderArena.segments c.args.arena.now)) (words_in (g.A.ReaderArena.segments c.allocate_near.new.arena)) (place_view c.args.slot) c.args.words c.in_ok-room.room c.in_ok-room.ensures.ok

pub returns : goal.returns
returns g c =
    let s = words_in (g.A.ReaderArena.segments c.args.arena.now) in
    let free = g.A.BuilderArena.room c.args.arena.now in
    let m = words_in (g.A.ReaderArena.segments c.allocate_near.new.arena) in
    let u = words_in (g.A.ReaderArena.segments c.clear.new.arena) in
    let v = words_in (g.A.ReaderArena.segments c.link.new.arena) in
    let p = place_view c.args.slot in
    let n : ℕ = c.args.words in
    let room = c.in_ok-room.room in
    let made_room = c.in_ok-room.ensures.ok in
    let q = begin_of p room in
    let there = room_words s m p n room c.requires.there made_room in
    let kept = still_linked u p room c.args.pointer q n (still_some m u q n (sizes_grow m u c.clear.ensures.sizes) there) in
    let in_v = subst (λ (x : Segments). is_some (words_at x q n) ≡ true) (sym c.link.ensures.words) kept in
    let l = room_near s m p n room c.requires.near made_room in
    let at : c.begin_of.result.position ≡ q.position = ap (λ (r : Place). r.position) c.begin_of.ensures in
    let near : c.begin_of.result.position + n < 2 ^ 61 = omega (arith, l, at) in
    let same = ap (λ (x : Segments). map length x) c.link.ensures.words ∙ (linked_sizes u p room c.args.pointer ∙ c.clear.ensures.sizes) in
    record {
      value = λ x words is fits. (
          let all = made s m u p n room x c.requires.there made_room c.clear.ensures.clears words fits in
          let e : v ≡ linked u p room (new_pointer 0 x) = c.link.ensures.words ∙ ap (linked u p room) (sym is) in
          subst (λ (w : Segments). Becomes s w p (new_tree x)) (sym e) all
          );
      object = λ x words is fits. (
          let all = leads s m u p n room x c.requires.there made_room (sizes_grow m u c.clear.ensures.sizes) words fits in
          let e : v ≡ linked u p room (new_pointer 0 x) = c.link.ensures.words ∙ ap (linked u p room) (sym is) in
          subst (λ (r : Place). LeadsTo v p (new_object r x)) (sym c.begin_of.ensures) (subst (λ (w : Segments). LeadsTo w p (new_object q x)) (sym e) all)
          );
      there = subst (λ (r : Place). is_some (words_at v r n) ≡ true) (sym c.begin_of.ensures) in_v;
      near = near;
      taken = takes_so s free m v p.segment n same (room_takes s free m p n room made_room c.in_ok-room.ensures.near);
      bound = bounds_so s m v n 1 same (room_bounds s m p n room made_room);
      full = tt;
      refused = tt;
      kind = tt;
      books = c.link.ensures.books ∙ (c.clear.ensures.books ∙ c.in_ok-room.ensures.books);
      grows = grows_then s m v (room_grows s m p n room made_room) (sizes_grow m v same);
      cause = tt;
    }

pub returns-in_err-room : goal.returns-in_err-room
returns-in_err-room g c =
    let p = err_from_is_err_and c.from_residual.result c.from_residual.ensures.1 in
    let s = words_in (g.A.ReaderArena.segments c.args.arena.now) in
    let e = c.in_err-room.ensures in
    rw (p.1, p.2) (record {
      value = tt;
      object = tt;
      there = tt;
      near = tt;
      taken = tt;
      bound = tt;
      full = e.full;
      refused = e.refused;
      kind = e.kind;
      books = e.books;
      grows = tt;
      cause = size_or_refusal g.A.BuilderArena.refuses (2 ^ 29 ≤ total_words s + (c.args.words + 1)) c.args.arena.now (c.args.words + 1) c.in_err-room.field-0.0 e.kind.1 e.cause;
    })
