use Rattle.std.proofs.Common.{◌≡◌, ◌+◌, ◌*◌, ◌/◌, ◌<◌, ◌^◌, ℕ, true, ap, sym, ◌∙◌, subst, arith, length, map}
use Rattle.std.specs.Option.{is_some}
use Rattle.capnp_model.specs.Sections.{number_of, words_for}
use Rattle.capnp_model.specs.Segments.{Segments, words_at}
use Rattle.capnp_model.specs.Trees.{plain_list}
use Rattle.capnp_units.specs.Segments.{words_in}
use Rattle.capnp_wire_objects.specs.Places.{place_view}
use Rattle.capnp_model.specs.Pointers.{a_list}
use Rattle.capnp_units.specs.declared.sizes.ElementSize.{ElementSize}
use Rattle.capnp_units.specs.Sizes.{size_number}
use Rattle.capnp_copy_arenas.specs.Values.{Becomes, LeadsTo}
use Rattle.capnp_copy_arenas.proofs.lemmas.BlobValues.{blob_made}
use Rattle.capnp_model_writes.proofs.lemmas.Spans.{grows_then}
use Rattle.capnp_copy_arenas.proofs.lemmas.RoomLaws.{sizes_grow}
use Rattle.capnp_copy_arenas.proofs.lemmas.Taken.{bytes_sizes, takes_so, bounds_so}
use Rattle.capnp_copy_arenas.proofs.blobs.set_bytes.Goals as goal

pub write_bytes-requires-clause-there : goal.write_bytes-requires-clause-there
write_bytes-requires-clause-there g c =
    let m = words_in (g.A.ReaderArena.segments c.init_list.new.arena) in
    let r = place_view c.in_ok-list.list.start in
    let same : words_for (8 * c.args.count) ≡ (c.args.count + 7) / 8 = omega arith in
    subst (λ (n : ℕ). is_some (words_at m r n) ≡ true) same c.in_ok-list.ensures.there

pub write_bytes-requires-clause-near : goal.write_bytes-requires-clause-near
write_bytes-requires-clause-near g c =
    let l : c.in_ok-list.list.start.position + words_for (8 * c.args.count) < 2 ^ 61 = c.in_ok-list.ensures.near in
    omega (arith, l)

pub write_bytes-requires-clause-fill : goal.write_bytes-requires-clause-fill
write_bytes-requires-clause-fill g c = let a = c.requires.all in (omega (arith, a.0, a.1), omega (arith, a.0, a.1))

pub returns : goal.returns
returns g c =
    let s = words_in (g.A.ReaderArena.segments c.args.arena.now) in
    let free = g.A.BuilderArena.room c.args.arena.now in
    let m = words_in (g.A.ReaderArena.segments c.init_list.new.arena) in
    let u = words_in (g.A.ReaderArena.segments c.write_bytes.new.arena) in
    let p = place_view c.args.slot in
    let count : ℕ = c.args.count in
    let bytes = c.args.bytes.now in
    let list = c.in_ok-list.list in
    let e = c.in_ok-list.ensures in
    let start = place_view list.start in
    let a = c.requires.all in
    let words : (count + 7) / 8 ≡ words_for (8 * count) = omega arith in
    let there : is_some (words_at m start ((count + 7) / 8)) ≡ true = subst (λ (n : ℕ). is_some (words_at m start n) ≡ true) (sym words) e.there in
    let leads : LeadsTo m p (a_list start 2 count) = subst (λ (k : ℕ). LeadsTo m p (a_list start 2 k)) e.list.1 (subst (λ (z : ElementSize). LeadsTo m p (a_list start (size_number z) list.claimed)) e.list.0 e.object) in
    let made = blob_made s m p start count ((count + 7) / 8) bytes (λ i. let h = c.type_inv.bytes i in omega (arith, h)) a.0 words (omega (arith, a.0, a.1)) (omega (arith, a.0, a.1)) there e.value leads in
    let same = ap (λ (x : Segments). map length x) c.write_bytes.ensures.words ∙ bytes_sizes m start ((count + 7) / 8) bytes in
    record {
      value = subst (λ (x : Segments). Becomes s x p (plain_list 2 count (number_of 8 bytes))) (sym c.write_bytes.ensures.words) made;
      taken = takes_so s free m u p.segment (words_for (8 * count)) same e.taken;
      bound = bounds_so s m u (words_for (8 * count)) 1 same e.bound;
      full = tt;
      refused = tt;
      kind = tt;
      books = c.write_bytes.ensures.books ∙ e.books;
      grows = grows_then s m u e.grows (sizes_grow m u same);
      cause = tt;
    }
