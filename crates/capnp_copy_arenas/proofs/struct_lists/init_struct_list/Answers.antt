use Rattle.std.proofs.Common.{◌≡◌, ◌+◌, ◌*◌, ◌<◌, ◌≤◌, ◌^◌, ℕ, [], ◌∷◌, inl, inr, ap, refl, true, ◌∙◌, sym, subst, arith, length, map}
use Rattle.std.proofs.lemmas.Result.{err_from_is_err_and}
use Rattle.std.specs.Option.{is_some}
use Rattle.capnp_model.specs.Segments.{Segments, Place, words_at}
use Rattle.capnp_model.specs.Pointers.{a_list}
use Rattle.capnp_model.specs.Trees.{struct_list}
use Rattle.capnp_model.specs.Coverage.{Grows}
use Rattle.capnp_units.specs.Segments.{words_in}
use Rattle.capnp_wire_objects.specs.Places.{place_view}
use Rattle.capnp_model_writes.specs.NewObjects.{new_structs, zero_elements, Fits, pointed}
use Rattle.capnp_model_writes.specs.Writes.{with_words}
use Rattle.capnp_copy_arenas.specs.Rooms.{begin_of, linked}
use Rattle.capnp_copy_arenas.specs.Values.{Becomes, LeadsTo}
use Rattle.capnp_model_writes.proofs.lemmas.Spans.{grows_then}
use Rattle.capnp_copy_arenas.proofs.lemmas.RoomLaws.{word_there, sizes_grow, still_some, still_written, still_linked, first_there, room_addressed, room_grows, room_pad, pad_stays, room_words, room_near}
use Rattle.capnp_model_writes.proofs.lemmas.Splices.{splice_grows}
use Rattle.capnp_copy_arenas.proofs.MakingStructs.{structs_made, structs_lead}
use Rattle.capnp_copy_arenas.specs.Allocations.{total_words, TakesJust, TakesAtMost, NoRoom}
use Rattle.capnp_copy_arenas.proofs.lemmas.ZeroedWords.{written_sizes}
use Rattle.capnp_copy_arenas.proofs.lemmas.Taken.{room_takes, room_bounds, linked_sizes, takes_so, bounds_so}
use Rattle.capnp_copy_arenas.proofs.lemmas.Refusals.{size_or_refusal}
use Rattle.capnp_copy_arenas.proofs.struct_lists.init_struct_list.Goals as goal

pub allocate_near-requires-clause-there : goal.allocate_near-requires-clause-there
allocate_near-requires-clause-there g c = word_there (words_in (g.A.ReaderArena.segments c.args.arena.now)) (place_view c.args.slot) c.requires.there

pub begin_of-tag-requires-clause-room : goal.begin_of-tag-requires-clause-room
begin_of-tag-requires-clause-room g c = room_addressed (words_in (g.A.ReaderArena.segments c.args.arena.now)) (words_in (g.A.ReaderArena.segments c.allocate_near.new.arena)) (place_view c.args.slot) (1 + c.in_ok-words.words) c.in_ok-room.room c.in_ok-room.ensures.ok

pub write_word-requires : goal.write_word-requires
write_word-requires g c =
    let s = words_in (g.A.ReaderArena.segments c.args.arena.now) in
    let m = words_in (g.A.ReaderArena.segments c.allocate_near.new.arena) in
    let u = words_in (g.A.ReaderArena.segments c.clear.new.arena) in
    let p = place_view c.args.slot in
    let room = c.in_ok-room.room in
    let q = begin_of p c.in_ok-room.room in
    let n = c.in_ok-words.words in
    let at = room_words s m p (1 + n) room c.requires.there c.in_ok-room.ensures.ok in
    let one = first_there u q n (still_some m u q (1 + n) (sizes_grow m u c.clear.ensures.sizes) at) in
    subst (λ (r : Place). is_some (words_at u r 1) ≡ true) (sym c.begin_of-tag.ensures) one

pub link-requires-clause-slot : goal.link-requires-clause-slot
link-requires-clause-slot g c =
    let s = words_in (g.A.ReaderArena.segments c.args.arena.now) in
    let m = words_in (g.A.ReaderArena.segments c.allocate_near.new.arena) in
    let u = words_in (g.A.ReaderArena.segments c.clear.new.arena) in
    let p = place_view c.args.slot in
    let here = still_some m u p 1 (sizes_grow m u c.clear.ensures.sizes) (still_some s m p 1 (room_grows s m p (1 + c.in_ok-words.words) c.in_ok-room.room c.in_ok-room.ensures.ok) c.requires.there) in
    subst (λ (v : Segments). is_some (words_at v p 1) ≡ true) (sym c.write_word.ensures.words) (still_written u (place_view c.begin_of-tag.result) p (c.tag_word.result ∷ []) 1 here)

pub link-requires-clause-pad : goal.link-requires-clause-pad
link-requires-clause-pad g c =
    let s = words_in (g.A.ReaderArena.segments c.args.arena.now) in
    let m = words_in (g.A.ReaderArena.segments c.allocate_near.new.arena) in
    let u = words_in (g.A.ReaderArena.segments c.clear.new.arena) in
    let v = words_in (g.A.ReaderArena.segments c.write_word.new.self) in
    let later : Grows u v = subst (λ (x : Segments). Grows u x) (sym c.write_word.ensures.words) (splice_grows u (place_view c.begin_of-tag.result) (c.tag_word.result ∷ [])) in
    pad_stays u v c.in_ok-room.room later (pad_stays m u c.in_ok-room.room (sizes_grow m u c.clear.ensures.sizes) (room_pad s m (place_view c.args.slot) (1 + c.in_ok-words.words) c.in_ok-room.room c.in_ok-room.ensures.ok))

pub link-requires-clause-room : goal.link-requires-clause-room
link-requires-clause-room g c = room_addressed (words_in (g.A.ReaderArena.segments c.args.arena.now)) (words_in (g.A.ReaderArena.segments c.allocate_near.new.arena)) (place_view c.args.slot) (1 + c.in_ok-words.words) c.in_ok-room.room c.in_ok-room.ensures.ok

pub returns : goal.returns
returns g c =
    let s = words_in (g.A.ReaderArena.segments c.args.arena.now) in
    let free = g.A.BuilderArena.room c.args.arena.now in
    let m = words_in (g.A.ReaderArena.segments c.allocate_near.new.arena) in
    let u = words_in (g.A.ReaderArena.segments c.clear.new.arena) in
    let v = words_in (g.A.ReaderArena.segments c.write_word.new.self) in
    let x = words_in (g.A.ReaderArena.segments c.link.new.arena) in
    let p = place_view c.args.slot in
    let d = c.args.size.data_words in
    let k = c.args.size.pointers in
    let count = c.args.count in
    let n = c.in_ok-words.words in
    let room = c.in_ok-room.room in
    let made_room = c.in_ok-room.ensures.ok in
    let q = begin_of p room in
    let fits : Fits (new_structs count d k) = (c.in_ok-words.ensures.few.1, c.tag_word.ensures.fits.0, c.tag_word.ensures.fits.1, omega (arith, c.in_ok-words.ensures.words, c.in_ok-words.ensures.few.0)) in
    let tag_now = c.write_word.ensures.words ∙ ap (λ (r : Place). with_words u r (c.tag_word.result ∷ [])) c.begin_of-tag.ensures ∙ ap (λ (w : ℕ). pointed u q w) c.tag_word.ensures.word in
    let linked_now = c.link.ensures.words ∙ ap (linked v p room) c.list_word.ensures.word in
    let made = structs_made s m u v p count d k n room c.in_ok-words.ensures.words c.requires.there made_room c.clear.ensures.clears tag_now fits in
    let leads = structs_lead s m u v p count d k n room c.in_ok-words.ensures.words c.requires.there made_room (sizes_grow m u c.clear.ensures.sizes) tag_now fits in
    let there = room_words s m p (1 + n) room c.requires.there made_room in
    let in_u = still_some m u q (1 + n) (sizes_grow m u c.clear.ensures.sizes) there in
    let in_v = subst (λ (y : Segments). is_some (words_at y q (1 + n)) ≡ true) (sym c.write_word.ensures.words) (still_written u (place_view c.begin_of-tag.result) q (c.tag_word.result ∷ []) (1 + n) in_u) in
    let in_x = subst (λ (y : Segments). is_some (words_at y q (1 + n)) ≡ true) (sym c.link.ensures.words) (still_linked v p room c.list_word.result q (1 + n) in_v) in
    let l = room_near s m p (1 + n) room c.requires.near made_room in
    let at : c.begin_of-tag.result.position ≡ q.position = ap (λ (r : Place). r.position) c.begin_of-tag.ensures in
    let near : c.begin_of-tag.result.position + (1 + n) < 2 ^ 61 = omega (arith, l, at) in
    let tag_sizes = ap (λ (y : Segments). map length y) c.write_word.ensures.words ∙ (written_sizes u (place_view c.begin_of-tag.result) (c.tag_word.result ∷ []) ∙ c.clear.ensures.sizes) in
    let same = ap (λ (y : Segments). map length y) c.link.ensures.words ∙ (linked_sizes v p room c.list_word.result ∙ tag_sizes) in
    let taken = takes_so s free m x p.segment (1 + n) same (room_takes s free m p (1 + n) room made_room c.in_ok-room.ensures.near) in
    let bound = bounds_so s m x (1 + n) 1 same (room_bounds s m p (1 + n) room made_room) in
    record {
      value = subst (λ (y : Segments). Becomes s y p (struct_list d k (zero_elements count k))) (sym linked_now) made;
      object = subst (λ (r : Place). LeadsTo x p (a_list r 7 n)) (sym c.begin_of-tag.ensures) (subst (λ (y : Segments). LeadsTo y p (a_list q 7 n)) (sym linked_now) leads);
      list = (refl, c.in_ok-words.ensures.words, refl, refl, refl);
      there = subst (λ (r : Place). is_some (words_at x r (1 + n)) ≡ true) (sym c.begin_of-tag.ensures) in_x;
      near = near;
      taken = subst (λ (j : ℕ). TakesJust s free x p.segment (1 + j)) c.in_ok-words.ensures.words taken;
      bound = subst (λ (j : ℕ). TakesAtMost s x (1 + j) 1) c.in_ok-words.ensures.words bound;
      full = tt;
      refused = tt;
      kind = tt;
      books = c.link.ensures.books ∙ (c.write_word.ensures.books ∙ (c.clear.ensures.books ∙ c.in_ok-room.ensures.books));
      grows = grows_then s m x (room_grows s m p (1 + n) room made_room) (sizes_grow m x same);
      cause = tt;
    }

pub returns-in_err-room : goal.returns-in_err-room
returns-in_err-room g c =
    let s = words_in (g.A.ReaderArena.segments c.args.arena.now) in
    let free = g.A.BuilderArena.room c.args.arena.now in
    let p = err_from_is_err_and c.from_residual-in_err-room.result c.from_residual-in_err-room.ensures.1 in
    let n : ℕ = c.in_ok-words.words in
    let m : ℕ = c.args.count * (c.args.size.data_words + c.args.size.pointers) in
    let same : n ≡ m = c.in_ok-words.ensures.words in
    let few = c.in_ok-words.ensures.few in
    let e = c.in_err-room.ensures in
    let over : 2 ^ 29 ≤ total_words s + (1 + n + 1) → 2 ^ 29 ≤ total_words s + (m + 2) = λ l. omega (arith, l, same) in
    let under : 2 ^ 29 ≤ total_words s + (m + 2) → 2 ^ 29 ≤ total_words s + (1 + n + 1) = λ l. omega (arith, l, same) in
    rw (p.1, p.2) (record {
      value = tt;
      object = tt;
      list = tt;
      there = tt;
      near = tt;
      taken = tt;
      bound = tt;
      full = inr (inr (subst (λ (k : ℕ). NoRoom s free c.args.slot.segment (1 + k)) same e.full));
      refused = e.refused;
      kind = (λ is. inr (inr (over (e.kind.1.0 is))), elim [ inl l ↦ absurd (omega (arith, l, few.1)) | inr (inl l) ↦ absurd (omega (arith, l, few.0, same)) | inr (inr l) ↦ e.kind.1.1 (under l) ]);
      books = e.books;
      grows = tt;
      cause = size_or_refusal g.A.BuilderArena.refuses (2 ^ 29 ≤ total_words s + (1 + n + 1)) c.args.arena.now (1 + n + 1) c.in_err-room.field-0.0 e.kind.1 e.cause;
    })
