use Rattle.std.proofs.Common.{◌≡◌, ◌+◌, ◌*◌, ◌<◌, ℕ, length, map, true, refl, ap, sym, ◌∙◌, subst, OnErr, rules, arith}
use Rattle.std.specs.Option.{is_some}
use Rattle.capnp_model.specs.Segments.{Segments, Place, after, words_at}
use Rattle.capnp_model.specs.Pointers.{a_struct}
use Rattle.capnp_model.specs.Encoding.{struct_pointer}
use Rattle.capnp_units.specs.Segments.{words_in}
use Rattle.capnp_wire_objects.specs.Places.{place_view}
use Rattle.capnp_model_writes.specs.NewObjects.{new_struct}
use Rattle.capnp_copy_arenas.specs.Rooms.{begin_of, linked}
use Rattle.capnp_copy_arenas.specs.Values.{LeadsTo}
use Rattle.capnp_copy_arenas.proofs.lemmas.RoomLaws.{still_some, sizes_grow, word_there, pad_stays, still_linked}
use Rattle.capnp_copy_arenas.proofs.lemmas.Parts.{section_there, front_there}
use Rattle.capnp_copy_widening.specs.Moves.{CopiesWords, MovesRow, pads_of}
use Rattle.capnp_copy_widening.specs.Widened.{WiderRoom, TakesNear, NoWiderRoom}
use Rattle.capnp_copy_widening.proofs.lemmas.Standing.{pads_stay, within_total}
use Rattle.capnp_copy_widening.proofs.WiderRooms.{wider_addressed, wider_words, wider_extends, linked_leads}
use Rattle.capnp_copy_arenas.proofs.lemmas.Taken.{linked_sizes, bounds_so, same_total}
use Rattle.capnp_copy_widening.proofs.Bounds.{wider_bounds}
use Rattle.capnp_copy_widening.proofs.WidenedLists.{near_so}
use Rattle.capnp_copy_widening.proofs.WidenedStructs.{struct_widened, some_pointer}
use Rattle.capnp_copy_widening.proofs.structs.widen_struct.Goals as goal

pub begin_of-start-requires-clause-room : goal.begin_of-start-requires-clause-room
begin_of-start-requires-clause-room g c =
    let s = words_in (g.A.ReaderArena.segments c.args.arena.now) in
    let m = words_in (g.A.ReaderArena.segments c.allocate_wider.new.arena) in
    let p = place_view c.args.slot in
    let d = c.args.size.data_words in
    let k = c.args.size.pointers in
    let d0 = c.args.old.data_words in
    let k0 = c.args.old.pointers in
    let room = c.in_ok-room.room in
    let pads = c.in_ok-room.pads in
    let b = begin_of (place_view c.args.slot) c.in_ok-room.room in
    let r : WiderRoom s m p c.args.old.start.segment (c.args.size.data_words + c.args.size.pointers) (2 * c.args.old.pointers) room pads = subst (λ (j : ℕ). WiderRoom s m p c.args.old.start.segment j (2 * c.args.old.pointers) room pads) c.total.ensures c.in_ok-room.ensures.ok in
    let some : 0 < c.args.size.data_words + c.args.size.pointers = c.requires.wider.2 in
    let w = wider_words s m p c.args.old.start.segment (d + k) k0 room pads some r in
    let grows = (wider_extends s m p c.args.old.start.segment (d + k) (2 * k0) room pads r).0 in
    wider_addressed s m p c.args.old.start.segment (d + k) (2 * k0) room pads (word_there s p c.requires.there) r

pub copy_words-requires-clause-from : goal.copy_words-requires-clause-from
copy_words-requires-clause-from g c =
    let s = words_in (g.A.ReaderArena.segments c.args.arena.now) in
    let m = words_in (g.A.ReaderArena.segments c.allocate_wider.new.arena) in
    let p = place_view c.args.slot in
    let d = c.args.size.data_words in
    let k = c.args.size.pointers in
    let d0 = c.args.old.data_words in
    let k0 = c.args.old.pointers in
    let room = c.in_ok-room.room in
    let pads = c.in_ok-room.pads in
    let b = begin_of (place_view c.args.slot) c.in_ok-room.room in
    let r : WiderRoom s m p c.args.old.start.segment (c.args.size.data_words + c.args.size.pointers) (2 * c.args.old.pointers) room pads = subst (λ (j : ℕ). WiderRoom s m p c.args.old.start.segment j (2 * c.args.old.pointers) room pads) c.total.ensures c.in_ok-room.ensures.ok in
    let some : 0 < c.args.size.data_words + c.args.size.pointers = c.requires.wider.2 in
    let w = wider_words s m p c.args.old.start.segment (d + k) k0 room pads some r in
    let grows = (wider_extends s m p c.args.old.start.segment (d + k) (2 * k0) room pads r).0 in
    still_some s m (place_view c.args.old.start) d0 grows (front_there s (place_view c.args.old.start) d0 (d0 + k0) (omega arith) c.requires.inside)

pub copy_words-requires-clause-to : goal.copy_words-requires-clause-to
copy_words-requires-clause-to g c =
    let s = words_in (g.A.ReaderArena.segments c.args.arena.now) in
    let m = words_in (g.A.ReaderArena.segments c.allocate_wider.new.arena) in
    let p = place_view c.args.slot in
    let d = c.args.size.data_words in
    let k = c.args.size.pointers in
    let d0 = c.args.old.data_words in
    let k0 = c.args.old.pointers in
    let room = c.in_ok-room.room in
    let pads = c.in_ok-room.pads in
    let b = begin_of (place_view c.args.slot) c.in_ok-room.room in
    let r : WiderRoom s m p c.args.old.start.segment (c.args.size.data_words + c.args.size.pointers) (2 * c.args.old.pointers) room pads = subst (λ (j : ℕ). WiderRoom s m p c.args.old.start.segment j (2 * c.args.old.pointers) room pads) c.total.ensures c.in_ok-room.ensures.ok in
    let some : 0 < c.args.size.data_words + c.args.size.pointers = c.requires.wider.2 in
    let w = wider_words s m p c.args.old.start.segment (d + k) k0 room pads some r in
    let grows = (wider_extends s m p c.args.old.start.segment (d + k) (2 * k0) room pads r).0 in
    subst (λ (q : Place). is_some (words_at m q d0) ≡ true) (sym c.begin_of-start.ensures) (front_there m b d0 (d + k) (omega (arith, c.requires.wider.0)) w.words_there)

pub copy_words-requires-clause-near : goal.copy_words-requires-clause-near
copy_words-requires-clause-near g c =
    let s = words_in (g.A.ReaderArena.segments c.args.arena.now) in
    let m = words_in (g.A.ReaderArena.segments c.allocate_wider.new.arena) in
    let p = place_view c.args.slot in
    let d = c.args.size.data_words in
    let k = c.args.size.pointers in
    let d0 = c.args.old.data_words in
    let k0 = c.args.old.pointers in
    let room = c.in_ok-room.room in
    let pads = c.in_ok-room.pads in
    let b = begin_of (place_view c.args.slot) c.in_ok-room.room in
    let r : WiderRoom s m p c.args.old.start.segment (c.args.size.data_words + c.args.size.pointers) (2 * c.args.old.pointers) room pads = subst (λ (j : ℕ). WiderRoom s m p c.args.old.start.segment j (2 * c.args.old.pointers) room pads) c.total.ensures c.in_ok-room.ensures.ok in
    let some : 0 < c.args.size.data_words + c.args.size.pointers = c.requires.wider.2 in
    let w = wider_words s m p c.args.old.start.segment (d + k) k0 room pads some r in
    let grows = (wider_extends s m p c.args.old.start.segment (d + k) (2 * k0) room pads r).0 in
    let l = within_total m b (d + k) w.words_there in
    let at = ap (λ (q : Place). q.position) c.begin_of-start.ensures in
    (omega (arith, c.requires.close), omega (arith, l, at, w.few, c.requires.wider.0))

pub pointers_behind-target-requires : goal.pointers_behind-target-requires
pointers_behind-target-requires g c =
    let s = words_in (g.A.ReaderArena.segments c.args.arena.now) in
    let m = words_in (g.A.ReaderArena.segments c.allocate_wider.new.arena) in
    let p = place_view c.args.slot in
    let d = c.args.size.data_words in
    let k = c.args.size.pointers in
    let d0 = c.args.old.data_words in
    let k0 = c.args.old.pointers in
    let room = c.in_ok-room.room in
    let pads = c.in_ok-room.pads in
    let b = begin_of (place_view c.args.slot) c.in_ok-room.room in
    let r : WiderRoom s m p c.args.old.start.segment (c.args.size.data_words + c.args.size.pointers) (2 * c.args.old.pointers) room pads = subst (λ (j : ℕ). WiderRoom s m p c.args.old.start.segment j (2 * c.args.old.pointers) room pads) c.total.ensures c.in_ok-room.ensures.ok in
    let some : 0 < c.args.size.data_words + c.args.size.pointers = c.requires.wider.2 in
    let w = wider_words s m p c.args.old.start.segment (d + k) k0 room pads some r in
    let grows = (wider_extends s m p c.args.old.start.segment (d + k) (2 * k0) room pads r).0 in
    let l = within_total m b (d + k) w.words_there in
    let at = ap (λ (q : Place). q.position) c.begin_of-start.ensures in
    omega (arith, l, at, w.few)

pub move_pointers-requires-clause-from : goal.move_pointers-requires-clause-from
move_pointers-requires-clause-from g c =
    let s = words_in (g.A.ReaderArena.segments c.args.arena.now) in
    let m = words_in (g.A.ReaderArena.segments c.allocate_wider.new.arena) in
    let p = place_view c.args.slot in
    let d = c.args.size.data_words in
    let k = c.args.size.pointers in
    let d0 = c.args.old.data_words in
    let k0 = c.args.old.pointers in
    let room = c.in_ok-room.room in
    let pads = c.in_ok-room.pads in
    let b = begin_of (place_view c.args.slot) c.in_ok-room.room in
    let r : WiderRoom s m p c.args.old.start.segment (c.args.size.data_words + c.args.size.pointers) (2 * c.args.old.pointers) room pads = subst (λ (j : ℕ). WiderRoom s m p c.args.old.start.segment j (2 * c.args.old.pointers) room pads) c.total.ensures c.in_ok-room.ensures.ok in
    let some : 0 < c.args.size.data_words + c.args.size.pointers = c.requires.wider.2 in
    let w = wider_words s m p c.args.old.start.segment (d + k) k0 room pads some r in
    let grows = (wider_extends s m p c.args.old.start.segment (d + k) (2 * k0) room pads r).0 in
    let x = words_in (g.A.ReaderArena.segments c.copy_words.new.arena) in
    let here = section_there s (place_view c.args.old.start) d0 k0 (d0 + k0) (omega arith) c.requires.inside in
    let there = still_some m x (after (place_view c.args.old.start) d0) k0 (sizes_grow m x c.copy_words.ensures.sizes) (still_some s m (after (place_view c.args.old.start) d0) k0 grows here) in
    subst (λ (q : Place). is_some (words_at x q k0) ≡ true) (sym c.pointers_behind-source.ensures) there

pub move_pointers-requires-clause-to : goal.move_pointers-requires-clause-to
move_pointers-requires-clause-to g c =
    let s = words_in (g.A.ReaderArena.segments c.args.arena.now) in
    let m = words_in (g.A.ReaderArena.segments c.allocate_wider.new.arena) in
    let p = place_view c.args.slot in
    let d = c.args.size.data_words in
    let k = c.args.size.pointers in
    let d0 = c.args.old.data_words in
    let k0 = c.args.old.pointers in
    let room = c.in_ok-room.room in
    let pads = c.in_ok-room.pads in
    let b = begin_of (place_view c.args.slot) c.in_ok-room.room in
    let r : WiderRoom s m p c.args.old.start.segment (c.args.size.data_words + c.args.size.pointers) (2 * c.args.old.pointers) room pads = subst (λ (j : ℕ). WiderRoom s m p c.args.old.start.segment j (2 * c.args.old.pointers) room pads) c.total.ensures c.in_ok-room.ensures.ok in
    let some : 0 < c.args.size.data_words + c.args.size.pointers = c.requires.wider.2 in
    let w = wider_words s m p c.args.old.start.segment (d + k) k0 room pads some r in
    let grows = (wider_extends s m p c.args.old.start.segment (d + k) (2 * k0) room pads r).0 in
    let x = words_in (g.A.ReaderArena.segments c.copy_words.new.arena) in
    let here = section_there m b d k0 (d + k) (omega (arith, c.requires.wider.1)) w.words_there in
    let there = still_some m x (after b d) k0 (sizes_grow m x c.copy_words.ensures.sizes) here in
    let at : place_view c.pointers_behind-target.result ≡ after b d = c.pointers_behind-target.ensures ∙ ap (λ (q : Place). after q c.args.size.data_words) c.begin_of-start.ensures in
    subst (λ (q : Place). is_some (words_at x q k0) ≡ true) (sym at) there

pub move_pointers-requires-clause-pads : goal.move_pointers-requires-clause-pads
move_pointers-requires-clause-pads g c =
    let s = words_in (g.A.ReaderArena.segments c.args.arena.now) in
    let m = words_in (g.A.ReaderArena.segments c.allocate_wider.new.arena) in
    let p = place_view c.args.slot in
    let d = c.args.size.data_words in
    let k = c.args.size.pointers in
    let d0 = c.args.old.data_words in
    let k0 = c.args.old.pointers in
    let room = c.in_ok-room.room in
    let pads = c.in_ok-room.pads in
    let b = begin_of (place_view c.args.slot) c.in_ok-room.room in
    let r : WiderRoom s m p c.args.old.start.segment (c.args.size.data_words + c.args.size.pointers) (2 * c.args.old.pointers) room pads = subst (λ (j : ℕ). WiderRoom s m p c.args.old.start.segment j (2 * c.args.old.pointers) room pads) c.total.ensures c.in_ok-room.ensures.ok in
    let some : 0 < c.args.size.data_words + c.args.size.pointers = c.requires.wider.2 in
    let w = wider_words s m p c.args.old.start.segment (d + k) k0 room pads some r in
    let grows = (wider_extends s m p c.args.old.start.segment (d + k) (2 * k0) room pads r).0 in
    let x = words_in (g.A.ReaderArena.segments c.copy_words.new.arena) in
    pads_stay m x pads k0 (sizes_grow m x c.copy_words.ensures.sizes) w.pads_there

pub move_pointers-requires-clause-few : goal.move_pointers-requires-clause-few
move_pointers-requires-clause-few g c =
    let s = words_in (g.A.ReaderArena.segments c.args.arena.now) in
    let m = words_in (g.A.ReaderArena.segments c.allocate_wider.new.arena) in
    let p = place_view c.args.slot in
    let d = c.args.size.data_words in
    let k = c.args.size.pointers in
    let d0 = c.args.old.data_words in
    let k0 = c.args.old.pointers in
    let room = c.in_ok-room.room in
    let pads = c.in_ok-room.pads in
    let b = begin_of (place_view c.args.slot) c.in_ok-room.room in
    let r : WiderRoom s m p c.args.old.start.segment (c.args.size.data_words + c.args.size.pointers) (2 * c.args.old.pointers) room pads = subst (λ (j : ℕ). WiderRoom s m p c.args.old.start.segment j (2 * c.args.old.pointers) room pads) c.total.ensures c.in_ok-room.ensures.ok in
    let some : 0 < c.args.size.data_words + c.args.size.pointers = c.requires.wider.2 in
    let w = wider_words s m p c.args.old.start.segment (d + k) k0 room pads some r in
    let grows = (wider_extends s m p c.args.old.start.segment (d + k) (2 * k0) room pads r).0 in
    let x = words_in (g.A.ReaderArena.segments c.copy_words.new.arena) in
    omega (arith, same_total m x c.copy_words.ensures.sizes, w.few)

pub move_pointers-requires-clause-near : goal.move_pointers-requires-clause-near
move_pointers-requires-clause-near g c =
    let s = words_in (g.A.ReaderArena.segments c.args.arena.now) in
    let m = words_in (g.A.ReaderArena.segments c.allocate_wider.new.arena) in
    let p = place_view c.args.slot in
    let d = c.args.size.data_words in
    let k = c.args.size.pointers in
    let d0 = c.args.old.data_words in
    let k0 = c.args.old.pointers in
    let room = c.in_ok-room.room in
    let pads = c.in_ok-room.pads in
    let b = begin_of (place_view c.args.slot) c.in_ok-room.room in
    let r : WiderRoom s m p c.args.old.start.segment (c.args.size.data_words + c.args.size.pointers) (2 * c.args.old.pointers) room pads = subst (λ (j : ℕ). WiderRoom s m p c.args.old.start.segment j (2 * c.args.old.pointers) room pads) c.total.ensures c.in_ok-room.ensures.ok in
    let some : 0 < c.args.size.data_words + c.args.size.pointers = c.requires.wider.2 in
    let w = wider_words s m p c.args.old.start.segment (d + k) k0 room pads some r in
    let grows = (wider_extends s m p c.args.old.start.segment (d + k) (2 * k0) room pads r).0 in
    let l = within_total m b (d + k) w.words_there in
    let at = ap (λ (q : Place). q.position) c.begin_of-start.ensures in
    let source = ap (λ (q : Place). q.position) c.pointers_behind-source.ensures in
    let target = ap (λ (q : Place). q.position) c.pointers_behind-target.ensures in
    (omega (arith, c.requires.close, source), omega (arith, l, at, target, w.few, c.requires.wider.1))

pub link-requires-clause-slot : goal.link-requires-clause-slot
link-requires-clause-slot g c =
    let s = words_in (g.A.ReaderArena.segments c.args.arena.now) in
    let m = words_in (g.A.ReaderArena.segments c.allocate_wider.new.arena) in
    let p = place_view c.args.slot in
    let d = c.args.size.data_words in
    let k = c.args.size.pointers in
    let d0 = c.args.old.data_words in
    let k0 = c.args.old.pointers in
    let room = c.in_ok-room.room in
    let pads = c.in_ok-room.pads in
    let b = begin_of (place_view c.args.slot) c.in_ok-room.room in
    let r : WiderRoom s m p c.args.old.start.segment (c.args.size.data_words + c.args.size.pointers) (2 * c.args.old.pointers) room pads = subst (λ (j : ℕ). WiderRoom s m p c.args.old.start.segment j (2 * c.args.old.pointers) room pads) c.total.ensures c.in_ok-room.ensures.ok in
    let some : 0 < c.args.size.data_words + c.args.size.pointers = c.requires.wider.2 in
    let w = wider_words s m p c.args.old.start.segment (d + k) k0 room pads some r in
    let grows = (wider_extends s m p c.args.old.start.segment (d + k) (2 * k0) room pads r).0 in
    let x = words_in (g.A.ReaderArena.segments c.copy_words.new.arena) in
    let y = words_in (g.A.ReaderArena.segments c.move_pointers.new.arena) in
    let z = words_in (g.A.ReaderArena.segments c.clear.new.arena) in
    let sizes : map length z ≡ map length m = c.clear.ensures.sizes ∙ c.move_pointers.ensures.sizes ∙ c.copy_words.ensures.sizes in
    still_some m z p 1 (sizes_grow m z sizes) (still_some s m p 1 grows c.requires.there)

pub link-requires-clause-pad : goal.link-requires-clause-pad
link-requires-clause-pad g c =
    let s = words_in (g.A.ReaderArena.segments c.args.arena.now) in
    let m = words_in (g.A.ReaderArena.segments c.allocate_wider.new.arena) in
    let p = place_view c.args.slot in
    let d = c.args.size.data_words in
    let k = c.args.size.pointers in
    let d0 = c.args.old.data_words in
    let k0 = c.args.old.pointers in
    let room = c.in_ok-room.room in
    let pads = c.in_ok-room.pads in
    let b = begin_of (place_view c.args.slot) c.in_ok-room.room in
    let r : WiderRoom s m p c.args.old.start.segment (c.args.size.data_words + c.args.size.pointers) (2 * c.args.old.pointers) room pads = subst (λ (j : ℕ). WiderRoom s m p c.args.old.start.segment j (2 * c.args.old.pointers) room pads) c.total.ensures c.in_ok-room.ensures.ok in
    let some : 0 < c.args.size.data_words + c.args.size.pointers = c.requires.wider.2 in
    let w = wider_words s m p c.args.old.start.segment (d + k) k0 room pads some r in
    let grows = (wider_extends s m p c.args.old.start.segment (d + k) (2 * k0) room pads r).0 in
    let x = words_in (g.A.ReaderArena.segments c.copy_words.new.arena) in
    let y = words_in (g.A.ReaderArena.segments c.move_pointers.new.arena) in
    let z = words_in (g.A.ReaderArena.segments c.clear.new.arena) in
    let sizes : map length z ≡ map length m = c.clear.ensures.sizes ∙ c.move_pointers.ensures.sizes ∙ c.copy_words.ensures.sizes in
    pad_stays m z room (sizes_grow m z sizes) w.pad

pub link-requires-clause-room : goal.link-requires-clause-room
link-requires-clause-room g c =
    let s = words_in (g.A.ReaderArena.segments c.args.arena.now) in
    let m = words_in (g.A.ReaderArena.segments c.allocate_wider.new.arena) in
    let p = place_view c.args.slot in
    let d = c.args.size.data_words in
    let k = c.args.size.pointers in
    let d0 = c.args.old.data_words in
    let k0 = c.args.old.pointers in
    let room = c.in_ok-room.room in
    let pads = c.in_ok-room.pads in
    let b = begin_of (place_view c.args.slot) c.in_ok-room.room in
    let r : WiderRoom s m p c.args.old.start.segment (c.args.size.data_words + c.args.size.pointers) (2 * c.args.old.pointers) room pads = subst (λ (j : ℕ). WiderRoom s m p c.args.old.start.segment j (2 * c.args.old.pointers) room pads) c.total.ensures c.in_ok-room.ensures.ok in
    let some : 0 < c.args.size.data_words + c.args.size.pointers = c.requires.wider.2 in
    let w = wider_words s m p c.args.old.start.segment (d + k) k0 room pads some r in
    let grows = (wider_extends s m p c.args.old.start.segment (d + k) (2 * k0) room pads r).0 in
    wider_addressed s m p c.args.old.start.segment (d + k) (2 * k0) room pads (word_there s p c.requires.there) r

pub returns : goal.returns
returns g c =
    let s = words_in (g.A.ReaderArena.segments c.args.arena.now) in
    let m = words_in (g.A.ReaderArena.segments c.allocate_wider.new.arena) in
    let p = place_view c.args.slot in
    let d = c.args.size.data_words in
    let k = c.args.size.pointers in
    let d0 = c.args.old.data_words in
    let k0 = c.args.old.pointers in
    let room = c.in_ok-room.room in
    let pads = c.in_ok-room.pads in
    let b = begin_of (place_view c.args.slot) c.in_ok-room.room in
    let r : WiderRoom s m p c.args.old.start.segment (c.args.size.data_words + c.args.size.pointers) (2 * c.args.old.pointers) room pads = subst (λ (j : ℕ). WiderRoom s m p c.args.old.start.segment j (2 * c.args.old.pointers) room pads) c.total.ensures c.in_ok-room.ensures.ok in
    let some : 0 < c.args.size.data_words + c.args.size.pointers = c.requires.wider.2 in
    let w = wider_words s m p c.args.old.start.segment (d + k) k0 room pads some r in
    let grows = (wider_extends s m p c.args.old.start.segment (d + k) (2 * k0) room pads r).0 in
    let x = words_in (g.A.ReaderArena.segments c.copy_words.new.arena) in
    let y = words_in (g.A.ReaderArena.segments c.move_pointers.new.arena) in
    let z = words_in (g.A.ReaderArena.segments c.clear.new.arena) in
    let sizes : map length z ≡ map length m = c.clear.ensures.sizes ∙ c.move_pointers.ensures.sizes ∙ c.copy_words.ensures.sizes in
    let u = words_in (g.A.ReaderArena.segments c.link.new.arena) in
    let a = place_view c.args.old.start in
    let copies : CopiesWords m x a b d0 = subst (λ (q : Place). CopiesWords m x (place_view c.args.old.start) q c.args.old.data_words) c.begin_of-start.ensures c.copy_words.ensures.words in
    let at : place_view c.pointers_behind-target.result ≡ after b d = c.pointers_behind-target.ensures ∙ ap (λ (q : Place). after q c.args.size.data_words) c.begin_of-start.ensures in
    let row : MovesRow x y (after a d0) (after b d) k0 (pads_of pads k0) = subst (λ (q : Place). MovesRow x y (after (place_view c.args.old.start) c.args.old.data_words) q c.args.old.pointers (pads_of c.in_ok-room.pads c.args.old.pointers)) at (subst (λ (q : Place). MovesRow x y q (place_view c.pointers_behind-target.result) c.args.old.pointers (pads_of c.in_ok-room.pads c.args.old.pointers)) c.pointers_behind-source.ensures c.move_pointers.ensures.row) in
    let links : u ≡ linked z p room (struct_pointer 0 d k) = c.link.ensures.words ∙ ap (linked z (place_view c.args.slot) c.in_ok-room.room) c.struct_word.ensures.word in
    let slot_there = still_some m z p 1 (sizes_grow m z sizes) (still_some s m p 1 grows c.requires.there) in
    let leads = linked_leads s m z p c.args.old.start.segment (d + k) (2 * k0) room pads (new_struct d k) (word_there s p c.requires.there) slot_there (pad_stays m z room (sizes_grow m z sizes) w.pad) some r (some_pointer d k some) c.struct_word.ensures.fits in
    let l = within_total m b (d + k) w.words_there in
    let segment = c.args.old.start.segment in
    let same : map length u ≡ map length m = ap (λ (v : Segments). map length v) c.link.ensures.words ∙ (linked_sizes z p room c.struct_word.result ∙ sizes) in
    let free = g.A.BuilderArena.room c.args.arena.now in
    let words_there = still_linked z p room c.struct_word.result b (d + k) (still_some m z b (d + k) (sizes_grow m z sizes) w.words_there) in
    let position = ap (λ (q : Place). q.position) c.begin_of-start.ensures in
    let taken = near_so s free m u c.args.slot.segment segment c.total.result same c.in_ok-room.ensures.near in
    record {
      value = struct_widened s m x y z u p a c.requires.found.0 d0 k0 d k c.args.old.start.segment room pads (word_there s p c.requires.there) c.requires.found.1 c.requires.wider.0 c.requires.wider.1 some c.struct_word.ensures.fits r copies row c.clear.ensures.clears links;
      object = subst (λ (q : Place). LeadsTo u p (a_struct q c.args.size.data_words c.args.size.pointers)) (sym c.begin_of-start.ensures) (subst (λ (v : Segments). LeadsTo v p (a_struct b d k)) (sym links) leads);
      size = (refl, refl);
      there = subst (λ (q : Place). is_some (words_at u q (c.args.size.data_words + c.args.size.pointers)) ≡ true) (sym c.begin_of-start.ensures) (subst (λ (v : Segments). is_some (words_at v b (d + k)) ≡ true) (sym c.link.ensures.words) words_there);
      near = omega (arith, l, position, w.few);
      taken = subst (λ (n : ℕ). TakesNear s free u c.args.slot.segment segment n) c.total.ensures taken;
      bound = bounds_so s m u (d + k) (1 + 2 * k0) same (wider_bounds s m p segment (d + k) (2 * k0) room pads c.requires.wider.2 r);
      full = tt;
      refused = tt;
      kind = tt;
      books = c.link.ensures.books ∙ (c.clear.ensures.books ∙ (c.move_pointers.ensures.books ∙ (c.copy_words.ensures.books ∙ c.in_ok-room.ensures.books)));
      cause = tt;
    }

pub returns-in_err-room : goal.returns-in_err-room
returns-in_err-room g c =
    let s = words_in (g.A.ReaderArena.segments c.args.arena.now) in
    let free = g.A.BuilderArena.room c.args.arena.now in
    let i = c.args.slot.segment in
    let j = c.args.old.start.segment in
    let h : OnErr c.from_residual.result (NoWiderRoom s free i j c.total.result (2 * c.args.old.pointers)) = search rules in
    record {
      value = search rules;
      object = search rules;
      size = search rules;
      there = search rules;
      near = search rules;
      taken = search rules;
      bound = search rules;
      full = subst (λ (n : ℕ). OnErr c.from_residual.result (NoWiderRoom s free i j n (2 * c.args.old.pointers))) c.total.ensures h;
      refused = search rules;
      kind = search rules;
      books = search rules;
      cause = search rules;
    }
