use Rattle.std.proofs.Common.{◌≡◌, ◌+◌, ◌*◌, ℕ, length, map, ◌^◌, ◌≤◌, true, IfErr, OnErr, inl, [], ◌∷◌, refl, ap, sym, ◌∙◌, subst, rules, arith}
use Rattle.std.specs.Option.{is_some}
use Rattle.capnp_model.specs.Segments.{Segments, Place, after, words_at}
use Rattle.capnp_model.specs.Pointers.{a_list}
use Rattle.capnp_model.specs.Encoding.{struct_pointer, list_pointer}
use Rattle.capnp_units.specs.Segments.{words_in}
use Rattle.capnp_units.specs.declared.sizes.ElementSize.TheVariants.{InlineComposite}
use Rattle.capnp_wire_objects.specs.Places.{place_view}
use Rattle.capnp_model_writes.specs.NewObjects.{new_structs, Fits, pointed}
use Rattle.capnp_model_writes.specs.Writes.{with_words}
use Rattle.capnp_copy_arenas.proofs.lemmas.Taken.{linked_sizes, bounds_so, same_total}
use Rattle.capnp_copy_arenas.specs.Allocations.{TakesAtMost}
use Rattle.capnp_copy_arenas.specs.declared.init.ListPlace.{ListPlace}
use Rattle.capnp_copy_arenas.proofs.lemmas.RoomLaws.{still_some, sizes_grow, word_there, pad_stays, still_linked}
use Rattle.capnp_copy_arenas.proofs.lemmas.Parts.{section_there, front_there}
use Rattle.capnp_copy_arenas.proofs.lemmas.ZeroedWords.{written_sizes}
use Rattle.std.proofs.lemmas.Result.{err_from_is_err_and}
use Rattle.capnp_copy_widening.proofs.Bounds.{long_lacks, wider_bounds}
use Rattle.capnp_copy_widening.proofs.lemmas.WholeLists.{structs_whole}
use Rattle.capnp_copy_arenas.specs.Rooms.{begin_of, linked}
use Rattle.capnp_copy_arenas.specs.Values.{LeadsTo}
use Rattle.capnp_copy_widening.specs.MovedElements.{least_pointers}
use Rattle.capnp_copy_widening.specs.Widened.{WiderRoom, TakesNear, NoWiderRoom, GrowthRefused}
use Rattle.capnp_copy_widening.proofs.lemmas.Standing.{pads_stay, within_total}
use Rattle.capnp_copy_widening.proofs.KnownLists.{known, known_trees, known_list}
use Rattle.capnp_copy_widening.proofs.WiderRooms.{wider_addressed, wider_words, wider_extends, linked_leads}
use Rattle.capnp_copy_widening.proofs.WidenedLists.{list_widened, some_list, near_so}
use Rattle.capnp_copy_widening.proofs.struct_lists.widen_list.Goals as goal

pub returns-in_err-room : goal.returns-in_err-room
returns-in_err-room g c =
    let s = words_in (g.A.ReaderArena.segments c.args.arena.now) in
    let free = g.A.BuilderArena.room c.args.arena.now in
    let i = c.args.slot.segment in
    let j = c.args.old.start.segment in
    let h : OnErr c.from_residual-in_err-room.result (NoWiderRoom s free i j (1 + c.in_ok-words.words) c.in_ok-words.pad_words) = search rules in
    let h1 = subst (λ (n : ℕ). OnErr c.from_residual-in_err-room.result (NoWiderRoom s free i j (1 + n) c.in_ok-words.pad_words)) c.in_ok-words.ensures.words.0 h in
    let h2 = subst (λ (n : ℕ). OnErr c.from_residual-in_err-room.result (NoWiderRoom s free i j (1 + c.args.old.count * (c.args.size.data_words + c.args.size.pointers)) n)) c.in_ok-words.ensures.words.1 h1 in
    let sum : 1 + (1 + c.in_ok-words.words + c.in_ok-words.pad_words) ≡ c.args.old.count * (c.args.size.data_words + c.args.size.pointers) + 2 + 2 * (c.args.old.count * least_pointers c.args.old) = omega (arith, c.in_ok-words.ensures.words.0, c.in_ok-words.ensures.words.1) in
    record {
      value = search rules;
      object = search rules;
      list = search rules;
      there = search rules;
      inside = search rules;
      taken = search rules;
      bound = search rules;
      full = h2;
      refused = search rules;
      kind = subst (λ (n : ℕ). IfErr c.from_residual-in_err-room.result (GrowthRefused s n)) sum (search rules);
      books = search rules;
      cause = search rules;
    }

pub begin_of-requires-clause-room : goal.begin_of-requires-clause-room
begin_of-requires-clause-room g c =
    let s = words_in (g.A.ReaderArena.segments c.args.arena.now) in
    let m = words_in (g.A.ReaderArena.segments c.allocate_wider.new.arena) in
    let p = place_view c.args.slot in
    let many = c.args.old.count * least_pointers c.args.old in
    let segment = c.args.old.start.segment in
    let words = c.in_ok-words.words in
    let room = c.in_ok-room.room in
    let pads = c.in_ok-room.pads in
    let b = begin_of (place_view c.args.slot) c.in_ok-room.room in
    let r : WiderRoom s m p segment (1 + c.in_ok-words.words) (2 * (c.args.old.count * least_pointers c.args.old)) room pads = subst (λ (j : ℕ). WiderRoom s m p segment (1 + c.in_ok-words.words) j room pads) c.in_ok-words.ensures.words.1 c.in_ok-room.ensures.ok in
    let w = wider_words s m p segment (1 + words) many room pads (omega arith) r in
    let grows = (wider_extends s m p segment (1 + words) (2 * many) room pads r).0 in
    wider_addressed s m p segment (1 + words) (2 * many) room pads (word_there s p c.requires.there) r

pub write_word-requires : goal.write_word-requires
write_word-requires g c =
    let s = words_in (g.A.ReaderArena.segments c.args.arena.now) in
    let m = words_in (g.A.ReaderArena.segments c.allocate_wider.new.arena) in
    let p = place_view c.args.slot in
    let many = c.args.old.count * least_pointers c.args.old in
    let segment = c.args.old.start.segment in
    let words = c.in_ok-words.words in
    let room = c.in_ok-room.room in
    let pads = c.in_ok-room.pads in
    let b = begin_of (place_view c.args.slot) c.in_ok-room.room in
    let r : WiderRoom s m p segment (1 + c.in_ok-words.words) (2 * (c.args.old.count * least_pointers c.args.old)) room pads = subst (λ (j : ℕ). WiderRoom s m p segment (1 + c.in_ok-words.words) j room pads) c.in_ok-words.ensures.words.1 c.in_ok-room.ensures.ok in
    let w = wider_words s m p segment (1 + words) many room pads (omega arith) r in
    let grows = (wider_extends s m p segment (1 + words) (2 * many) room pads r).0 in
    subst (λ (q : Place). is_some (words_at m q 1) ≡ true) (sym c.begin_of.ensures) (front_there m b 1 (1 + words) (omega arith) w.words_there)

pub fill_elements-requires-clause-old : goal.fill_elements-requires-clause-old
fill_elements-requires-clause-old g c =
    let s = words_in (g.A.ReaderArena.segments c.args.arena.now) in
    let m = words_in (g.A.ReaderArena.segments c.allocate_wider.new.arena) in
    let p = place_view c.args.slot in
    let many = c.args.old.count * least_pointers c.args.old in
    let segment = c.args.old.start.segment in
    let words = c.in_ok-words.words in
    let room = c.in_ok-room.room in
    let pads = c.in_ok-room.pads in
    let b = begin_of (place_view c.args.slot) c.in_ok-room.room in
    let r : WiderRoom s m p segment (1 + c.in_ok-words.words) (2 * (c.args.old.count * least_pointers c.args.old)) room pads = subst (λ (j : ℕ). WiderRoom s m p segment (1 + c.in_ok-words.words) j room pads) c.in_ok-words.ensures.words.1 c.in_ok-room.ensures.ok in
    let w = wider_words s m p segment (1 + words) many room pads (omega arith) r in
    let grows = (wider_extends s m p segment (1 + words) (2 * many) room pads r).0 in
    let x = words_in (g.A.ReaderArena.segments c.write_word.new.self) in
    let tagged : map length x ≡ map length m = ap (λ (v : Segments). map length v) c.write_word.ensures.words ∙ written_sizes m (place_view c.begin_of.result) (c.tag_word.result ∷ []) in
    known_list s x c.args.old (known s c.args.slot c.args.old c.requires.found c.requires.leads) (λ i xs e. (let first = grows i xs e in let then = sizes_grow m x tagged i first.0 first.1 in (then.0, then.1, omega (arith, first.2, then.2)))) (omega (arith, same_total m x tagged, w.few))

pub fill_elements-requires-clause-wider : goal.fill_elements-requires-clause-wider
fill_elements-requires-clause-wider g c =
    let s = words_in (g.A.ReaderArena.segments c.args.arena.now) in
    let m = words_in (g.A.ReaderArena.segments c.allocate_wider.new.arena) in
    let p = place_view c.args.slot in
    let many = c.args.old.count * least_pointers c.args.old in
    let segment = c.args.old.start.segment in
    let words = c.in_ok-words.words in
    let room = c.in_ok-room.room in
    let pads = c.in_ok-room.pads in
    let b = begin_of (place_view c.args.slot) c.in_ok-room.room in
    let r : WiderRoom s m p segment (1 + c.in_ok-words.words) (2 * (c.args.old.count * least_pointers c.args.old)) room pads = subst (λ (j : ℕ). WiderRoom s m p segment (1 + c.in_ok-words.words) j room pads) c.in_ok-words.ensures.words.1 c.in_ok-room.ensures.ok in
    let w = wider_words s m p segment (1 + words) many room pads (omega arith) r in
    let grows = (wider_extends s m p segment (1 + words) (2 * many) room pads r).0 in
    let x = words_in (g.A.ReaderArena.segments c.write_word.new.self) in
    let tagged : map length x ≡ map length m = ap (λ (v : Segments). map length v) c.write_word.ensures.words ∙ written_sizes m (place_view c.begin_of.result) (c.tag_word.result ∷ []) in
    let part = section_there m b 1 words (1 + words) (omega arith) w.words_there in
    let here = still_some m x (after b 1) words (sizes_grow m x tagged) part in
    let there : is_some (words_at x (after (place_view c.begin_of.result) 1) c.in_ok-words.words) ≡ true = subst (λ (q : Place). is_some (words_at x (after q 1) c.in_ok-words.words) ≡ true) (sym c.begin_of.ensures) here in
    let count = c.in_ok-words.ensures.words.0 in
    let all = within_total x (after (place_view c.begin_of.result) 1) words there in
    record {
      of_structs = refl;
      as_many = refl;
      there = (subst (λ (n : ℕ). is_some (words_at x (after (place_view c.begin_of.result) 1) n) ≡ true) count there, omega (arith, all, count, same_total m x tagged, w.few));
      wide = c.requires.wider;
    }

pub fill_elements-requires-clause-pads : goal.fill_elements-requires-clause-pads
fill_elements-requires-clause-pads g c =
    let s = words_in (g.A.ReaderArena.segments c.args.arena.now) in
    let m = words_in (g.A.ReaderArena.segments c.allocate_wider.new.arena) in
    let p = place_view c.args.slot in
    let many = c.args.old.count * least_pointers c.args.old in
    let segment = c.args.old.start.segment in
    let words = c.in_ok-words.words in
    let room = c.in_ok-room.room in
    let pads = c.in_ok-room.pads in
    let b = begin_of (place_view c.args.slot) c.in_ok-room.room in
    let r : WiderRoom s m p segment (1 + c.in_ok-words.words) (2 * (c.args.old.count * least_pointers c.args.old)) room pads = subst (λ (j : ℕ). WiderRoom s m p segment (1 + c.in_ok-words.words) j room pads) c.in_ok-words.ensures.words.1 c.in_ok-room.ensures.ok in
    let w = wider_words s m p segment (1 + words) many room pads (omega arith) r in
    let grows = (wider_extends s m p segment (1 + words) (2 * many) room pads r).0 in
    let x = words_in (g.A.ReaderArena.segments c.write_word.new.self) in
    let tagged : map length x ≡ map length m = ap (λ (v : Segments). map length v) c.write_word.ensures.words ∙ written_sizes m (place_view c.begin_of.result) (c.tag_word.result ∷ []) in
    pads_stay m x pads many (sizes_grow m x tagged) w.pads_there

pub fill_elements-requires-clause-few : goal.fill_elements-requires-clause-few
fill_elements-requires-clause-few g c =
    let s = words_in (g.A.ReaderArena.segments c.args.arena.now) in
    let m = words_in (g.A.ReaderArena.segments c.allocate_wider.new.arena) in
    let p = place_view c.args.slot in
    let many = c.args.old.count * least_pointers c.args.old in
    let segment = c.args.old.start.segment in
    let words = c.in_ok-words.words in
    let room = c.in_ok-room.room in
    let pads = c.in_ok-room.pads in
    let b = begin_of (place_view c.args.slot) c.in_ok-room.room in
    let r : WiderRoom s m p segment (1 + c.in_ok-words.words) (2 * (c.args.old.count * least_pointers c.args.old)) room pads = subst (λ (j : ℕ). WiderRoom s m p segment (1 + c.in_ok-words.words) j room pads) c.in_ok-words.ensures.words.1 c.in_ok-room.ensures.ok in
    let w = wider_words s m p segment (1 + words) many room pads (omega arith) r in
    let grows = (wider_extends s m p segment (1 + words) (2 * many) room pads r).0 in
    let x = words_in (g.A.ReaderArena.segments c.write_word.new.self) in
    let tagged : map length x ≡ map length m = ap (λ (v : Segments). map length v) c.write_word.ensures.words ∙ written_sizes m (place_view c.begin_of.result) (c.tag_word.result ∷ []) in
    omega (arith, same_total m x tagged, w.few)

pub link-requires-clause-slot : goal.link-requires-clause-slot
link-requires-clause-slot g c =
    let s = words_in (g.A.ReaderArena.segments c.args.arena.now) in
    let m = words_in (g.A.ReaderArena.segments c.allocate_wider.new.arena) in
    let p = place_view c.args.slot in
    let many = c.args.old.count * least_pointers c.args.old in
    let segment = c.args.old.start.segment in
    let words = c.in_ok-words.words in
    let room = c.in_ok-room.room in
    let pads = c.in_ok-room.pads in
    let b = begin_of (place_view c.args.slot) c.in_ok-room.room in
    let r : WiderRoom s m p segment (1 + c.in_ok-words.words) (2 * (c.args.old.count * least_pointers c.args.old)) room pads = subst (λ (j : ℕ). WiderRoom s m p segment (1 + c.in_ok-words.words) j room pads) c.in_ok-words.ensures.words.1 c.in_ok-room.ensures.ok in
    let w = wider_words s m p segment (1 + words) many room pads (omega arith) r in
    let grows = (wider_extends s m p segment (1 + words) (2 * many) room pads r).0 in
    let x = words_in (g.A.ReaderArena.segments c.write_word.new.self) in
    let tagged : map length x ≡ map length m = ap (λ (v : Segments). map length v) c.write_word.ensures.words ∙ written_sizes m (place_view c.begin_of.result) (c.tag_word.result ∷ []) in
    let y = words_in (g.A.ReaderArena.segments c.fill_elements.new.arena) in
    let z = words_in (g.A.ReaderArena.segments c.clear.new.arena) in
    let sizes : map length z ≡ map length m = c.clear.ensures.sizes ∙ c.fill_elements.ensures.sizes ∙ tagged in
    still_some m z p 1 (sizes_grow m z sizes) (still_some s m p 1 grows c.requires.there)

pub link-requires-clause-pad : goal.link-requires-clause-pad
link-requires-clause-pad g c =
    let s = words_in (g.A.ReaderArena.segments c.args.arena.now) in
    let m = words_in (g.A.ReaderArena.segments c.allocate_wider.new.arena) in
    let p = place_view c.args.slot in
    let many = c.args.old.count * least_pointers c.args.old in
    let segment = c.args.old.start.segment in
    let words = c.in_ok-words.words in
    let room = c.in_ok-room.room in
    let pads = c.in_ok-room.pads in
    let b = begin_of (place_view c.args.slot) c.in_ok-room.room in
    let r : WiderRoom s m p segment (1 + c.in_ok-words.words) (2 * (c.args.old.count * least_pointers c.args.old)) room pads = subst (λ (j : ℕ). WiderRoom s m p segment (1 + c.in_ok-words.words) j room pads) c.in_ok-words.ensures.words.1 c.in_ok-room.ensures.ok in
    let w = wider_words s m p segment (1 + words) many room pads (omega arith) r in
    let grows = (wider_extends s m p segment (1 + words) (2 * many) room pads r).0 in
    let x = words_in (g.A.ReaderArena.segments c.write_word.new.self) in
    let tagged : map length x ≡ map length m = ap (λ (v : Segments). map length v) c.write_word.ensures.words ∙ written_sizes m (place_view c.begin_of.result) (c.tag_word.result ∷ []) in
    let y = words_in (g.A.ReaderArena.segments c.fill_elements.new.arena) in
    let z = words_in (g.A.ReaderArena.segments c.clear.new.arena) in
    let sizes : map length z ≡ map length m = c.clear.ensures.sizes ∙ c.fill_elements.ensures.sizes ∙ tagged in
    pad_stays m z room (sizes_grow m z sizes) w.pad

pub link-requires-clause-room : goal.link-requires-clause-room
link-requires-clause-room g c =
    let s = words_in (g.A.ReaderArena.segments c.args.arena.now) in
    let m = words_in (g.A.ReaderArena.segments c.allocate_wider.new.arena) in
    let p = place_view c.args.slot in
    let many = c.args.old.count * least_pointers c.args.old in
    let segment = c.args.old.start.segment in
    let words = c.in_ok-words.words in
    let room = c.in_ok-room.room in
    let pads = c.in_ok-room.pads in
    let b = begin_of (place_view c.args.slot) c.in_ok-room.room in
    let r : WiderRoom s m p segment (1 + c.in_ok-words.words) (2 * (c.args.old.count * least_pointers c.args.old)) room pads = subst (λ (j : ℕ). WiderRoom s m p segment (1 + c.in_ok-words.words) j room pads) c.in_ok-words.ensures.words.1 c.in_ok-room.ensures.ok in
    let w = wider_words s m p segment (1 + words) many room pads (omega arith) r in
    let grows = (wider_extends s m p segment (1 + words) (2 * many) room pads r).0 in
    wider_addressed s m p segment (1 + words) (2 * many) room pads (word_there s p c.requires.there) r

pub returns : goal.returns
returns g c =
    let s = words_in (g.A.ReaderArena.segments c.args.arena.now) in
    let m = words_in (g.A.ReaderArena.segments c.allocate_wider.new.arena) in
    let p = place_view c.args.slot in
    let many = c.args.old.count * least_pointers c.args.old in
    let segment = c.args.old.start.segment in
    let words = c.in_ok-words.words in
    let room = c.in_ok-room.room in
    let pads = c.in_ok-room.pads in
    let b = begin_of (place_view c.args.slot) c.in_ok-room.room in
    let r : WiderRoom s m p segment (1 + c.in_ok-words.words) (2 * (c.args.old.count * least_pointers c.args.old)) room pads = subst (λ (j : ℕ). WiderRoom s m p segment (1 + c.in_ok-words.words) j room pads) c.in_ok-words.ensures.words.1 c.in_ok-room.ensures.ok in
    let w = wider_words s m p segment (1 + words) many room pads (omega arith) r in
    let grows = (wider_extends s m p segment (1 + words) (2 * many) room pads r).0 in
    let x = words_in (g.A.ReaderArena.segments c.write_word.new.self) in
    let tagged : map length x ≡ map length m = ap (λ (v : Segments). map length v) c.write_word.ensures.words ∙ written_sizes m (place_view c.begin_of.result) (c.tag_word.result ∷ []) in
    let y = words_in (g.A.ReaderArena.segments c.fill_elements.new.arena) in
    let z = words_in (g.A.ReaderArena.segments c.clear.new.arena) in
    let sizes : map length z ≡ map length m = c.clear.ensures.sizes ∙ c.fill_elements.ensures.sizes ∙ tagged in
    let u = words_in (g.A.ReaderArena.segments c.link.new.arena) in
    let links : u ≡ linked z p room (list_pointer 0 7 c.in_ok-words.words) = c.link.ensures.words ∙ ap (linked z (place_view c.args.slot) c.in_ok-room.room) c.list_word.ensures.word in
    let fits : Fits (new_structs c.args.old.count c.args.size.data_words c.args.size.pointers) = (c.in_ok-words.ensures.few.0, c.tag_word.ensures.fits.0, c.tag_word.ensures.fits.1, omega (arith, c.in_ok-words.ensures.words.0, c.in_ok-words.ensures.few.1)) in
    let tag : x ≡ pointed m (place_view c.begin_of.result) (struct_pointer c.args.old.count c.args.size.data_words c.args.size.pointers) = c.write_word.ensures.words ∙ ap (λ (v : ℕ). with_words m (place_view c.begin_of.result) (v ∷ [])) c.tag_word.ensures.word in
    let slot_there = still_some m z p 1 (sizes_grow m z sizes) (still_some s m p 1 grows c.requires.there) in
    let count = c.in_ok-words.ensures.words.0 in
    let links_all : u ≡ linked z p room (list_pointer 0 7 (c.args.old.count * (c.args.size.data_words + c.args.size.pointers))) = links ∙ ap (λ (i : ℕ). linked z (place_view c.args.slot) c.in_ok-room.room (list_pointer 0 7 i)) count in
    let leads = linked_leads s m z p segment (1 + words) (2 * many) room pads (new_structs c.args.old.count c.args.size.data_words c.args.size.pointers) (word_there s p c.requires.there) slot_there (pad_stays m z room (sizes_grow m z sizes) w.pad) (omega arith) r (some_list c.args.old.count c.args.size.data_words c.args.size.pointers) fits in
    let leads_now : LeadsTo u p (a_list b 7 (c.args.old.count * (c.args.size.data_words + c.args.size.pointers))) = subst (λ (v : Segments). LeadsTo v p (a_list b 7 (c.args.old.count * (c.args.size.data_words + c.args.size.pointers)))) (sym links_all) leads in
    let part = section_there m b 1 words (1 + words) (omega arith) w.words_there in
    let behind_tag = still_linked z p room c.list_word.result (after b 1) words (still_some m z (after b 1) words (sizes_grow m z sizes) part) in
    let at = ap (λ (q : Place). q.position) c.begin_of.ensures in
    let new : ListPlace = record { start = c.begin_of.result; size = InlineComposite; claimed = c.in_ok-words.words; count = c.args.old.count; data_words = c.args.size.data_words; pointers = c.args.size.pointers } in
    let free = g.A.BuilderArena.room c.args.arena.now in
    let same : map length u ≡ map length m = ap (λ (v : Segments). map length v) c.link.ensures.words ∙ (linked_sizes z p room c.list_word.result ∙ sizes) in
    let structs_there : is_some (words_at u (after b 1) c.in_ok-words.words) ≡ true = subst (λ (v : Segments). is_some (words_at v (after b 1) c.in_ok-words.words) ≡ true) (sym c.link.ensures.words) behind_tag in
    let within = within_total m b (1 + words) w.words_there in
    let from_tag = still_linked z p room c.list_word.result b (1 + words) (still_some m z b (1 + words) (sizes_grow m z sizes) w.words_there) in
    let all_there : is_some (words_at u b (1 + c.in_ok-words.words)) ≡ true = subst (λ (v : Segments). is_some (words_at v b (1 + c.in_ok-words.words)) ≡ true) (sym c.link.ensures.words) from_tag in
    let taken = near_so s free m u c.args.slot.segment segment (1 + words) same c.in_ok-room.ensures.near in
    let bound = bounds_so s m u (1 + words) (1 + 2 * many) same (wider_bounds s m p segment (1 + words) (2 * many) room pads (omega arith) r) in
    record {
      value = list_widened s m x y z u p c.args.old (record { start = c.begin_of.result; size = InlineComposite; claimed = c.in_ok-words.words; count = c.args.old.count; data_words = c.args.size.data_words; pointers = c.args.size.pointers }) many segment room pads (word_there s p c.requires.there) c.requires.leads (known_trees s c.args.old (known s c.args.slot c.args.old c.requires.found c.requires.leads)) refl c.begin_of.ensures c.in_ok-words.ensures.words.0 fits r tag c.fill_elements.ensures.fills c.clear.ensures.clears links;
      object = subst (λ (q : Place). LeadsTo u p (a_list q 7 c.in_ok-words.words)) (sym c.begin_of.ensures) (subst (λ (n : ℕ). LeadsTo u p (a_list b 7 n)) (sym count) leads_now);
      list = (refl, refl, refl, refl);
      there = (subst (λ (q : Place). is_some (words_at u (after q 1) (c.args.old.count * (c.args.size.data_words + c.args.size.pointers))) ≡ true) (sym c.begin_of.ensures) (subst (λ (n : ℕ). is_some (words_at u (after b 1) n) ≡ true) count structs_there), omega (arith, within, at, count, w.few));
      inside = structs_whole u new refl (subst (λ (q : Place). is_some (words_at u q (1 + c.in_ok-words.words)) ≡ true) (sym c.begin_of.ensures) all_there, omega (arith, within, at, w.few)) (omega (arith, count));
      taken = subst (λ (k : ℕ). TakesNear s free u c.args.slot.segment segment (1 + k)) c.in_ok-words.ensures.words.0 taken;
      bound = subst (λ (k : ℕ). TakesAtMost s u (1 + k) (1 + 2 * (c.args.old.count * least_pointers c.args.old))) c.in_ok-words.ensures.words.0 bound;
      full = tt;
      refused = tt;
      kind = tt;
      books = c.link.ensures.books ∙ (c.clear.ensures.books ∙ (c.fill_elements.ensures.books ∙ (c.write_word.ensures.books ∙ c.in_ok-room.ensures.books)));
      cause = tt;
    }

pub returns-in_err-words : goal.returns-in_err-words
returns-in_err-words g c =
    let s = words_in (g.A.ReaderArena.segments c.args.arena.now) in
    let p = err_from_is_err_and c.from_residual.result c.from_residual.ensures.1 in
    let long = c.in_err-words.ensures.kind.1 in
    record {
      value = search rules;
      object = search rules;
      list = search rules;
      there = search rules;
      inside = search rules;
      taken = search rules;
      bound = search rules;
      full = rw p.1 (long_lacks s (g.A.BuilderArena.room c.args.arena.now) c.args.slot.segment c.args.old.start.segment (c.args.old.count * (c.args.size.data_words + c.args.size.pointers)) (2 * (c.args.old.count * least_pointers c.args.old)) c.in_err-words.ensures.kind.1);
      refused = search rules;
      kind = rw (p.1, p.2) (λ k. omega (arith, long), λ l. c.in_err-words.ensures.kind.0);
      books = search rules;
      cause = rw (p.1, p.2) (inl c.in_err-words.ensures.kind.0);
    }
