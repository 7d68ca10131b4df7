-- The list stands where its start is the head, and no bit is behind its last element.
use Rattle.std.proofs.Common.{◌≡◌, ℕ, ◌+◌, ◌-◌, ◌*◌, ◌%◌, ◌^◌, Some, Ok, ap, sym, ◌∙◌, subst, arith}
use Rattle.capnp_model.specs.Sections.{words_for}
use Rattle.capnp_model.specs.Segments.{Segments, Place}
use Rattle.capnp_model.specs.Spelling.{AreWords}
use Rattle.capnp_units.specs.Segments.{words_in}
use Rattle.capnp_units.specs.Sizes.{size_number, data_bits}
use Rattle.capnp_wire_objects.specs.Places.{place_view}
use Rattle.capnp_wire_objects.specs.Near.{list_object}
use Rattle.capnp_wire_objects.specs.Inside.{section_at}
use Rattle.capnp_wire_canonical.specs.Reaches.{reach}
use Rattle.capnp_wire_canonical.specs.Standing.{segment_words, EndsClear}
use Rattle.capnp_wire_canonical.specs.Checks.{object_test, Tests}
use Rattle.capnp_wire_canonical.proofs.lemmas.Checking.{differs_at}
use Rattle.capnp_wire_canonical.proofs.NearPlaces.{list_near}
use Rattle.capnp_wire_canonical.proofs.StandingLists.{list_yes, list_words, list_word}
use Rattle.capnp_wire_canonical.proofs.StandingObjects.{lead_word, within_reach}
use Rattle.capnp_wire_canonical.proofs.StandingPlaces.{list_where}
use Rattle.capnp_wire_canonical.proofs.list_ends.list_end.Goals as goal

pub returns-then-list-head : goal.returns-then-list-head
returns-then-list-head g c = λ levels l.
    let s : Segments = words_in (g.A.ReaderArena.segments c.args.arena.now) in
    let p : Place = place_view c.args.place in
    let start = c.args.list.start in
    let q : Place = place_view start in
    let z = size_number c.args.list.size in
    let n = c.args.list.count in
    let head = c.args.head in
    let bits = data_bits z * n in
    let o = list_object c.args.list in
    let behind = c.requires.head.behind in
    differs_at (object_test (reach levels s) p head o) l
    (λ small more u end e clean stand.
    let near = within_reach s p 1 head small c.requires.head in
    let word = list_word s p head z n (section_at s q (words_for bits) % 2 ^ bits) end u e stand in
    let here = list_where s p head (head - p.position - 1) (omega arith) (omega arith) start c.args.list.size n c.requires.near.1.0 c.requires.short (0, c.requires.near.0) word in
    c.if-list-head.true (ap (λ (r : Place). r.position) here))

pub returns-then-not-ends_clear : goal.returns-then-not-ends_clear
returns-then-not-ends_clear g c = λ levels l.
    let s : Segments = words_in (g.A.ReaderArena.segments c.args.arena.now) in
    let p : Place = place_view c.args.place in
    let start = c.args.list.start in
    let q : Place = place_view start in
    let n = c.args.list.count in
    let head = c.args.head in
    let o = list_object c.args.list in
    let w = lead_word s p o (0, c.requires.near.0) in
    let here = list_near s p head c.requires.head.whole start c.args.list.size n w.0 w.1 c.requires.near.0 c.if-list-head.false c.requires.head.behind in
    differs_at (object_test (reach levels s) p head o) l
    (λ small more u end e clean stand.
    let cut = list_words levels s p head start c.args.list.size n c.requires.near.1.0 c.requires.near.1.1 c.requires.head.whole here.1 end u e stand in
    c.if-not-ends_clear.ensures.spare (subst (EndsClear s q) (sym c.requires.measured.0) cut))

pub returns : goal.returns
returns g c = λ levels l.
    let s : Segments = words_in (g.A.ReaderArena.segments c.args.arena.now) in
    let p : Place = place_view c.args.place in
    let start = c.args.list.start in
    let q : Place = place_view start in
    let n = c.args.list.count in
    let head = c.args.head in
    let o = list_object c.args.list in
    let w = lead_word s p o (0, c.requires.near.0) in
    let here = list_near s p head c.requires.head.whole start c.args.list.size n w.0 w.1 c.requires.near.0 c.if-list-head.false c.requires.head.behind in
    let bits = data_bits (size_number c.args.list.size) * n in
    let words : words_for bits ≡ c.args.list.words = sym (c.requires.measured.1 ∙ ap words_for c.requires.measured.0) in
    let at : q.position + words_for bits ≡ head + c.args.list.words = ap (λ (j : ℕ). j + words_for bits) c.if-list-head.false ∙ ap (λ (j : ℕ). head + j) words in
    subst (λ (j : ℕ). Tests (object_test (reach levels s) p head o) l (Ok (Some j)) l) at
    (list_yes levels s p head start c.args.list.size n c.requires.near.1.0 c.requires.near.1.1 c.requires.head.whole here.1 l here.0 (subst (EndsClear s q) c.requires.measured.0 c.if-not-ends_clear.ensures.clear))

pub ends_clear-requires-clause-whole : goal.ends_clear-requires-clause-whole
ends_clear-requires-clause-whole g c =
    let s : Segments = words_in (g.A.ReaderArena.segments c.args.arena.now) in
    let p : Place = place_view c.args.place in
    let w = lead_word s p (list_object c.args.list) (0, c.requires.near.0) in
    let here = list_near s p c.args.head c.requires.head.whole c.args.list.start c.args.list.size c.args.list.count w.0 w.1 c.requires.near.0 c.if-list-head.false c.requires.head.behind in
    subst (λ (i : ℕ). AreWords (segment_words s i)) (sym (ap (λ (r : Place). r.segment) here.1)) c.requires.head.whole
