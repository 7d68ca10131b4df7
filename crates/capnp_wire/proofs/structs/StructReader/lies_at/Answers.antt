-- The struct's own words lie there just where they are whole, there, and alike, and its pointers behind them.
use Rattle.std.proofs.Common.{◌+◌, ◌/◌, length, refl, sym, ◌∙◌}
use Rattle.std.proofs.lemmas.Bool.{OnTrue_at, OnTrue_from, OnFalse_at, OnFalse_from}
use Rattle.capnp_model.specs.Segments.{after}
use Rattle.capnp_wire_objects.specs.Places.{place_view}
use Rattle.capnp_wire_objects.specs.Objects.{AreThere}
use Rattle.capnp_wire.specs.Views.{seen_struct}
use Rattle.capnp_wire.proofs.Telling.{own_words_lie, lie_whole, lie_there, lie_alike, lie_before, places_same, places_apart}
use Rattle.capnp_wire.proofs.structs.StructReader.lies_at.Goals as goal
use Rattle.capnp_wire.proofs.structs.StructReader.lies_at.Goals.{then-self-ne0-via-then-self-ne0, then-self-ne0-via-else-self-ne0+then-not-has_words}

pub returns-then-self-ne0-clause-elsewhere : goal.returns-then-self-ne0-clause-elsewhere
returns-then-self-ne0-clause-elsewhere g c =
    let v = seen_struct g.A.ReaderArena.segments c.args.self.now in
    let p = place_view c.args.place in
    λ own. elim c.then-self-ne0.branch [
      | then-self-ne0-via-then-self-ne0 w ↦ w.if-self-ne0.true (lie_whole v p (length c.args.self.now.section.now) refl own)
      | then-self-ne0-via-else-self-ne0+then-not-has_words w ↦ let there = lie_there v p (length c.args.self.now.section.now) refl own in let none = w.if-not-has_words.ensures.there in absurd (cc (there, none))
    ]

pub returns-then-eq-clause-lies : goal.returns-then-eq-clause-lies
returns-then-eq-clause-lies g c =
    let v = seen_struct g.A.ReaderArena.segments c.args.self.now in
    let p = place_view c.args.place in
    let n = length c.args.self.now.section.now in
    let first = places_same v.first (after p (n / 8)) c.if-eq.ensures in
    let there : AreThere v.basis.segments p (n / 8 + v.pointers) = (sym c.if-not-has_words.ensures.there, OnTrue_at c.if-not-has_words.false c.has_words.ensures.near) in
    OnTrue_from c.are_equal.result _ (λ e. own_words_lie v p n refl c.if-self-ne0.false there (OnTrue_at e c.are_equal.ensures.same ∙ c.lend.ensures.section) first)

pub returns-then-eq-clause-elsewhere : goal.returns-then-eq-clause-elsewhere
returns-then-eq-clause-elsewhere g c =
    let v = seen_struct g.A.ReaderArena.segments c.args.self.now in
    let p = place_view c.args.place in
    let n = length c.args.self.now.section.now in
    OnFalse_from c.are_equal.result _ (λ e own. OnFalse_at e c.are_equal.ensures.apart (lie_alike v p n refl own ∙ sym c.lend.ensures.section))

pub returns-else-eq-clause-lies : goal.returns-else-eq-clause-lies
returns-else-eq-clause-lies g c = OnTrue_from c.eq.result _ (λ e. let no = c.if-eq.false in absurd (cc (e, no)))

pub returns-else-eq-clause-elsewhere : goal.returns-else-eq-clause-elsewhere
returns-else-eq-clause-elsewhere g c =
    let v = seen_struct g.A.ReaderArena.segments c.args.self.now in
    let p = place_view c.args.place in
    let n = length c.args.self.now.section.now in
    OnFalse_from c.eq.result _ (λ f own. places_apart v.first (after p (n / 8)) c.if-eq.ensures (lie_before v p n refl own))
