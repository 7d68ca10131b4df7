-- They are so many already.
use Rattle.std.proofs.Common.{ℕ, sym, subst}
use Rattle.capnp_wire_canonical.specs.Writes.{filled}
use Rattle.capnp_calls_splice.specs.Cells.{StandsIn, with_data_words, IsAreaInside}
use Rattle.capnp_calls_splice.proofs.data.fit_data.Goals as goal

pub returns-then-wide-area-clause-stands : goal.returns-then-wide-area-clause-stands
returns-then-wide-area-clause-stands c = λ f cell st small.
    let a = c.args.area in
    subst (λ (m : ℕ). StandsIn (with_data_words a m) f cell (filled c.args.count c.args.words.now)) (sym c.if-wide-area.true)
    (record { place = st.place; between = st.between; spelled = st.spelled; section = st.section; pointers = st.pointers; each = st.each })

pub returns-then-wide-area-clause-within : goal.returns-then-wide-area-clause-within
returns-then-wide-area-clause-within c =
    let a = c.args.area in
    let own = c.requires.inside in
    subst (λ (m : ℕ). IsAreaInside (with_data_words a m) c.args.count c.args.words.now) (sym c.if-wide-area.true)
    (record { begins = own.begins; narrow = own.narrow; own = own.own; few = own.few; inside = own.inside })
