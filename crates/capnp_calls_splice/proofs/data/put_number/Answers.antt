-- A number below the last word, or in it or behind it.
use Rattle.std.proofs.Common.{ℕ, ◌+◌, ◌-◌, ◌*◌, ◌^◌, ◌<◌, ◌++◌, take, drop, refl, subst, arith}
use Rattle.capnp_model.proofs.lemmas.Numbers.{wider}
use Rattle.capnp_wire_canonical.specs.Writes.{filled}
use Rattle.capnp_calls_splice.specs.Cells.{StandsIn, with_data_words}
use Rattle.capnp_calls_splice.specs.declared.area.Area.{Area}
use Rattle.capnp_calls_splice.proofs.NumbersPut.{low_number, sized_number}
use Rattle.capnp_calls_splice.proofs.data.put_number.Goals as goal

pub returns-then-wide-area-clause-changes : goal.returns-then-wide-area-clause-changes
returns-then-wide-area-clause-changes c = λ f cell st.
    let a = c.args.area in
    low_number c.args.set a f cell c.args.count (a.at + a.data_words - a.at) c.args.words.now c.put.new.slice st c.requires.inside (omega arith) (omega arith) c.put.ensures.words c.put.ensures.len

pub returns-in-Ok-clause-changes : goal.returns-in-Ok-clause-changes
returns-in-Ok-clause-changes c = λ f cell st.
    let a = c.args.area in
    let w : ℕ = c.args.set.word + 1 in
    let k : ℕ = c.count_needed-needed.result in
    let more = c.in_ok-more in
    let put = take a.at c.fit_data.new.words ++ (c.put-2.new.slice ++ drop (a.at + w - a.at) (drop a.at c.fit_data.new.words)) in
    sized_number c.args.set a f cell w (a.at + w - a.at) k more.more c.in-Ok.now (filled c.args.count c.args.words.now) c.fit_data.new.words c.put-2.new.slice put c.fit_data-2.new.words st (omega arith) (omega arith) (omega arith)
    (more.ensures.stands f cell st (wider cell.section (64 * a.data_words) (64 * w) (omega arith) st.section)) more.ensures.within.inside c.put-2.ensures.words c.put-2.ensures.len refl c.count_needed-needed.ensures.needed
    (λ g e. subst (λ (b : Area). StandsIn b g e (filled more.more put) → e.section < 2 ^ (64 * k) → StandsIn (with_data_words b k) g e (filled c.in-Ok.now c.fit_data-2.new.words)) c.with_data_words.ensures (c.in-Ok.ensures.stands g e))
