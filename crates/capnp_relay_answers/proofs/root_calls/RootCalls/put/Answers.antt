use Rattle.std.proofs.Common.{sym, subst}
use Rattle.std.proofs.Math.Logic.{∥∥₁_elim}
use Rattle.capnp_calls_in_place.specs.PlainSets.{ArePlain}
use Rattle.capnp_relay_answers.specs.RootCalls.{root_schema, root_calls}
use Rattle.capnp_relay_answers.proofs.Fronts.{SetsKnownFront-prop, told-prop, told_known, put_front}
use Rattle.capnp_relay_answers.proofs.root_calls.RootCalls.put.Goals as goal

pub returns-then-put_sets-clause-told : goal.returns-then-put_sets-clause-told
returns-then-put_sets-clause-told c =
    let schema = root_schema c.args.self.now in
    let calls = root_calls c.args.self.now in
    let items = c.args.words.now.items in
    ∥∥₁_elim c.args.self.now.known (SetsKnownFront-prop schema calls c.args.count items _ c.args.count) (λ known.
    let here = rw c.in-Plain.is at known in
    let plain = subst (ArePlain schema calls) (sym c.deref-in-Plain.ensures.value) here.0 in
    put_front schema calls c.args.count c.args.words.now.len items c.as_mut_slice.result.now c.put_sets.new.words c.as_mut_slice.ensures.value c.args.words.now.ok.0 c.put_sets.ensures.len c.requires
    (λ t fits again same. c.put_sets.ensures.sets schema calls t c.if-put_sets.true plain fits again same))

pub returns-then-root_words-wanted-clause-told : goal.returns-then-root_words-wanted-clause-told
returns-then-root_words-wanted-clause-told c =
    let schema = root_schema c.args.self.now in
    let old = c.args.words.now.items in
    let new = c.put_splices.new.words.items in
    ∥∥₁_elim c.args.self.now.known (told-prop schema (root_calls c.args.self.now) c.args.count old new c.put_splices.result) (λ known.
    let here = rw c.in-Plain.is at known in
    told_known schema c.args.self.now.calls.items c.deref-then-root_words-wanted.result.now c.args.count old new c.put_splices.result c.deref-then-root_words-wanted.ensures.value here.1 c.put_splices.ensures.told)

pub returns-in-Spliced-clause-told : goal.returns-in-Spliced-clause-told
returns-in-Spliced-clause-told c =
    let schema = root_schema c.args.self.now in
    let old = c.args.words.now.items in
    let new = c.put_splices-in-Spliced.new.words.items in
    ∥∥₁_elim c.args.self.now.known (told-prop schema (root_calls c.args.self.now) c.args.count old new c.put_splices-in-Spliced.result) (λ known.
    let here = rw c.in-Spliced.is at known in
    told_known schema c.args.self.now.calls.items c.deref-in-Spliced.result.now c.args.count old new c.put_splices-in-Spliced.result c.deref-in-Spliced.ensures.value here c.put_splices-in-Spliced.ensures.told)
