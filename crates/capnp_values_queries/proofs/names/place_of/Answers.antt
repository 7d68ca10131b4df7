use Rattle.std.proofs.Common.{◌+◌, ◌-◌, ◌/◌, ◌<◌, ◌≤◌, ℕ, Less, Equal, Greater, map, length, get_or, arith}
use Rattle.capnp_records.specs.NodeViews.{field_of}
use Rattle.capnp_records.proofs.lemmas.FieldPlaces.{length_mapped}
use Rattle.capnp_values_queries.proofs.NameSearch.{place_inside, rank_there, below_middle, above_middle, halved, some_compared, found_there, found_nowhere, nothing_left}
use Rattle.capnp_values_queries.proofs.names.place_of.Goals as goal

in_range : (low high n : ℕ) → low < high → high ≤ n → low + (high - low) / 2 < n
in_range low high n some inside = omega arith

pub loop-low-preserved-in-Less : goal.loop-low-preserved-in-Less
loop-low-preserved-in-Less c =
    let fields = c.args.fields.now in
    let places = c.args.by_name.now in
    let name = c.args.name.now in
    let low = c.loop-low.low in
    let high = c.loop-low.high in
    let some = c.loop-low-test.true in
    let lower = in_range low high (length places) some c.loop-low.invariant.inside in
    let compared = c.compare.ensures.count in
    record {
      order = omega (arith, some);
      inside = c.loop-low.invariant.inside;
      below = below_middle (map field_of fields) name places (low + (high - low) / 2) c.requires.by_name lower
          (rank_there fields places (low + (high - low) / 2) c.index-fields-place.result c.deref.result.now name Less c.requires.by_name lower c.index-fields-place.is c.deref.ensures c.in-Less.ensures.ordering);
      above = c.loop-low.invariant.above;
      few = λ digits fits. halved (high - low) (high - (low + (high - low) / 2 + 1)) c.loop-low.names.count c.compare.new.self.count digits (omega (arith, some)) (c.loop-low.invariant.few digits fits) (omega (arith, some)) (omega (arith, compared));
      begun = λ none. absurd (omega (arith, none, compared));
    }

pub returns-in-Equal-clause-place : goal.returns-in-Equal-clause-place
returns-in-Equal-clause-place c =
    let fields = c.args.fields.now in
    let places = c.args.by_name.now in
    let name = c.args.name.now in
    let middle = c.loop-low.low + (c.loop-low.high - c.loop-low.low) / 2 in
    let lower = in_range c.loop-low.low c.loop-low.high (length places) c.loop-low-test.true c.loop-low.invariant.inside in
    found_there (map field_of fields) name (get_or places middle 0) (place_inside fields places middle c.requires.by_name lower)
    (rank_there fields places middle c.index-fields-place.result c.deref.result.now name Equal c.requires.by_name lower c.index-fields-place.is c.deref.ensures c.in-Equal.ensures.ordering)
    c.requires.distinct

pub loop-low-preserved : goal.loop-low-preserved
loop-low-preserved c =
    let fields = c.args.fields.now in
    let places = c.args.by_name.now in
    let name = c.args.name.now in
    let low = c.loop-low.low in
    let high = c.loop-low.high in
    let some = c.loop-low-test.true in
    let inside = c.loop-low.invariant.inside in
    let lower = in_range low high (length places) some inside in
    let compared = c.compare.ensures.count in
    record {
      order = omega arith;
      inside = omega (arith, lower);
      below = c.loop-low.invariant.below;
      above = above_middle (map field_of fields) name places (low + (high - low) / 2) c.requires.by_name
          (rank_there fields places (low + (high - low) / 2) c.index-fields-place.result c.deref.result.now name Greater c.requires.by_name lower c.index-fields-place.is c.deref.ensures c.in-Greater.ensures.ordering);
      few = λ digits fits. halved (high - low) (low + (high - low) / 2 - low) c.loop-low.names.count c.compare.new.self.count digits (omega (arith, some)) (c.loop-low.invariant.few digits fits) (omega (arith, some)) (omega (arith, compared));
      begun = λ none. absurd (omega (arith, none, compared));
    }

pub returns-clause-place : goal.returns-clause-place
returns-clause-place c =
    let fs = map field_of c.args.fields.now in
    found_nowhere fs c.args.name.now c.args.by_name.now c.requires.by_name
    (nothing_left fs c.args.name.now c.args.by_name.now c.loop-low.low c.loop-low.high c.loop-low-test.false c.loop-low.invariant.below c.loop-low.invariant.above)

pub returns-clause-some : goal.returns-clause-some
returns-clause-some c some =
    let long = length_mapped field_of c.args.fields.now in
    let more = some_compared c.loop-low.names.count c.loop-low.low c.loop-low.high (length c.args.by_name.now) (length (map field_of c.args.fields.now))
    c.loop-low.invariant.begun c.loop-low-test.false c.requires.by_name.count (omega (arith, long, some)) in
    let told = c.count-2.ensures in
    omega (arith, more, told)
