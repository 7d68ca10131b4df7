use Rattle.std.proofs.Common.{◌≡◌, ◌+◌, ◌-◌, ◌<◌, ◌≤◌, ℕ, suc, List, ◌∙◌, ap, map, length, drop, get_or, arith}
use Rattle.std.proofs.lemmas.List.{length-set}
use Rattle.capnp_records.specs.NodeViews.{field_of}
use Rattle.capnp_records.specs.Tables.{place_from}
use Rattle.capnp_records.specs.declared.node.FieldRecord.{FieldRecord}
use Rattle.capnp_records.proofs.lemmas.FieldPlaces.{table_is, put_member, pass_member}
use Rattle.capnp_records.proofs.tables.members_of.Goals as goal

lower : (left n : ℕ) → left ≤ n → left - 1 ≤ n
lower left n inside = omega arith

one_down : (left n : ℕ) → 0 < left → left ≤ n → left - 1 < n
one_down left n some inside = omega arith

few : (count : ℕ) → count < 65536 → count ≤ 65535
few count fits = omega arith

-- what is there behind, from one place down
behind : (fs : List FieldRecord) (left d p : ℕ) → 0 < left → p ≡ place_from d left (map field_of (drop left fs)) → p ≡ place_from d (suc (left - 1)) (map field_of (drop (suc (left - 1)) fs))
behind fs left d p some is = let next : left ≡ suc (left - 1) = omega arith in is ∙ ap (λ k. place_from d k (map field_of (drop k fs))) next

pub loop-left-preserved-then-member-count : goal.loop-left-preserved-then-member-count
loop-left-preserved-then-member-count c =
    let fs = c.args.fields.now in
    let left = c.loop-left.left in
    let x = c.index-fields-left.result in
    let xs = c.loop-left.members.items in
    let same = ap (λ (f : FieldRecord). f.discriminant_value) c.index-fields-left.is in
    let inside = one_down left (length fs) c.loop-left-test.true c.loop-left.invariant.inside in
    record {
      inside = lower left (length fs) c.loop-left.invariant.inside;
      len = length-set xs (get_or fs (left - 1) x).discriminant_value (left - 1) ∙ c.loop-left.invariant.len;
      places = λ d below.
          put_member fs (left - 1) d (get_or fs (left - 1) x).discriminant_value c.args.count x xs inside c.index-fields-left.is same c.if-member-count.true (few c.args.count c.ranges.count.fits) c.loop-left.invariant.len below
          (behind fs left d (get_or xs d 0) c.loop-left-test.true (c.loop-left.invariant.places d below));
    }

pub loop-left-preserved : goal.loop-left-preserved
loop-left-preserved c =
    let fs = c.args.fields.now in
    let left = c.loop-left.left in
    let x = c.index-fields-left.result in
    let xs = c.loop-left.members.items in
    let same = ap (λ (f : FieldRecord). f.discriminant_value) c.index-fields-left.is in
    let inside = one_down left (length fs) c.loop-left-test.true c.loop-left.invariant.inside in
    record {
      inside = lower left (length fs) c.loop-left.invariant.inside;
      len = c.loop-left.invariant.len;
      places = λ d below.
          behind fs left d (get_or xs d 0) c.loop-left-test.true (c.loop-left.invariant.places d below)
          ∙ pass_member fs (left - 1) d (get_or fs (left - 1) x).discriminant_value c.args.count x inside c.index-fields-left.is same c.if-member-count.false (few c.args.count c.ranges.count.fits) below;
    }

pub returns : goal.returns
returns c =
    let done : c.loop-left.left ≡ 0 = omega (arith, c.loop-left-test.false) in
    table_is (map field_of c.args.fields.now) 0 c.args.count c.loop-left.members.items c.loop-left.invariant.len
    (λ k lt. let from : k ≡ 0 + k = omega arith in c.loop-left.invariant.places k lt ∙ ap (λ i. place_from k i (map field_of (drop i c.args.fields.now))) done ∙ ap (λ j. place_from j 0 (map field_of c.args.fields.now)) from)
