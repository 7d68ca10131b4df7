use Rattle.std.proofs.Common.{◌≡◌, ℕ, ◌+◌, ◌<◌, ◌≤◌, Bool, false, List, [], ◌∷◌, ◌++◌, map, length, take, drop, get_or, sym, ◌∙◌, ap, subst}
use Rattle.capnp_model.specs.Schemas.{Shape}
use Rattle.capnp_model.specs.Accepted.{Area as ModelArea, union_place, union_area, shape_in}
use Rattle.capnp_records.specs.declared.area.Area.{Area}
use Rattle.capnp_records.specs.declared.node.FieldRecord.{FieldRecord}
use Rattle.capnp_records.specs.Listed.{listed}
use Rattle.capnp_records.specs.NodeViews.{field_of, struct_of}
use Rattle.capnp_records.specs.Storage.{areas_seen}
use Rattle.capnp_records.specs.Claims.{claim_in, claims_in}
use Rattle.capnp_records.specs.Marks.{AllowsAll, HasMarkAbove, MarksAreas, most_mark, level_mark}
use Rattle.capnp_records.proofs.Forward.{forward}
use Rattle.capnp_records.proofs.Marked.{clash}
use Rattle.capnp_records.proofs.Claimed.{IsWalked, begun, all_allowed, walked_on, walked_out, next_is, grown, map_twice, none_left}
use Rattle.capnp_records.proofs.overlap.are_claims_apart.Goals as goal

pub loop-field-init : goal.loop-field-init
loop-field-init c =
    let g : ℕ → Shape = λ id. shape_in (listed c.args.nodes) c.args.levels id in
    let f : FieldRecord → Bool × List ModelArea = λ y. claim_in g (field_of y) in
    let fs = c.args.holder.now.fields.items in
    let all : List (Bool × List ModelArea) = claims_in g (struct_of c.args.holder.now) in
    let d : Bool × List ModelArea = (false, union_area (union_place (struct_of c.args.holder.now))) in
    let here : areas_seen c.push_union_area.new.areas.items ≡ d.1 = c.in_ok-push_union_area.ensures ∙ ap (λ (as' : List Area). areas_seen as' ++ d.1) c.new-areas.ensures.items in
    let put : MarksAreas c.new-marks.result c.put_all.new.marks (areas_seen c.deref.result.now) c.level_mark.result = c.in_ok-put_all.ensures in
    let put_level : MarksAreas c.new-marks.result c.put_all.new.marks (areas_seen c.deref.result.now) (level_mark false) = subst (λ (n : ℕ). MarksAreas c.new-marks.result c.put_all.new.marks (areas_seen c.deref.result.now) n) c.level_mark.ensures put in
    let p : MarksAreas c.new-marks.result c.put_all.new.marks (areas_seen c.push_union_area.new.areas.items) (level_mark false) = subst (λ (as' : List Area). MarksAreas c.new-marks.result c.put_all.new.marks (areas_seen as') (level_mark false)) c.deref.ensures.value put_level in
    let walked : IsWalked c.new-marks.result [] (d ∷ map f fs) all = subst (λ (rest : List (Bool × List ModelArea)). IsWalked c.new-marks.result [] (d ∷ rest) all) (map_twice (claim_in g) field_of fs) (begun c.new-marks.result all c.new-marks.ensures) in
    walked_on c.new-marks.result [] (map f fs) all d c.push_union_area.new.areas.items here walked c.put_all.new.marks (all_allowed c.new-marks.result (areas_seen c.push_union_area.new.areas.items) 0 c.new-marks.ensures) p

pub returns-then-not-allows_all : goal.returns-then-not-allows_all
returns-then-not-allows_all c =
    let g : ℕ → Shape = λ id. shape_in (listed c.args.nodes) c.args.levels id in
    let f : FieldRecord → Bool × List ModelArea = λ y. claim_in g (field_of y) in
    let fs = c.args.holder.now.fields.items in
    let all : List (Bool × List ModelArea) = claims_in g (struct_of c.args.holder.now) in
    let d : Bool × List ModelArea = (false, union_area (union_place (struct_of c.args.holder.now))) in
    let i = c.loop-field.field-index in
    let x = c.field-item.result in
    let same = c.deref-field-items.ensures.value in
    let lt : i < length fs = subst (λ (ys : List FieldRecord). i < length ys) same c.loop-field-test.true in
    let is : x ≡ get_or fs i x = c.field-item.is ∙ ap (λ (ys : List FieldRecord). get_or ys i x) same in
    let here : areas_seen c.push_areas_of_body.new.areas.items ≡ (f x).1 = c.in_ok-push_areas_of_body.ensures ∙ ap (λ (as' : List Area). areas_seen as' ++ (f x).1) c.clear.ensures.items in
    let walked : IsWalked c.loop-field.marks (d ∷ map f (take i fs)) (f x ∷ map f (drop (i + 1) fs)) all = subst (λ (rest : List (Bool × List ModelArea)). IsWalked c.loop-field.marks (d ∷ map f (take i fs)) rest all) (next_is f fs i x lt is) c.loop-field.invariant in
    let r : HasMarkAbove c.loop-field.marks (areas_seen c.push_areas_of_body.new.areas.items) (most_mark (f x).0) = rw (c.deref-in-loop-field.ensures.value, c.most_mark.ensures, c.is_member-member.ensures) at c.if-not-allows_all.ensures in
    walked_out c.loop-field.marks (d ∷ map f (take i fs)) (map f (drop (i + 1) fs)) all (f x) c.push_areas_of_body.new.areas.items here walked r

pub loop-field-preserved : goal.loop-field-preserved
loop-field-preserved c =
    let g : ℕ → Shape = λ id. shape_in (listed c.args.nodes) c.args.levels id in
    let f : FieldRecord → Bool × List ModelArea = λ y. claim_in g (field_of y) in
    let fs = c.args.holder.now.fields.items in
    let all : List (Bool × List ModelArea) = claims_in g (struct_of c.args.holder.now) in
    let d : Bool × List ModelArea = (false, union_area (union_place (struct_of c.args.holder.now))) in
    let i = c.loop-field.field-index in
    let x = c.field-item.result in
    let same = c.deref-field-items.ensures.value in
    let lt : i < length fs = subst (λ (ys : List FieldRecord). i < length ys) same c.loop-field-test.true in
    let is : x ≡ get_or fs i x = c.field-item.is ∙ ap (λ (ys : List FieldRecord). get_or ys i x) same in
    let here : areas_seen c.push_areas_of_body.new.areas.items ≡ (f x).1 = c.in_ok-push_areas_of_body.ensures ∙ ap (λ (as' : List Area). areas_seen as' ++ (f x).1) c.clear.ensures.items in
    let walked : IsWalked c.loop-field.marks (d ∷ map f (take i fs)) (f x ∷ map f (drop (i + 1) fs)) all = subst (λ (rest : List (Bool × List ModelArea)). IsWalked c.loop-field.marks (d ∷ map f (take i fs)) rest all) (next_is f fs i x lt is) c.loop-field.invariant in
    let a : AllowsAll c.loop-field.marks (areas_seen c.push_areas_of_body.new.areas.items) (most_mark (f x).0) = rw (c.deref-in-loop-field.ensures.value, c.most_mark.ensures, c.is_member-member.ensures) at c.if-not-allows_all.ensures in
    let m = c.loop-field.marks in
    let n = c.put_all-in-loop-field.new.marks in
    let put : MarksAreas m n (areas_seen c.deref-in-loop-field-2.result.now) c.level_mark-in-loop-field.result = c.in_ok-put_all-2.ensures in
    let put_level : MarksAreas m n (areas_seen c.deref-in-loop-field-2.result.now) (level_mark (f x).0) = subst (λ (k : ℕ). MarksAreas m n (areas_seen c.deref-in-loop-field-2.result.now) k) (c.level_mark-in-loop-field.ensures ∙ ap level_mark c.is_member-member.ensures) put in
    let p : MarksAreas m n (areas_seen c.push_areas_of_body.new.areas.items) (level_mark (f x).0) = subst (λ (as' : List Area). MarksAreas m n (areas_seen as') (level_mark (f x).0)) c.deref-in-loop-field-2.ensures.value put_level in
    subst (λ (done : List (Bool × List ModelArea)). IsWalked n (d ∷ done) (map f (drop (i + 1) fs)) all) (grown f fs i x lt is)
    (walked_on m (d ∷ map f (take i fs)) (map f (drop (i + 1) fs)) all (f x) c.push_areas_of_body.new.areas.items here walked n a p)

pub returns : goal.returns
returns c =
    let g : ℕ → Shape = λ id. shape_in (listed c.args.nodes) c.args.levels id in
    let f : FieldRecord → Bool × List ModelArea = λ y. claim_in g (field_of y) in
    let fs = c.args.holder.now.fields.items in
    let all : List (Bool × List ModelArea) = claims_in g (struct_of c.args.holder.now) in
    let d : Bool × List ModelArea = (false, union_area (union_place (struct_of c.args.holder.now))) in
    let i = c.loop-field.field-index in
    let done : List (Bool × List ModelArea) = d ∷ map f (take i fs) in
    let over : length fs ≤ i = subst (λ (ys : List FieldRecord). length ys ≤ i) c.deref-field-items.ensures.value c.loop-field-test.false in
    sym (ap (forward clash done) (none_left f fs i over)) ∙ c.loop-field.invariant.decides
