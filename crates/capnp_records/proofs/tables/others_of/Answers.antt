use Rattle.std.proofs.Common.{◌≡◌, ◌==◌, ◌+◌, ◌<◌, ℕ, suc, Bool, true, false, if◌then◌else◌, List, [], ◌∷◌, ◌++◌, map, length, drop, get_or, append_assoc, sym, ◌∙◌, ap, arith}
use Rattle.capnp_model.proofs.lemmas.Tests.{same_number, number_is, never_true}
use Rattle.capnp_records.specs.NodeViews.{field_of}
use Rattle.capnp_records.specs.Tables.{others_from}
use Rattle.capnp_records.specs.declared.node.FieldRecord.{FieldRecord}
use Rattle.capnp_records.proofs.lemmas.FieldPlaces.{next_other}
use Rattle.capnp_records.proofs.OneMore.{none_more}
use Rattle.capnp_records.proofs.tables.others_of.Goals as goal
use Rattle.capnp_records.proofs.tables.others_of.Goals.{then-fields-i+in_ok-push, else-fields-i}

-- a field that is no member is put behind the others, another is passed over
one_more : (fs : List FieldRecord) (i : ℕ) (x : FieldRecord) (now new all : List ℕ) (b : Bool) → i < length fs → x ≡ get_or fs i x → (x.discriminant_value == 65535) ≡ b → new ≡ now ++ (if b then i ∷ [] else [])
    → now ++ others_from i (map field_of (drop i fs)) ≡ all → new ++ others_from (i + 1) (map field_of (drop (i + 1) fs)) ≡ all
one_more fs i x now new all b lt e is put before =
    let next : i + 1 ≡ suc i = omega arith in
    ap (λ k. new ++ others_from k (map field_of (drop k fs))) next
    ∙ ap (λ ys. ys ++ rest) put
    ∙ joined b
    ∙ ap (λ ys. now ++ ys) (sym (next_other fs i x b lt e is))
    ∙ before
  where
    rest : List ℕ
    rest = others_from (suc i) (map field_of (drop (suc i) fs))

    joined : (t : Bool) → (now ++ (if t then i ∷ [] else [])) ++ rest ≡ now ++ (if t then i ∷ rest else rest)
    joined true = append_assoc now (i ∷ []) rest
    joined false = append_assoc now [] rest

none : (d v : ℕ) → d ≡ v → v ≡ 65535 → (d == 65535) ≡ true
none d v e is = ap (λ k. k == 65535) (e ∙ is) ∙ number_is 65535

some : (d v : ℕ) → d ≡ v → (v ≡ 65535 → ⊥) → (d == 65535) ≡ false
some d v e other = never_true (d == 65535) (λ t. other (sym e ∙ same_number d 65535 t))

pub loop-i-preserved : goal.loop-i-preserved
loop-i-preserved c =
    let fs = c.args.fields.now in
    let i = c.loop-i.i in
    let x = c.index-fields-i.result in
    let now = c.loop-i.others.items in
    let all : List ℕ = others_from 0 (map field_of fs) in
    let same = ap (λ (f : FieldRecord). f.discriminant_value) c.index-fields-i.is in
    elim c.if-fields-i.branch [
      | then-fields-i+in_ok-push w ↦
          one_more fs i x now c.if-fields-i.others.items all true c.loop-i-test.true c.index-fields-i.is (none x.discriminant_value _ same w.if-fields-i.true) (ap (λ v. v.items) w.others-is ∙ w.in_ok-push.ensures.items) c.loop-i.invariant
      | else-fields-i w ↦
          one_more fs i x now c.if-fields-i.others.items all false c.loop-i-test.true c.index-fields-i.is (some x.discriminant_value _ same w.if-fields-i.false) (ap (λ v. v.items) w.others-is ∙ none_more now) c.loop-i.invariant
    ]
