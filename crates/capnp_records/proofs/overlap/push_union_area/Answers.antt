use Rattle.std.proofs.Common.{◌≡◌, ◌==◌, ◌*◌, ℕ, Bool, true, false, Some, None, if◌then◌else◌, List, [], ◌∷◌, ◌++◌, refl, sym, ◌∙◌, ap}
use Rattle.std.proofs.lemmas.Grind.{flat_map-append}
use Rattle.capnp_model.specs.Accepted.{Area as ModelArea, bit_area, union_area}
use Rattle.capnp_model.proofs.lemmas.Tests.{same_number}
use Rattle.capnp_records.specs.Storage.{areas_in, areas_seen}
use Rattle.capnp_records.specs.declared.area.Area.{Area}
use Rattle.capnp_records.proofs.OneMore.{none_more}
use Rattle.capnp_records.proofs.overlap.push_union_area.Goals as goal

-- the area of a discriminant, where there is a union and where there is none
with_union : (count offset : ℕ) → (count ≡ 0 → ⊥) → bit_area (16 * offset) 16 ∷ [] ≡ union_area (if count == 0 then None else Some (16 * offset))
with_union count offset some = by (count == 0) refl
  where
    by : (b : Bool) → (count == 0) ≡ b → bit_area (16 * offset) 16 ∷ [] ≡ union_area (if b then None else Some (16 * offset))
    by true e = absurd (some (same_number count 0 e))
    by false e = refl

no_union : (count offset : ℕ) → count ≡ 0 → [] ≡ union_area (if count == 0 then None else Some (16 * offset))
no_union count offset none = sym (ap (λ k. union_area (if k == 0 then None else Some (16 * offset))) none)

-- one area more
put_behind : (old new : List Area) (area : Area) (xs : List ModelArea) → new ≡ old ++ area ∷ [] → areas_seen (area ∷ []) ≡ xs → areas_seen new ≡ areas_seen old ++ xs
put_behind old new area xs put is = ap areas_seen put ∙ flat_map-append areas_in old (area ∷ []) ∙ ap (λ ys. areas_seen old ++ ys) is

pub returns-in_ok-push : goal.returns-in_ok-push
returns-in_ok-push c =
    let s = c.args.holder.now in
    put_behind c.args.areas.now.items c.push.new.self.items _ (union_area (if s.discriminant_count == 0 then None else Some (16 * s.discriminant_offset))) c.in_ok-push.ensures.items
    (with_union s.discriminant_count s.discriminant_offset c.if-holder-ne0.true)

pub returns-else-holder-ne0 : goal.returns-else-holder-ne0
returns-else-holder-ne0 c =
    let s = c.args.holder.now in
    let old : List ModelArea = areas_seen c.args.areas.now.items in
    none_more old ∙ ap (λ (xs : List ModelArea). old ++ xs) (no_union s.discriminant_count s.discriminant_offset c.if-holder-ne0.false)
