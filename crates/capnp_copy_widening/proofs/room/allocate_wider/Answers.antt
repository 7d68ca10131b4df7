use Rattle.std.proofs.Common.{◌≡◌, ℕ, ◌+◌, ◌-◌, List, length, ap, sym, ◌∙◌, subst, rules, arith}
use Rattle.capnp_units.specs.Segments.{words_in}
use Rattle.capnp_model_writes.specs.Writes.{segment_end}
use Rattle.capnp_copy_arenas.proofs.lemmas.Ends.{word_before_end, end_within}
use Rattle.std.proofs.lemmas.Result.{err_from_is_err_and}
use Rattle.std.proofs.lemmas.List.{length-map}
use Rattle.capnp_units.specs.Segments.{whole_words}
use Rattle.capnp_copy_arenas.specs.Allocations.{HasRoom, LastIsFull}
use Rattle.capnp_copy_widening.proofs.room.allocate_wider.Goals.{then-slot-segment+in_default, else-slot-segment+in_default-allocate}
use Rattle.capnp_copy_widening.proofs.room.allocate_wider.Goals as goal

pub overflow_add-offset : goal.overflow_add-offset
overflow_add-offset g c =
    let s = words_in (g.A.ReaderArena.segments c.args.arena.now) in
    let a = c.in-Some.ensures.some.1 in
    omega (arith, word_before_end s c.args.slot.segment c.args.slot.position c.requires.there, end_within s c.args.slot.segment, a.few)

pub overflow_sub-offset : goal.overflow_sub-offset
overflow_sub-offset g c =
    let s = words_in (g.A.ReaderArena.segments c.args.arena.now) in
    let a = c.in-Some.ensures.some.1 in
    let same : c.args.slot.segment ≡ c.args.segment = search rules in
    let e = ap (segment_end s) same in
    omega (arith, word_before_end s c.args.slot.segment c.args.slot.position c.requires.there, a.end, e)

pub returns-in-Some-clause-ok : goal.returns-in-Some-clause-ok
returns-in-Some-clause-ok g c =
    let s = words_in (g.A.ReaderArena.segments c.args.arena.now) in
    let a = c.in-Some.ensures.some.1 in
    let same : c.args.slot.segment ≡ c.args.segment = search rules in
    let e = ap (segment_end s) same in
    let l = word_before_end s c.args.slot.segment c.args.slot.position c.requires.there in
    ((omega (arith, c.requires.few.0), record { among = omega (arith, a.among, same); end = omega (arith, l, a.end, e); few = a.few; now = rw same a.now }), same)

-- the last segment, of an arena that is as it was
last_full : (now old : List (List ℕ)) (free was : List ℕ) (n : ℕ) → now ≡ old → free ≡ was → LastIsFull now free n → HasRoom (words_in old) was (length (words_in old) - 1) n → ⊥
last_full now old free was n same kept full room =
    let before : LastIsFull old was n = subst (λ (bytes : List (List ℕ)). LastIsFull bytes was n) same (subst (λ (xs : List ℕ). LastIsFull now xs n) kept full) in
    before (subst (λ (m : ℕ). HasRoom (words_in old) was (m - 1) n) (length-map old whole_words) room)

pub returns-in_err-segment-clause-full : goal.returns-in_err-segment-clause-full
returns-in_err-segment-clause-full g c =
    let p = err_from_is_err_and c.from_residual.result c.from_residual.ensures.1 in
    let segments = g.A.ReaderArena.segments in
    let free = g.A.BuilderArena.room in
    let old = c.args.arena.now in
    let now = c.if-slot-segment.arena in
    let n = 1 + (c.args.words + c.args.pads) in
    rw p.1 (elim c.if-slot-segment.branch [
      | then-slot-segment+in_default w ↦ (
          let same : c.args.slot.segment ≡ c.args.segment = search rules in
          (λ i. w.in_default.ensures.full, λ other. absurd (other same), last_full (segments now) (segments old) (free now) (free old) n (ap segments w.arena-is ∙ w.in_default.ensures.none) (ap free w.arena-is ∙ w.in_default.ensures.kept) c.in_err-segment.ensures.full)
          )
      | else-slot-segment+in_default-allocate w ↦ (
          let other : c.args.slot.segment ≡ c.args.segment → ⊥ = search rules in
          (λ i. absurd (other i), λ o. w.in_default-allocate.ensures.full, last_full (segments now) (segments old) (free now) (free old) n (ap segments w.arena-is ∙ w.in_default-allocate.ensures.none) (ap free w.arena-is ∙ w.in_default-allocate.ensures.kept) c.in_err-segment.ensures.full)
          )
    ])

pub returns-then-pads-clause-full : goal.returns-then-pads-clause-full
returns-then-pads-clause-full g c =
    let many = c.if-pads.true in
    elim c.if-slot-segment.branch [
      | then-slot-segment+in_default w ↦ (
          let same : c.args.slot.segment ≡ c.args.segment = search rules in
          (λ i. w.in_default.ensures.full, λ other. absurd (other same), λ h. omega (arith, many, h.2))
          )
      | else-slot-segment+in_default-allocate w ↦ (
          let other : c.args.slot.segment ≡ c.args.segment → ⊥ = search rules in
          (λ i. absurd (other i), λ o. w.in_default-allocate.ensures.full, λ h. omega (arith, many, h.2))
          )
    ]
