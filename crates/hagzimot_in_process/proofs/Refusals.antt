-- Walks that are stopped, and copies that find no room.
use Rattle.std.proofs.Common.{arith, ◌≡◌, ◌≢◌, ℕ, ◌+◌, ◌<◌, false, List, [], ◌∷◌, ◌++◌, Option, Some, Result, Ok, Err, ◌⊎◌, inl, inr, ap, sym, ◌∙◌, subst}
use Rattle.capnp_model.specs.Segments.{Segments, Place, root}
use Rattle.capnp_model.specs.Trees.{Tree, has_capability}
use Rattle.capnp_model.specs.Traversal.{tree_at, cost_at}
use Rattle.capnp_model.specs.Messages.{flat_at}
use Rattle.capnp_model.specs.Visits.{Visit, visits, visits_cost}
use Rattle.capnp_model.proofs.lemmas.Chaining.{bind_some, some_is}
use Rattle.capnp_units.specs.Limits.{left_of}
use Rattle.capnp_units.specs.declared.errors.Error.{Error}
use Rattle.capnp_units.specs.declared.kinds.ErrorKind.TheVariants.{BufferNotLargeEnough}
use Rattle.capnp_units.specs.declared.limiter.ReadLimiter.{ReadLimiter}
use Rattle.capnp_wire_objects.specs.Walks.{Stopped, CannotPass}
use Rattle.capnp_wire_canonical.specs.Reaches.{reach}
use Rattle.capnp_wire_canonical.specs.Copies.{CopyState, copy_visits, Filled, Unwritten, room_of}
use Rattle.capnp_wire_canonical.specs.Objects.{canonical_copy}
use Rattle.hagzimot_in_process.specs.declared.frames.Limits.{Limits}
use Rattle.hagzimot_in_process.specs.declared.frames.FrameFault.{FrameFault}
use Rattle.hagzimot_in_process.specs.Frames.{IsBeyond, HasNoForm}

pub err_is : (e f : FrameFault) → ◌≡◌ {A = Result ℕ FrameFault} (Err e) (Err f) → e ≡ f
err_is e f is = cc

-- The rest of a path costs what is left of the cost of all.
cost_of_rest : (a b : List Visit) (c : ℕ) → visits_cost (a ++ b) ≡ Some c → (m : ℕ) → visits_cost a ≡ Some m → (k : ℕ) × (visits_cost b ≡ Some k) × (c ≡ m + k)
cost_of_rest [] b c e m h = let none : 0 ≡ m = some_is _ _ h in (c, e, let same : c ≡ m + c = omega (arith, none) in same)
cost_of_rest (Err kind ∷ a) b c e m h = absurd cc
cost_of_rest (Ok n ∷ a) b c e m h =
    let x = bind_some (visits_cost a) _ m h in
    let y = bind_some (visits_cost (a ++ b)) _ c e in
    let r = cost_of_rest a b y.0 y.1 x.0 x.1 in
    let p = some_is _ _ x.2 in
    let q = some_is _ _ y.2 in
    (r.0, r.1, let same : c ≡ m + r.0 = omega (arith, p, q, r.2) in same)

-- A walk without a fault that is stopped costs more than was left.
stopped_late : (a rest : List Visit) (last : Visit) (c m : ℕ) (left : ℕ) (e : Error) → visits_cost (a ++ last ∷ rest) ≡ Some c → visits_cost a ≡ Some m → CannotPass (Some left) m last e.kind → left < c
stopped_late a rest (Err kind) c m left e all paid why = let r = cost_of_rest a (Err kind ∷ rest) c all m paid in absurd (cc r.1)
stopped_late a rest (Ok n) c m left e all paid why =
    let r = cost_of_rest a (Ok n ∷ rest) c all m paid in
    let x = bind_some (visits_cost rest) _ r.0 r.1 in
    let p = some_is _ _ x.2 in
    let past : left < m + n = why.1 in
    omega (arith, r.2, p, past)

-- What walks over values cost, and that copies of values without capabilities are such walks, as the laws have it.
abbrev pub Costs : Type 0
Costs = (n : ℕ) (s : Segments) (p : Place) (t : Tree) → tree_at n s p ≡ Some t → visits_cost (visits n s p) ≡ Some (cost_at n s p)

abbrev pub Copies : Type 0
Copies = (n : ℕ) (s : Segments) (p : Place) (t : Tree) → tree_at n s p ≡ Some t → has_capability t ≡ false → copy_visits n s p ≡ visits n s p

module _ (costs : Costs) (limits : Limits) (bytes rest : List ℕ) (s : Segments) (begins : flat_at (Some limits.words) bytes ≡ Ok (s, rest)) (old : ReadLimiter) (fresh : left_of old ≡ Some limits.words) where
  -- A value over which a walk is stopped costs more than the limit.
  dear : (t : Tree) (e : Error) (new : ReadLimiter) → tree_at limits.levels s root ≡ Some t → Stopped (visits limits.levels s root) old e new → limits.words < cost_at limits.levels s root
  dear t e new there stop =
      let P : Option ℕ → Type 0 = λ left. CannotPass left stop.paid stop.last e.kind in
      stopped_late stop.before stop.behind stop.last (cost_at limits.levels s root) stop.paid limits.words e (ap visits_cost (sym stop.path_is) ∙ costs limits.levels s root t there) stop.cost_is (subst P fresh stop.why)

  pub beyond_of : (e : Error) (new : ReadLimiter) → Stopped (visits limits.levels s root) old e new → IsBeyond limits bytes
  beyond_of e new stop = record { segments = s; begins = (rest, begins); beyond = λ t there. dear t e new there stop }

  module _ (copies : Copies) (words : List (List ℕ)) where
    stopped_copy : (e : Error) (new : ReadLimiter) → Stopped (copy_visits limits.levels s root) old e new → (t : Tree) → tree_at limits.levels s root ≡ Some t → has_capability t ≡ false → limits.words < cost_at limits.levels s root
    stopped_copy e new stop t there clean =
        let P : List Visit → Type 0 = λ path. Stopped path old e new in
        dear t e new there (subst P (copies limits.levels s root t there clean) stop)

    -- A copy that is refused, and not for want of room, is of no value within the limits.
    pub no_form_of : (e : Error) (new : CopyState) → e.kind ≢ BufferNotLargeEnough → Unwritten (canonical_copy (reach limits.levels s) root) (record { words = words; limiter = old }) e new → HasNoForm limits bytes
    no_form_of e new other h = record { segments = s; begins = (rest, begins); beyond = by h.halted.why }
      where
        by : Stopped (copy_visits limits.levels s root) old e new.limiter ⊎ Filled (copy_visits limits.levels s root) (room_of words) 1 old e new.limiter → (t : Tree) → tree_at limits.levels s root ≡ Some t → has_capability t ≡ false → limits.words < cost_at limits.levels s root
        by (inl stop) = stopped_copy e new.limiter stop
        by (inr full) = absurd (other full.why)
