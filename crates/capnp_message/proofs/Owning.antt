-- Canonical words that are owned.
use Rattle.std.proofs.Common.{◌≡◌, ◌≤◌, ◌<◌, Bool, true, false, not, Err, inl, inr, append-nil, [], ℕ, List, ◌++◌, length, take, Option, Some, Ok, Vec, ap, sym, ◌∙◌, arith}
use Rattle.std.specs.declared.alloc.Global.{Global}
use Rattle.std.specs.Int.{from_le_bytes, w64}
use Rattle.std.proofs.lemmas.List.{take-map, take_at, length-map, length-take}
use Rattle.capnp_model.specs.Segments.{Segments, root}
use Rattle.capnp_units.specs.declared.limiter.ReadLimiter.{ReadLimiter}
use Rattle.capnp_wire_canonical.specs.Reaches.{reach}
use Rattle.capnp_wire_canonical.specs.Objects.{canonical_copy}
use Rattle.capnp_wire_canonical.specs.Writes.{words_view}
use Rattle.std.specs.Bool.{OnTrue, OnFalse}
use Rattle.capnp_units.specs.declared.errors.Error.{Error}
use Rattle.capnp_units.specs.declared.kinds.ErrorKind.TheVariants.{BufferNotLargeEnough}
use Rattle.capnp_wire_canonical.specs.Copies.{copy_state, copy_visits, WritesCopy}
use Rattle.capnp_message.specs.Canonical.{GivesCanonical, CostsWithin, TellsWhole, most_cost}

-- the words that were written are those that stay
pub given : (n count room : ℕ) (o limit : Option ℕ) (s : Segments) (old new rest : List (List ℕ)) (l m : ReadLimiter) (v : Vec (List ℕ) Global) → o ≡ Some n → WritesCopy (canonical_copy (reach n s) root) (copy_state old l) (Ok count) (copy_state new m) → length old ≡ room → v.items ≡ take count (take room (new ++ rest)) → GivesCanonical o limit s l (Ok v) m
given n count room o limit s old new rest l m v e w whole is =
    let all : take room (new ++ rest) ≡ new = take_at new rest room (w.behind.0 ∙ whole) in
    let words : v.items ≡ take count new = is ∙ ap (take count) all in
    rw e (record { value = w.what; there = w.there_is; clean = w.clean; words_are = ap (λ (ws : List (List ℕ)). words_view ws) words ∙ sym (take-map (from_le_bytes w64) count new) ∙ w.words; few = omega (arith, w.near, length-map v.items (from_le_bytes w64), ap length words, length-take count new); walked = w.walked })

-- all that is followed is within the most
pub within_given : (n count : ℕ) (o limit : Option ℕ) (s : Segments) (old new : List (List ℕ)) (l m : ReadLimiter) (b : Bool) → o ≡ Some n → WritesCopy (canonical_copy (reach n s) root) (copy_state old l) (Ok count) (copy_state new m) → TellsWhole (copy_visits n s root) (most_cost limit) b → not b ≡ false → CostsWithin o limit s
within_given n count o limit s old new l m b e w whole all = (n, w.cost, e, w.cost_is, on_true b (w.cost ≤ most_cost limit) all (whole w.cost w.cost_is).0)
  where
    on_true : (x : Bool) (P : Type 0) → not x ≡ false → OnTrue x P → P
    on_true true P is holds = holds
    on_true false P is holds = absurd cc

-- it costs more
pub too_long : (n count : ℕ) (o limit : Option ℕ) (s : Segments) (old new : List (List ℕ)) (l m : ReadLimiter) (b : Bool) (why : Error) → o ≡ Some n → WritesCopy (canonical_copy (reach n s) root) (copy_state old l) (Ok count) (copy_state new m) → TellsWhole (copy_visits n s root) (most_cost limit) b → not b ≡ true → why.kind ≡ BufferNotLargeEnough → GivesCanonical o limit s l (Err why) m
too_long n count o limit s old new l m b why e w whole part kind = rw e (inr (inl (record {
  before = copy_visits n s root;
  rest = [];
  path_is = sym (append-nil (copy_visits n s root));
  cost = w.cost;
  cost_is = w.cost_is;
  walked = w.walked;
  why = kind;
  long = on_false b (most_cost limit < w.cost) part (whole w.cost w.cost_is).1;
})))
  where
    on_false : (x : Bool) (P : Type 0) → not x ≡ true → OnFalse x P → P
    on_false true P is holds = absurd cc
    on_false false P is holds = holds
