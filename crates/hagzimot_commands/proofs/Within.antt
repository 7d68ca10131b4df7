-- What is read of a canonical copy within limits.
use Rattle.std.proofs.Common.{◌≡◌, ℕ, Some, None, List, ◌++◌, length, take, drop, ap, ◌∙◌, append-nil, arith}
use Rattle.std.proofs.lemmas.List.{drop_all, take_all}
use Rattle.capnp_model.specs.Segments.{Segments, root}
use Rattle.capnp_model.specs.Answers.{value_within}
use Rattle.capnp_units.specs.Limits.{left_of}
use Rattle.capnp_units.specs.declared.errors.Error.{Error}
use Rattle.capnp_units.specs.declared.limiter.ReadLimiter.{ReadLimiter}
use Rattle.capnp_wire_objects.specs.Walks.{Stopped}
use Rattle.capnp_wire_canonical.specs.Reaches.{reach}
use Rattle.capnp_wire_canonical.specs.Copies.{copy_state, copy_visits, Written}
use Rattle.capnp_wire_canonical.specs.Objects.{canonical_copy}
use Rattle.capnp_wire_canonical.proofs.lemmas.Limited.{WalkLaws, written_within, stopped_none}
use Rattle.hagzimot_commands.specs.Answers.{canonical_limits, ReadsValueWithinLimits}
use Rattle.hagzimot_commands.specs.declared.canonical.Canonical.{Canonical}

-- what is written back of a slice of a whole buffer
pub put_back : {X : Type 0} (len : ℕ) (new items : List X) → len ≡ length items → length new ≡ length items → take len (new ++ drop (length new) items) ≡ new
put_back len new items is same =
    ap (λ xs. take len (new ++ xs)) (drop_all (length new) items (omega (arith, same))) ∙ ap (take len) (append-nil new) ∙ take_all len new (omega (arith, is, same))

module _ (laws : WalkLaws) (s : Segments) (c : Canonical) where
  -- a copy that was written
  pub value_read : (l m : ReadLimiter) (old new : List (List ℕ)) (end : ℕ) → left_of l ≡ Some c.words
      → Written (canonical_copy (reach c.nesting s) root) (copy_state old l) end (copy_state new m) → ReadsValueWithinLimits (canonical_limits c) s new end
  value_read l m old new end left w =
      record {
        value = w.what;
        within = written_within laws s c.words c.nesting l m old new end left w;
        words = w.words;
        inside = w.bound;
        few = w.near;
      }

  -- a copy that was stopped
  pub none_read : (l m : ReadLimiter) (e : Error) → left_of l ≡ Some c.words → Stopped (copy_visits c.nesting s root) l e m → value_within (canonical_limits c) s ≡ None
  none_read l m e left stop = stopped_none laws s c.words c.nesting l m e left stop
