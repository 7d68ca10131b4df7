-- Texts that are written one behind the other.
use Rattle.std.proofs.Common.{arith, decimal, ◌≡◌, ℕ, ◌+◌, ◌<◌, List, ◌++◌, length, length-append, sym, ◌∙◌, subst, Result, Ok, Err, Option, Some, None}
use Rattle.std.specs.Prelude.{IsSomeAnd}
use Rattle.std.proofs.KnownBytes.{Appends-trans}
use Rattle.capnp_units.specs.declared.errors.Error.{Error}
use Rattle.capnp_units.specs.declared.kinds.ErrorKind.{ErrorKind}
use Rattle.capnp_units.specs.declared.kinds.ErrorKind.TheVariants.{OutOfMemory, BufferNotLargeEnough, Device}
use Rattle.capnp_stream_io.specs.Counting.{KindCounts}
use Rattle.capnp_stream_io.specs.Streams.{RoomFalls, IsWriteRefusal}
use Rattle.capnp_stream_io.specs.Writes.{SinkSeen, Writes}
use Rattle.capnp_stream_io.proofs.lemmas.KnownLemmas.{AppendsPart-more, AppendsPart-next}

falls_twice : (a b c : Option ℕ) (m n k : ℕ) → k ≡ m + n → RoomFalls a b m → RoomFalls b c n → RoomFalls a c k
falls_twice None b c m n k e p q = rw p at q
falls_twice (Some x) None c m n k e p q = absurd p
falls_twice (Some x) (Some y) None m n k e p q = absurd q
falls_twice (Some x) (Some y) (Some z) m n k e p q = omega (arith, e, p, q)

small_behind : (a b : Option ℕ) (m n k : ℕ) → k ≡ m + n → RoomFalls a b m → IsSomeAnd b (λ left. left < n) → IsSomeAnd a (λ left. left < k)
small_behind None b m n k e p q = rw p at q
small_behind (Some x) None m n k e p q = absurd q
small_behind (Some x) (Some y) m n k e p q = omega (arith, e, p, q)

small_more : (a : Option ℕ) (m n k : ℕ) → k ≡ m + n → IsSomeAnd a (λ left. left < m) → IsSomeAnd a (λ left. left < k)
small_more None m n k e q = q
small_more (Some x) m n k e q = omega (arith, e, q)

refused_behind : (g : Type 0) (a b : Option ℕ) (m n k : ℕ) (kind : ErrorKind) → k ≡ m + n → RoomFalls a b m → IsWriteRefusal g b n kind → IsWriteRefusal g a k kind
refused_behind g a b m n k Device e p q = q
refused_behind g a b m n k OutOfMemory e p q = q
refused_behind g a b m n k BufferNotLargeEnough e p q = small_behind a b m n k e p q
refused_behind g a b m n k _ e p q = absurd q

refused_more : (g : Type 0) (a : Option ℕ) (m n k : ℕ) (kind : ErrorKind) → k ≡ m + n → IsWriteRefusal g a m kind → IsWriteRefusal g a k kind
refused_more g a m n k Device e q = q
refused_more g a m n k OutOfMemory e q = q
refused_more g a m n k BufferNotLargeEnough e q = small_more a m n k e q
refused_more g a m n k _ e q = absurd q

pub written_behind : (g : Type 0) (a b : List ℕ) (s t u : SinkSeen) (done : Unit {0}) (r : Result (Unit {0}) Error) → Writes g a s (Ok done) t → Writes g b t r u → Writes g (a ++ b) s r u
written_behind g a b s t u done (Ok x) first second = record {
  ok = Appends-trans s.contents t.contents u.contents a b first.ok second.ok;
  falls = falls_twice s.room t.room u.room (length a) (length b) (length (a ++ b)) (length-append a b) first.falls second.falls;
  err = tt;
  refusal = tt;
  count = second.count ∙ first.count;
}
written_behind g a b s t u done (Err e) first second = record {
  ok = tt;
  falls = tt;
  err = AppendsPart-next s.contents t.contents u.contents a b first.ok second.err;
  refusal = refused_behind g s.room t.room (length a) (length b) (length (a ++ b)) e.kind (length-append a b) first.falls second.refusal;
  count = subst (λ n. KindCounts e.kind n u.failures) first.count second.count;
}

pub written_part : (g : Type 0) (a b : List ℕ) (s t : SinkSeen) (e : Error) → Writes g a s (Err e) t → Writes g (a ++ b) s (Err e) t
written_part g a b s t e first = record {
  ok = tt;
  falls = tt;
  err = AppendsPart-more s.contents t.contents a b first.err;
  refusal = refused_more g s.room (length a) (length b) (length (a ++ b)) e.kind (length-append a b) first.refusal;
  count = first.count;
}

-- Equal numbers have one text.
pub number_written : (g : Type 0) (m n : ℕ) (s t : SinkSeen) (r : Result (Unit {0}) Error) → m ≡ n → Writes g (decimal m) s r t → Writes g (decimal n) s r t
number_written g m n s t r e w = subst (λ (k : ℕ). Writes g (decimal k) s r t) e w
