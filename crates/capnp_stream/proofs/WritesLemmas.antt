-- Texts that are written one behind the other.
use Rattle.std.proofs.Common.{◌≡◌, ◌⊎◌, ℕ, List, [], ◌++◌, length, Result, Ok, Err, subst, ◌∙◌, refl}
use Rattle.std.proofs.KnownBytes.{Appends-trans, Appends-nil}
use Rattle.capnp_units.specs.declared.errors.Error.{Error}
use Rattle.capnp_stream_io.specs.Counting.{KindCounts}
use Rattle.capnp_stream_io.specs.Writes.{SinkSeen, Writes}
use Rattle.capnp_stream_io.proofs.lemmas.KnownLemmas.{AppendsPart-more, AppendsPart-next}
use Rattle.capnp_stream.proofs.lemmas.WriteLemmas.{RoomFalls-none, RoomFalls-next, IsWriteRefusal-first, IsWriteRefusal-next, IsWriteRefusal-or}

pub writes-nothing : (grows : Type 0) (a : SinkSeen) → Writes grows [] a (Ok tt) a
writes-nothing grows a = record { ok = Appends-nil a.contents; falls = RoomFalls-none a.room; err = tt; refusal = tt; count = refl }

pub writes-text : (grows : Type 0) (p q : List ℕ) (a b : SinkSeen) (r : Result (Unit {0}) Error) → p ≡ q → Writes grows p a r b → Writes grows q a r b
writes-text grows p q a b r same w = subst (λ (l : List ℕ). Writes grows l a r b) same w

module _ (grows : Type 0) (p q : List ℕ) (a b : SinkSeen) where
  -- no further text was written
  pub writes-stop : (e : Error) → Writes grows p a (Err e) b → Writes grows (p ++ q) a (Err e) b
  writes-stop e w = record {
    ok = tt;
    falls = tt;
    err = AppendsPart-more a.contents b.contents p q w.err;
    refusal = IsWriteRefusal-first grows a.room p q e.kind w.refusal;
    count = w.count;
  }

  -- another text was written behind the first
  pub writes-then : (c : SinkSeen) (r : Result (Unit {0}) Error) → Writes grows p a (Ok tt) b → Writes grows q b r c → Writes grows (p ++ q) a r c
  writes-then c (Ok x) f s = record {
    ok = Appends-trans a.contents b.contents c.contents p q f.ok s.ok;
    falls = RoomFalls-next a.room b.room c.room p q f.falls s.falls;
    err = tt;
    refusal = tt;
    count = s.count ∙ f.count;
  }
  writes-then c (Err e) f s = record {
    ok = tt;
    falls = tt;
    err = AppendsPart-next a.contents b.contents c.contents p q f.ok s.err;
    refusal = IsWriteRefusal-next grows a.room b.room p q e.kind f.falls s.refusal;
    count = subst (λ (m : ℕ). KindCounts e.kind m c.failures) f.count s.count;
  }

-- something else may want memory too
pub writes-or : (grows more : Type 0) (text : List ℕ) (a b : SinkSeen) (r : Result (Unit {0}) Error) → Writes grows text a r b → Writes (grows ⊎ more) text a r b
writes-or grows more text a b (Ok x) w = record { ok = w.ok; falls = w.falls; err = tt; refusal = tt; count = w.count }
writes-or grows more text a b (Err e) w = record { ok = tt; falls = tt; err = w.err; refusal = IsWriteRefusal-or grows more a.room (length text) e.kind w.refusal; count = w.count }
