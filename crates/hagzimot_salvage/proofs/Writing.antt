-- Pieces that are written one behind the other.
use Rattle.std.proofs.Common.{◌≡◌, ℕ, zero, suc, ◌+◌, ◌<◌, List, [], ◌∷◌, ◌++◌, get_or, length, take, drop, Result, Ok, Err, subst, ◌∙◌, refl, sym, ap, arith, append-nil, append_assoc, take-append-drop}
use Rattle.std.proofs.lemmas.Grind.{flat_map-append}
use Rattle.std.proofs.KnownBytes.{Appends-trans, Appends-nil}
use Rattle.capnp_units.specs.declared.errors.Error.{Error}
use Rattle.capnp_stream_io.specs.Counting.{KindCounts}
use Rattle.capnp_stream_io.specs.Writes.{SinkSeen, Writes}
use Rattle.capnp_stream_io.proofs.lemmas.KnownLemmas.{AppendsPart-more, AppendsPart-next}
use Rattle.capnp_stream.proofs.lemmas.WriteLemmas.{RoomFalls-none, RoomFalls-next, IsWriteRefusal-first, IsWriteRefusal-next}
use Rattle.hagzimot_salvage.specs.declared.pieces.Piece.{Piece}
use Rattle.hagzimot_salvage.specs.Pieces.{kept_of, kept_bytes}

-- Nothing is written yet.
pub unwritten : (grows : Type 0) (a : SinkSeen) → Writes grows [] a (Ok tt) a
unwritten grows a = record { ok = Appends-nil a.contents; falls = RoomFalls-none a.room; err = tt; refusal = tt; count = refl }

-- A text by another name.
pub as_text : (grows : Type 0) (p q : List ℕ) (a b : SinkSeen) (r : Result (Unit {0}) Error) → p ≡ q → Writes grows p a r b → Writes grows q a r b
as_text grows p q a b r same w = subst (λ (l : List ℕ). Writes grows l a r b) same w

module _ (grows : Type 0) (p q : List ℕ) (a b c : SinkSeen) where
  -- A second text, whole, behind the first.
  pub both_written : Writes grows p a (Ok tt) b → Writes grows q b (Ok tt) c → Writes grows (p ++ q) a (Ok tt) c
  both_written f s = record {
    ok = Appends-trans a.contents b.contents c.contents p q f.ok s.ok;
    falls = RoomFalls-next a.room b.room c.room p q f.falls s.falls;
    err = tt;
    refusal = tt;
    count = s.count ∙ f.count;
  }

  -- A second text, of which a beginning was written, and no third.
  pub second_stops : (rest : List ℕ) (e : Error) → Writes grows p a (Ok tt) b → Writes grows q b (Err e) c → Writes grows ((p ++ q) ++ rest) a (Err e) c
  second_stops rest e f s = record {
    ok = tt;
    falls = tt;
    err = AppendsPart-more a.contents c.contents (p ++ q) rest (AppendsPart-next a.contents b.contents c.contents p q f.ok s.err);
    refusal = IsWriteRefusal-first grows a.room (p ++ q) rest e.kind (IsWriteRefusal-next grows a.room b.room p q e.kind f.falls s.refusal);
    count = subst (λ (m : ℕ). KindCounts e.kind m c.failures) f.count s.count;
  }

-- One more piece.
pub kept_more : (bytes : List ℕ) (ps : List Piece) (i : ℕ) (d : Piece) → i < length ps → kept_bytes bytes (take i ps) ++ kept_of bytes (get_or ps i d) ≡ kept_bytes bytes (take (i + 1) ps)
kept_more bytes [] i d h = absurd (omega (arith, h))
kept_more bytes (p ∷ ps) zero d h = sym (append-nil (kept_of bytes p))
kept_more bytes (p ∷ ps) (suc i) d h =
    let next : suc i + 1 ≡ suc (i + 1) = omega arith in
    rw next (append_assoc (kept_of bytes p) (kept_bytes bytes (take i ps)) (kept_of bytes (get_or ps i d)) ∙ ap (λ (l : List ℕ). kept_of bytes p ++ l) (kept_more bytes ps i d (omega (arith, h))))

-- That piece, and those behind it.
pub kept_all : (bytes : List ℕ) (ps : List Piece) (i : ℕ) (d : Piece) → i < length ps → (kept_bytes bytes (take i ps) ++ kept_of bytes (get_or ps i d)) ++ kept_bytes bytes (drop (i + 1) ps) ≡ kept_bytes bytes ps
kept_all bytes ps i d h =
    ap (λ (l : List ℕ). l ++ kept_bytes bytes (drop (i + 1) ps)) (kept_more bytes ps i d h) ∙ sym (flat_map-append (kept_of bytes) (take (i + 1) ps) (drop (i + 1) ps)) ∙ ap (kept_bytes bytes) (take-append-drop (i + 1) ps)
