-- From the parts of a reader's promise to the whole.
use Rattle.std.proofs.Common.{◌≡◌, ◌≢◌, ◌⊎◌, ◌<◌, ◌∙◌, inl, inr, ℕ, [], List, Bool, true, false, None, Some, IsTrue, ◌↔◌, IfSome, IfOk, Result, Ok, Err, subst, sym}
use Rattle.std.specs.declared.convert.AsSlice.{Ghosts}
use Rattle.std.specs.declared.option.Option.{Option}
use Rattle.std.specs.Io.KnownBytes.{Keeps, IsAtEnd}
use Rattle.std.proofs.KnownBytes.{Keeps-trans, Consumes-kept}
use Rattle.capnp_units.specs.declared.errors.Error.{Error}
use Rattle.capnp_units.specs.declared.kinds.ErrorKind.{ErrorKind}
use Rattle.capnp_units.specs.declared.kinds.ErrorKind.TheVariants.{OutOfMemory, BufferNotLargeEnough, PrematureEndOfFile, Device}
use Rattle.capnp_units.specs.Segments.{words_in}
use Rattle.capnp_model.specs.Messages.{Reader}
use Rattle.capnp_model.specs.Spelling.{CanSpell}
use Rattle.capnp_stream_io.specs.Counting.{Counts, KindCounts}
use Rattle.capnp_stream.specs.Pieces.{ReadsFronts}
use Rattle.capnp_stream.specs.Frames.{IsFrameFault, TakesMessage, TakesStart, TakesWholePieces, TakesTable, IsFramingKind, IsReadKind, IsPieceRefusal}
use Rattle.capnp_stream.specs.Writing.{AreWritable}
use Rattle.capnp_stream.specs.Reading.{TriesReading, ReadsMessage}
use Rattle.capnp_stream.specs.Lent.{HasAsLong, IsFillKind, NeedsMore, HasLonger}
use Rattle.capnp_stream.specs.Buffers.{found_segments}
use Rattle.capnp_stream.specs.declared.buffers.NoAllocBufferSegments.{NoAllocBufferSegments}
use Rattle.capnp_stream.specs.Filling.{TriesFilling, FillsMessage}
use Rattle.capnp_stream.specs.Flat.{table_bytes}
use Rattle.capnp_stream.specs.Kept.{GrowsInVain, WantsForLonger}
use Rattle.capnp_stream_io.proofs.lemmas.KnownLemmas.{Consumes-of_kept, IfSome-of_kept}
use Rattle.capnp_stream.proofs.lemmas.FrameLemmas.{part-of_kept, TakesStart-of_kept, TakesMessage-of_kept, fault-of_kept}

module _ (read : Reader) (limit : Option ℕ) where
  pub pieces-of_kept : (a b c : Option (List ℕ)) → Keeps a b → TakesWholePieces read limit b c → TakesWholePieces read limit a c
  pieces-of_kept a b c kept (inl same) = inl (Keeps-trans a b c kept same)
  pieces-of_kept a b c kept (inr (inl p)) = let q = p.1 in inr (inl (p.0, (q.0, q.1, Consumes-of_kept a b c q.0 kept q.2, q.3)))
  pieces-of_kept a b c kept (inr (inr p)) = let q = p.1 in inr (inr (p.0, (q.0, Consumes-of_kept a b c q.0 kept q.1, q.2, q.3)))

-- a look that finds a byte
some-seen : (a : Option (List ℕ)) (look : Bool) → IfSome a (λ xs. IsTrue look ↔ (xs ≡ [])) → look ≡ false → IfSome a (λ xs. xs ≢ [])
some-seen None look at unseen = tt
some-seen (Some x) look at unseen = λ e. let yes : look ≡ true = at.1 e in absurd cc

module _ {M : Type 0} {bytes : M → List (List ℕ)} {Holds : M → Type 0} (read : Reader) (fronts : ReadsFronts read) (faults : ErrorKind → Type 0) (limit : Option ℕ) where
  -- the source failed at the look
  pub tries-failed : (a b : Option (List ℕ)) (m n : ℕ) (e : Error) → e.kind ≡ Device → Keeps a b → KindCounts e.kind m n
      → TriesReading {M = M} bytes Holds read faults limit (record { remaining = a; failures = m }) (Err e) (record { remaining = b; failures = n })
  tries-failed a b m n e failed kept count = record {
    message = tt;
    kept = tt;
    joined = tt;
    writable = tt;
    none = tt;
    refused = λ framing. let no : IsFramingKind Device = subst IsFramingKind failed framing in absurd no;
    kind = let device : IsReadKind faults Device = tt in subst (IsReadKind faults) (sym failed) device;
    part = part-of_kept read fronts limit a b kept;
    wanted = λ w. absurd cc;
    begun = λ w. absurd cc;
    count = count;
  }

  -- some byte was left, and the message was refused
  pub tries-refused : (a b c : Option (List ℕ)) (m n : ℕ) (e : Error) (look : Bool) → IfSome a (λ xs. IsTrue look ↔ (xs ≡ [])) → look ≡ false → Keeps a b
      → (IsFramingKind e.kind → IfSome b (λ xs. IsFrameFault read limit xs e.kind)) → IsReadKind faults e.kind → TakesStart read limit b c → (e.kind ≡ OutOfMemory → TakesWholePieces read limit b c) → KindCounts e.kind m n
      → TriesReading {M = M} bytes Holds read faults limit (record { remaining = a; failures = m }) (Err e) (record { remaining = c; failures = n })
  tries-refused a b c m n e look at unseen kept refused kind part wanted count = record {
    message = tt;
    kept = tt;
    joined = tt;
    writable = tt;
    none = tt;
    refused = λ framing. fault-of_kept read limit a b e.kind look at unseen kept (refused framing);
    kind = kind;
    part = TakesStart-of_kept read limit a b c kept part;
    wanted = λ w. pieces-of_kept read limit a b c kept (wanted w);
    begun = λ w. some-seen a look at unseen;
    count = count;
  }

IsAtEnd-of_kept : (a b : Option (List ℕ)) → Keeps a b → IsAtEnd b → IsAtEnd a
IsAtEnd-of_kept None b kept at = tt
IsAtEnd-of_kept (Some x) None kept at = absurd kept
IsAtEnd-of_kept (Some x) (Some y) kept at = sym kept ∙ at

-- behind a look at the bytes to come, which took none of them
module _ {M : Type 0} {bytes : M → List (List ℕ)} {Holds : M → Type 0} (read : Reader) (faults : ErrorKind → Type 0) (limit : Option ℕ) (a b c : Option (List ℕ)) (kept : Keeps a b) (l m n : ℕ) (same : m ≡ l) where
  pub tries-behind : (result : Result (Option M) Error) → TriesReading {M = M} bytes Holds read faults limit (record { remaining = b; failures = m }) result (record { remaining = c; failures = n })
      → TriesReading {M = M} bytes Holds read faults limit (record { remaining = a; failures = l }) result (record { remaining = c; failures = n })
  tries-behind (Ok (Some found)) t = record {
    message = TakesMessage-of_kept read limit a b c _ kept t.message;
    kept = t.kept;
    joined = t.joined;
    writable = t.writable;
    none = tt;
    refused = tt;
    kind = tt;
    part = tt;
    wanted = tt;
    begun = tt;
    count = t.count ∙ same;
  }
  tries-behind (Ok None) t = record {
    message = tt;
    kept = tt;
    joined = tt;
    writable = tt;
    none = (IsAtEnd-of_kept a b kept t.none.0, Keeps-trans a b c kept t.none.1);
    refused = tt;
    kind = tt;
    part = tt;
    wanted = tt;
    begun = tt;
    count = t.count ∙ same;
  }
  tries-behind (Err e) t = record {
    message = tt;
    kept = tt;
    joined = tt;
    writable = tt;
    none = tt;
    refused = λ framing. IfSome-of_kept a b _ kept (t.refused framing);
    kind = t.kind;
    part = TakesStart-of_kept read limit a b c kept t.part;
    wanted = λ w. pieces-of_kept read limit a b c kept (t.wanted w);
    begun = λ w. IfSome-of_kept a b _ kept (t.begun w);
    count = subst (λ k. KindCounts e.kind k n) same t.count;
  }

  -- what was read is a message
  pub tries-read : (result : Result M Error) → IfOk result (λ s. TakesMessage read limit b c (words_in (bytes s))) → IfOk result (λ s. CanSpell limit (words_in (bytes s))) → IfOk result Holds → IfOk result (λ s. AreWritable (bytes s)) → Counts result m n
      → (s : M) → result ≡ Ok s → TriesReading {M = M} bytes Holds read faults limit (record { remaining = a; failures = l }) (Ok (Some s)) (record { remaining = c; failures = n })
  tries-read result message spelled joined writable count s is =
      let Taken : Result M Error → Type 0 = λ r. IfOk r (λ s. TakesMessage read limit b c (words_in (bytes s))) in
      let Spelled : Result M Error → Type 0 = λ r. IfOk r (λ s. CanSpell limit (words_in (bytes s))) in
      let Joined : Result M Error → Type 0 = λ r. IfOk r Holds in
      let Writable : Result M Error → Type 0 = λ r. IfOk r (λ s. AreWritable (bytes s)) in
      let Counted : Result M Error → Type 0 = λ r. Counts r m n in
      tries-behind (Ok (Some s)) (record {
        message = subst Taken is message;
        kept = subst Spelled is spelled;
        joined = subst Joined is joined;
        writable = subst Writable is writable;
        none = tt;
        refused = tt;
        kind = tt;
        part = tt;
        wanted = tt;
        begun = tt;
        count = subst Counted is count;
      })

module _ (read : Reader) (limit : Option ℕ) (a b : Option (List ℕ)) (kept : Keeps a b) where
  longer-of : (size : ℕ) → (size < table_bytes 511) ⊎ IfSome b (HasLonger read limit size) → (size < table_bytes 511) ⊎ IfSome a (HasLonger read limit size)
  longer-of size (inl short) = inl short
  longer-of size (inr long) = inr (IfSome-of_kept a b (HasLonger read limit size) kept long)

  pub vain-behind : (old new : ℕ) → GrowsInVain read limit b old new → GrowsInVain read limit a old new
  vain-behind old new (inl little) = inl little
  vain-behind old new (inr long) = inr (IfSome-of_kept a b (HasAsLong read limit new) kept long)

  pub longer-behind : {A : Type 0} (size : ℕ) (result : Result A Error) → WantsForLonger read limit size b result → WantsForLonger read limit size a result
  longer-behind size (Ok x) w = tt
  longer-behind size (Err e) w = λ want. longer-of size (w want)

module _ (read : Reader) (fronts : ReadsFronts read) (faults : ErrorKind → Type 0) (limit : Option ℕ) where
  -- no byte was left
  pub reads-none : (a b : Option (List ℕ)) (m n : ℕ) (e : Error) → e.kind ≡ PrematureEndOfFile → IsAtEnd a → Keeps a b → n ≡ m
      → ReadsMessage read faults limit (record { remaining = a; failures = m }) (Err e) (record { remaining = b; failures = n })
  reads-none a b m n e end at kept count = record {
    message = tt;
    kept = tt;
    joined = tt;
    writable = tt;
    no_byte = λ _. (at, kept);
    refused = λ framing. let no : IsFramingKind PrematureEndOfFile = subst IsFramingKind end framing in absurd no;
    kind = λ other. absurd (other end);
    part = part-of_kept read fronts limit a b kept;
    wanted = λ w. absurd cc;
    begun = λ w. absurd cc;
    count = let same : KindCounts PrematureEndOfFile m n = count in subst (λ k. KindCounts k m n) (sym end) same;
  }

-- a table was taken, and then memory was wanted
pub table-wanted : (read : Reader) (limit : Option ℕ) (ns : List ℕ) (n : ℕ) (a b c : Option (List ℕ)) (k : ErrorKind) → TakesTable read limit a b ns → IsPieceRefusal read n b c k → k ≡ OutOfMemory → TakesWholePieces read limit a c
table-wanted read limit ns n a b c k table cut want =
    let memory : IsPieceRefusal read n b c OutOfMemory = subst (IsPieceRefusal read n b c) want cut in
    inr (inr (ns, (table.0, Consumes-kept a b c table.0 table.1 memory.0, table.2, table.3)))

-- ---- into a buffer

no_framing : (k : ErrorKind) → k ≡ Device → IsFramingKind k → ⊥
no_framing k failed framing = let no : IsFramingKind Device = subst IsFramingKind failed framing in no

device-fills : (faults : ErrorKind → Type 0) (k : ErrorKind) → k ≡ Device → IsFillKind faults k
device-fills faults k failed = let fails : IsFillKind faults Device = tt in subst (IsFillKind faults) (sym failed) fails

module _ {T : Type 0} {g : Ghosts T ℕ} (read : Reader) (fronts : ReadsFronts read) (faults : ErrorKind → Type 0) (limit : Option ℕ) (size : ℕ) (a b : Option (List ℕ)) (m n : ℕ) (e : Error) (kept : Keeps a b) where
  -- the source failed at the look
  module _ (failed : e.kind ≡ Device) (count : KindCounts e.kind m n) where
    pub tries-filling-failed : TriesFilling {T = T} {g = g} read faults limit size (record { remaining = a; failures = m }) (Err e) (record { remaining = b; failures = n })
    tries-filling-failed = record {
      message = tt;
      none = tt;
      refused = λ framing. absurd (no_framing e.kind failed framing);
      short = λ w. absurd cc;
      begun = λ w. absurd cc;
      kind = device-fills faults e.kind failed;
      part = part-of_kept read fronts limit a b kept;
      room = λ w. absurd cc;
      count = count;
    }

    pub fills-failed : FillsMessage {T = T} {g = g} read faults limit size (record { remaining = a; failures = m }) (Err e) (record { remaining = b; failures = n })
    fills-failed = record {
      message = tt;
      no_byte = λ w. absurd cc;
      refused = λ framing. absurd (no_framing e.kind failed framing);
      short = λ w. absurd cc;
      begun = λ w. absurd cc;
      kind = λ _. device-fills faults e.kind failed;
      part = part-of_kept read fronts limit a b kept;
      room = λ w. absurd cc;
      count = count;
    }

  -- no byte was left
  pub fills-none : e.kind ≡ PrematureEndOfFile → IsAtEnd a → n ≡ m → FillsMessage {T = T} {g = g} read faults limit size (record { remaining = a; failures = m }) (Err e) (record { remaining = b; failures = n })
  fills-none end at count = record {
    message = tt;
    no_byte = λ _. (at, kept);
    refused = λ framing. let no : IsFramingKind PrematureEndOfFile = subst IsFramingKind end framing in absurd no;
    short = λ w. absurd cc;
    begun = λ w. absurd cc;
    kind = λ other. absurd (other end);
    part = part-of_kept read fronts limit a b kept;
    room = λ w. absurd cc;
    count = let same : KindCounts PrematureEndOfFile m n = count in subst (λ k. KindCounts k m n) (sym end) same;
  }

-- some byte was left
module _ {T : Type 0} {g : Ghosts T ℕ} (read : Reader) (faults : ErrorKind → Type 0) (limit : Option ℕ) (size : ℕ) (a b c : Option (List ℕ)) (l m n : ℕ)
    (kept : Keeps a b) (same : m ≡ l) (look : Bool) (at : IfSome a (λ xs. IsTrue look ↔ (xs ≡ []))) (unseen : look ≡ false) where
  -- the message was refused
  module _ (e : Error) (refused : IsFramingKind e.kind → IfSome b (λ xs. IsFrameFault read limit xs e.kind)) (short : e.kind ≡ BufferNotLargeEnough → IfSome b (NeedsMore read limit size))
      (kind : IsFillKind faults e.kind) (part : TakesStart read limit b c) (room : e.kind ≡ BufferNotLargeEnough → TakesWholePieces read limit b c) (count : KindCounts e.kind m n) where
    pub tries-filling-refused : TriesFilling {T = T} {g = g} read faults limit size (record { remaining = a; failures = l }) (Err e) (record { remaining = c; failures = n })
    tries-filling-refused = record {
      message = tt;
      none = tt;
      refused = λ framing. fault-of_kept read limit a b e.kind look at unseen kept (refused framing);
      short = λ w. IfSome-of_kept a b (NeedsMore read limit size) kept (short w);
      begun = λ w. some-seen a look at unseen;
      kind = kind;
      part = TakesStart-of_kept read limit a b c kept part;
      room = λ w. pieces-of_kept read limit a b c kept (room w);
      count = subst (λ k. KindCounts e.kind k n) same count;
    }

    pub fills-refused : FillsMessage {T = T} {g = g} read faults limit size (record { remaining = a; failures = l }) (Err e) (record { remaining = c; failures = n })
    fills-refused = record {
      message = tt;
      no_byte = λ end. let no : IsFillKind faults PrematureEndOfFile = subst (IsFillKind faults) end kind in absurd no;
      refused = λ framing. fault-of_kept read limit a b e.kind look at unseen kept (refused framing);
      short = λ w. IfSome-of_kept a b (NeedsMore read limit size) kept (short w);
      begun = λ w. some-seen a look at unseen;
      kind = λ _. kind;
      part = TakesStart-of_kept read limit a b c kept part;
      room = λ w. pieces-of_kept read limit a b c kept (room w);
      count = subst (λ k. KindCounts e.kind k n) same count;
    }

  -- it was read, and has these segments
  module _ (s : NoAllocBufferSegments T g) (segments : List (List ℕ)) (is : found_segments s ≡ segments) (taken : TakesMessage read limit b c (words_in segments)) (count : n ≡ m) where
    found : TakesMessage read limit a c (words_in (found_segments s))
    found =
        let Of : List (List ℕ) → Type 0 = λ l. TakesMessage read limit a c (words_in l) in
        subst Of (sym is) (TakesMessage-of_kept read limit a b c (words_in segments) kept taken)

    pub tries-filling-read : TriesFilling {T = T} {g = g} read faults limit size (record { remaining = a; failures = l }) (Ok (Some s)) (record { remaining = c; failures = n })
    tries-filling-read = record {
      message = found;
      none = tt;
      refused = tt;
      short = tt;
      begun = tt;
      kind = tt;
      part = tt;
      room = tt;
      count = count ∙ same;
    }

-- a look that finds no byte
pub at-end : (a : Option (List ℕ)) (look : Bool) → IfSome a (λ xs. IsTrue look ↔ (xs ≡ [])) → look ≡ true → IsAtEnd a
at-end None look at seen = tt
at-end (Some x) look at seen = at.0 seen

-- no byte was left, which is no refusal
module _ (read : Reader) (faults : ErrorKind → Type 0) (limit : Option ℕ) (a b : Option (List ℕ)) (m n : ℕ) (end : IsAtEnd a) (kept : Keeps a b) (count : n ≡ m) where
  pub tries-none : {M : Type 0} {bytes : M → List (List ℕ)} {Holds : M → Type 0} → TriesReading {M = M} bytes Holds read faults limit (record { remaining = a; failures = m }) (Ok None) (record { remaining = b; failures = n })
  tries-none = record {
    message = tt;
    kept = tt;
    joined = tt;
    writable = tt;
    none = (end, kept);
    refused = tt;
    kind = tt;
    part = tt;
    wanted = tt;
    begun = tt;
    count = count;
  }

  pub tries-filling-none : {T : Type 0} {g : Ghosts T ℕ} (size : ℕ) → TriesFilling {T = T} {g = g} read faults limit size (record { remaining = a; failures = m }) (Ok None) (record { remaining = b; failures = n })
  tries-filling-none size = record {
    message = tt;
    none = (end, kept);
    refused = tt;
    short = tt;
    begun = tt;
    kind = tt;
    part = tt;
    room = tt;
    count = count;
  }
