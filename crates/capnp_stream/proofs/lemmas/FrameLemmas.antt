-- From the pieces of a message to the message.
use Rattle.std.proofs.Common.{◌≡◌, inl, inr, ℕ, ◌+◌, ◌*◌, ◌/◌, ◌%◌, ◌^◌, ◌<◌, ◌≤◌, ◌≢◌, ◌↔◌, IsTrue, List, [], ◌∷◌, ◌++◌, Bool, true, false, ltb, None, Some, Ok, Err, Result, IfSome, refl, sym, ap, subst, ◌∙◌, arith, length, take, drop, sum, length-drop, take-append-drop, append-nil, append_assoc}
use Rattle.std.proofs.lemmas.Bool.{lt-ltb}
use Rattle.std.specs.declared.option.Option.{Option}
use Rattle.std.specs.Io.KnownBytes.{Keeps, Consumes}
use Rattle.std.proofs.KnownBytes.{Consumes-trans, Consumes-nil, Consumes-kept}
use Rattle.capnp_units.specs.Errors.{kind_of}
use Rattle.capnp_units.specs.declared.kinds.ErrorKind.{ErrorKind}
use Rattle.capnp_units.specs.declared.kinds.ErrorKind.TheVariants.{OutOfMemory, InvalidNumberOfSegments, FailedToFillTheWholeBuffer, PrematureEndOfPackedInput, PackedInputDidNotEndCleanlyOnASegmentBoundary, MessageTooLarge, Device}
use Rattle.capnp_model.specs.Kinds as kinds
use Rattle.capnp_model.specs.Kinds.{Kind}
use Rattle.capnp_model.specs.Chains.{guard}
use Rattle.capnp_model.specs.Segments.{Segments}
use Rattle.capnp_model.specs.Messages.{Reader, within, halves, cut, behind_lengths, behind_first, message_at}
use Rattle.capnp_model.proofs.lemmas.Chaining.{ok_is, ok_then, guard_then, bind_ok}
use Rattle.capnp_stream.specs.Pieces.{EndsEarly, EachIsNeeded, ReadsFronts, TakesPiece, TakesPieceStart}
use Rattle.capnp_stream.specs.Frames.{IsFrameFault, HasNoMessage, TakesMessage, TakesStart, TakesMessagePart, TakesTable, TakesBody, IsFramingKind, IsPieceRefusal}
use Rattle.capnp_stream.specs.Flat.{table_bytes}
use Rattle.capnp_stream.specs.Lent.{NeedsMore, HasAsLong, HasLonger}
use Rattle.capnp_stream_io.proofs.lemmas.KnownLemmas.{IfSome-of_front, IfSome-of_behind, Consumes-of_kept}
use Rattle.capnp_stream.proofs.lemmas.EarlyLemmas.{early-same, early-then, early-guard, early-none, wants-some, none-needed, needed-joined}
use Rattle.capnp_stream.proofs.lemmas.PieceLemmas.{err_then, guard_err, message_more}

-- ---- what a piece says of the message, and what the message says of the piece

module _ (read : Reader) (limit : Option ℕ) where
  Found : Type 0
  Found = Result (Segments × List ℕ) Kind

  message-wants : (b : List ℕ) (k : Kind) → read 1 b ≡ Err k → message_at read limit b ≡ Err k
  unfolding message_at
  message-wants b k e = err_then (read 1 b) _ k e

  message-reads : (b : List ℕ) (r : Segments × List ℕ) → message_at read limit b ≡ Ok r → (x : List ℕ × List ℕ) × (read 1 b ≡ Ok x)
  unfolding message_at
  message-reads b r e = let t = bind_ok (read 1 b) _ r e in (t.0, t.1)

  message-first : (words b rest : List ℕ) → read 1 b ≡ Ok (words, rest) → message_at read limit b ≡ behind_first read read limit (halves words) rest
  unfolding message_at
  message-first words b rest e = ok_then (read 1 b) _ (words, rest) _ e refl

  first-refuses : (n : ℕ) (ns more : List ℕ) → 511 ≤ n → behind_first read read limit (n ∷ ns) more ≡ Err kinds.InvalidNumberOfSegments
  first-refuses n ns more many = let no : ltb n 511 ≡ false = grind (arith, many) in guard_err _ _ _ no

  first-wants : (n : ℕ) (ns b : List ℕ) (k : Kind) → n < 511 → read ((n + 1) / 2) b ≡ Err k → behind_first read read limit (n ∷ ns) b ≡ Err k
  first-wants n ns b k few e = guard_then _ _ _ _ (lt-ltb n 511 few) (err_then (read ((n + 1) / 2) b) _ k e)

  first-reads : (n : ℕ) (ns b : List ℕ) (r : Segments × List ℕ) → behind_first read read limit (n ∷ ns) b ≡ Ok r → (x : List ℕ × List ℕ) × (read ((n + 1) / 2) b ≡ Ok x)
  first-reads n ns b r e =
      let g = bind_ok (guard (ltb n 511) kinds.InvalidNumberOfSegments) _ r e in
      let t = bind_ok (read ((n + 1) / 2) b) _ r g.2 in
      (t.0, t.1)

  first-others : (n : ℕ) (ns b words rest : List ℕ) → n < 511 → read ((n + 1) / 2) b ≡ Ok (words, rest) → behind_first read read limit (n ∷ ns) b ≡ behind_lengths read limit (take (n + 1) (ns ++ halves words)) rest
  first-others n ns b words rest few e = guard_then _ _ _ _ (lt-ltb n 511 few) (ok_then (read ((n + 1) / 2) b) _ (words, rest) _ e refl)

  lengths-refuse : (ns more : List ℕ) → within (sum ns) limit ≡ false → behind_lengths read limit ns more ≡ Err kinds.MessageTooLarge
  lengths-refuse ns more large = guard_err _ _ _ large

  lengths-want : (ns b : List ℕ) (k : Kind) → within (sum ns) limit ≡ true → read (sum ns) b ≡ Err k → behind_lengths read limit ns b ≡ Err k
  lengths-want ns b k kept e = guard_then _ _ _ _ kept (err_then (read (sum ns) b) _ k e)

  lengths-read : (ns b : List ℕ) (r : Segments × List ℕ) → behind_lengths read limit ns b ≡ Ok r → (x : List ℕ × List ℕ) × (read (sum ns) b ≡ Ok x)
  lengths-read ns b r e =
      let g = bind_ok (guard (within (sum ns) limit) kinds.MessageTooLarge) _ r e in
      let t = bind_ok (read (sum ns) b) _ r g.2 in
      (t.0, t.1)

  lengths-body : (ns b words rest : List ℕ) → within (sum ns) limit ≡ true → read (sum ns) b ≡ Ok (words, rest) → behind_lengths read limit ns b ≡ Ok (cut ns words, rest)
  lengths-body ns b words rest kept e = guard_then _ _ _ _ kept (ok_then (read (sum ns) b) _ (words, rest) _ e refl)

  -- a piece that ends early lets the message end early
  message-early : (b : List ℕ) → EndsEarly (read 1 b) → EndsEarly (message_at read limit b)
  unfolding message_at
  message-early b h = early-then (read 1 b) _ h

  first-early : (n : ℕ) (ns b : List ℕ) → n < 511 → EndsEarly (read ((n + 1) / 2) b) → EndsEarly (behind_first read read limit (n ∷ ns) b)
  first-early n ns b few h = early-guard _ _ _ (lt-ltb n 511 few) (early-then (read ((n + 1) / 2) b) _ h)

  lengths-early : (ns b : List ℕ) → within (sum ns) limit ≡ true → EndsEarly (read (sum ns) b) → EndsEarly (behind_lengths read limit ns b)
  lengths-early ns b kept h = early-guard _ _ _ kept (early-then (read (sum ns) b) _ h)

-- ---- what was taken

module _ (read : Reader) (fronts : ReadsFronts read) (limit : Option ℕ) where
  -- bytes behind which a message leaves none have no message as a proper beginning
  HasNoMessage-of : (part : List ℕ) → ((r : Segments × List ℕ) → message_at read limit part ≡ Ok r → r.1 ≡ []) → HasNoMessage read limit part
  HasNoMessage-of part ends n s below found =
      let behind = drop n part in
      let more : message_at read limit (take n part ++ behind) ≡ Ok (s, behind) = message_more read fronts limit behind (take n part) (s, []) found in
      let P : List ℕ → Type 0 = λ l. message_at read limit l ≡ Ok (s, behind) in
      let none : behind ≡ [] = ends (s, behind) (subst P (take-append-drop n part) more) in
      absurd (omega (arith, ap length none, length-drop n part))

  -- a whole message has no message as a proper beginning
  pub TakesPart-of_message : (a b : Option (List ℕ)) (s : Segments) → TakesMessage read limit a b s → TakesMessagePart read limit a b
  TakesPart-of_message a b s m =
      (m.0, HasNoMessage-of m.0 (λ r e. ap (λ (p : Segments × List ℕ). p.1) (sym (ok_is (s, []) r (sym m.1 ∙ e)))), m.2)

module _ (read : Reader) (limit : Option ℕ) where
  -- less than a message was taken
  pub TakesPart-of_start : (a b : Option (List ℕ)) → TakesStart read limit a b → TakesMessagePart read limit a b
  TakesPart-of_start a b p = (p.0, (λ n s below found. early-none _ _ (p.3 n below) found), p.2)

  -- part was taken, and what the bytes then say is said by those behind it
  module _ (part : List ℕ) (says : List ℕ → Result (Segments × List ℕ) Kind)
      (leads : (more : List ℕ) → message_at read limit (part ++ more) ≡ says more) (needed : EachIsNeeded (message_at read limit) part)
      (a b : Option (List ℕ)) (first : Consumes a b part) where
    -- it is no message where no byte says so
    part-taken : ((r : Segments × List ℕ) → says [] ≡ Ok r → ⊥) → TakesStart read limit a b
    part-taken none =
        let f : List ℕ → Result (Segments × List ℕ) Kind = message_at read limit in
        (part, (λ r e. none r (sym (leads []) ∙ ap f (append-nil part) ∙ e)), first, needed)

    fault-taken : (k : Kind) → says [] ≡ Err k → TakesStart read limit a b
    fault-taken k e = part-taken (λ r f. let no : ◌≡◌ {A = Result (Segments × List ℕ) Kind} (Err k) (Ok r) = sym e ∙ f in absurd cc)

    fault-said : (k : ErrorKind) → ((more : List ℕ) → says more ≡ Err (kind_of k)) → IfSome a (λ xs. IsFrameFault read limit xs k)
    fault-said k fault = IfSome-of_front a b part (λ xs. IsFrameFault read limit xs k) first (λ more. leads more ∙ fault more)

    -- a further piece follows
    module _ (n : ℕ) (wants : (q : List ℕ) (k : Kind) → read n q ≡ Err k → says q ≡ Err k) (early : (q : List ℕ) → EndsEarly (read n q) → EndsEarly (says q)) where
      said-early : (q : List ℕ) → EndsEarly (read n q) → EndsEarly (message_at read limit (part ++ q))
      said-early q h = early-same _ _ (leads q) (early q h)

      -- none of it was taken, and it has a word
      before-taken : ReadsFronts read → 0 < n → TakesStart read limit a b
      before-taken fronts some = part-taken (λ r e. early-none _ r (early [] (wants-some read fronts n some)) e)

      -- the part and the piece
      piece-needed : (q : List ℕ) → EachIsNeeded (read n) q → EachIsNeeded (message_at read limit) (part ++ q)
      piece-needed q second = needed-joined (message_at read limit) (read n) part q said-early needed second

      module _ (reads : (q : List ℕ) (r : Segments × List ℕ) → says q ≡ Ok r → (x : List ℕ × List ℕ) × (read n q ≡ Ok x)) (c : Option (List ℕ)) where
        start-taken : TakesPieceStart read n b c → TakesStart read limit a c
        start-taken p =
            (part ++ p.0, (λ r e. let x = reads p.0 r (sym (leads p.0) ∙ e) in absurd (p.1 x.0 x.1)), Consumes-trans a b c part p.0 first p.2, piece-needed p.0 p.3)

        part-of_cut : ReadsFronts read → (k : ErrorKind) → IsPieceRefusal read n b c k → TakesStart read limit a c
        part-of_cut fronts OutOfMemory cut = let p = before-taken fronts cut.1 in (p.0, p.1, Consumes-kept a b c p.0 p.2 cut.0, p.3)
        part-of_cut fronts Device cut = start-taken cut.1
        part-of_cut fronts FailedToFillTheWholeBuffer cut = start-taken cut.1
        part-of_cut fronts PrematureEndOfPackedInput cut = start-taken cut.1
        part-of_cut fronts PackedInputDidNotEndCleanlyOnASegmentBoundary cut = start-taken cut.1
        part-of_cut fronts _ cut = absurd cut.0

        fault-behind : (k : ErrorKind) → IfSome b (λ xs. read n xs ≡ Err (kind_of k)) → IfSome a (λ xs. IsFrameFault read limit xs k)
        fault-behind k fault = IfSome-of_behind a b part _ (λ xs. IsFrameFault read limit xs k) first fault (λ more e. leads more ∙ wants more (kind_of k) e)

        fault-of_cut : (k : ErrorKind) → IsPieceRefusal read n b c k → IsFramingKind k → IfSome a (λ xs. IsFrameFault read limit xs k)
        fault-of_cut FailedToFillTheWholeBuffer cut framing = fault-behind FailedToFillTheWholeBuffer cut.0
        fault-of_cut PrematureEndOfPackedInput cut framing = fault-behind PrematureEndOfPackedInput cut.0
        fault-of_cut PackedInputDidNotEndCleanlyOnASegmentBoundary cut framing = fault-behind PackedInputDidNotEndCleanlyOnASegmentBoundary cut.0
        fault-of_cut OutOfMemory cut framing = absurd framing
        fault-of_cut Device cut framing = absurd framing
        fault-of_cut _ cut framing = absurd cut.0

-- ---- the pieces of a message, one after the other

module _ (read : Reader) (fronts : ReadsFronts read) (limit : Option ℕ) where
  module _ (a c : Option (List ℕ)) (k : ErrorKind) (cut : IsPieceRefusal read 1 a c k) where
    pub start-fault : IsFramingKind k → IfSome a (λ xs. IsFrameFault read limit xs k)
    start-fault framing = fault-of_cut read limit [] (message_at read limit) (λ more. refl) (none-needed (message_at read limit)) a a (Consumes-nil a) 1 (message-wants read limit) (message-early read limit) (message-reads read limit) c k cut framing

    pub start-part : TakesStart read limit a c
    start-part = part-of_cut read limit [] (message_at read limit) (λ more. refl) (none-needed (message_at read limit)) a a (Consumes-nil a) 1 (message-wants read limit) (message-early read limit) (message-reads read limit) c fronts k cut

  -- nothing was taken
  pub no-part : (a : Option (List ℕ)) → TakesStart read limit a a
  no-part a = before-taken read limit [] (message_at read limit) (λ more. refl) (none-needed (message_at read limit)) a a (Consumes-nil a) 1 (message-wants read limit) (message-early read limit) fronts (omega arith)

  -- the bytes to come were looked at
  pub part-of_kept : (a b : Option (List ℕ)) → Keeps a b → TakesStart read limit a b
  part-of_kept a b kept = let p = no-part a in (p.0, p.1, Consumes-kept a a b p.0 p.2 kept, p.3)

  -- behind the first word
  module _ (word : ℕ) (a b : Option (List ℕ)) (taken : TakesPiece read a b (word ∷ [])) where
    says : List ℕ → Result (Segments × List ℕ) Kind
    says more = behind_first read read limit (word % 2 ^ 32 ∷ word / 2 ^ 32 ∷ []) more

    leads : (more : List ℕ) → message_at read limit (taken.0 ++ more) ≡ says more
    unfolding says
    leads more = message-first read limit (word ∷ []) (taken.0 ++ more) more (taken.1 more)

    needed : EachIsNeeded (message_at read limit) taken.0
    needed n below = message-early read limit (take n taken.0) (taken.3 n below)

    pub many-part : 511 ≤ word % 2 ^ 32 → TakesStart read limit a b
    unfolding says
    many-part many = fault-taken read limit taken.0 says leads needed a b taken.2 kinds.InvalidNumberOfSegments (first-refuses read limit (word % 2 ^ 32) (word / 2 ^ 32 ∷ []) [] many)

    pub many-fault : 511 ≤ word % 2 ^ 32 → IfSome a (λ xs. IsFrameFault read limit xs InvalidNumberOfSegments)
    unfolding says
    many-fault many = fault-said read limit taken.0 says leads needed a b taken.2 InvalidNumberOfSegments (λ more. first-refuses read limit (word % 2 ^ 32) (word / 2 ^ 32 ∷ []) more many)

    pub first-needs : (size : ℕ) → word % 2 ^ 32 < 511 → size < table_bytes (word % 2 ^ 32 + 1) → IfSome a (NeedsMore read limit size)
    unfolding says
    first-needs size few short = IfSome-of_front a b taken.0 (NeedsMore read limit size) taken.2 (λ more. inr (inl (word % 2 ^ 32, (taken.0, more, word / 2 ^ 32 ∷ [], refl, leads), few, short)))

    module _ (few : word % 2 ^ 32 < 511) where
      wants : (q : List ℕ) (k : Kind) → read ((word % 2 ^ 32 + 1) / 2) q ≡ Err k → says q ≡ Err k
      unfolding says
      wants q k e = first-wants read limit (word % 2 ^ 32) (word / 2 ^ 32 ∷ []) q k few e

      early : (q : List ℕ) → EndsEarly (read ((word % 2 ^ 32 + 1) / 2) q) → EndsEarly (says q)
      unfolding says
      early q h = first-early read limit (word % 2 ^ 32) (word / 2 ^ 32 ∷ []) q few h

      reads : (q : List ℕ) (r : Segments × List ℕ) → says q ≡ Ok r → (x : List ℕ × List ℕ) × (read ((word % 2 ^ 32 + 1) / 2) q ≡ Ok x)
      unfolding says
      reads q r e = first-reads read limit (word % 2 ^ 32) (word / 2 ^ 32 ∷ []) q r e

      -- the first word was taken, and the table has more
      pub first-part : 0 < word % 2 ^ 32 → TakesStart read limit a b
      first-part some = before-taken read limit taken.0 says leads needed a b taken.2 _ wants early fronts (omega arith)

      module _ (c : Option (List ℕ)) where
        pub others-fault : (k : ErrorKind) → IsPieceRefusal read ((word % 2 ^ 32 + 1) / 2) b c k → IsFramingKind k → IfSome a (λ xs. IsFrameFault read limit xs k)
        others-fault k cut framing = fault-of_cut read limit taken.0 says leads needed a b taken.2 _ wants early reads c k cut framing

        pub others-part : (k : ErrorKind) → IsPieceRefusal read ((word % 2 ^ 32 + 1) / 2) b c k → TakesStart read limit a c
        others-part k cut = part-of_cut read limit taken.0 says leads needed a b taken.2 _ wants early reads c fronts k cut

        pub table-of_pieces : (others : List ℕ) → length others ≡ (word % 2 ^ 32 + 1) / 2 → TakesPiece read b c others
            → TakesTable read limit a c (take (word % 2 ^ 32 + 1) (word / 2 ^ 32 ∷ halves others))
        unfolding says
        table-of_pieces others long second =
            let f : List ℕ → Result (Segments × List ℕ) Kind = message_at read limit in
            let Reads : ℕ → Type 0 = λ n. (more : List ℕ) → read n (second.0 ++ more) ≡ Ok (others, more) in
            let Needed : ℕ → Type 0 = λ n. EachIsNeeded (read n) second.0 in
            let piece = subst Reads long second.1 in
            let table : (more : List ℕ) → f ((taken.0 ++ second.0) ++ more) ≡ behind_lengths read limit (take (word % 2 ^ 32 + 1) (word / 2 ^ 32 ∷ halves others)) more =
            λ more. ap f (append_assoc taken.0 second.0 more) ∙ leads (second.0 ++ more) ∙ first-others read limit (word % 2 ^ 32) (word / 2 ^ 32 ∷ []) (second.0 ++ more) others more few (piece more) in
            (taken.0 ++ second.0, Consumes-trans a b c taken.0 second.0 taken.2 second.2, table, piece-needed read limit taken.0 says leads needed a b taken.2 _ wants early second.0 (subst Needed long second.3))

  pub TakesTable-of_lengths : (a b : Option (List ℕ)) (ns ms : List ℕ) → ms ≡ ns → TakesTable read limit a b ns → TakesTable read limit a b ms
  TakesTable-of_lengths a b ns ms e table = subst (TakesTable read limit a b) (sym e) table

  -- behind the table
  module _ (ns : List ℕ) (a b : Option (List ℕ)) (table : TakesTable read limit a b ns) where
    pub large-part : within (sum ns) limit ≡ false → TakesStart read limit a b
    large-part large = fault-taken read limit table.0 (behind_lengths read limit ns) table.2 table.3 a b table.1 kinds.MessageTooLarge (lengths-refuse read limit ns [] large)

    pub table-needs : (size : ℕ) → within (sum ns) limit ≡ true → size < table_bytes (length ns) + 8 * sum ns → IfSome a (NeedsMore read limit size)
    table-needs size kept short = IfSome-of_front a b table.0 (NeedsMore read limit size) table.1 (λ more. inr (inr (ns, (table.0, more, refl, table.2), kept, short)))

    pub table-longer : (size : ℕ) → within (sum ns) limit ≡ true → size < table_bytes (length ns) + 8 * sum ns → IfSome a (HasLonger read limit size)
    table-longer size kept short = IfSome-of_front a b table.0 (HasLonger read limit size) table.1 (λ more. (ns, (table.0, more, refl, table.2), kept, short))

    pub table-reaches : (size : ℕ) → within (sum ns) limit ≡ true → size ≤ table_bytes (length ns) + 8 * sum ns → IfSome a (HasAsLong read limit size)
    table-reaches size kept short = IfSome-of_front a b table.0 (HasAsLong read limit size) table.1 (λ more. (ns, (table.0, more, refl, table.2), kept, short))

    pub large-fault : within (sum ns) limit ≡ false → IfSome a (λ xs. IsFrameFault read limit xs MessageTooLarge)
    large-fault large = fault-said read limit table.0 (behind_lengths read limit ns) table.2 table.3 a b table.1 MessageTooLarge (λ more. lengths-refuse read limit ns more large)

    module _ (kept : within (sum ns) limit ≡ true) where
      -- the table was taken, and some word follows
      pub table-part : 0 < sum ns → TakesStart read limit a b
      table-part some = before-taken read limit table.0 (behind_lengths read limit ns) table.2 table.3 a b table.1 (sum ns) (λ q k e. lengths-want read limit ns q k kept e) (λ q h. lengths-early read limit ns q kept h) fronts some

      module _ (c : Option (List ℕ)) where
        pub body-fault : (k : ErrorKind) → IsPieceRefusal read (sum ns) b c k → IsFramingKind k → IfSome a (λ xs. IsFrameFault read limit xs k)
        body-fault k cut framing =
            fault-of_cut read limit table.0 (behind_lengths read limit ns) table.2 table.3 a b table.1 (sum ns) (λ q k e. lengths-want read limit ns q k kept e) (λ q h. lengths-early read limit ns q kept h) (lengths-read read limit ns) c k cut framing

        pub body-part : (k : ErrorKind) → IsPieceRefusal read (sum ns) b c k → TakesStart read limit a c
        body-part k cut =
            part-of_cut read limit table.0 (behind_lengths read limit ns) table.2 table.3 a b table.1 (sum ns) (λ q k e. lengths-want read limit ns q k kept e) (λ q h. lengths-early read limit ns q kept h) (lengths-read read limit ns) c fronts k cut

        pub message-of_pieces : (words : List ℕ) → length words ≡ sum ns → TakesPiece read b c words → TakesMessage read limit a c (cut ns words)
        message-of_pieces words long second =
            let says : List ℕ → Result (Segments × List ℕ) Kind = behind_lengths read limit ns in
            let Reads : ℕ → Type 0 = λ n. (more : List ℕ) → read n (second.0 ++ more) ≡ Ok (words, more) in
            let whole : says (second.0 ++ []) ≡ Ok (cut ns words, []) = lengths-body read limit ns (second.0 ++ []) words [] kept (subst Reads long second.1 []) in
            (table.0 ++ second.0, table.2 second.0 ∙ ap says (sym (append-nil second.0)) ∙ whole, Consumes-trans a b c table.0 second.0 table.1 second.2)

        pub message-of_body : (s : Segments) → TakesBody read b c ns s → TakesMessage read limit a c s
        message-of_body s body = subst (TakesMessage read limit a c) (sym body.3) (message-of_pieces body.0 body.1 body.2)

-- ---- behind a look at the bytes to come

module _ (read : Reader) (limit : Option ℕ) where
  pub TakesStart-of_kept : (a b c : Option (List ℕ)) → Keeps a b → TakesStart read limit b c → TakesStart read limit a c
  TakesStart-of_kept a b c kept p = (p.0, p.1, Consumes-of_kept a b c p.0 kept p.2, p.3)

  pub TakesMessage-of_kept : (a b c : Option (List ℕ)) (s : Segments) → Keeps a b → TakesMessage read limit b c s → TakesMessage read limit a c s
  TakesMessage-of_kept a b c s kept m = (m.0, m.1, Consumes-of_kept a b c m.0 kept m.2)

  -- the bytes to come were looked at, and some are left
  pub fault-of_kept : (a b : Option (List ℕ)) (k : ErrorKind) (look : Bool) → IfSome a (λ xs. IsTrue look ↔ (xs ≡ [])) → look ≡ false → Keeps a b
      → IfSome b (λ xs. IsFrameFault read limit xs k) → IfSome a (λ xs. (xs ≢ []) × IsFrameFault read limit xs k)
  fault-of_kept None b k look at unseen kept fault = tt
  fault-of_kept (Some x) None k look at unseen kept fault = absurd kept
  fault-of_kept (Some x) (Some y) k look at unseen kept fault =
      let same : y ≡ x = kept in
      let some : x ≢ [] = λ e. let yes : look ≡ true = at.1 e in absurd cc in
      (some, subst (λ xs. IsFrameFault read limit xs k) same fault)
