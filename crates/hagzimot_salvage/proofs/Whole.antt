-- What pieces say of a stream as a whole.
use Rattle.std.proofs.Common.{◌≡◌, ◌⊎◌, inl, inr, ℕ, zero, suc, ◌-◌, ◌+◌, ◌≤◌, ◌<◌, List, [], ◌∷◌, ◌++◌, length, take, drop, Some, Result, Ok, Err, refl, sym, ◌∙◌, ap, subst, arith, append_assoc, append-nil, length-append, length-drop}
use Rattle.std.specs.Prelude.{All, IsErr, slice_range}
use Rattle.std.specs.List.{flat_map}
use Rattle.std.specs.declared.option.Option.{Option}
use Rattle.std.proofs.lemmas.List.{drop_all, take_at}
use Rattle.std.proofs.lemmas.List.Elements.{All-nil, All-cons}
use Rattle.std.proofs.lemmas.List.Folds.{drop_split}
use Rattle.capnp_model.proofs.lemmas.Lists.{take-all}
use Rattle.capnp_model.specs.Kinds.{Kind}
use Rattle.capnp_model.specs.Segments.{Segments}
use Rattle.capnp_model.specs.Messages.{plain_words, frame_at, message_at}
use Rattle.capnp_model.specs.Spelling.{Frames}
use Rattle.capnp_model.specs.Runs.{BeginWith}
use Rattle.capnp_model.proofs.lemmas.MessagePrefixes.{framed_at_more}
use Rattle.hagzimot_salvage.specs.declared.roots.SalvageLimits.{SalvageLimits}
use Rattle.hagzimot_salvage.specs.declared.pieces.Piece.{Piece}
use Rattle.hagzimot_salvage.specs.declared.pieces.Piece.TheVariants as piece
use Rattle.hagzimot_salvage.specs.Pieces.{BeginSettled, IsSettledRun, AreAll, IsCut, whole_stream, IsRun, ArePieces, IsWithin, bytes_of, kept_bytes, kept_count}

-- ---- pieces cover their bytes

pub all_within : (l : SalvageLimits) (bytes : List ℕ) (from : ℕ) (ps : List Piece) (to : ℕ) → ArePieces l bytes from ps to → All (IsWithin bytes) ps
all_within l bytes from [] to are = All-nil (IsWithin bytes)
all_within l bytes from (piece.Messages a e n ∷ ps) to are = All-cons (IsWithin bytes) (piece.Messages a e n) ps (are.2.order, are.2.inside) (all_within l bytes e ps to are.3)
all_within l bytes from (piece.Gap a e ∷ ps) to are = All-cons (IsWithin bytes) (piece.Gap a e) ps tt (all_within l bytes e ps to are.2)

pub all_joined : (l : SalvageLimits) (bytes : List ℕ) (from : ℕ) (ps : List Piece) (to : ℕ) → ArePieces l bytes from ps to → flat_map (bytes_of bytes) ps ++ drop to bytes ≡ drop from bytes
all_joined l bytes from [] to are = ap (λ (n : ℕ). drop n bytes) (sym are)
all_joined l bytes from (piece.Messages a e n ∷ ps) to are =
    append_assoc (slice_range bytes a e) (flat_map (bytes_of bytes) ps) (drop to bytes) ∙ ap (λ (x : List ℕ). slice_range bytes a e ++ x) (all_joined l bytes e ps to are.3)
    ∙ sym (drop_split bytes a e are.2.order) ∙ ap (λ (n : ℕ). drop n bytes) are.0
all_joined l bytes from (piece.Gap a e ∷ ps) to are =
    let more = are.1.1.more in
    append_assoc (slice_range bytes a e) (flat_map (bytes_of bytes) ps) (drop to bytes) ∙ ap (λ (x : List ℕ). slice_range bytes a e ++ x) (all_joined l bytes e ps to are.2)
    ∙ sym (drop_split bytes a e (omega (arith, more))) ∙ ap (λ (n : ℕ). drop n bytes) are.0

pub joined : (l : SalvageLimits) (bytes : List ℕ) (ps : List Piece) → ArePieces l bytes 0 ps (length bytes) → flat_map (bytes_of bytes) ps ≡ bytes
joined l bytes ps are =
    sym (append-nil (flat_map (bytes_of bytes) ps)) ∙ ap (λ (x : List ℕ). flat_map (bytes_of bytes) ps ++ x) (sym (drop_all (length bytes) bytes (omega arith))) ∙ all_joined l bytes 0 ps (length bytes) are

-- ---- what is kept is a stream

-- Where each message of a stream has a text of its own.
abbrev pub HasFronts : Type 0
HasFronts = (limit : Option ℕ) (b : List ℕ) (s : Segments) (rest : List ℕ) → frame_at limit b ≡ Ok (s, rest) → (x : List ℕ) × (b ≡ x ++ rest) × Frames limit x s

module _ (fronts : HasFronts) (limit : Option ℕ) where
  -- The text of messages that bytes begin with.
  text_of : (b : List ℕ) (messages : List Segments) (rest : List ℕ) → BeginWith plain_words limit b messages rest → (x : List ℕ) × (b ≡ x ++ rest) × BeginWith plain_words limit x messages []
  text_of b [] rest begins = ([], begins, refl)
  text_of b (s ∷ messages) rest begins =
      let first = fronts limit b s begins.0 begins.1 in
      let others = text_of begins.0 messages rest begins.2 in
      let x = first.0 in
      let y = others.0 in (
        x ++ y,
        first.1 ∙ ap (λ (l : List ℕ). x ++ l) others.1 ∙ sym (append_assoc x y rest),
        (y, framed_at_more limit x (s, []) y first.2, others.2),
      )

  -- Messages behind others.
  both_begin : (x : List ℕ) (messages : List Segments) (y : List ℕ) (others : List Segments) → BeginWith plain_words limit x messages [] → BeginWith plain_words limit y others [] → BeginWith plain_words limit (x ++ y) (messages ++ others) []
  both_begin x [] y others begins more = subst (λ (l : List ℕ). BeginWith plain_words limit (l ++ y) others []) (sym begins) more
  both_begin x (s ∷ messages) y others begins more = (begins.0 ++ y, framed_at_more limit x (s, begins.0) y begins.1, both_begin begins.0 messages y others begins.2 more)

same_front : (x y r : List ℕ) → x ++ r ≡ y ++ r → x ≡ y
same_front x y r e =
    let n : length x ≡ length y = omega (arith, ap length e, length-append x r, length-append y r) in
    sym (take_at x r (length y) n) ∙ ap (take (length y)) e ∙ take_at y r (length y) refl

-- Settled messages are messages.
as_messages : (l : SalvageLimits) (bytes : List ℕ) (messages : List Segments) (rest : List ℕ) → BeginSettled l bytes messages rest → BeginWith plain_words (Some l.message_words) bytes messages rest
as_messages l bytes [] rest begins = begins
as_messages l bytes (s ∷ messages) rest begins = (begins.0, begins.1, as_messages l begins.0 messages rest begins.3)

-- The messages of a run are the text between its ends.
run_text : HasFronts → (l : SalvageLimits) (bytes : List ℕ) (at end count : ℕ) → (run : IsSettledRun l bytes at end count) → BeginWith plain_words (Some l.message_words) (slice_range bytes at end) run.messages []
run_text fronts l bytes at end count run =
    let limit = l.message_words in
    let found = text_of fronts (Some limit) (drop at bytes) run.messages (drop end bytes) (as_messages l (drop at bytes) run.messages (drop end bytes) run.begins) in
    let same : found.0 ≡ slice_range bytes at end = same_front found.0 (slice_range bytes at end) (drop end bytes) (sym found.1 ∙ drop_split bytes at end run.order) in
    subst (λ (l : List ℕ). BeginWith plain_words (Some limit) l run.messages []) same found.2

pub kept_stream : HasFronts → (l : SalvageLimits) (bytes : List ℕ) (from : ℕ) (ps : List Piece) (to : ℕ) → ArePieces l bytes from ps to
    → (messages : List Segments) × BeginWith plain_words (Some l.message_words) (kept_bytes bytes ps) messages [] × (length messages ≡ kept_count ps)
kept_stream fronts l bytes from [] to are = ([], refl, refl)
kept_stream fronts l bytes from (piece.Messages a e n ∷ ps) to are =
    let run = are.2 in
    let others = kept_stream fronts l bytes e ps to are.3 in
    let number = run.number in
    let more = others.2 in (
      run.messages ++ others.0,
      both_begin fronts (Some l.message_words) (slice_range bytes a e) run.messages (kept_bytes bytes ps) others.0 (run_text fronts l bytes a e n run) others.1,
      omega (arith, length-append run.messages others.0, number, more),
    )
kept_stream fronts l bytes from (piece.Gap a e ∷ ps) to are = kept_stream fronts l bytes e ps to are.2

-- ---- a stream without a fault

no_message : (limit : Option ℕ) (r : Segments × List ℕ) → frame_at limit [] ≡ Ok r → ⊥
unfolding message_at
no_message limit r e = absurd cc

abbrev behind_of : Result (Segments × List ℕ) Kind → List ℕ
behind_of (Ok r) = r.1
behind_of (Err k) = []

-- What is behind the first messages of a stream is a stream.
rest_of : (limit : Option ℕ) (b : List ℕ) (first : List Segments) (rest : List ℕ) (all : List Segments) → BeginWith plain_words limit b first rest → BeginWith plain_words limit b all [] → (others : List Segments) × BeginWith plain_words limit rest others []
rest_of limit b [] rest all begins whole = (all, subst (λ (l : List ℕ). BeginWith plain_words limit l all []) begins whole)
rest_of limit b (s ∷ first) rest [] begins whole = absurd (no_message limit (s, begins.0) (ap (message_at plain_words limit) (sym whole) ∙ begins.1))
rest_of limit b (s ∷ first) rest (t ∷ all) begins whole =
    let Read : Type 0 = Result (Segments × List ℕ) Kind in
    let same : ◌≡◌ {A = Read} (Ok (s, begins.0)) (Ok (t, whole.0)) = sym begins.1 ∙ whole.1 in
    let behind : whole.0 ≡ begins.0 = ap behind_of (sym same) in
    rest_of limit begins.0 first rest all begins.2 (subst (λ (l : List ℕ). BeginWith plain_words limit l all []) behind whole.2)

-- No gap begins in it.
none_begins : (limit : Option ℕ) (b : List ℕ) (all : List Segments) → BeginWith plain_words limit b all [] → 0 < length b → IsErr (frame_at limit b) → ⊥
none_begins limit b [] whole some gap = omega (arith, ap length whole, some)
none_begins limit b (s ∷ all) whole some gap = absurd (cc (subst (λ (r : Result (Segments × List ℕ) Kind). IsErr r) whole.1 gap))

-- What begins with messages up to a fault is no stream without one.
pub has_fault : (l : SalvageLimits) (bytes : List ℕ) (end count : ℕ) → IsRun l.message_words bytes 0 end count → end < length bytes → (messages : List Segments) → AreAll l bytes messages → ⊥
has_fault l bytes end count run below messages all =
    let limit = Some l.message_words in
    let others = rest_of limit bytes run.messages (drop end bytes) messages run.begins all in
    none_begins limit (drop end bytes) others.0 others.1 (omega (arith, length-drop end bytes, below)) run.stops

-- A run up to the end is the whole stream.
pub is_all : (l : SalvageLimits) (bytes : List ℕ) (end count : ℕ) → (run : IsRun l.message_words bytes 0 end count) → length bytes ≤ end → AreAll l bytes run.messages
is_all l bytes end count run above = subst (λ (x : List ℕ). BeginWith plain_words (Some l.message_words) bytes run.messages x) (drop_all end bytes above) run.begins

pub cut_within : (l : SalvageLimits) (bytes : List ℕ) (ps : List Piece) → IsCut l bytes ps → All (IsWithin bytes) ps
cut_within l bytes ps (inl w) = by (length w.0) ps w.2
  where
    by : (n : ℕ) (ps : List Piece) → ps ≡ whole_stream (length bytes) n → All (IsWithin bytes) ps
    by zero ps e = subst (λ (x : List Piece). All (IsWithin bytes) x) (sym e) (All-nil (IsWithin bytes))
    by (suc n) ps e = subst (λ (x : List Piece). All (IsWithin bytes) x) (sym e) (All-cons (IsWithin bytes) (piece.Messages 0 (length bytes) (suc n)) [] (omega arith, omega arith) (All-nil (IsWithin bytes)))
cut_within l bytes ps (inr c) = all_within l bytes 0 ps (length bytes) c.1

-- All of a list is between its ends.
all_of : (bytes : List ℕ) → slice_range bytes 0 (length bytes) ++ [] ≡ bytes
all_of bytes = append-nil (slice_range bytes 0 (length bytes)) ∙ take-all bytes (length bytes - 0) (omega arith)

whole_by : (l : SalvageLimits) (bytes : List ℕ) (messages : List Segments) → AreAll l bytes messages → (flat_map (bytes_of bytes) (whole_stream (length bytes) (length messages)) ≡ bytes) × (kept_bytes bytes (whole_stream (length bytes) (length messages)) ≡ bytes) × (length messages ≡ kept_count (whole_stream (length bytes) (length messages)))
whole_by l bytes [] all = (sym all, sym all, refl)
whole_by l bytes (s ∷ messages) all = (all_of bytes, all_of bytes, omega arith)

pub cut_joined : (l : SalvageLimits) (bytes : List ℕ) (ps : List Piece) → IsCut l bytes ps → flat_map (bytes_of bytes) ps ≡ bytes
cut_joined l bytes ps (inl w) = ap (flat_map (bytes_of bytes)) w.2 ∙ (whole_by l bytes w.0 w.1).0
cut_joined l bytes ps (inr c) = joined l bytes ps c.1

pub cut_kept : HasFronts → (l : SalvageLimits) (bytes : List ℕ) (ps : List Piece) → IsCut l bytes ps → (messages : List Segments) × AreAll l (kept_bytes bytes ps) messages × (length messages ≡ kept_count ps)
cut_kept fronts l bytes ps (inl w) =
    let is = whole_by l bytes w.0 w.1 in (
      w.0,
      subst (λ (x : List ℕ). AreAll l x w.0) (sym (ap (kept_bytes bytes) w.2 ∙ is.1)) w.1,
      is.2 ∙ sym (ap kept_count w.2),
    )
cut_kept fronts l bytes ps (inr c) = kept_stream fronts l bytes 0 ps (length bytes) c.1

pub cut_whole : (l : SalvageLimits) (bytes : List ℕ) (ps : List Piece) (messages : List Segments) → IsCut l bytes ps → AreAll l bytes messages → kept_bytes bytes ps ≡ bytes
cut_whole l bytes ps messages (inl w) all = ap (kept_bytes bytes) w.2 ∙ (whole_by l bytes w.0 w.1).1
cut_whole l bytes ps messages (inr c) all = absurd (c.0 messages all)
