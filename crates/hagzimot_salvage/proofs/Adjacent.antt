-- Messages and pieces that follow one another.
use Rattle.std.proofs.Common.{◌≡◌, ℕ, ◌+◌, ◌<◌, ◌≤◌, List, [], ◌∷◌, ◌++◌, length, drop, Some, Ok, refl, sym, ◌∙◌, ap, subst, arith, length-append, length-drop}
use Rattle.std.specs.Prelude.{IsErr}
use Rattle.std.specs.declared.option.Option.{Option}
use Rattle.std.proofs.lemmas.List.{drop-drop}
use Rattle.std.specs.Prelude.{Bool, true, false, ◌&&◌, ◌||◌, is_some}
use Rattle.std.proofs.Common.{eqb, Err, Result, zero, suc}
use Rattle.std.specs.Result.{result_ok}
use Rattle.capnp_model.specs.Kinds.{Kind}
use Rattle.capnp_model.specs.Chains.{◌>>=◌, ◌provided◌, passes}
use Rattle.capnp_model.specs.Segments.{Segments}
use Rattle.capnp_model.specs.Messages.{Reader, plain_words, message_at, frame_at}
use Rattle.capnp_model.specs.Runs.{BeginWith}
use Rattle.hagzimot_salvage.specs.declared.roots.SalvageLimits.{SalvageLimits}
use Rattle.hagzimot_salvage.specs.declared.pieces.Piece.{Piece}
use Rattle.hagzimot_salvage.specs.declared.pieces.Piece.TheVariants as piece
use Rattle.hagzimot_salvage.specs.Pieces.{whole_stream, IsRun, BeginSettled, IsSettledRun, IsGap, ArePieces}
use Rattle.hagzimot_salvage.specs.Roots.{has_root}
use Rattle.hagzimot_salvage.specs.Frames.{has_zero_padding, words_of_front, behind_frame, is_settled}

-- ---- messages

-- So many messages follow one another from a byte up to another.
pub record RunsTo (limit : ℕ) (bytes : List ℕ) (at end count : ℕ) : Type 0 where
  pub messages : List Segments
  pub number : length messages ≡ count
  pub begins : BeginWith plain_words (Some limit) (drop at bytes) messages (drop end bytes)
  pub inside : end ≤ length bytes
  pub few : at + count ≤ end

pub runs_nowhere : (limit : ℕ) (bytes : List ℕ) (at : ℕ) → at ≤ length bytes → RunsTo limit bytes at at 0
runs_nowhere limit bytes at h = record { messages = []; number = refl; begins = refl; inside = h; few = omega arith }

-- One more message behind those.
begin_more : (read : Reader) (limit : Option ℕ) (bytes : List ℕ) (messages : List Segments) (text rest : List ℕ) (s : Segments) → BeginWith read limit bytes messages text
    → message_at read limit text ≡ Ok (s, rest) → BeginWith read limit bytes (messages ++ s ∷ []) rest
begin_more read limit bytes [] text rest s begins found = (rest, ap (message_at read limit) begins ∙ found, refl)
begin_more read limit bytes (first ∷ messages) text rest s begins found = (begins.0, begins.1, begin_more read limit begins.0 messages text rest s begins.2 found)

pub runs_more : (limit : ℕ) (bytes : List ℕ) (at end count n : ℕ) (s : Segments) → RunsTo limit bytes at end count → frame_at (Some limit) (drop end bytes) ≡ Ok (s, drop n (drop end bytes)) → 0 < n → n ≤ length (drop end bytes)
    → RunsTo limit bytes at (end + n) (count + 1)
runs_more limit bytes at end count n s run found some within =
    let few = run.few in
    let inside = run.inside in
    let number = run.number in
    record {
      messages = run.messages ++ s ∷ [];
      number = omega (arith, number, length-append run.messages (s ∷ []));
      begins = subst (λ (l : List ℕ). BeginWith plain_words (Some limit) (drop at bytes) (run.messages ++ s ∷ []) l) (drop-drop n end bytes) (begin_more plain_words (Some limit) (drop at bytes) run.messages (drop end bytes) (drop n (drop end bytes)) s run.begins found);
      inside = omega (arith, within, inside, length-drop end bytes);
      few = omega (arith, few, some);
    }

pub run_ends : (limit : ℕ) (bytes : List ℕ) (at end count : ℕ) → RunsTo limit bytes at end count → IsErr (frame_at (Some limit) (drop end bytes)) → IsRun limit bytes at end count
run_ends limit bytes at end count run stops =
    let few = run.few in
    record { messages = run.messages; number = run.number; begins = run.begins; order = omega (arith, few); inside = run.inside; more = λ (some : 0 < count). omega (arith, few, some); stops = stops }

-- ---- settled messages

-- So many settled messages follow one another from a byte up to another.
pub record SettledTo (l : SalvageLimits) (bytes : List ℕ) (at end count : ℕ) : Type 0 where
  pub messages : List Segments
  pub number : length messages ≡ count
  pub begins : BeginSettled l (drop at bytes) messages (drop end bytes)
  pub inside : end ≤ length bytes
  pub few : at + count ≤ end

pub settled_nowhere : (l : SalvageLimits) (bytes : List ℕ) (at : ℕ) → at ≤ length bytes → SettledTo l bytes at at 0
settled_nowhere l bytes at h = record { messages = []; number = refl; begins = refl; inside = h; few = omega arith }

settled_behind : (l : SalvageLimits) (bytes : List ℕ) (messages : List Segments) (text rest : List ℕ) (s : Segments) → BeginSettled l bytes messages text → frame_at (Some l.message_words) text ≡ Ok (s, rest) → is_settled l text ≡ true
    → BeginSettled l bytes (messages ++ s ∷ []) rest
settled_behind l bytes [] text rest s begins found settled = (rest, ap (frame_at (Some l.message_words)) begins ∙ found, ap (is_settled l) begins ∙ settled, refl)
settled_behind l bytes (first ∷ messages) text rest s begins found settled = (begins.0, begins.1, begins.2, settled_behind l begins.0 messages text rest s begins.3 found settled)

pub settled_more : (l : SalvageLimits) (bytes : List ℕ) (at end count n : ℕ) (s : Segments) → SettledTo l bytes at end count → frame_at (Some l.message_words) (drop end bytes) ≡ Ok (s, drop n (drop end bytes)) → is_settled l (drop end bytes) ≡ true → 0 < n → n ≤ length (drop end bytes)
    → SettledTo l bytes at (end + n) (count + 1)
settled_more l bytes at end count n s run found settled some within =
    let few = run.few in
    let inside = run.inside in
    let number = run.number in
    record {
      messages = run.messages ++ s ∷ [];
      number = omega (arith, number, length-append run.messages (s ∷ []));
      begins = subst (λ (x : List ℕ). BeginSettled l (drop at bytes) (run.messages ++ s ∷ []) x) (drop-drop n end bytes) (settled_behind l (drop at bytes) run.messages (drop end bytes) (drop n (drop end bytes)) s run.begins found settled);
      inside = omega (arith, within, inside, length-drop end bytes);
      few = omega (arith, few, some);
    }

pub settled_ends : (l : SalvageLimits) (bytes : List ℕ) (at end count : ℕ) → SettledTo l bytes at end count → is_settled l (drop end bytes) ≡ false → IsSettledRun l bytes at end count
settled_ends l bytes at end count run stops =
    let few = run.few in
    record { messages = run.messages; number = run.number; begins = run.begins; order = omega (arith, few); inside = run.inside; more = λ (some : 0 < count). omega (arith, few, some); stops = stops }

-- What isn't a message isn't settled.
not_by : (l : SalvageLimits) (bytes : List ℕ) (r : Result (Segments × List ℕ) Kind) → IsErr r
    → (is_some (result_ok r >>= λ m. m.1 provided (has_zero_padding (length m.0) bytes && has_root l (words_of_front bytes m.1) m.0)) || passes (λ m. (eqb (length m.1) 0) || is_some (behind_frame l m.1)) (result_ok r)) ≡ false
not_by l bytes (Err k) h = refl
not_by l bytes (Ok r) h = absurd (cc h)

pub not_settled : (l : SalvageLimits) (bytes : List ℕ) → IsErr (frame_at (Some l.message_words) bytes) → is_settled l bytes ≡ false
unfolding is_settled
not_settled l bytes h = not_by l bytes (frame_at (Some l.message_words) bytes) h

-- ---- pieces

pub pieces_nowhere : (l : SalvageLimits) (bytes : List ℕ) → ArePieces l bytes 0 [] 0
pieces_nowhere l bytes = refl

pub messages_more : (l : SalvageLimits) (bytes : List ℕ) (from : ℕ) (ps : List Piece) (at end count : ℕ) → ArePieces l bytes from ps at → 0 < count → IsSettledRun l bytes at end count → ArePieces l bytes from (ps ++ piece.Messages at end count ∷ []) end
messages_more l bytes from [] at end count are some run = (sym are, some, run, refl)
messages_more l bytes from (piece.Messages a e n ∷ ps) at end count are some run = (are.0, are.1, are.2, messages_more l bytes e ps at end count are.3 some run)
messages_more l bytes from (piece.Gap a e ∷ ps) at end count are some run = (are.0, are.1, messages_more l bytes e ps at end count are.2 some run)

pub gap_more : (l : SalvageLimits) (bytes : List ℕ) (from : ℕ) (ps : List Piece) (at end : ℕ) → ArePieces l bytes from ps at → IsGap l bytes at end → ArePieces l bytes from (ps ++ piece.Gap at end ∷ []) end
gap_more l bytes from [] at end are gap = (sym are, gap, refl)
gap_more l bytes from (piece.Messages a e n ∷ ps) at end are gap = (are.0, are.1, are.2, gap_more l bytes e ps at end are.3 gap)
gap_more l bytes from (piece.Gap a e ∷ ps) at end are gap = (are.0, are.1, gap_more l bytes e ps at end are.2 gap)

-- Where no settled message begins.
none_here : (l : SalvageLimits) (bytes : List ℕ) (messages : List Segments) (rest : List ℕ) → length messages ≡ 0 → BeginSettled l bytes messages rest → is_settled l rest ≡ false → is_settled l bytes ≡ false
none_here l bytes [] rest none begins stops = ap (is_settled l) begins ∙ stops
none_here l bytes (s ∷ messages) rest none begins stops = absurd (omega (arith, none))

pub no_run : (l : SalvageLimits) (bytes : List ℕ) (at end count : ℕ) → count ≤ 0 → IsSettledRun l bytes at end count → is_settled l (drop at bytes) ≡ false
no_run l bytes at end count none run =
    let number = run.number in
    none_here l (drop at bytes) run.messages (drop end bytes) (omega (arith, number, none)) run.begins run.stops

pub some_stream : (len count : ℕ) → (count ≡ 0 → ⊥) → piece.Messages 0 len count ∷ [] ≡ whole_stream len count
some_stream len zero some = absurd (some refl)
some_stream len (suc count) some = refl
