-- Packed words, group by group.
use Rattle.std.proofs.Common.{◌≡◌, ◌≢◌, ℕ, zero, suc, ◌+◌, ◌-◌, ◌*◌, ◌/◌, ◌<◌, ◌≤◌, List, [], ◌∷◌, ◌++◌, length, take, drop, None, Some, refl, sym, ap, subst, ◌∙◌, append_assoc, append-nil, arith, length-append, length-drop, length-take-le}
use Rattle.std.specs.declared.option.Option.{Option}
use Rattle.std.specs.Int.{w64, from_le_bytes, to_le_bytes}
use Rattle.std.specs.Io.KnownBytes.{Appends}
use Rattle.std.proofs.KnownBytes.{Appends-nil, Appends-trans}
use Rattle.capnp_units.specs.declared.kinds.ErrorKind.{ErrorKind}
use Rattle.capnp_units.specs.declared.kinds.ErrorKind.TheVariants.{OutOfMemory, BufferNotLargeEnough, Device}
use Rattle.capnp_model.specs.Bytes.{bytes_of_words, words_in_bytes, AreBytes}
use Rattle.capnp_model.specs.Packing as model
use Rattle.capnp_model.specs.Packing.{byte_tag, nonzero, count_byte, longest_run, packed_from, packed}
use Rattle.capnp_stream.specs.Segments.{whole_words}
use Rattle.capnp_stream_io.specs.Streams.{AppendsPart, RoomFalls, IsWriteRefusal}
use Rattle.capnp_stream_io.proofs.lemmas.KnownLemmas.{AppendsPart-more, AppendsPart-next}
use Rattle.capnp_model.proofs.lemmas.ByteLists.{words_spell, bytes_in_front}
use Rattle.capnp_stream.proofs.lemmas.WordLemmas.{words_in_bytes-take}
use Rattle.capnp_stream.proofs.lemmas.WriteLemmas.{RoomFalls-none}
use Rattle.capnp_model.proofs.lemmas.WordsInBytes.{words_in_bytes-drop}
use Rattle.capnp_stream_packed.specs.Runs.{run_view, run_words, run_bytes}
use Rattle.std.proofs.Common.{◌%◌, ◌⊎◌, inl, inr, set, length-set}
use Rattle.std.proofs.lemmas.Bool.{ne_eqb}
use Rattle.std.proofs.lemmas.List.{take_more_set}
use borrow.Rule.Slice.PartMut.{put_mid}
use Rattle.capnp_stream_io.proofs.lemmas.Filling.{take-put_mid_more}
use Rattle.capnp_stream_packed.specs.Written.{packed_on, WritesUpTo, PacksFront}
use Rattle.capnp_stream_packed.specs.declared.runs.Run.{Run}
use Rattle.capnp_stream_packed.specs.declared.runs.Run.TheVariants.{First, Next, Zeros, Verbatim}
use Rattle.capnp_stream_packed.proofs.RunLemmas.{bytes-again}

-- ---- behind a run

over_zeros : (k : ℕ) (ws : List ℕ) → packed_from (model.zeros k) ws ≡ packed_from model.next (drop k ws)
over_zeros zero [] = refl
over_zeros zero (w ∷ ws) = refl
over_zeros (suc k) [] = refl
over_zeros (suc k) (w ∷ ws) = over_zeros k ws

over_verbatim : (k : ℕ) (ws : List ℕ) → packed_from (model.verbatim k) ws ≡ bytes_of_words (take k ws) ++ packed_from model.next (drop k ws)
over_verbatim zero [] = refl
over_verbatim zero (w ∷ ws) = refl
over_verbatim (suc k) [] = refl
over_verbatim (suc k) (w ∷ ws) = ap (λ (l : List ℕ). to_le_bytes w64 w ++ l) (over_verbatim k ws) ∙ sym (append_assoc (to_le_bytes w64 w) (bytes_of_words (take k ws)) (packed_from model.next (drop k ws)))

from_first : (ws : List ℕ) → packed_from model.first ws ≡ packed_from model.next ws
from_first [] = refl
from_first (w ∷ ws) = refl

module _ (k : ℕ) (bytes : List ℕ) (fits : 8 * k ≤ length bytes) where
  behind_words : ℕ
  behind_words = length bytes / 8 - k

  whole-drop : whole_words (drop (8 * k) bytes) ≡ drop k (whole_words bytes)
  unfolding behind_words
  whole-drop =
      let m = behind_words in
      let count : length (drop (8 * k) bytes) / 8 ≡ m = omega (arith, length-drop (8 * k) bytes) in
      let all : k + m ≡ length bytes / 8 = omega arith in
      ap (λ (n : ℕ). words_in_bytes n (drop (8 * k) bytes)) count ∙ sym (words_in_bytes-drop k m bytes) ∙ ap (λ (n : ℕ). drop k (words_in_bytes n bytes)) all

  whole-take : AreBytes bytes → bytes_of_words (take k (whole_words bytes)) ≡ take (8 * k) bytes
  unfolding behind_words
  whole-take small =
      let m = behind_words in
      let all : length bytes / 8 ≡ k + m = omega arith in
      let front : take k (whole_words bytes) ≡ words_in_bytes k (take (8 * k) bytes) =
      ap (λ (n : ℕ). take k (words_in_bytes n bytes)) all ∙ words_in_bytes-take k m bytes (omega arith) in
      ap bytes_of_words front ∙ words_spell k (take (8 * k) bytes) (length-take-le (8 * k) bytes fits) (bytes_in_front (8 * k) bytes small)

over_run : (run : Run) (bytes : List ℕ) → 8 * run_words run ≤ length bytes → AreBytes bytes → packed_from (run_view run) (whole_words bytes) ≡ run_bytes run bytes ++ packed_from model.next (whole_words (drop (8 * run_words run) bytes))
over_run First bytes fits small = from_first (whole_words bytes)
over_run Next bytes fits small = refl
over_run (Zeros k) bytes fits small = over_zeros k (whole_words bytes) ∙ ap (packed_from model.next) (sym (whole-drop k bytes fits))
over_run (Verbatim k) bytes fits small =
    over_verbatim k (whole_words bytes) ∙ ap (λ (l : List ℕ). l ++ packed_from model.next (drop k (whole_words bytes))) (whole-take k bytes fits small)
    ∙ ap (λ (ws : List ℕ). take (8 * k) bytes ++ packed_from model.next ws) (sym (whole-drop k bytes fits))

-- a group as it is written
abbrev group_of : List ℕ → Run → List ℕ
group_of word run = byte_tag word ∷ (nonzero word ++ count_byte (run_view run))

abbrev grouped : List ℕ → model.Run → List ℕ → List ℕ
grouped word run ws = (byte_tag word ∷ (nonzero word ++ count_byte run)) ++ packed_from run ws

packed-step : (word behind : List ℕ) (run : Run) → length word ≡ 8 → AreBytes word → AreBytes behind → run_view run ≡ longest_run (byte_tag word) (whole_words behind) → 8 * run_words run ≤ length behind
    → packed_on (from_le_bytes w64 word ∷ whole_words behind) ≡ (group_of word run ++ run_bytes run behind) ++ packed_on (whole_words (drop (8 * run_words run) behind))
unfolding packed_on
packed-step word behind run eight small others is fits =
    let ws = whole_words behind in
    let again : to_le_bytes w64 (from_le_bytes w64 word) ≡ word = bytes-again word eight small in
    let start : packed_from model.next (from_le_bytes w64 word ∷ ws) ≡ grouped word (longest_run (byte_tag word) ws) ws =
    ap (λ (bytes : List ℕ). grouped bytes (longest_run (byte_tag bytes) ws) ws) again in
    start ∙ ap (λ (r : model.Run). grouped word r ws) (sym is) ∙ ap (λ (l : List ℕ). group_of word run ++ l) (over_run run behind fits others)
    ∙ sym (append_assoc (group_of word run) (run_bytes run behind) (packed_from model.next (whole_words (drop (8 * run_words run) behind))))

-- a group whose parts were worked out
pub written-step : (word behind : List ℕ) (tag : ℕ) (run : Run) (group verbatim rest : List ℕ) → length word ≡ 8 → AreBytes word → AreBytes behind → tag ≡ byte_tag word → run_view run ≡ longest_run tag (whole_words behind)
    → 8 * run_words run ≤ length behind → group ≡ tag ∷ (nonzero word ++ count_byte (run_view run)) → verbatim ≡ run_bytes run behind → rest ≡ drop (8 * run_words run) behind
    → packed_on (from_le_bytes w64 word ∷ whole_words behind) ≡ (group ++ verbatim) ++ packed_on (whole_words rest)
written-step word behind tag run group verbatim rest eight small others marks is fits made one left =
    let named : run_view run ≡ longest_run (byte_tag word) (whole_words behind) = is ∙ ap (λ (t : ℕ). longest_run t (whole_words behind)) marks in
    let whole : group ≡ group_of word run = made ∙ ap (λ (t : ℕ). t ∷ (nonzero word ++ count_byte (run_view run))) marks in
    packed-step word behind run eight small others named fits
    ∙ ap (λ (l : List ℕ). (l ++ run_bytes run behind) ++ packed_on (whole_words (drop (8 * run_words run) behind))) (sym whole)
    ∙ ap (λ (l : List ℕ). (group ++ l) ++ packed_on (whole_words (drop (8 * run_words run) behind))) (sym one)
    ∙ ap (λ (l : List ℕ). (group ++ verbatim) ++ packed_on (whole_words l)) (sym left)

-- ---- groups in a buffer

-- the bytes of a run are those at the front
pub run-front : (run : Run) (bytes verbatim : List ℕ) → 8 * run_words run ≤ length bytes → verbatim ≡ run_bytes run bytes → (length verbatim ≤ length bytes) × (take (length verbatim) bytes ≡ verbatim)
run-front First bytes verbatim fits is = rw is (omega arith, refl)
run-front Next bytes verbatim fits is = rw is (omega arith, refl)
run-front (Zeros k) bytes verbatim fits is = rw is (omega arith, refl)
run-front (Verbatim k) bytes verbatim fits is =
    let long : length verbatim ≡ 8 * k = ap length is ∙ length-take-le (8 * k) bytes fits in
    (omega arith, ap (λ (n : ℕ). take n bytes) long ∙ sym is)

-- the tag, and the first bytes that were put behind it
pub head-front : (buf bytes : List ℕ) (tag m : ℕ) → 1 ≤ length buf → m ≤ length bytes → take (1 + m) (put_mid 1 8 (set buf 0 tag) bytes) ≡ tag ∷ take m bytes
head-front buf bytes tag m some most =
    let size : length (set buf 0 tag) ≡ length buf = length-set buf 0 tag in
    let one : 0 + 1 ≡ 1 = omega arith in
    let front : take 1 (set buf 0 tag) ≡ tag ∷ [] = ap (λ (n : ℕ). take n (set buf 0 tag)) (sym one) ∙ take_more_set buf 0 tag (omega arith) in
    take-put_mid_more 1 8 m (set buf 0 tag) bytes (omega arith) most ∙ ap (λ (l : List ℕ). l ++ take m bytes) front

pub no-count : (head : List ℕ) (run : Run) → (run ≡ First) ⊎ (run ≡ Next) → head ++ count_byte (run_view run) ≡ head
no-count head run (inl is) = rw is (append-nil head)
no-count head run (inr is) = rw is (append-nil head)

pub one-count : (count : ℕ) (run : Run) → (run ≡ Zeros count) ⊎ (run ≡ Verbatim count) → count_byte (run_view run) ≡ count ∷ []
one-count count run (inl is) = rw is refl
one-count count run (inr is) = rw is refl

module _ (word behind : List ℕ) (tag : ℕ) (run : Run) (bytes buf verbatim rest : List ℕ) (len : ℕ)
    (eight : length word ≡ 8) (small : AreBytes word) (others : AreBytes behind) (marks_are : tag ≡ byte_tag word) (is : run_view run ≡ longest_run tag (whole_words behind)) (fits : 8 * run_words run ≤ length behind)
    (made : take len buf ≡ tag ∷ (nonzero word ++ count_byte (run_view run))) (one : verbatim ≡ run_bytes run behind) (left : rest ≡ drop (8 * run_words run) behind)
    (front : whole_words bytes ≡ from_le_bytes w64 word ∷ whole_words behind) (long : length bytes ≡ 8 + length behind) (whole_words_are : length bytes % 8 ≡ 0) (room : len ≤ length buf) where
  group-step : packed_on (whole_words bytes) ≡ (take len buf ++ verbatim) ++ packed_on (whole_words rest)
  group-step = ap packed_on front ∙ written-step word behind tag run (take len buf) verbatim rest eight small others marks_are is fits made one left

  behind-length : length rest ≡ length behind - 8 * run_words run
  behind-length = ap length left ∙ length-drop (8 * run_words run) behind

  -- the run is left to be written
  pub packs-head : PacksFront bytes buf len verbatim rest
  packs-head = let size = behind-length in record { within = room; shorter = omega arith; whole = omega arith; spells = group-step }

  -- the run was put behind
  pub packs-group : (after : List ℕ) → length after ≡ length buf → len + length verbatim ≤ length buf → take (len + length verbatim) after ≡ take len buf ++ verbatim → PacksFront bytes after (len + length verbatim) [] rest
  packs-group after same enough joined =
      let size = behind-length in
      record {
        within = omega arith;
        shorter = omega arith;
        whole = omega arith;
        spells = group-step ∙ ap (λ (l : List ℕ). l ++ packed_on (whole_words rest)) (sym joined ∙ sym (append-nil (take (len + length verbatim) after)));
      }

-- so many bytes of a buffer spell the words in front of those that are left, of which there are fewer once there are such bytes
pub record Spelled (bytes buf : List ℕ) (len : ℕ) (left : List ℕ) : Type 0 where
  pub within : len ≤ length buf
  pub whole : length left % 8 ≡ 0
  pub most : length left ≤ length bytes
  pub fewer : 0 < len → length left < length bytes
  pub spells : packed_on (whole_words bytes) ≡ take len buf ++ packed_on (whole_words left)

pub Spelled-none : (bytes buf : List ℕ) → length bytes % 8 ≡ 0 → Spelled bytes buf 0 bytes
Spelled-none bytes buf whole = record { within = omega arith; whole = whole; most = omega arith; fewer = λ some. absurd (omega arith); spells = refl }

pub Spelled-of : (bytes buf : List ℕ) (len : ℕ) (left : List ℕ) → PacksFront bytes buf len [] left → Spelled bytes buf len left
Spelled-of bytes buf len left p = record {
  within = p.within;
  whole = p.whole;
  most = omega (arith, p.shorter);
  fewer = λ some. p.shorter;
  spells = p.spells ∙ ap (λ (l : List ℕ). l ++ packed_on (whole_words left)) (append-nil (take len buf));
}

pub Spelled-all : (bytes buf : List ℕ) (len : ℕ) (left : List ℕ) → length left < length bytes → Spelled bytes buf len left → PacksFront bytes buf len [] left
Spelled-all bytes buf len left fewer p = record {
  within = p.within;
  shorter = fewer;
  whole = p.whole;
  spells = p.spells ∙ ap (λ (l : List ℕ). l ++ packed_on (whole_words left)) (sym (append-nil (take len buf)));
}

pub Spelled-then : (bytes buf tail after left run behind : List ℕ) (len k : ℕ) → Spelled bytes buf len left → PacksFront left tail k run behind → length tail ≡ length buf - len → length after ≡ length buf
    → take (len + k) after ≡ take len buf ++ take k tail → PacksFront bytes after (len + k) run behind
Spelled-then bytes buf tail after left run behind len k first second size same joined =
    let words = packed_on (whole_words behind) in
    record {
      within = omega (arith, first.within, second.within);
      shorter = omega (arith, first.most, second.shorter);
      whole = second.whole;
      spells = first.spells ∙ ap (λ (l : List ℕ). take len buf ++ l) second.spells ∙ sym (append_assoc (take len buf) (take k tail ++ run) words)
          ∙ ap (λ (l : List ℕ). l ++ words) (sym (append_assoc (take len buf) (take k tail) run)) ∙ ap (λ (l : List ℕ). (l ++ run) ++ words) (sym joined);
    }

-- a tag that marks some bytes and not all has no run
pub next-longest : (tag : ℕ) (ws : List ℕ) → tag ≢ 0 → tag ≢ 255 → model.next ≡ longest_run tag ws
next-longest tag ws some full = let a = ne_eqb tag 0 some in let b = ne_eqb tag 255 full in rw (a, b) refl

-- ---- the packed words of a piece

pub packed-is_on : (ws : List ℕ) → packed ws ≡ packed_on ws
unfolding packed packed_on
packed-is_on ws = from_first ws

pub packed_on-none : packed_on [] ≡ []
unfolding packed_on
packed_on-none = refl

-- ---- what is written one behind the other

pub RoomFalls-trans : (a b c : Option ℕ) (n m : ℕ) → RoomFalls a b n → RoomFalls b c m → RoomFalls a c (n + m)
RoomFalls-trans None b c n m p q = subst (λ (o : Option ℕ). RoomFalls o c m) p q
RoomFalls-trans (Some x) None c n m p q = absurd p
RoomFalls-trans (Some x) (Some y) None n m p q = absurd q
RoomFalls-trans (Some x) (Some y) (Some z) n m p q = omega arith

pub refusal-more : (grows : Type 0) (room : Option ℕ) (n m : ℕ) (k : ErrorKind) → n ≤ m → IsWriteRefusal grows room n k → IsWriteRefusal grows room m k
refusal-more grows room n m Device le h = tt
refusal-more grows room n m OutOfMemory le h = h
refusal-more grows None n m BufferNotLargeEnough le h = h
refusal-more grows (Some left) n m BufferNotLargeEnough le h = omega arith
refusal-more grows room n m _ le h = absurd h

pub refusal-behind : (grows : Type 0) (a b : Option ℕ) (n m : ℕ) (k : ErrorKind) → RoomFalls a b n → IsWriteRefusal grows b m k → IsWriteRefusal grows a (n + m) k
refusal-behind grows a b n m Device falls h = tt
refusal-behind grows a b n m OutOfMemory falls h = h
refusal-behind grows None None n m BufferNotLargeEnough falls h = h
refusal-behind grows None (Some y) n m BufferNotLargeEnough falls h = absurd cc
refusal-behind grows (Some x) None n m BufferNotLargeEnough falls h = absurd falls
refusal-behind grows (Some x) (Some y) n m BufferNotLargeEnough falls h = omega arith
refusal-behind grows a b n m _ falls h = absurd h

-- a group, the bytes of the run behind it, and what is left
module _ (words left group run : List ℕ) (step : packed_on words ≡ (group ++ run) ++ packed_on left) (a b : Option (List ℕ)) (ra rb : Option ℕ) where
  long : length (packed_on words) ≡ length group + (length run + length (packed_on left))
  long = omega (arith, ap length step, length-append (group ++ run) (packed_on left), length-append group run)

  pub group-cut : AppendsPart a b group → AppendsPart a b (packed_on words)
  group-cut p = subst (AppendsPart a b) (sym step) (AppendsPart-more a b (group ++ run) (packed_on left) (AppendsPart-more a b group run p))

  pub group-refusal : (grows : Type 0) (k : ErrorKind) → IsWriteRefusal grows ra (length group) k → IsWriteRefusal grows ra (length (packed_on words)) k
  group-refusal grows k h = refusal-more grows ra (length group) (length (packed_on words)) k (omega (arith, long)) h

  module _ (first : Appends a b group) (falls : RoomFalls ra rb (length group)) (c : Option (List ℕ)) (rc : Option ℕ) where
    pub run-cut : AppendsPart b c run → AppendsPart a c (packed_on words)
    run-cut p = subst (AppendsPart a c) (sym step) (AppendsPart-more a c (group ++ run) (packed_on left) (AppendsPart-next a b c group run first p))

    pub run-refusal : (grows : Type 0) (k : ErrorKind) → IsWriteRefusal grows rb (length run) k → IsWriteRefusal grows ra (length (packed_on words)) k
    run-refusal grows k h = refusal-more grows ra (length group + length run) (length (packed_on words)) k (omega (arith, long)) (refusal-behind grows ra rb (length group) (length run) k falls h)

    pub group-written : Appends b c run → RoomFalls rb rc (length run) → WritesUpTo words left a c ra rc
    group-written p q = record {
      part = group ++ run;
      whole = step;
      written = Appends-trans a b c group run first p;
      falls = subst (RoomFalls ra rc) (sym (length-append group run)) (RoomFalls-trans ra rb rc (length group) (length run) falls q);
    }

pub WritesUpTo-start : (words : List ℕ) (a : Option (List ℕ)) (r : Option ℕ) → WritesUpTo words words a a r r
WritesUpTo-start words a r = record { part = []; whole = refl; written = Appends-nil a; falls = RoomFalls-none r }

module _ (words mid : List ℕ) (a b c : Option (List ℕ)) (ra rb rc : Option ℕ) (before : WritesUpTo words mid a b ra rb) where
  pub WritesUpTo-trans : (left : List ℕ) → WritesUpTo mid left b c rb rc → WritesUpTo words left a c ra rc
  WritesUpTo-trans left p = record {
    part = before.part ++ p.part;
    whole = before.whole ∙ ap (λ (l : List ℕ). before.part ++ l) p.whole ∙ sym (append_assoc before.part p.part (packed_on left));
    written = Appends-trans a b c before.part p.part before.written p.written;
    falls = subst (RoomFalls ra rc) (sym (length-append before.part p.part)) (RoomFalls-trans ra rb rc (length before.part) (length p.part) before.falls p.falls);
  }

  pub words-cut : AppendsPart b c (packed_on mid) → AppendsPart a c (packed words)
  words-cut p = subst (AppendsPart a c) (sym (packed-is_on words ∙ before.whole)) (AppendsPart-next a b c before.part (packed_on mid) before.written p)

  pub words-refusal : (grows : Type 0) (k : ErrorKind) → IsWriteRefusal grows rb (length (packed_on mid)) k → IsWriteRefusal grows ra (length (packed words)) k
  words-refusal grows k h =
      let P : ℕ → Type 0 = λ n. IsWriteRefusal grows ra n k in
      subst P (sym (ap length (packed-is_on words ∙ before.whole) ∙ length-append before.part (packed_on mid))) (refusal-behind grows ra rb (length before.part) (length (packed_on mid)) k before.falls h)

  pub words-written : mid ≡ [] → Appends a b (packed words) × RoomFalls ra rb (length (packed words))
  words-written none =
      let all : packed words ≡ before.part = packed-is_on words ∙ before.whole ∙ ap (λ (l : List ℕ). before.part ++ packed_on l) none ∙ ap (λ (l : List ℕ). before.part ++ l) packed_on-none ∙ append-nil before.part in
      (subst (Appends a b) (sym all) before.written, subst (λ (l : List ℕ). RoomFalls ra rb (length l)) (sym all) before.falls)
