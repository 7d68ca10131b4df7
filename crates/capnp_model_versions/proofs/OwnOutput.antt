-- A relay's own output, relayed again without calls.
use Rattle.std.proofs.Common.{◌≡◌, ℕ, ◌+◌, Bool, true, false, inl, inr, Option, None, List, [], ◌∷◌, ◌++◌, sum, take, Ok, refl, sym, ◌∙◌, ap, subst, ltb, ◌/◌}
use Rattle.std.specs.List.{flat_map, AllByRecursion}
use Rattle.capnp_model.specs.Kinds.{Kind, InvalidNumberOfSegments, MessageTooLarge}
use Rattle.capnp_model.specs.Chains.{guard}
use Rattle.capnp_model.specs.Segments.{Segments}
use Rattle.capnp_model.specs.Trees.{Tree}
use Rattle.capnp_model.specs.Trimming.{trim}
use Rattle.capnp_model.specs.Encoding.{canonical_words}
use Rattle.capnp_model.specs.Packing.{unpacked}
use Rattle.capnp_model.specs.Messages.{Reader, Writer, plain_words, within, halves, behind_lengths, behind_first, message_at, spelled}
use Rattle.capnp_model.specs.Spelling.{CanSpell}
use Rattle.capnp_model.specs.Schemas.{Node}
use Rattle.capnp_model.specs.Calls.{Call}
use Rattle.capnp_model.specs.Answers.{Answer, refused_value, refused_root, refused_depth, written, Limits, opened_root, widened_root, edits}
use Rattle.capnp_model.specs.Runs.{outputs_of, AnswerEach, BeginWith, End, finished}
use Rattle.capnp_model.specs.SameRuns.{IsFormReader, IsForm, Work, IsAnswerIn, Relays}
use Rattle.capnp_model.proofs.lemmas.Chaining.{ok_then, bind_ok}
use Rattle.capnp_model.proofs.lemmas.TrimTwice.{trim-trim}
use Rattle.capnp_model.proofs.lemmas.Written.{ReadsBack, plain_back, packed_back, message_back}
use Rattle.capnp_model.proofs.lemmas.RunLaws.{form_nothing, same_messages}
use Rattle.capnp_model_versions.specs.Fitting.{AreSpelled}
use Rattle.capnp_model_versions.specs.OwnOutput.{edited_value, SizesSuffice, SufficeEach, IsWritten, with_calls, relay_of}
use Rattle.capnp_model_versions.proofs.lemmas.WholeValues.{fits-whole}
use Rattle.capnp_model_versions.proofs.Structs.{edits_are_structs, trim_struct, opened_is_struct, reopened}
use Rattle.capnp_model_versions.proofs.lemmas.WrittenValues.{HasWritten, has-written, IsReadBack, read-back, sizes-fit}

-- ---- a message that is read within a limit is read without one

guard_passed : (b : Bool) (k : Kind) (u : Unit {0}) → guard b k ≡ Ok u → b ≡ true
guard_passed true k u h = refl
guard_passed false k u h = absurd (cc h)

module _ (read : Reader) (limit : Option ℕ) where
  lengths_free : (ns b : List ℕ) (r : Segments × List ℕ) → behind_lengths read limit ns b ≡ Ok r → behind_lengths read None ns b ≡ Ok r
  lengths_free ns b r e = let g = bind_ok (guard (within (sum ns) limit) MessageTooLarge) _ r e in g.2

  first_free : (w b : List ℕ) (r : Segments × List ℕ) → behind_first read read limit w b ≡ Ok r → behind_first read read None w b ≡ Ok r
  first_free [] b r e = absurd (cc e)
  first_free (n ∷ l) b r e =
      let g = bind_ok (guard (ltb n 511) InvalidNumberOfSegments) _ r e in
      let t = bind_ok (read ((n + 1) / 2) b) _ r g.2 in
      ok_then (guard (ltb n 511) InvalidNumberOfSegments) _ g.0 (Ok r) g.1 (ok_then (read ((n + 1) / 2) b) _ t.0 (Ok r) t.1 (lengths_free (take (n + 1) (l ++ halves t.0.0)) t.0.1 r t.2))

  message_free : (b : List ℕ) (r : Segments × List ℕ) → message_at read limit b ≡ Ok r → message_at read None b ≡ Ok r
  unfolding message_at
  message_free b r e = let t = bind_ok (read 1 b) _ r e in ok_then (read 1 b) _ t.0 (Ok r) t.1 (first_free (halves t.0.0) t.0.1 r t.2)

  pub begins_free : (ms : List Segments) (b rest : List ℕ) → BeginWith read limit b ms rest → BeginWith read None b ms rest
  begins_free [] b rest h = h
  begins_free (s ∷ ms) b rest h = (h.0, message_free b (s, h.0) h.1, begins_free ms h.0 rest h.2)

pub form-reads-back : (read : Reader) (write : Writer) → IsForm read write → ReadsBack read write
form-reads-back read write (inl f) = subst (λ r. ReadsBack r write) (sym f.0) (subst (λ w. ReadsBack plain_words w) (sym f.1) plain_back)
form-reads-back read write (inr f) = subst (λ r. ReadsBack r write) (sym f.0) (subst (λ w. ReadsBack unpacked w) (sym f.1) packed_back)

form_reader : (read : Reader) (write : Writer) → IsForm read write → IsFormReader read
form_reader read write (inl f) = inl f.0
form_reader read write (inr f) = inr f.0

-- ---- the messages that were written

unfoldable pub outs : List Answer → List Segments
outs [] = []
outs (written s rs ∷ answers) = s ∷ outs answers
outs (a ∷ answers) = outs answers

pub outputs_are : (write : Writer) (answers : List Answer) → outputs_of write answers ≡ flat_map (spelled write) (outs answers)
unfolding outs
outputs_are write [] = refl
outputs_are write (refused_value ∷ answers) = outputs_are write answers
outputs_are write (refused_root ∷ answers) = outputs_are write answers
outputs_are write (refused_depth ∷ answers) = outputs_are write answers
outputs_are write (written s rs ∷ answers) = ap (λ b. spelled write s ++ b) (outputs_are write answers)

begin_spelled : (read : Reader) (write : Writer) → ReadsBack read write → (ms : List Segments) → AllByRecursion (CanSpell None) ms → BeginWith read None (flat_map (spelled write) ms) ms []
begin_spelled read write back [] h = refl
begin_spelled read write back (s ∷ ms) h = (flat_map (spelled write) ms, message_back read write None s (flat_map (spelled write) ms) back h.0, begin_spelled read write back ms h.1)

-- ---- one message

module _ (w : Work) (back : (message segments : Segments) → SizesSuffice w message → (h : HasWritten w message segments) → IsReadBack w segments h.value) where
  -- what is written of it without calls
  same_again : (message segments : Segments) → SizesSuffice w message → HasWritten w message segments → (limits : Limits) (again : Segments) → HasWritten (with_calls [] limits w) segments again → again ≡ segments
  unfolding edits opened_root
  same_again message segments sizes h limits again g =
      let e : Tree = edited_value w h.value in
      let is = back message segments sizes h in
      let v = is.again limits g.value g.is_value in
      let twice : trim (trim e) ≡ trim e = trim-trim e in
      let is_struct = trim_struct e (edits_are_structs w.schema w.root w.calls (opened_root w.schema w.root h.value) (opened_is_struct w.schema w.root h.value h.is_open)) in
      let opened : trim (widened_root (w.schema.shape_of w.root) (trim (trim e))) ≡ trim e =
      ap (λ z. trim (widened_root (w.schema.shape_of w.root) z)) twice ∙ reopened (w.schema.shape_of w.root) (trim e) is_struct (fits-whole (trim e) is.fits) ∙ twice in
      g.is_written ∙ ap (λ z. canonical_words (trim (widened_root (w.schema.shape_of w.root) (trim z))) ∷ []) v ∙ ap (λ z. canonical_words z ∷ []) opened ∙ sym h.is_written

  -- ---- all messages

  outs_spell : (ms : List Segments) (xs : List Answer) → SufficeEach w ms xs → AnswerEach (IsAnswerIn w) ms xs → AllByRecursion (CanSpell None) (outs xs)
  unfolding outs
  outs_spell [] [] h a = tt
  outs_spell [] (x ∷ xs) h a = absurd a
  outs_spell (m ∷ ms) [] h a = absurd a
  outs_spell (m ∷ ms) (refused_value ∷ xs) h a = outs_spell ms xs h a.1
  outs_spell (m ∷ ms) (refused_root ∷ xs) h a = outs_spell ms xs h a.1
  outs_spell (m ∷ ms) (refused_depth ∷ xs) h a = outs_spell ms xs h a.1
  outs_spell (m ∷ ms) (written s rs ∷ xs) h a = ((back m s h.0 (has-written w m s rs a.0)).spells, outs_spell ms xs h.1 a.1)

  outs_again : (limits : Limits) (ms : List Segments) (xs ys : List Answer) → SufficeEach w ms xs → AnswerEach (IsAnswerIn w) ms xs → AnswerEach (IsAnswerIn (with_calls [] limits w)) (outs xs) ys → AllByRecursion IsWritten ys → outs ys ≡ outs xs
  unfolding outs
  outs_again limits [] [] [] h a b k = refl
  outs_again limits [] [] (y ∷ ys) h a b k = absurd b
  outs_again limits [] (x ∷ xs) ys h a b k = absurd a
  outs_again limits (m ∷ ms) [] ys h a b k = absurd a
  outs_again limits (m ∷ ms) (refused_value ∷ xs) ys h a b k = outs_again limits ms xs ys h a.1 b k
  outs_again limits (m ∷ ms) (refused_root ∷ xs) ys h a b k = outs_again limits ms xs ys h a.1 b k
  outs_again limits (m ∷ ms) (refused_depth ∷ xs) ys h a b k = outs_again limits ms xs ys h a.1 b k
  outs_again limits (m ∷ ms) (written s rs ∷ xs) [] h a b k = absurd b
  outs_again limits (m ∷ ms) (written s rs ∷ xs) (refused_value ∷ ys) h a b k = absurd k.0
  outs_again limits (m ∷ ms) (written s rs ∷ xs) (refused_root ∷ ys) h a b k = absurd k.0
  outs_again limits (m ∷ ms) (written s rs ∷ xs) (refused_depth ∷ ys) h a b k = absurd k.0
  outs_again limits (m ∷ ms) (written s rs ∷ xs) (written s' rs' ∷ ys) h a b k =
      let one = same_again m s h.0 (has-written w m s rs a.0) limits s' (has-written (with_calls [] limits w) s s' rs' b.0) in
      let rest = outs_again limits ms xs ys h.1 a.1 b.1 k.1 in cc

  own_output : (limits : Limits) (read other : Reader) (write : Writer) (bytes output log others lines : List ℕ) (end : End) → IsForm other write
      → (x : Relays w read write bytes output log end) → SufficeEach w x.messages x.answers
      → (y : Relays (with_calls [] limits w) other write output others lines finished) → AllByRecursion IsWritten y.answers → others ≡ output
  own_output limits read other write bytes output log others lines end form x sizes y all =
      let spelled_all = outs_spell x.messages x.answers sizes x.answered in
      let is_output : output ≡ flat_map (spelled write) (outs x.answers) = x.writes ∙ outputs_are write x.answers in
      let own : BeginWith other None output (outs x.answers) [] = subst (λ b. BeginWith other None b (outs x.answers) []) (sym is_output) (begin_spelled other write (form-reads-back other write form) (outs x.answers) spelled_all) in
      let free = begins_free other limits.words y.messages output y.rest y.begins in
      let same = same_messages other (form_nothing other (form_reader other write form)) None y.messages (outs x.answers) output y.rest [] finished finished free y.ends own refl in
      let again = outs_again limits x.messages x.answers y.answers sizes x.answered (subst (λ ms. AnswerEach (IsAnswerIn (with_calls [] limits w)) ms y.answers) same.0 y.answered) all in
      y.writes ∙ outputs_are write y.answers ∙ ap (flat_map (spelled write)) again ∙ sym is_output

-- THE LAW: a relay's own output, relayed again without calls, is the same, where each message is written.
pub own-output-again : (nodes : List Node) (quoted : List ℕ → List ℕ) (id : ℕ) (calls : List Call) (limits again : Limits) (read other : Reader) (write : Writer) (bytes output log others lines : List ℕ) (end : End) → AreSpelled nodes calls → IsForm other write
    → (x : Relays (relay_of nodes quoted id calls limits) read write bytes output log end) → SufficeEach (relay_of nodes quoted id calls limits) x.messages x.answers
    → (y : Relays (relay_of nodes quoted id [] again) other write output others lines finished) → AllByRecursion IsWritten y.answers → others ≡ output
own-output-again nodes quoted id calls limits again read other write bytes output log others lines end spelled form x sizes y all =
    own_output (relay_of nodes quoted id calls limits) (λ message segments enough h. read-back (relay_of nodes quoted id calls limits) message segments (sizes-fit nodes quoted id calls limits message spelled enough) h) again read other write bytes output log others lines end form x sizes y all
