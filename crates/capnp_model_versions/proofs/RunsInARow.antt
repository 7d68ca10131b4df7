-- Two relays in a row write the bytes of one with the joined calls.
use Rattle.std.proofs.Common.{◌≡◌, ℕ, suc, Bool, true, false, if◌then◌else◌, Option, Some, None, List, [], ◌∷◌, ◌++◌, length, refl, sym, ◌∙◌, ap, subst}
use Rattle.std.specs.List.{flat_map}
use Rattle.capnp_model.specs.Segments.{Segments}
use Rattle.capnp_model.specs.Trees.{Tree, null, capability, structure, plain_list, pointer_list, struct_list, depth}
use Rattle.capnp_model.specs.Trimming.{trim}
use Rattle.capnp_model.specs.Encoding.{canonical_words}
use Rattle.capnp_model.specs.Messages.{Reader, Writer, spelled}
use Rattle.capnp_model.specs.Spelling.{CanSpell}
use Rattle.capnp_model.specs.Answers.{Answer, refused_value, refused_root, refused_depth, written, Reply, keeps_nesting, value_within, edits, replies, answer_struct, answer_value, answer}
use Rattle.capnp_model.specs.Runs.{output_of, outputs_of, AnswerEach, BeginWith}
use Rattle.capnp_model.specs.SameRuns.{IsRefused, Work, IsAnswerIn}
use Rattle.capnp_model.proofs.lemmas.Chaining.{ok_is}
use Rattle.capnp_model.proofs.lemmas.Written.{ReadsBack, message_back}
use Rattle.capnp_model_versions.specs.OwnOutput.{WritesFitting, HaveFewWords, HoldsOfWritten}
use Rattle.capnp_model_versions.specs.TwoRelays.{TwoRelays, first, second, joined_relay, RelayWrites, CanRelay, HasShortCalls}
use Rattle.capnp_model_versions.specs.RunsInARow.{RunsInARow, AreWrittenAlike, WriteOnBothRoads}
use Rattle.capnp_model_versions.proofs.OwnOutput.{begins_free, form-reads-back, outs, outputs_are}
use Rattle.capnp_model_versions.proofs.SufficientSizes.{sizes-suffice}
use Rattle.capnp_model_versions.proofs.lemmas.WrittenValues.{has-written, read-back, sizes-fit}
use Rattle.capnp_model_versions.proofs.lemmas.TrimmedRelays.{relays-by-words, relays-by-values}

-- ---- as many messages of the same bytes are the same

module _ (read : Reader) (limit : Option ℕ) where
  same_front : (ms us : List Segments) (bytes rest other : List ℕ) → length ms ≡ length us → BeginWith read limit bytes ms rest → BeginWith read limit bytes us other → ms ≡ us
  same_front [] [] bytes rest other n b c = refl
  same_front [] (u ∷ us) bytes rest other n b c = absurd (cc n)
  same_front (m ∷ ms) [] bytes rest other n b c = absurd (cc n)
  same_front (m ∷ ms) (u ∷ us) bytes rest other n b c =
      let one = ok_is (m, b.0) (u, c.0) (sym b.1 ∙ c.1) in
      let more = ap (λ (r : Segments × List ℕ). r.1) one in
      let front = ap (λ (r : Segments × List ℕ). r.0) one in
      let behind = same_front ms us b.0 rest other (cc n) b.2 (subst (λ x. BeginWith read limit x us other) (sym more) c.2) in
      ap (λ z. z ∷ ms) front ∙ ap (λ l. u ∷ l) behind

one_each : (is_answer : Segments → Answer → Type 0) (ms : List Segments) (xs : List Answer) → AnswerEach is_answer ms xs → length ms ≡ length xs
one_each is_answer [] [] a = refl
one_each is_answer [] (x ∷ xs) a = absurd a
one_each is_answer (m ∷ ms) [] a = absurd a
one_each is_answer (m ∷ ms) (x ∷ xs) a = ap suc (one_each is_answer ms xs a.1)

roads_join : (xs ys zs : List Answer) → WriteOnBothRoads xs ys zs → length xs ≡ length zs
roads_join [] [] [] h = refl
roads_join [] [] (z ∷ zs) h = absurd h
roads_join [] (y ∷ ys) zs h = absurd h
roads_join (written s rs ∷ xs) [] [] h = absurd h
roads_join (written s rs ∷ xs) [] (z ∷ zs) h = absurd h
roads_join (written s rs ∷ xs) (y ∷ ys) [] h = absurd h
roads_join (written s rs ∷ xs) (y ∷ ys) (z ∷ zs) h = ap suc (roads_join xs ys zs h.1)
roads_join (refused_value ∷ xs) ys [] h = absurd h
roads_join (refused_value ∷ xs) ys (z ∷ zs) h = ap suc (roads_join xs ys zs h)
roads_join (refused_root ∷ xs) ys [] h = absurd h
roads_join (refused_root ∷ xs) ys (z ∷ zs) h = ap suc (roads_join xs ys zs h)
roads_join (refused_depth ∷ xs) ys [] h = absurd h
roads_join (refused_depth ∷ xs) ys (z ∷ zs) h = ap suc (roads_join xs ys zs h.1)

-- ---- what is written of an answer

no_output : (write : Writer) (a : Answer) → IsRefused a → output_of write a ≡ []
no_output write refused_value h = refl
no_output write refused_root h = refl
no_output write refused_depth h = refl
no_output write (written s rs) h = absurd h

-- two answers that are written alike, with the same words where they are written
one_output : (write : Writer) (y z : Answer) → AreWrittenAlike y z → ((two both : Segments) (rs rs' : List Reply) → y ≡ written two rs → z ≡ written both rs' → two ≡ both) → output_of write y ≡ output_of write z
one_output write (written two rs) (written both rs') h same = ap (spelled write) (same two both rs rs' refl refl)
one_output write (written two rs) refused_value h same = absurd h
one_output write (written two rs) refused_root h same = absurd h
one_output write (written two rs) refused_depth h same = absurd h
one_output write refused_value z h same = sym (no_output write z h)
one_output write refused_root z h same = sym (no_output write z h)
one_output write refused_depth z h same = sym (no_output write z h)

-- ---- what is refused whatever the calls

-- A refusal of the message's own value.
abbrev IsOfValue : Answer → Type 0
IsOfValue refused_value = Unit {0}
IsOfValue refused_root = Unit {0}
IsOfValue _ = ⊥

module _ (w : Work) (x : Answer) (h : IsOfValue x) where
  not_struct : (t : Tree) → x ≡ answer_struct w.schema w.quoted w.root w.calls w.limits.nesting t → ⊥
  not_struct t e = by (keeps_nesting (depth (edits w.schema w.root w.calls t)) w.limits.nesting) e
    where
      by : (b : Bool) → x ≡ (if b then written (canonical_words (trim (edits w.schema w.root w.calls t)) ∷ []) (replies w.schema w.quoted w.root w.calls t) else refused_depth) → ⊥
      by true e = subst IsOfValue e h
      by false e = subst IsOfValue e h

-- what one relay refuses for the message's value another with its limits refuses too
refused_anyway : (w v : Work) (message : Segments) (x z : Answer) → w.limits ≡ v.limits → IsOfValue x → IsAnswerIn w message x → IsAnswerIn v message z → IsRefused z
unfolding answer
refused_anyway w v message x z same h a b = by (value_within w.limits message) refl a
  where
    by : (o : Option Tree) → value_within w.limits message ≡ o → x ≡ answer_value w.schema w.quoted w.root w.calls w.limits.nesting o → IsRefused z
    by o e k = other o (ap (λ l. value_within l message) (sym same) ∙ e) k
      where
        other : (o : Option Tree) → value_within v.limits message ≡ o → x ≡ answer_value w.schema w.quoted w.root w.calls w.limits.nesting o → IsRefused z
        other None e k = subst IsRefused (sym (b ∙ ap (answer_value v.schema v.quoted v.root v.calls v.limits.nesting) e)) tt
        other (Some null) e k = absurd (not_struct w x h _ k)
        other (Some (structure d n ts)) e k = absurd (not_struct w x h _ k)
        other (Some (capability i)) e k = subst IsRefused (sym (b ∙ ap (answer_value v.schema v.quoted v.root v.calls v.limits.nesting) e)) tt
        other (Some (plain_list q n y)) e k = subst IsRefused (sym (b ∙ ap (answer_value v.schema v.quoted v.root v.calls v.limits.nesting) e)) tt
        other (Some (pointer_list ts)) e k = subst IsRefused (sym (b ∙ ap (answer_value v.schema v.quoted v.root v.calls v.limits.nesting) e)) tt
        other (Some (struct_list d p es)) e k = subst IsRefused (sym (b ∙ ap (answer_value v.schema v.quoted v.root v.calls v.limits.nesting) e)) tt

-- ---- message by message

module _ (r : TwoRelays) (holds : Segments → Segments → Type 0)
    (same : (message one two both : Segments) → holds message one → RelayWrites (first r) message one → RelayWrites (second r) one two → RelayWrites (joined_relay r) message both → two ≡ both)
    (spells : (message one : Segments) → holds message one → RelayWrites (first r) message one → CanSpell None one) where
  rows : (other : Reader) (write last : Writer) → ReadsBack other write → (ms us : List Segments) (xs ys zs : List Answer) (rest : List ℕ) → HoldsOfWritten holds ms xs
      → AnswerEach (IsAnswerIn (first r)) ms xs → AnswerEach (IsAnswerIn (joined_relay r)) ms zs → BeginWith other None (flat_map (spelled write) (outs xs)) us rest
      → AnswerEach (IsAnswerIn (second r)) us ys → WriteOnBothRoads xs ys zs → outputs_of last ys ≡ outputs_of last zs
  unfolding outs
  rows other write last back [] us [] [] [] rest p a j b g k = refl
  rows other write last back [] us [] (y ∷ ys) [] rest p a j b g k = absurd k
  rows other write last back [] us [] ys (z ∷ zs) rest p a j b g k = absurd j
  rows other write last back [] us (x ∷ xs) ys zs rest p a j b g k = absurd a
  rows other write last back (m ∷ ms) us [] ys zs rest p a j b g k = absurd a
  rows other write last back (m ∷ ms) us (x ∷ xs) ys [] rest p a j b g k = absurd j
  rows other write last back (m ∷ ms) us (refused_value ∷ xs) ys (z ∷ zs) rest p a j b g k =
      rows other write last back ms us xs ys zs rest p a.1 j.1 b g k ∙ ap (λ o. o ++ outputs_of last zs) (sym (no_output last z (refused_anyway (first r) (joined_relay r) m refused_value z refl tt a.0 j.0)))
  rows other write last back (m ∷ ms) us (refused_root ∷ xs) ys (z ∷ zs) rest p a j b g k =
      rows other write last back ms us xs ys zs rest p a.1 j.1 b g k ∙ ap (λ o. o ++ outputs_of last zs) (sym (no_output last z (refused_anyway (first r) (joined_relay r) m refused_root z refl tt a.0 j.0)))
  rows other write last back (m ∷ ms) us (refused_depth ∷ xs) ys (z ∷ zs) rest p a j b g k =
      rows other write last back ms us xs ys zs rest p a.1 j.1 b g k.1 ∙ ap (λ o. o ++ outputs_of last zs) (sym (no_output last z k.0))
  rows other write last back (m ∷ ms) us (written one rs ∷ xs) [] (z ∷ zs) rest p a j b g k = absurd k
  rows other write last back (m ∷ ms) [] (written one rs ∷ xs) (y ∷ ys) (z ∷ zs) rest p a j b g k = absurd g
  rows other write last back (m ∷ ms) (u ∷ us) (written one rs ∷ xs) (y ∷ ys) (z ∷ zs) rest p a j b g k =
      let behind : List ℕ = flat_map (spelled write) (outs xs) in
      let front = message_back other write None one behind back (spells m one p.0 (rs, a.0)) in
      let e = ok_is (u, b.0) (one, behind) (sym b.1 ∙ front) in
      let is_one : u ≡ one = ap (λ (q : Segments × List ℕ). q.0) e in
      let more : b.0 ≡ behind = ap (λ (q : Segments × List ℕ). q.1) e in
      let read_one : IsAnswerIn (second r) one y = subst (λ v. IsAnswerIn (second r) v y) is_one g.0 in
      let head = one_output last y z k.0 (λ two both qs qs' f h. same m one two both p.0 (rs, a.0) (qs, subst (λ c. IsAnswerIn (second r) one c) f read_one) (qs', subst (λ c. IsAnswerIn (joined_relay r) m c) h j.0)) in
      let others = rows other write last back ms us xs ys zs rest p.1 a.1 j.1 (subst (λ l. BeginWith other None l us rest) more b.2) g.1 k.1 in
      ap (λ o. o ++ outputs_of last ys) head ∙ ap (λ o. output_of last z ++ o) others

  runs : (bytes middle output direct : List ℕ) → (x : RunsInARow r bytes middle output direct) → WriteOnBothRoads x.first_run.answers x.second_run.answers x.joined_run.answers → HoldsOfWritten holds x.first_run.messages x.first_run.answers → output ≡ direct
  runs bytes middle output direct x k p =
      let f = x.first_run in
      let g = x.second_run in
      let j = x.joined_run in
      let n : length f.messages ≡ length j.messages = one_each (IsAnswerIn (first r)) f.messages f.answers f.answered ∙ roads_join f.answers g.answers j.answers k ∙ sym (one_each (IsAnswerIn (joined_relay r)) j.messages j.answers j.answered) in
      let ms : f.messages ≡ j.messages = same_front x.read r.limits.words f.messages j.messages bytes f.rest j.rest n f.begins j.begins in
      let answered = subst (λ l. AnswerEach (IsAnswerIn (joined_relay r)) l j.answers) (sym ms) j.answered in
      let free = begins_free x.read_again r.later_limits.words g.messages middle g.rest g.begins in
      let own = subst (λ b. BeginWith x.read_again None b g.messages g.rest) (f.writes ∙ outputs_are x.write f.answers) free in
      g.writes ∙ rows x.read_again x.write x.write_again (form-reads-back x.read_again x.write x.is_form) f.messages g.messages f.answers g.answers j.answers g.rest p f.answered answered own g.answered k ∙ sym j.writes

-- THE LAWS
pub runs-by-values : (r : TwoRelays) (bytes middle output direct : List ℕ) → (x : RunsInARow r bytes middle output direct) → WriteOnBothRoads x.first_run.answers x.second_run.answers x.joined_run.answers
    → HoldsOfWritten (λ s one. CanRelay r s × WritesFitting (first r) s) x.first_run.messages x.first_run.answers → output ≡ direct
runs-by-values r bytes middle output direct x k p =
    runs r (λ s one. CanRelay r s × WritesFitting (first r) s)
    (λ message one two both h writes writes' writes''. relays-by-values r message one two both h.0 h.1 writes writes' writes'')
    (λ message one h writes. (read-back (first r) message one h.1 (has-written (first r) message one writes.0 writes.1)).spells)
    bytes middle output direct x k p

pub runs-by-words : (r : TwoRelays) (bytes middle output direct : List ℕ) → HasShortCalls r → (x : RunsInARow r bytes middle output direct) → WriteOnBothRoads x.first_run.answers x.second_run.answers x.joined_run.answers
    → HoldsOfWritten (λ s one. CanRelay r s × HaveFewWords one) x.first_run.messages x.first_run.answers → output ≡ direct
runs-by-words r bytes middle output direct are x k p =
    runs r (λ s one. CanRelay r s × HaveFewWords one)
    (λ message one two both h writes writes' writes''. relays-by-words r message one two both h.0 are h.1 writes writes' writes'')
    (λ message one h writes.
    let enough = sizes-suffice r.nodes r.quoted r.root r.calls r.limits message one are.spelled are.short writes h.1 in
    let fits = sizes-fit r.nodes r.quoted r.root r.calls r.limits message are.spelled enough in
    (read-back (first r) message one fits (has-written (first r) message one writes.0 writes.1)).spells)
    bytes middle output direct x k p
