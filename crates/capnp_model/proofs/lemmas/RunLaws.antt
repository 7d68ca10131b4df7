-- Runs over streams of messages: what of the bytes decides them.
use Rattle.std.proofs.Common.{◌≡◌, ℕ, ◌+◌, inl, inr, Option, List, [], ◌∷◌, ◌++◌, length, Ok, Err, refl, sym, ap, subst, ◌∙◌, append_assoc, suc, arith}
use Rattle.std.specs.List.{flat_map, AllByRecursion}
use Rattle.capnp_model.specs.Segments.{Segments}
use Rattle.capnp_model.specs.Packing.{unpacked, unpacked_from}
use Rattle.capnp_model.specs.Messages.{Reader, Writer, plain_words, message_at, frame, packed_message}
use Rattle.capnp_model.specs.Answers.{Answer, refused_value, refused_root, refused_depth, written, Limits, IsAnswer}
use Rattle.capnp_model.specs.Runs.{output_of, outputs_of, line_of, lines_of, AnswerEach, BeginWith, End, finished, broken, EndsBy, IsRun}
use Rattle.capnp_model.specs.SameRuns.{IsFormReader, IsRefused, HaveOneValueEach, Work, IsAnswerIn, Relays}
use Rattle.capnp_model.specs.Spelling.{CanSpell}
use Rattle.capnp_model.specs.Schemas.{Schema}
use Rattle.capnp_model.specs.Calls.{Call}
use Rattle.capnp_model.proofs.lemmas.Chaining.{ok_is, bind_ok}
use Rattle.capnp_model.proofs.lemmas.TrimmedAnswers.{answers_alike}
use Rattle.capnp_model.proofs.lemmas.Written.{framed_back, packed_message_back}

-- A reader that reads no word of no byte.
abbrev pub ReadsNothing : Reader → Type 0
ReadsNothing read = (r : List ℕ × List ℕ) → read 1 [] ≡ Ok r → ⊥

plain_nothing : ReadsNothing plain_words
plain_nothing r e = absurd cc

packed_nothing : ReadsNothing unpacked
unfolding unpacked_from
packed_nothing r e = absurd cc

pub form_nothing : (read : Reader) → IsFormReader read → ReadsNothing read
form_nothing read (inl e) = subst ReadsNothing (sym e) plain_nothing
form_nothing read (inr e) = subst ReadsNothing (sym e) packed_nothing

module _ (read : Reader) (nothing : ReadsNothing read) (limit : Option ℕ) where
  no_message : (r : Segments × List ℕ) → message_at read limit [] ≡ Ok r → ⊥
  unfolding message_at
  no_message r e = let t = bind_ok (read 1 []) _ r e in nothing t.0 t.1

  abbrev pub OneReading : List Segments → List Segments → List ℕ → List ℕ → End → End → Type 0
  OneReading ms us rest other end last = (ms ≡ us) × (rest ≡ other) × (end ≡ last)

  same_end : (rest : List ℕ) (end last : End) → EndsBy read limit rest end → EndsBy read limit rest last → end ≡ last
  same_end rest finished finished h k = refl
  same_end rest finished (broken kind) h k = absurd (k.0 h)
  same_end rest (broken kind) finished h k = absurd (h.0 k)
  same_end rest (broken kind) (broken other) h k = let e : Err kind ≡ Err other = sym h.1 ∙ k.1 in cc

  goes_on : (rest more : List ℕ) (end : End) (s : Segments) → EndsBy read limit rest end → message_at read limit rest ≡ Ok (s, more) → ⊥
  goes_on rest more finished s h e = no_message (s, more) (subst (λ b. message_at read limit b ≡ Ok (s, more)) h e)
  goes_on rest more (broken kind) s h e = absurd cc

  pub same_messages : (ms us : List Segments) (bytes rest other : List ℕ) (end last : End) → BeginWith read limit bytes ms rest → EndsBy read limit rest end
      → BeginWith read limit bytes us other → EndsBy read limit other last → OneReading ms us rest other end last
  same_messages [] [] bytes rest other end last b e c d =
      let same = sym b ∙ c in (refl, same, same_end other end last (subst (λ x. EndsBy read limit x end) same e) d)
  same_messages [] (u ∷ us) bytes rest other end last b e c d = absurd (goes_on rest c.0 end u e (subst (λ x. message_at read limit x ≡ Ok (u, c.0)) b c.1))
  same_messages (s ∷ ms) [] bytes rest other end last b e c d = absurd (goes_on other b.0 last s d (subst (λ x. message_at read limit x ≡ Ok (s, b.0)) c b.1))
  same_messages (s ∷ ms) (u ∷ us) bytes rest other end last b e c d =
      let one = ok_is (s, b.0) (u, c.0) (sym b.1 ∙ c.1) in
      let more = ap (λ (r : Segments × List ℕ). r.1) one in
      let first = ap (λ (r : Segments × List ℕ). r.0) one in
      let behind = same_messages ms us b.0 rest other end last b.2 e (subst (λ x. BeginWith read limit x us other) (sym more) c.2) d in
      (let h = behind.0 in cc, behind.1, behind.2)

-- ---- answers

-- A message has one answer at most.
abbrev AnswersOnce : (Segments → Answer → Type 0) → Type 0
AnswersOnce is_answer = (s : Segments) (a b : Answer) → is_answer s a → is_answer s b → a ≡ b

module _ (is_answer : Segments → Answer → Type 0) (once : AnswersOnce is_answer) where
  same_answers : (ms : List Segments) (xs ys : List Answer) → AnswerEach is_answer ms xs → AnswerEach is_answer ms ys → xs ≡ ys
  same_answers [] [] [] h k = refl
  same_answers [] [] (y ∷ ys) h k = absurd k
  same_answers [] (x ∷ xs) ys h k = absurd h
  same_answers (s ∷ ms) [] ys h k = absurd h
  same_answers (s ∷ ms) (x ∷ xs) [] h k = absurd k
  same_answers (s ∷ ms) (x ∷ xs) (y ∷ ys) h k =
      let a = once s x y h.0 k.0 in let b = same_answers ms xs ys h.1 k.1 in cc

-- a run is determined by its bytes.
runs_are_one : (read : Reader) (write : Writer) (limit : Option ℕ) (is_answer : Segments → Answer → Type 0) (bytes output log others lines : List ℕ) (end last : End) → IsFormReader read → AnswersOnce is_answer
    → IsRun read write limit is_answer bytes output log end → IsRun read write limit is_answer bytes others lines last → (output ≡ others) × (log ≡ lines) × (end ≡ last)
runs_are_one read write limit is_answer bytes output log others lines end last form once x y =
    let m = same_messages read (form_nothing read form) limit x.messages y.messages bytes x.rest y.rest end last x.begins x.ends y.begins y.ends in
    let a = same_answers is_answer once y.messages x.answers y.answers (subst (λ ms. AnswerEach is_answer ms x.answers) m.0 x.answered) y.answered in
    (x.writes ∙ ap (outputs_of write) a ∙ sym y.writes, x.logs ∙ ap (lines_of 1) a ∙ sym y.logs, m.2)

-- the same messages in two forms are answered alike.
forms_alike : (read other : Reader) (write : Writer) (limit bound : Option ℕ) (is_answer : Segments → Answer → Type 0) (bytes texts output log others lines : List ℕ) (end last : End) → AnswersOnce is_answer
    → (x : IsRun read write limit is_answer bytes output log end) → (y : IsRun other write bound is_answer texts others lines last) → x.messages ≡ y.messages → (output ≡ others) × (log ≡ lines)
forms_alike read other write limit bound is_answer bytes texts output log others lines end last once x y same =
    let a = same_answers is_answer once y.messages x.answers y.answers (subst (λ ms. AnswerEach is_answer ms x.answers) same x.answered) y.answered in
    (x.writes ∙ ap (outputs_of write) a ∙ sym y.writes, x.logs ∙ ap (lines_of 1) a ∙ sym y.logs)

-- ---- spelled messages

begin_spelled : (read : Reader) (spell : Segments → List ℕ) (limit : Option ℕ) → ((s : Segments) (rest : List ℕ) → CanSpell limit s → message_at read limit (spell s ++ rest) ≡ Ok (s, rest))
    → (ms : List Segments) → AllByRecursion (CanSpell limit) ms → BeginWith read limit (flat_map spell ms) ms []
begin_spelled read spell limit back [] h = refl
begin_spelled read spell limit back (s ∷ ms) h = (flat_map spell ms, back s (flat_map spell ms) h.0, begin_spelled read spell limit back ms h.1)

-- framed and packed texts of the same messages are answered alike.
spelled_alike : (write : Writer) (limit : Option ℕ) (is_answer : Segments → Answer → Type 0) (messages : List Segments) (output log others lines : List ℕ) (end last : End) → AnswersOnce is_answer → AllByRecursion (CanSpell limit) messages
    → IsRun plain_words write limit is_answer (flat_map frame messages) output log end → IsRun unpacked write limit is_answer (flat_map packed_message messages) others lines last → (output ≡ others) × (log ≡ lines) × (end ≡ last)
spelled_alike write limit is_answer messages output log others lines end last once can x y =
    let f = same_messages plain_words plain_nothing limit x.messages messages _ x.rest [] end finished x.begins x.ends (begin_spelled plain_words frame limit (framed_back limit) messages can) refl in
    let p = same_messages unpacked packed_nothing limit y.messages messages _ y.rest [] last finished y.begins y.ends (begin_spelled unpacked packed_message limit (packed_message_back limit) messages can) refl in
    let same = forms_alike plain_words unpacked write limit limit is_answer _ _ output log others lines end last once x y (f.0 ∙ sym p.0) in
    (same.0, same.1, f.2 ∙ sym p.2)

-- ---- equal values

module _ (s : Schema) (quoted : List ℕ → List ℕ) (id : ℕ) (calls : List Call) (limits : Limits) where
  alike_each : (ms us : List Segments) (xs ys : List Answer) → HaveOneValueEach limits ms us → AnswerEach (IsAnswer s quoted id calls limits) ms xs → AnswerEach (IsAnswer s quoted id calls limits) us ys → xs ≡ ys
  alike_each [] [] [] [] v h k = refl
  alike_each [] [] [] (y ∷ ys) v h k = absurd k
  alike_each [] [] (x ∷ xs) ys v h k = absurd h
  alike_each [] (u ∷ us) xs ys v h k = absurd v
  alike_each (m ∷ ms) [] xs ys v h k = absurd v
  alike_each (m ∷ ms) (u ∷ us) [] ys v h k = absurd h
  alike_each (m ∷ ms) (u ∷ us) (x ∷ xs) [] v h k = absurd k
  alike_each (m ∷ ms) (u ∷ us) (x ∷ xs) (y ∷ ys) v h k =
      let o = v.0 in
      let a : x ≡ y = h.0 ∙ answers_alike s quoted id calls limits m u o.0 o.1 o.2 o.3 o.4 ∙ sym k.0 in
      let b = alike_each ms us xs ys v.1 h.1 k.1 in cc

  -- messages with equal trimmed values give equal output and logs.
  values_alike : (read other : Reader) (write : Writer) (limit bound : Option ℕ) (bytes texts output log others lines : List ℕ) (end last : End)
      → (x : IsRun read write limit (IsAnswer s quoted id calls limits) bytes output log end) → (y : IsRun other write bound (IsAnswer s quoted id calls limits) texts others lines last)
      → HaveOneValueEach limits x.messages y.messages → (output ≡ others) × (log ≡ lines)
  values_alike read other write limit bound bytes texts output log others lines end last x y same =
      let a = alike_each x.messages y.messages x.answers y.answers same x.answered y.answered in
      (x.writes ∙ ap (outputs_of write) a ∙ sym y.writes, x.logs ∙ ap (lines_of 1) a ∙ sym y.logs)

-- ---- a refused message

module _ (write : Writer) (is_answer : Segments → Answer → Type 0) (once : AnswersOnce is_answer) where
  no_output : (a : Answer) → IsRefused a → output_of write a ≡ []
  no_output refused_value h = refl
  no_output refused_root h = refl
  no_output refused_depth h = refl
  no_output (written segments replies) h = absurd h

  -- The answers around a message.
  around : (front back : List Segments) (s : Segments) (a : Answer) (xs : List Answer) → is_answer s a → AnswerEach is_answer (front ++ s ∷ back) xs
      → (before behind : List Answer) × (xs ≡ before ++ a ∷ behind) × AnswerEach is_answer front before × AnswerEach is_answer back behind
  around [] back s a [] h k = absurd k
  around [] back s a (x ∷ xs) h k = let e = once s x a k.0 h in ([], xs, ap (λ y. y ∷ xs) e, tt, k.1)
  around (m ∷ front) back s a [] h k = absurd k
  around (m ∷ front) back s a (x ∷ xs) h k =
      let r = around front back s a xs h k.1 in
      (x ∷ r.0, r.1, ap (λ ys. x ∷ ys) r.2, (k.0, r.3), r.4)

  written_around : (before behind : List Answer) (a : Answer) → IsRefused a → outputs_of write (before ++ a ∷ behind) ≡ outputs_of write before ++ outputs_of write behind
  written_around [] behind a h = let e = no_output a h in rw e refl
  written_around (x ∷ before) behind a h =
      ap (λ ys. output_of write x ++ ys) (written_around before behind a h) ∙ sym (append_assoc (output_of write x) (outputs_of write before) (outputs_of write behind))

  lines_around : (n : ℕ) (before behind : List Answer) (a : Answer) → lines_of n (before ++ a ∷ behind) ≡ lines_of n before ++ (line_of (n + length before) a ++ lines_of (n + length before + 1) behind)
  lines_around n [] behind a =
      let e : n ≡ n + 0 = omega arith in subst (λ k. lines_of n (a ∷ behind) ≡ line_of k a ++ lines_of (k + 1) behind) e refl
  lines_around n (x ∷ before) behind a =
      let e : n + 1 + length before ≡ n + suc (length before) = omega arith in
      ap (λ ys. line_of n x ++ ys) (subst (λ k. lines_of (n + 1) (before ++ a ∷ behind) ≡ lines_of (n + 1) before ++ (line_of k a ++ lines_of (k + 1) behind)) e (lines_around (n + 1) before behind a))
      ∙ sym (append_assoc (line_of n x) (lines_of (n + 1) before) _)

  same_length : (ms : List Segments) (xs : List Answer) → AnswerEach is_answer ms xs → length xs ≡ length ms
  same_length [] [] h = refl
  same_length [] (x ∷ xs) h = absurd h
  same_length (m ∷ ms) [] h = absurd h
  same_length (m ∷ ms) (x ∷ xs) h = ap suc (same_length ms xs h.1)

  -- what a refused message held changes no other answer.
  refused_alike : (read other : Reader) (limit bound : Option ℕ) (bytes texts output log others lines : List ℕ) (end last : End)
      → (x : IsRun read write limit is_answer bytes output log end) → (y : IsRun other write bound is_answer texts others lines last)
      → (front back : List Segments) (s u : Segments) (a b : Answer) → x.messages ≡ front ++ s ∷ back → y.messages ≡ front ++ u ∷ back → is_answer s a → is_answer u b → IsRefused a → IsRefused b
      → (output ≡ others) × ((before behind : List ℕ) × (log ≡ before ++ (line_of (1 + length front) a ++ behind)) × (lines ≡ before ++ (line_of (1 + length front) b ++ behind)))
  refused_alike read other limit bound bytes texts output log others lines end last x y front back s u a b e f h k ra rb =
      let p = around front back s a x.answers h (subst (λ ms. AnswerEach is_answer ms x.answers) e x.answered) in
      let q = around front back u b y.answers k (subst (λ ms. AnswerEach is_answer ms y.answers) f y.answered) in
      let same_before = same_answers is_answer once front q.0 p.0 q.3 p.3 in
      let same_behind = same_answers is_answer once back q.1 p.1 q.4 p.4 in
      let ys : y.answers ≡ p.0 ++ b ∷ p.1 = q.2 ∙ ap (λ z. z ++ b ∷ q.1) same_before ∙ ap (λ z. p.0 ++ b ∷ z) same_behind in
      let n = same_length front p.0 p.3 in
      let at : (c : Answer) → lines_of 1 (p.0 ++ c ∷ p.1) ≡ lines_of 1 p.0 ++ (line_of (1 + length front) c ++ lines_of (1 + length front + 1) p.1)
      = λ c. subst (λ k. lines_of 1 (p.0 ++ c ∷ p.1) ≡ lines_of 1 p.0 ++ (line_of (1 + k) c ++ lines_of (1 + k + 1) p.1)) n (lines_around 1 p.0 p.1 c) in (
        x.writes ∙ ap (outputs_of write) p.2 ∙ written_around p.0 p.1 a ra ∙ sym (y.writes ∙ ap (outputs_of write) ys ∙ written_around p.0 p.1 b rb),
        (lines_of 1 p.0, lines_of (1 + length front + 1) p.1, x.logs ∙ ap (lines_of 1) p.2 ∙ at a, y.logs ∙ ap (lines_of 1) ys ∙ at b),
      )

-- ---- THE LAWS

module _ (w : Work) where
  one_answer : AnswersOnce (IsAnswerIn w)
  one_answer s a b h k = h ∙ sym k

  -- what a run makes of its bytes
  pub by_bytes : (read : Reader) (write : Writer) (bytes output log others lines : List ℕ) (end last : End) → IsFormReader read
      → Relays w read write bytes output log end → Relays w read write bytes others lines last → (output ≡ others) × (log ≡ lines) × (end ≡ last)
  by_bytes read write bytes output log others lines end last form x y = runs_are_one read write w.limits.words (IsAnswerIn w) bytes output log others lines end last form one_answer x y

  -- two forms of the same messages
  pub in_two_forms : (write : Writer) (messages : List Segments) (output log others lines : List ℕ) (end last : End) → AllByRecursion (CanSpell w.limits.words) messages
      → Relays w plain_words write (flat_map frame messages) output log end → Relays w unpacked write (flat_map packed_message messages) others lines last → (output ≡ others) × (log ≡ lines) × (end ≡ last)
  in_two_forms write messages output log others lines end last can x y = spelled_alike write w.limits.words (IsAnswerIn w) messages output log others lines end last one_answer can x y

  -- the same messages, however read
  pub of_same_messages : (read other : Reader) (write : Writer) (bytes texts output log others lines : List ℕ) (end last : End)
      → (x : Relays w read write bytes output log end) → (y : Relays w other write texts others lines last) → x.messages ≡ y.messages → (output ≡ others) × (log ≡ lines)
  of_same_messages read other write bytes texts output log others lines end last x y same = forms_alike read other write w.limits.words w.limits.words (IsAnswerIn w) bytes texts output log others lines end last one_answer x y same

  -- messages of equal values
  pub over_equal_values : (read other : Reader) (write : Writer) (bytes texts output log others lines : List ℕ) (end last : End)
      → (x : Relays w read write bytes output log end) → (y : Relays w other write texts others lines last) → HaveOneValueEach w.limits x.messages y.messages → (output ≡ others) × (log ≡ lines)
  over_equal_values read other write bytes texts output log others lines end last x y same =
      values_alike w.schema w.quoted w.root w.calls w.limits read other write w.limits.words w.limits.words bytes texts output log others lines end last x y same

  -- a refused message beside others
  pub past_a_refused_message : (read other : Reader) (write : Writer) (bytes texts output log others lines : List ℕ) (end last : End)
      → (x : Relays w read write bytes output log end) → (y : Relays w other write texts others lines last)
      → (front back : List Segments) (s u : Segments) (a b : Answer) → x.messages ≡ front ++ s ∷ back → y.messages ≡ front ++ u ∷ back → IsAnswerIn w s a → IsAnswerIn w u b → IsRefused a → IsRefused b
      → (output ≡ others) × ((before behind : List ℕ) × (log ≡ before ++ (line_of (1 + length front) a ++ behind)) × (lines ≡ before ++ (line_of (1 + length front) b ++ behind)))
  past_a_refused_message read other write bytes texts output log others lines end last x y front back s u a b e f h k ra rb =
      refused_alike write (IsAnswerIn w) one_answer read other w.limits.words w.limits.words bytes texts output log others lines end last x y front back s u a b e f h k ra rb
