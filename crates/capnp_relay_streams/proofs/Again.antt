-- What is written in the plain form, relayed again in the canonical one.
use Rattle.std.proofs.Common.{◌≡◌, inl, inr, ℕ, pos, Bool, true, false, if◌then◌else◌, Option, Some, None, List, [], ◌∷◌, ◌++◌, refl, sym, ap, ◌∙◌, subst}
use Rattle.std.specs.List.{flat_map, AllByRecursion}
use Rattle.capnp_model.specs.Segments.{Segments, Place, root}
use Rattle.capnp_model.specs.Trees.{Tree, null, capability, structure, plain_list, pointer_list, struct_list, depth}
use Rattle.capnp_model.specs.Trimming.{trim}
use Rattle.capnp_model.specs.Fits.{Fits}
use Rattle.capnp_model.specs.Means.{Means}
use Rattle.capnp_model.specs.Traversal.{tree_at}
use Rattle.capnp_model.specs.Encoding.{canonical_words}
use Rattle.capnp_model.specs.Messages.{Reader, Writer, spelled}
use Rattle.capnp_model.specs.Spelling.{CanSpell}
use Rattle.capnp_model.specs.Calls.{Call}
use Rattle.capnp_model.specs.NamedPaths.{IsOpen}
use Rattle.capnp_model.specs.Printing.{as_it_is}
use Rattle.capnp_model.specs.Answers.{Answer, refused_value, refused_root, refused_depth, written, Reply, Limits, levels, value_within, opened_root, widened_root, edits, replies, answer_value, answer, IsAnswer}
use Rattle.capnp_model.specs.Runs.{outputs_of, AnswerEach, BeginWith, End, finished, IsRun}
use Rattle.capnp_model.specs.SameRuns.{IsFormReader}
use Rattle.capnp_model.proofs.lemmas.Chaining.{bind_some, provided_some}
use Rattle.capnp_model.proofs.lemmas.RunLaws.{form_nothing, same_messages}
use Rattle.capnp_model.proofs.lemmas.Written.{ReadsBack, plain_back, packed_back, message_back}
use Rattle.capnp_values_queries.specs.Structs.{schema_around, id_of}
use Rattle.capnp_values_queries.specs.declared.structs.StructSchema.{StructSchema}
use Rattle.capnp_relay_answers.specs.Bounds.{limits_view}
use Rattle.capnp_relay_answers.specs.declared.bounds.Bounds.{Bounds}
use Rattle.capnp_relay_answers.specs.Plain.{IsPlainAnswer, with_segments, written_segments}
use Rattle.capnp_relay_streams.specs.Again.{written_messages, WritesMessage}
use Rattle.capnp_relay_streams.specs.declared.options.Form.{Form}
use Rattle.capnp_relay_streams.specs.declared.options.Form.TheVariants as form
use Rattle.capnp_relay_streams.specs.Options.{reader_of, writer_of}
use Rattle.capnp_relay_streams.specs.Messages.{IsAnswerBy, IsPlainAnswerBy}
use Rattle.capnp_relay_streams.proofs.Structs.{IsStruct, edits_are_structs, trim_struct, opened_is_struct, reopened}

-- what the laws of values say
pub record AgainLaws : Type 0 where
  pub meant : (n : ℕ) (s : Segments) (p : Place) (t : Tree) → tree_at n s p ≡ Some t → Means n s p t
  pub one : (n m : ℕ) (s : Segments) (p : Place) (t u : Tree) → Means n s p t → Means m s p u → t ≡ u
  pub fits : (n : ℕ) (s : Segments) (p : Place) (t : Tree) → tree_at n s p ≡ Some t → Fits t
  pub trim_fits : (t : Tree) → Fits t → Fits (trim t)
  pub twice : (t : Tree) → trim (trim t) ≡ trim t

read_value : (limits : Limits) (s : Segments) (t : Tree) → value_within limits s ≡ Some t → (n : ℕ) × (tree_at n s root ≡ Some t)
unfolding value_within
read_value limits s t e =
    let l = bind_some (levels limits.nesting) _ t e in
    let v = bind_some (tree_at l.0 s root) _ t l.2 in
    let k = provided_some v.0 t _ v.2 in
    (l.0, subst (λ z. tree_at l.0 s root ≡ Some z) k.1 v.1)

written_is : (a b : Segments) (x y : List Reply) → written a x ≡ written b y → a ≡ b
written_is a b x y e = cc

-- what a written answer of the model is made of
record HasWritten (schema : StructSchema) (calls : List Call) (limits : Limits) (message segments : Segments) : Type 0 where
  pub value : Tree
  pub is_value : value_within limits message ≡ Some value
  pub is_open : IsOpen value
  pub is_written : segments ≡ canonical_words (trim (edits (schema_around schema) (id_of schema) calls (opened_root (schema_around schema) (id_of schema) value))) ∷ []

module _ (schema : StructSchema) (calls : List Call) (bounds : Bounds) (message segments : Segments) (rs : List Reply) where
  struct_wrote : (t : Tree) → value_within (limits_view bounds) message ≡ Some t → IsOpen t → (b : Bool)
      → written segments rs ≡ (if b then written (canonical_words (trim (edits (schema_around schema) (id_of schema) calls (opened_root (schema_around schema) (id_of schema) t))) ∷ []) (replies (schema_around schema) as_it_is (id_of schema) calls (opened_root (schema_around schema) (id_of schema) t)) else refused_depth)
      → HasWritten schema calls (limits_view bounds) message segments
  struct_wrote t v o true e = record { value = t; is_value = v; is_open = o; is_written = written_is segments _ rs _ e }
  struct_wrote t v o false e = absurd (cc e)

  has-written : IsAnswer (schema_around schema) as_it_is (id_of schema) calls (limits_view bounds) message (written segments rs) → HasWritten schema calls (limits_view bounds) message segments
  unfolding answer
  has-written e = by (value_within (limits_view bounds) message) refl e
    where
      by : (v : Option Tree) → value_within (limits_view bounds) message ≡ v → written segments rs ≡ answer_value (schema_around schema) as_it_is (id_of schema) calls (pos bounds.nesting) v → HasWritten schema calls (limits_view bounds) message segments
      by None v e = absurd (cc e)
      by (Some null) v e = struct_wrote null v tt _ e
      by (Some (structure x n ts)) v e = struct_wrote (structure x n ts) v tt _ e
      by (Some (capability i)) v e = absurd (cc e)
      by (Some (plain_list z n x)) v e = absurd (cc e)
      by (Some (pointer_list ts)) v e = absurd (cc e)
      by (Some (struct_list d k es)) v e = absurd (cc e)

-- ---- one message

module _ (laws : AgainLaws) (schema : StructSchema) (calls : List Call) (bounds again : Bounds) where
  -- what is written of the plain message is what is written of the first
  one_again : (message segments canonical out : Segments) (rs : List Reply) → IsPlainAnswer schema calls bounds message (written segments rs) → HasWritten schema calls (limits_view bounds) message canonical → HasWritten schema [] (limits_view again) segments out → out ≡ canonical
  unfolding edits opened_root
  one_again message segments canonical out rs h g z =
      let o = schema_around schema in
      let id = id_of schema in
      let e : Tree = edits o id calls (opened_root o id g.value) in
      let plain = h.plain g.value g.is_value in
      let there = plain.alone.means in
      let read = read_value (limits_view again) segments z.value z.is_value in
      let v : z.value ≡ e = laws.one read.0 bounds.nesting segments root z.value e (laws.meant read.0 segments root z.value read.1) (laws.meant bounds.nesting segments root e there) in
      let is_struct = trim_struct e (edits_are_structs o id calls (opened_root o id g.value) (opened_is_struct o id g.value g.is_open)) in
      let fits = laws.trim_fits e (laws.fits bounds.nesting segments root e there) in
      let opened : trim (widened_root (o.shape_of id) (trim e)) ≡ trim e = reopened (o.shape_of id) (trim e) is_struct fits ∙ laws.twice e in
      z.is_written ∙ ap (λ x. canonical_words (trim (widened_root (o.shape_of id) (trim x))) ∷ []) v ∙ ap (λ x. canonical_words x ∷ []) opened ∙ sym g.is_written

  -- ---- all messages

  -- one message more; rest is said of those behind it
  cons_again : (m : Segments) (x y : Answer) (xs ys zs : List Answer) → ((zs : List Answer) → AnswerEach (IsAnswerBy schema [] again) (written_messages xs) zs → AllByRecursion WritesMessage zs → written_messages zs ≡ written_messages ys)
      → x ≡ with_segments (written_segments x) y → IsPlainAnswerBy schema calls bounds m x → IsAnswerBy schema calls bounds m y → AnswerEach (IsAnswerBy schema [] again) (written_messages (x ∷ xs)) zs → AllByRecursion WritesMessage zs
      → written_messages zs ≡ written_messages (y ∷ ys)
  cons_again m (written s rs) (written canonical told) xs ys [] rest e p q c k = absurd c
  cons_again m (written s rs) (written canonical told) xs ys (refused_value ∷ zs) rest e p q c k = absurd k.0
  cons_again m (written s rs) (written canonical told) xs ys (refused_root ∷ zs) rest e p q c k = absurd k.0
  cons_again m (written s rs) (written canonical told) xs ys (refused_depth ∷ zs) rest e p q c k = absurd k.0
  cons_again m (written s rs) (written canonical told) xs ys (written out said ∷ zs) rest e p q c k =
      let first : out ≡ canonical = one_again m s canonical out rs p.answers (has-written schema calls bounds m canonical told q.same) (has-written schema [] again s out said c.0.same) in
      ap (λ x. x ∷ written_messages zs) first ∙ ap (λ l. canonical ∷ l) (rest zs c.1 k.1)
  cons_again m (written s rs) refused_value xs ys zs rest e p q c k = absurd (cc e)
  cons_again m (written s rs) refused_root xs ys zs rest e p q c k = absurd (cc e)
  cons_again m (written s rs) refused_depth xs ys zs rest e p q c k = absurd (cc e)
  cons_again m refused_value (written canonical told) xs ys zs rest e p q c k = absurd (cc e)
  cons_again m refused_root (written canonical told) xs ys zs rest e p q c k = absurd (cc e)
  cons_again m refused_depth (written canonical told) xs ys zs rest e p q c k = absurd (cc e)
  cons_again m refused_value refused_value xs ys zs rest e p q c k = rest zs c k
  cons_again m refused_value refused_root xs ys zs rest e p q c k = rest zs c k
  cons_again m refused_value refused_depth xs ys zs rest e p q c k = rest zs c k
  cons_again m refused_root refused_value xs ys zs rest e p q c k = rest zs c k
  cons_again m refused_root refused_root xs ys zs rest e p q c k = rest zs c k
  cons_again m refused_root refused_depth xs ys zs rest e p q c k = rest zs c k
  cons_again m refused_depth refused_value xs ys zs rest e p q c k = rest zs c k
  cons_again m refused_depth refused_root xs ys zs rest e p q c k = rest zs c k
  cons_again m refused_depth refused_depth xs ys zs rest e p q c k = rest zs c k

  all_again : (ms : List Segments) (xs ys zs : List Answer) → AnswerEach (IsPlainAnswerBy schema calls bounds) ms xs → AnswerEach (IsAnswerBy schema calls bounds) ms ys → AnswerEach (IsAnswerBy schema [] again) (written_messages xs) zs → AllByRecursion WritesMessage zs
      → written_messages zs ≡ written_messages ys
  all_again [] [] [] [] a b c k = refl
  all_again [] [] [] (z ∷ zs) a b c k = absurd c
  all_again [] [] (y ∷ ys) zs a b c k = absurd b
  all_again [] (x ∷ xs) ys zs a b c k = absurd a
  all_again (m ∷ ms) [] ys zs a b c k = absurd a
  all_again (m ∷ ms) (x ∷ xs) [] zs a b c k = absurd b
  all_again (m ∷ ms) (x ∷ xs) (y ∷ ys) zs a b c k =
      cons_again m x y xs ys zs (λ us d l. all_again ms xs ys us a.1 b.1 d l) (a.0.answers.same ∙ ap (with_segments (written_segments x)) (sym b.0.same)) a.0 b.0 c k

  -- ---- whole runs

  outputs_are : (write : Writer) (answers : List Answer) → outputs_of write answers ≡ flat_map (spelled write) (written_messages answers)
  outputs_are write [] = refl
  outputs_are write (refused_value ∷ answers) = outputs_are write answers
  outputs_are write (refused_root ∷ answers) = outputs_are write answers
  outputs_are write (refused_depth ∷ answers) = outputs_are write answers
  outputs_are write (written s rs ∷ answers) = ap (λ b. spelled write s ++ b) (outputs_are write answers)

  begin_spelled : (read : Reader) (write : Writer) (limit : Option ℕ) → ReadsBack read write → (ms : List Segments) → AllByRecursion (CanSpell limit) ms → BeginWith read limit (flat_map (spelled write) ms) ms []
  begin_spelled read write limit back [] h = refl
  begin_spelled read write limit back (s ∷ ms) h = (flat_map (spelled write) ms, message_back read write limit s (flat_map (spelled write) ms) back h.0, begin_spelled read write limit back ms h.1)

  pub runs_again : (read other : Reader) (write : Writer) (limit limit_again : Option ℕ) (bytes plain canonical others log lines said : List ℕ) (end last : End) → IsFormReader read → IsFormReader other → ReadsBack other write
      → (x : IsRun read write limit (IsPlainAnswerBy schema calls bounds) bytes plain log end) → IsRun read write limit (IsAnswerBy schema calls bounds) bytes canonical lines last
      → AllByRecursion (CanSpell limit_again) (written_messages x.answers)
      → (z : IsRun other write limit_again (IsAnswerBy schema [] again) plain others said finished) → AllByRecursion WritesMessage z.answers → others ≡ canonical
  runs_again read other write limit limit_again bytes plain canonical others log lines said end last form form_again back x y can z all =
      let m = same_messages read (form_nothing read form) limit x.messages y.messages bytes x.rest y.rest end last x.begins x.ends y.begins y.ends in
      let is_plain : plain ≡ flat_map (spelled write) (written_messages x.answers) = x.writes ∙ outputs_are write x.answers in
      let own : BeginWith other limit_again plain (written_messages x.answers) [] = subst (λ b. BeginWith other limit_again b (written_messages x.answers) []) (sym is_plain) (begin_spelled other write limit_again back (written_messages x.answers) can) in
      let same = same_messages other (form_nothing other form_again) limit_again z.messages (written_messages x.answers) plain z.rest [] finished finished z.begins z.ends own refl in
      let again_all = all_again y.messages x.answers y.answers z.answers (subst (λ ms. AnswerEach (IsPlainAnswerBy schema calls bounds) ms x.answers) m.0 x.answered) y.answered (subst (λ ms. AnswerEach (IsAnswerBy schema [] again) ms z.answers) same.0 z.answered) all in
      z.writes ∙ outputs_are write z.answers ∙ ap (flat_map (spelled write)) again_all ∙ sym (outputs_are write y.answers) ∙ sym y.writes

-- each form is read by its reader, and read back as it is written
pub form_of : (f : Form) → IsFormReader (reader_of f)
form_of form.Framed = inl refl
form_of form.Packed = inr refl

pub back_of : (f : Form) → ReadsBack (reader_of f) (writer_of f)
back_of form.Framed = plain_back
back_of form.Packed = packed_back
