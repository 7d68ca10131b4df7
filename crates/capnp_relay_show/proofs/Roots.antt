-- What is printed of the root of a message.
use Rattle.std.proofs.Common.{◌≡◌, ◌≢◌, ℕ, ℤ, zero, suc, Bool, true, false, ◌⊎◌, inl, inr, Option, Some, None, List, [], Result, Ok, Err, refl, ap, sym, ◌∙◌, subst, arith}
use Rattle.std.specs.Option.{ok_or}
use Rattle.capnp_model.specs.Kinds.{Kind, OutOfBounds}
use Rattle.capnp_model.specs.Chains.{◌and_then◌}
use Rattle.capnp_model.specs.Answers.{levels}
use Rattle.capnp_model.specs.Segments.{Segments, root, word_at}
use Rattle.capnp_model.specs.Pointers as model
use Rattle.capnp_model.specs.Trees.{Tree, null, capability, structure, plain_list, pointer_list, struct_list}
use Rattle.capnp_model.specs.Traversal.{tree_at}
use Rattle.capnp_model.specs.Schemas.{struct, Schema}
use Rattle.capnp_model.specs.Readings.{fault, record_as, record_of, read}
use Rattle.capnp_model.specs.Printing.{on_one_line, print, record_text, as_it_is}
use Rattle.capnp_model.proofs.lemmas.Chaining.{bind_found, bind_ok, ok_is}
use Rattle.capnp_units.specs.Errors.{kind_of}
use Rattle.capnp_units.specs.Segments.{words_in}
use Rattle.capnp_units.specs.Limits.{left_of, IsPassed}
use Rattle.capnp_units.specs.declared.errors.Error.{Error}
use Rattle.capnp_units.specs.declared.kinds.ErrorKind.{ErrorKind}
use Rattle.capnp_units.specs.declared.kinds.ErrorKind.TheVariants.{OutOfMemory}
use Rattle.capnp_units.specs.declared.limiter.ReadLimiter.{ReadLimiter}
use Rattle.capnp_wire_objects.specs.declared.object.Found.{Found}
use Rattle.capnp_wire.specs.Views.{PointerView, StructView, arena_root}
use Rattle.capnp_wire.specs.Reads.{root_of, object_behind, read_struct, is_charged, IsTooDear, GetGives}
use Rattle.capnp_values_queries.specs.Structs.{nodes_around, schema_around, shape_of_struct, id_of}
use Rattle.capnp_values_queries.specs.declared.structs.StructSchema.{StructSchema}
use Rattle.capnp_values.specs.Shown.{Shown, a_struct, shown_behind}
use Rattle.capnp_values.specs.Standing.{LeadsToValue, IsRecord, null_as_empty, IsReading, Answers, PointersAreRead}
use Rattle.capnp_values.specs.Records.{ValuesOfRecords}
use Rattle.capnp_values_print.specs.Printed.{shown_text}
use Rattle.capnp_values_print.specs.Answers.{IsShownText, IsTextRefused, Prints}
use Rattle.capnp_values_print.specs.Models.{TextsAreModels}
use Rattle.capnp_relay_show.specs.Showing.{no_struct, no_text, text_or_none, record_shown}
use Rattle.capnp_relay_show.specs.Printed.{root_shown, HasRoot, NoTextOf}
use Rattle.capnp_relay_show.specs.declared.show.ShowFault.{ShowFault}
use Rattle.capnp_relay_show.specs.declared.show.ShowFault.TheVariants as fault-of

-- ---- the root pointer

word_there : (s : Segments) (f : model.Found) → model.found_at s root ≡ Ok f → word_at s root ≡ None → ⊥
word_there s f e none =
    let a = bind_ok (ok_or (word_at s root) OutOfBounds) _ f e in
    let no : ok_or None OutOfBounds ≡ Ok a.0 = ap (λ (o : Option ℕ). ok_or o OutOfBounds) (sym none) ∙ a.1 in
    absurd (cc no)

root_there : (n : ℕ) (s : Segments) (t : Tree) → tree_at n s root ≡ Some t → word_at s root ≡ None → ⊥
unfolding tree_at
root_there zero s t e none = let a = bind_found (model.found_at s root) _ t e in word_there s a.0 a.1 none
root_there (suc n) s t e none = let a = bind_found (model.found_at s root) _ t e in word_there s a.0 a.1 none

module _ (bytes : List (List ℕ)) (limit : ℤ) where
  -- where a value is there is a root
  pub no_root : (t : Tree) (kind : Kind) → HasRoot limit (words_in bytes) t → Err kind ≡ root_of bytes limit → ⊥
  no_root t kind has e = by (word_at (words_in bytes) root) refl e
    where
      by : (o : Option ℕ) → word_at (words_in bytes) root ≡ o → Err kind ≡ (ok_or o OutOfBounds and_then λ w. Ok (arena_root bytes limit)) → ⊥
      by None h f = root_there has.nesting (words_in bytes) t has.there h
      by (Some w) h f = absurd (cc f)

  pub root_is : (p : PointerView) → Ok p ≡ root_of bytes limit → p ≡ arena_root bytes limit
  root_is p e = by (word_at (words_in bytes) root) e
    where
      by : (o : Option ℕ) → Ok p ≡ (ok_or o OutOfBounds and_then λ w. Ok (arena_root bytes limit)) → p ≡ arena_root bytes limit
      by None f = absurd (cc f)
      by (Some w) f = ok_is _ _ f

  root_leads : (t : Tree) (has : HasRoot limit (words_in bytes) t) → LeadsToValue has.nesting (arena_root bytes limit) t
  root_leads t has = record { left = has.nesting; levels = has.limit_is; enough = omega arith; tree = has.there }

  pub root_answers : PointersAreRead → (s : Schema) (id : ℕ) (t : Tree) → HasRoot limit (words_in bytes) t → (p : PointerView) → p ≡ arena_root bytes limit → Answers s (shown_behind s (struct id) p) (null_as_empty s (struct id) (read s t (struct id)))
  root_answers pointers s id t has p is =
      subst (λ (q : PointerView). Answers s (shown_behind s (struct id) q) (null_as_empty s (struct id) (read s t (struct id)))) (sym is) (pointers has.nesting (arena_root bytes limit) t s (struct id) tt (root_leads t has))

-- ---- the root struct

module _ (s : Schema) (id : ℕ) (p : PointerView) where
  pub struct_opened : (f : Found) (v : StructView) → object_behind p ≡ Ok f → read_struct p.basis p.levels f.object ≡ Ok v → shown_behind s (struct id) p ≡ Ok (a_struct s (s.shape_of id) v)
  struct_opened f v e h = ap (λ (r : Result Found Kind). (r and_then λ g. read_struct p.basis p.levels g.object) and_then λ w. Ok (a_struct s (s.shape_of id) w)) e ∙ ap (λ (r : Result StructView Kind). r and_then λ w. Ok (a_struct s (s.shape_of id) w)) h

  behind_refused : (kind : Kind) → object_behind p ≡ Err kind → shown_behind s (struct id) p ≡ Err kind
  behind_refused kind e = ap (λ (r : Result Found Kind). (r and_then λ g. read_struct p.basis p.levels g.object) and_then λ w. Ok (a_struct s (s.shape_of id) w)) e

  struct_refused : (f : Found) (kind : Kind) → object_behind p ≡ Ok f → read_struct p.basis p.levels f.object ≡ Err kind → shown_behind s (struct id) p ≡ Err kind
  struct_refused f kind e h = ap (λ (r : Result Found Kind). (r and_then λ g. read_struct p.basis p.levels g.object) and_then λ w. Ok (a_struct s (s.shape_of id) w)) e ∙ ap (λ (r : Result StructView Kind). r and_then λ w. Ok (a_struct s (s.shape_of id) w)) h

  never_dear : (b : Bool) (l : ReadLimiter) (n : ℕ) → left_of l ≡ None → IsTooDear b l n → ⊥
  never_dear true l n e h = subst (λ o. IsPassed o n) e h
  never_dear false l n e h = h

  -- a get without a limit of words is refused by the kind that is read there
  pub get_refused : {X : Type 0} (view : X → StructView) (old new : ReadLimiter) (e : Error) → left_of old ≡ None → GetGives view (read_struct p.basis p.levels) p old (Err e) new → shown_behind s (struct id) p ≡ Err (kind_of e.kind)
  get_refused view old new e free (inl h) = behind_refused (kind_of e.kind) h.0
  get_refused view old new e free (inr (inl h)) = absurd (never_dear (is_charged p) old _ free h.3)
  get_refused view old new e free (inr (inr h)) = struct_refused h.0 (kind_of e.kind) h.1 h.3

-- what can't be read as a struct is none
pub no_struct_there : (s : Schema) (q : List ℕ → List ℕ) (id : ℕ) (t : Tree) (kind : Kind) → null_as_empty s (struct id) (read s t (struct id)) ≡ fault kind → record_shown s q id t ≡ Err no_struct
unfolding read
no_struct_there s q id null kind e = absurd (cc e)
no_struct_there s q id (structure w k ts) kind e = absurd (cc e)
no_struct_there s q id (capability i) kind e = refl
no_struct_there s q id (plain_list size n section) kind e = refl
no_struct_there s q id (pointer_list ts) kind e = refl
no_struct_there s q id (struct_list w k es) kind e = refl

-- What is shown of a value, by the text of its record.
abbrev ShownBy : Schema → ℕ → Tree → Type 0
ShownBy s id t = record_shown s as_it_is id t ≡ text_or_none (record_text s as_it_is on_one_line id (record_of s id t))

-- what is read as a struct has a record
record_there : ValuesOfRecords → (s : Schema) (id : ℕ) (v : StructView) (t : Tree) → IsRecord s (s.shape_of id) v (null_as_empty s (struct id) (read s t (struct id)))
    → (null_as_empty s (struct id) (read s t (struct id)) ≡ record_as (record_of s id t)) × ShownBy s id t
unfolding read
record_there law s id v null rec = (law s id null refl, refl)
record_there law s id v (structure w k ts) rec = (law s id (structure w k ts) refl, refl)
record_there law s id v (capability i) rec = let no = rec.is in absurd (cc no)
record_there law s id v (plain_list size n section) rec = let no = rec.is in absurd (cc no)
record_there law s id v (pointer_list ts) rec = let no = rec.is in absurd (cc no)
record_there law s id v (struct_list w k es) rec = let no = rec.is in absurd (cc no)

-- what was printed, by what it was printed from
pub moved : {X : Type 0} (from r : StructSchema) (w v : StructView) (old new : List ℕ) (p q : Result X Error) → from ≡ r → w ≡ v → old ≡ [] → p ≡ q
    → Prints on_one_line (a_struct (schema_around from) (shape_of_struct from) w) old p new → Prints on_one_line (a_struct (schema_around r) (shape_of_struct r) v) [] q new
moved from r w v old new p q a b c d h =
    subst (λ z. Prints on_one_line (a_struct (schema_around r) (shape_of_struct r) v) [] z new) d
    (subst (λ (z : List ℕ). Prints on_one_line (a_struct (schema_around r) (shape_of_struct r) v) z p new) c
    (subst (λ (z : StructView). Prints on_one_line (a_struct (schema_around r) (shape_of_struct r) z) old p new) b
    (subst (λ (z : StructSchema). Prints on_one_line (a_struct (schema_around z) (shape_of_struct z) w) old p new) a h)))

module _ (values : ValuesOfRecords) (texts : TextsAreModels) (r : StructSchema) (v : StructView) (t : Tree) (o : Result Shown Kind) (is : o ≡ Ok (a_struct (schema_around r) (shape_of_struct r) v))
    (answers : Answers (schema_around r) o (null_as_empty (schema_around r) (struct (id_of r)) (read (schema_around r) t (struct (id_of r))))) where
  s : Schema
  s = schema_around r

  x : Shown
  x = a_struct (schema_around r) (shape_of_struct r) v

  reading : IsReading (schema_around r) (a_struct (schema_around r) (shape_of_struct r) v) (null_as_empty (schema_around r) (struct (id_of r)) (read (schema_around r) t (struct (id_of r))))
  reading = subst (λ (z : Result Shown Kind). Answers (schema_around r) z (null_as_empty (schema_around r) (struct (id_of r)) (read (schema_around r) t (struct (id_of r))))) is answers

  known : (null_as_empty (schema_around r) (struct (id_of r)) (read (schema_around r) t (struct (id_of r))) ≡ record_as (record_of (schema_around r) (id_of r) t)) × ShownBy (schema_around r) (id_of r) t
  known = record_there values (schema_around r) (id_of r) v t reading.1

  law : ((bytes : List ℕ) → IsShownText on_one_line (a_struct (schema_around r) (shape_of_struct r) v) bytes → record_text (schema_around r) as_it_is on_one_line (id_of r) (record_of (schema_around r) (id_of r) t) ≡ Some bytes)
      × ((kind : Kind) → shown_text 64 on_one_line (a_struct (schema_around r) (shape_of_struct r) v) ≡ Err kind → record_text (schema_around r) as_it_is on_one_line (id_of r) (record_of (schema_around r) (id_of r) t) ≡ None)
  unfolding print record_text
  law =
      texts (nodes_around r) (a_struct (schema_around r) (shape_of_struct r) v) (record_as (record_of (schema_around r) (id_of r) t)) r.set.now.accepted (id_of r, refl)
      (subst (IsReading (schema_around r) (a_struct (schema_around r) (shape_of_struct r) v)) known.0 reading) on_one_line

  pub text_shown : (bytes : List ℕ) → IsShownText on_one_line (a_struct (schema_around r) (shape_of_struct r) v) bytes → root_shown r t ≡ Ok bytes
  text_shown bytes h = known.1 ∙ ap text_or_none (law.0 bytes h)

  pub no_text_shown : (kind : Kind) → shown_text 64 on_one_line (a_struct (schema_around r) (shape_of_struct r) v) ≡ Err kind → root_shown r t ≡ Err no_text
  no_text_shown kind h = known.1 ∙ ap text_or_none (law.1 kind h)

  -- why nothing was printed
  either : (why : ShowFault) (k : ErrorKind) → (k ≡ OutOfMemory → why ≡ fault-of.Memory) → (k ≢ OutOfMemory → why ≡ fault-of.Unreadable) → (why ≡ fault-of.Memory) ⊎ (why ≡ fault-of.Unreadable)
  either why OutOfMemory memory other = inl (memory refl)
  either why _ memory other = inr (other (λ e. absurd cc))

  pub fault_shown : (e : Error) (why : ShowFault) → (e.kind ≡ OutOfMemory → why ≡ fault-of.Memory) → (e.kind ≢ OutOfMemory → why ≡ fault-of.Unreadable) → IsTextRefused (shown_text 64 on_one_line (a_struct (schema_around r) (shape_of_struct r) v)) e → NoTextOf (root_shown r t) why
  fault_shown e why memory other (inl m) = subst (NoTextOf (root_shown r t)) (sym (memory m)) tt
  fault_shown e why memory other (inr k) = by (either why e.kind memory other)
    where
      by : (why ≡ fault-of.Memory) ⊎ (why ≡ fault-of.Unreadable) → NoTextOf (root_shown r t) why
      by (inl h) = subst (NoTextOf (root_shown r t)) (sym h) tt
      by (inr h) = subst (NoTextOf (root_shown r t)) (sym h) (no_text_shown (kind_of e.kind) k)
