-- Calls that every record refuses, and calls that one takes.
use Rattle.std.proofs.Common.{◌≡◌, ◌≢◌, ℕ, zero, suc, true, false, List, [], ◌∷◌, refl, ap, sym, ◌∙◌}
use Rattle.std.specs.Str.{bytes_eq}
use Rattle.std.proofs.lemmas.Slice.Eq.{bytes_eq-Decides}
use Rattle.capnp_model.specs.Trees.{null}
use Rattle.capnp_model.specs.Schemas.{Ty, struct, list, Fields, Body, void_slot, plain_slot, pointer_slot, group_slot, Schema, default_or_null}
use Rattle.capnp_model.specs.Readings.{Reading, inactive, number, list_of, record_as, null_pointer, fault, text_of, blob_of, opaque, Readings, no_readings, ◌▹◌, Record, no_more, entry}
use Rattle.capnp_model.specs.Printing.{fields_in}
use Rattle.capnp_model.specs.Calls.{Step, name, index, Verb, get, set_to, init, initn, clear, Call}
use Rattle.capnp_model.specs.Steps.{Outcome, refused, shown, done, outcome_map, Target, no_target, target, target_of, choose, entry_of, replaced, at_target, on_name, on_index, opened, at_field, at_element, through_value, through_field, step_field, step_element, step_path, step}
use Rattle.capnp_model.specs.InKindCalls.{at_slot, at_value, nowhere, end_at, step_into, next_end, end_of}
use Rattle.capnp_calls_replies.specs.Checks.{is_taken, takes_at, can_take}

mapped : {A B : Type 0} (f : A → B) (o : Outcome A) → is_taken (outcome_map f o) ≡ is_taken o
mapped f (refused k) = refl
mapped f (shown how r) = refl
mapped f (done x) = refl

-- ---- the end of a path

-- a path that leads nowhere leads nowhere further on
stays_nowhere : (s : Schema) (path : List Step) → end_of s path nowhere ≡ nowhere
unfolding end_of
stays_nowhere s [] = refl
stays_nowhere s (name n ∷ path) = stays_nowhere s path
stays_nowhere s (index k ∷ path) = stays_nowhere s path

field_leaf : (s : Schema) (verb : Verb) (body : Body) (r : Reading) → is_taken (at_field s verb body (number 0)) ≡ false → is_taken (at_field s verb body r) ≡ false
field_leaf s get body r h = absurd (cc h)
field_leaf s (set_to v) (void_slot j) r h = h
field_leaf s (set_to v) (plain_slot p at d) r h = h
field_leaf s (set_to v) (pointer_slot i ty d) r h = h
field_leaf s (set_to v) (group_slot g) r h = h
field_leaf s init (void_slot j) r h = h
field_leaf s init (plain_slot p at d) r h = h
field_leaf s init (pointer_slot i ty d) r h = h
field_leaf s init (group_slot g) r h = h
field_leaf s (initn n) (void_slot j) r h = h
field_leaf s (initn n) (plain_slot p at d) r h = h
field_leaf s (initn n) (pointer_slot i ty d) r h = h
field_leaf s (initn n) (group_slot g) r h = h
field_leaf s clear (void_slot j) r h = h
field_leaf s clear (plain_slot p at d) r h = h
field_leaf s clear (pointer_slot i ty d) r h = h
field_leaf s clear (group_slot g) r h = h

element_leaf : (s : Schema) (verb : Verb) (ty : Ty) (r : Reading) → is_taken (at_element s verb ty (number 0)) ≡ false → is_taken (at_element s verb ty r) ≡ false
element_leaf s get ty r h = absurd (cc h)
element_leaf s (set_to v) ty r h = h
element_leaf s init ty r h = h
element_leaf s (initn n) ty r h = h
element_leaf s clear ty r h = h

-- ---- refused by every record

module _ (s : Schema) (verb : Verb) where
  abbrev RefusesFields : List Step → Type 0
  RefusesFields path = (body : Body) (r : Reading) → takes_at s verb (end_of s path (at_slot body)) ≡ false → is_taken (step_field s path verb body r) ≡ false

  abbrev RefusesElements : List Step → Type 0
  RefusesElements path = (ty : Ty) (r : Reading) → takes_at s verb (end_of s path (at_value ty)) ≡ false → is_taken (step_element s path verb ty r) ≡ false

  named : (n : List ℕ) (path : List Step) (fs : Fields) (r : Record) (found : Target) → RefusesFields path → takes_at s verb (end_of s path (end_at found)) ≡ false → is_taken (at_target (step_field s path verb) n fs r found) ≡ false
  named n path fs r no_target fields h = refl
  named n path fs r (target member body) fields h = mapped (λ x. replaced n member x fs r) (step_field s path verb body (entry_of n r)) ∙ fields body (entry_of n r) h

  indexed : (f : Reading → Outcome Reading) (k : ℕ) (rs : Readings) → ((r : Reading) → is_taken (f r) ≡ false) → is_taken (on_index f k rs) ≡ false
  indexed f k no_readings h = refl
  indexed f zero (r ▹ rs) h = mapped (λ x. x ▹ rs) (f r) ∙ h r
  indexed f (suc k) (r ▹ rs) h = mapped (λ xs. r ▹ xs) (on_index f k rs) ∙ indexed f k rs h

  valued : (st : Step) (path : List Step) (ty : Ty) (r : Reading) → RefusesFields path → RefusesElements path → takes_at s verb (end_of s path (step_into s st ty)) ≡ false
      → is_taken (through_value s st (step_field s path verb) (step_element s path verb) ty r) ≡ false
  valued st path ty (fault k) fields elements h = refl
  valued (name n) path (struct id) (record_as r) fields elements h = mapped record_as (on_name (step_field s path verb) n (fields_in (s.shape_of id)) r) ∙ named n path (fields_in (s.shape_of id)) r (target_of n (fields_in (s.shape_of id))) fields h
  valued (name n) path _ (record_as r) fields elements h = refl
  valued (index k) path _ (record_as r) fields elements h = refl
  valued (index k) path (list ty) (list_of rs) fields elements h = mapped list_of (on_index (step_element s path verb ty) k rs) ∙ indexed (step_element s path verb ty) k rs (λ r. elements ty r h)
  valued (index k) path _ (list_of rs) fields elements h = refl
  valued (name n) path _ (list_of rs) fields elements h = refl
  valued st path ty inactive fields elements h = refl
  valued st path ty null_pointer fields elements h = refl
  valued st path ty (number m) fields elements h = refl
  valued st path ty (text_of bs) fields elements h = refl
  valued st path ty (blob_of bs) fields elements h = refl
  valued st path ty (opaque t) fields elements h = refl

  through : (st : Step) (path : List Step) (body : Body) (r : Reading) → RefusesFields path → RefusesElements path → takes_at s verb (end_of s path (next_end s st (at_slot body))) ≡ false
      → is_taken (through_field s st (step_field s path verb) (step_element s path verb) body r) ≡ false
  through st path body inactive fields elements h = refl
  through (name n) path (void_slot i) null_pointer fields elements h = refl
  through (name n) path (plain_slot p at d) null_pointer fields elements h = refl
  through (name n) path (pointer_slot i ty d) null_pointer fields elements h = valued (name n) path ty (opened s ty (default_or_null d) null_pointer) fields elements h
  through (name n) path (group_slot g) null_pointer fields elements h = refl
  through (index k) path (void_slot i) null_pointer fields elements h = refl
  through (index k) path (plain_slot p at d) null_pointer fields elements h = refl
  through (index k) path (pointer_slot i ty d) null_pointer fields elements h = valued (index k) path ty (opened s ty (default_or_null d) null_pointer) fields elements h
  through (index k) path (group_slot g) null_pointer fields elements h = refl
  through (name n) path (void_slot i) (fault k) fields elements h = refl
  through (name n) path (plain_slot p at d) (fault k) fields elements h = refl
  through (name n) path (pointer_slot i ty d) (fault k) fields elements h = valued (name n) path ty (opened s ty (default_or_null d) (fault k)) fields elements h
  through (name n) path (group_slot g) (fault k) fields elements h = refl
  through (index k) path (void_slot i) (fault j) fields elements h = refl
  through (index k) path (plain_slot p at d) (fault j) fields elements h = refl
  through (index k) path (pointer_slot i ty d) (fault j) fields elements h = valued (index k) path ty (opened s ty (default_or_null d) (fault j)) fields elements h
  through (index k) path (group_slot g) (fault j) fields elements h = refl
  through (name n) path (void_slot i) (number m) fields elements h = refl
  through (name n) path (plain_slot p at d) (number m) fields elements h = refl
  through (name n) path (pointer_slot i ty d) (number m) fields elements h = valued (name n) path ty (opened s ty (default_or_null d) (number m)) fields elements h
  through (name n) path (group_slot g) (number m) fields elements h = refl
  through (index k) path (void_slot i) (number m) fields elements h = refl
  through (index k) path (plain_slot p at d) (number m) fields elements h = refl
  through (index k) path (pointer_slot i ty d) (number m) fields elements h = valued (index k) path ty (opened s ty (default_or_null d) (number m)) fields elements h
  through (index k) path (group_slot g) (number m) fields elements h = refl
  through (name n) path (void_slot i) (text_of bs) fields elements h = refl
  through (name n) path (plain_slot p at d) (text_of bs) fields elements h = refl
  through (name n) path (pointer_slot i ty d) (text_of bs) fields elements h = valued (name n) path ty (opened s ty (default_or_null d) (text_of bs)) fields elements h
  through (name n) path (group_slot g) (text_of bs) fields elements h = refl
  through (index k) path (void_slot i) (text_of bs) fields elements h = refl
  through (index k) path (plain_slot p at d) (text_of bs) fields elements h = refl
  through (index k) path (pointer_slot i ty d) (text_of bs) fields elements h = valued (index k) path ty (opened s ty (default_or_null d) (text_of bs)) fields elements h
  through (index k) path (group_slot g) (text_of bs) fields elements h = refl
  through (name n) path (void_slot i) (blob_of bs) fields elements h = refl
  through (name n) path (plain_slot p at d) (blob_of bs) fields elements h = refl
  through (name n) path (pointer_slot i ty d) (blob_of bs) fields elements h = valued (name n) path ty (opened s ty (default_or_null d) (blob_of bs)) fields elements h
  through (name n) path (group_slot g) (blob_of bs) fields elements h = refl
  through (index k) path (void_slot i) (blob_of bs) fields elements h = refl
  through (index k) path (plain_slot p at d) (blob_of bs) fields elements h = refl
  through (index k) path (pointer_slot i ty d) (blob_of bs) fields elements h = valued (index k) path ty (opened s ty (default_or_null d) (blob_of bs)) fields elements h
  through (index k) path (group_slot g) (blob_of bs) fields elements h = refl
  through (name n) path (void_slot i) (list_of rs) fields elements h = refl
  through (name n) path (plain_slot p at d) (list_of rs) fields elements h = refl
  through (name n) path (pointer_slot i ty d) (list_of rs) fields elements h = valued (name n) path ty (opened s ty (default_or_null d) (list_of rs)) fields elements h
  through (name n) path (group_slot g) (list_of rs) fields elements h = refl
  through (index k) path (void_slot i) (list_of rs) fields elements h = refl
  through (index k) path (plain_slot p at d) (list_of rs) fields elements h = refl
  through (index k) path (pointer_slot i ty d) (list_of rs) fields elements h = valued (index k) path ty (opened s ty (default_or_null d) (list_of rs)) fields elements h
  through (index k) path (group_slot g) (list_of rs) fields elements h = refl
  through (name n) path (void_slot i) (record_as r) fields elements h = refl
  through (name n) path (plain_slot p at d) (record_as r) fields elements h = refl
  through (name n) path (pointer_slot i ty d) (record_as r) fields elements h = valued (name n) path ty (opened s ty (default_or_null d) (record_as r)) fields elements h
  through (name n) path (group_slot g) (record_as r) fields elements h = mapped record_as (on_name (step_field s path verb) n (fields_in g) r) ∙ named n path (fields_in g) r (target_of n (fields_in g)) fields h
  through (index k) path (void_slot i) (record_as r) fields elements h = refl
  through (index k) path (plain_slot p at d) (record_as r) fields elements h = refl
  through (index k) path (pointer_slot i ty d) (record_as r) fields elements h = valued (index k) path ty (opened s ty (default_or_null d) (record_as r)) fields elements h
  through (index k) path (group_slot g) (record_as r) fields elements h = refl
  through (name n) path (void_slot i) (opaque t) fields elements h = refl
  through (name n) path (plain_slot p at d) (opaque t) fields elements h = refl
  through (name n) path (pointer_slot i ty d) (opaque t) fields elements h = valued (name n) path ty (opened s ty (default_or_null d) (opaque t)) fields elements h
  through (name n) path (group_slot g) (opaque t) fields elements h = refl
  through (index k) path (void_slot i) (opaque t) fields elements h = refl
  through (index k) path (plain_slot p at d) (opaque t) fields elements h = refl
  through (index k) path (pointer_slot i ty d) (opaque t) fields elements h = valued (index k) path ty (opened s ty (default_or_null d) (opaque t)) fields elements h
  through (index k) path (group_slot g) (opaque t) fields elements h = refl

-- at a field, and at an element
mutual
  unfolding step_field step_element end_of

  fields_refuse : (s : Schema) (verb : Verb) (path : List Step) → RefusesFields s verb path
  fields_refuse s verb [] body r h = field_leaf s verb body r h
  fields_refuse s verb (st ∷ path) body r h = through s verb st path body r (fields_refuse s verb path) (elements_refuse s verb path) h

  elements_refuse : (s : Schema) (verb : Verb) (path : List Step) → RefusesElements s verb path
  elements_refuse s verb [] ty r h = element_leaf s verb ty r h
  elements_refuse s verb (st ∷ path) ty r h = valued s verb st path ty (opened s ty null r) (fields_refuse s verb path) (elements_refuse s verb path) (into st h)
    where
      into : (st : Step) → takes_at s verb (end_of s path (next_end s st (at_value ty))) ≡ false → takes_at s verb (end_of s path (step_into s st ty)) ≡ false
      into (name n) h = h
      into (index k) h = h

-- a call that can't be taken
refuses : (s : Schema) (id : ℕ) (path : List Step) (verb : Verb) (r : Record) → path ≢ [] → takes_at s verb (end_of s path (at_value (struct id))) ≡ false → is_taken (step_path s (fields_in (s.shape_of id)) path verb r) ≡ false
unfolding end_of
refuses s id [] verb r some h = refl
refuses s id (name n ∷ path) verb r some h = named s verb n path (fields_in (s.shape_of id)) r (target_of n (fields_in (s.shape_of id))) (fields_refuse s verb path) h
refuses s id (index k ∷ path) verb r some h = refl

pub all_refuse : (s : Schema) (id : ℕ) (call : Call) (r : Record) → call.path ≢ [] → can_take s id call ≡ false → is_taken (step s id call r) ≡ false
unfolding step
all_refuse s id call r some h = refuses s id call.path call.verb r some h

-- ---- taken by a record

same_name : (n : List ℕ) → bytes_eq n n ≡ true
same_name n = (bytes_eq-Decides n n).1 refl

-- the record in which a name reads so
abbrev holding : List ℕ → Reading → Record
holding n x = entry n x no_more

held : (n : List ℕ) (x : Reading) → entry_of n (holding n x) ≡ x
held n x = ap (λ b. choose b x inactive) (same_name n)

-- k elements before one that reads so
abbrev ending : ℕ → Reading → Readings
ending zero x = x ▹ no_readings
ending (suc k) x = x ▹ ending k x

module _ (s : Schema) (verb : Verb) where
  abbrev FieldTakes : List Step → Body → Type 0
  FieldTakes path body = (r : Reading) × (is_taken (step_field s path verb body r) ≡ true)

  abbrev ElementTakes : List Step → Ty → Type 0
  ElementTakes path ty = (r : Reading) × (is_taken (step_element s path verb ty r) ≡ true)

  abbrev TakeFields : List Step → Type 0
  TakeFields path = (body : Body) → takes_at s verb (end_of s path (at_slot body)) ≡ true → FieldTakes path body

  abbrev TakeElements : List Step → Type 0
  TakeElements path = (ty : Ty) → takes_at s verb (end_of s path (at_value ty)) ≡ true → ElementTakes path ty

  -- nothing is taken nowhere
  lost : {A : Type 0} (path : List Step) → takes_at s verb (end_of s path nowhere) ≡ true → A
  lost path h = absurd (cc (sym (ap (takes_at s verb) (stays_nowhere s path)) ∙ h))

  names_one : (n : List ℕ) (path : List Step) (fs : Fields) (found : Target) → TakeFields path → takes_at s verb (end_of s path (end_at found)) ≡ true → (r : Record) × (is_taken (at_target (step_field s path verb) n fs r found) ≡ true)
  names_one n path fs no_target fields h = lost path h
  names_one n path fs (target member body) fields h =
      let x = fields body h in
      (holding n x.0, mapped (λ y. replaced n member y fs (holding n x.0)) (step_field s path verb body (entry_of n (holding n x.0))) ∙ ap (λ y. is_taken (step_field s path verb body y)) (held n x.0) ∙ x.1)

  counts_one : (f : Reading → Outcome Reading) (k : ℕ) (x : Reading) → is_taken (f x) ≡ true → is_taken (on_index f k (ending k x)) ≡ true
  counts_one f zero x h = mapped (λ y. y ▹ no_readings) (f x) ∙ h
  counts_one f (suc k) x h = mapped (λ xs. x ▹ xs) (on_index f k (ending k x)) ∙ counts_one f k x h

  -- a step into what is there, where it is a struct of one field or a list
  values_one : (st : Step) (path : List Step) (ty : Ty) → TakeFields path → TakeElements path → takes_at s verb (end_of s path (step_into s st ty)) ≡ true → ElementTakes (st ∷ path) ty
  unfolding step_element
  values_one (name n) path (struct id) fields elements h =
      let fs = fields_in (s.shape_of id) in
      let x = names_one n path fs (target_of n fs) fields h in
      (record_as x.0, mapped record_as (on_name (step_field s path verb) n fs x.0) ∙ x.1)
  values_one (name n) path _ fields elements h = lost path h
  values_one (index k) path (list ty) fields elements h =
      let x = elements ty h in
      (list_of (ending k x.0), mapped list_of (on_index (step_element s path verb ty) k (ending k x.0)) ∙ counts_one (step_element s path verb ty) k x.0 x.1)
  values_one (index k) path _ fields elements h = lost path h

  through_one : (st : Step) (path : List Step) (body : Body) → TakeFields path → TakeElements path → takes_at s verb (end_of s path (next_end s st (at_slot body))) ≡ true → FieldTakes (st ∷ path) body
  unfolding step_field
  through_one (name n) path (group_slot g) fields elements h =
      let fs = fields_in g in
      let x = names_one n path fs (target_of n fs) fields h in
      (record_as x.0, mapped record_as (on_name (step_field s path verb) n fs x.0) ∙ x.1)
  through_one (index k) path (group_slot g) fields elements h = lost path h
  through_one (name n) path (pointer_slot i (struct id) d) fields elements h =
      let fs = fields_in (s.shape_of id) in
      let x = names_one n path fs (target_of n fs) fields h in
      (record_as x.0, mapped record_as (on_name (step_field s path verb) n fs x.0) ∙ x.1)
  through_one (name n) path (pointer_slot i _ d) fields elements h = lost path h
  through_one (index k) path (pointer_slot i (list ty) d) fields elements h =
      let x = elements ty h in
      (list_of (ending k x.0), mapped list_of (on_index (step_element s path verb ty) k (ending k x.0)) ∙ counts_one (step_element s path verb ty) k x.0 x.1)
  through_one (index k) path (pointer_slot i _ d) fields elements h = lost path h
  through_one (name n) path (void_slot j) fields elements h = lost path h
  through_one (index k) path (void_slot j) fields elements h = lost path h
  through_one (name n) path (plain_slot p at d) fields elements h = lost path h
  through_one (index k) path (plain_slot p at d) fields elements h = lost path h

mutual
  unfolding step_field step_element end_of

  fields_take : (s : Schema) (verb : Verb) (path : List Step) → TakeFields s verb path
  fields_take s verb [] body h = (number 0, h)
  fields_take s verb (st ∷ path) body h = through_one s verb st path body (fields_take s verb path) (elements_take s verb path) h

  elements_take : (s : Schema) (verb : Verb) (path : List Step) → TakeElements s verb path
  elements_take s verb [] ty h = (number 0, h)
  elements_take s verb (st ∷ path) ty h = values_one s verb st path ty (fields_take s verb path) (elements_take s verb path) (into st h)
    where
      into : (st : Step) → takes_at s verb (end_of s path (next_end s st (at_value ty))) ≡ true → takes_at s verb (end_of s path (step_into s st ty)) ≡ true
      into (name n) h = h
      into (index k) h = h

takes : (s : Schema) (id : ℕ) (path : List Step) (verb : Verb) → path ≢ [] → takes_at s verb (end_of s path (at_value (struct id))) ≡ true → (r : Record) × (is_taken (step_path s (fields_in (s.shape_of id)) path verb r) ≡ true)
unfolding end_of
takes s id [] verb some h = absurd (some refl)
takes s id (name n ∷ path) verb some h = names_one s verb n path (fields_in (s.shape_of id)) (target_of n (fields_in (s.shape_of id))) (fields_take s verb path) h
takes s id (index k ∷ path) verb some h = lost s verb path h

pub one_takes : (s : Schema) (id : ℕ) (call : Call) → call.path ≢ [] → can_take s id call ≡ true → (r : Record) × (is_taken (step s id call r) ≡ true)
unfolding step
one_takes s id call some h = takes s id call.path call.verb some h
