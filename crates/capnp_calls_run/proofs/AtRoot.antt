-- Calls at the root of a message, from those at its struct.
use Rattle.std.proofs.Common.{◌≡◌, inl, inr, ℕ, suc, ◌^◌, ◌≤◌, ◌<◌, List, Ok, refl, ap, sym, ◌∙◌, subst, arith}
use Rattle.capnp_model.specs.Segments.{Segments, Place, root}
use Rattle.capnp_model.specs.Pointers.{Found, found_at}
use Rattle.capnp_model.specs.Trees.{Tree, Trees, structure, widened, depth}
use Rattle.capnp_model.specs.Schemas.{Shape, shape, words_of_shape, pointers_of_shape}
use Rattle.capnp_model.specs.Calls.{Call}
use Rattle.capnp_model.specs.Answers.{Reply, edits, widened_root}
use Rattle.capnp_wire_objects.specs.Places.{place_view}
use Rattle.capnp_model_writes.specs.Footprints.{Owns, OwnsObject}
use Rattle.capnp_model_writes.specs.Changes.{Replaces, ReplacesObject}
use Rattle.capnp_model_writes.proofs.lemmas.Turns.{struct_shape}
use Rattle.capnp_copy_arenas.specs.Structs.{object_of_struct}
use Rattle.capnp_copy_arenas.specs.Values.{LeadsTo}
use Rattle.capnp_copy_arenas.specs.declared.fields.StructPlace.{StructPlace}
use Rattle.capnp_wire_objects.specs.Objects.{object_at}
use Rattle.capnp_units.specs.declared.errors.Error.{Error}
use Rattle.capnp_calls_run.specs.declared.fault.RunFault.{RunFault}
use Rattle.capnp_calls_run.specs.declared.fault.RunFault.TheVariants as faults
use Rattle.capnp_copy_widening.specs.Widened.{Widens, WideStructRefused, IsStructOrNull}
use Rattle.capnp_values_queries.specs.Structs.{schema_around, shape_of_struct, id_of}
use Rattle.capnp_values_queries.specs.declared.structs.StructSchema.{StructSchema}
use Rattle.capnp_model_writes.specs.Totals.{words_of_segments}
use Rattle.capnp_calls.specs.LongLists.{LongInTurn}
use Rattle.capnp_calls_run.specs.Runs.{RunsAll, RunsAt, RunsRoot, EndsLongAt, EndsLongRoot, StopsBy, StopsAt, StopsRoot}

opened : (g : Shape) (t : Tree) → widened (words_of_shape g) (pointers_of_shape g) t ≡ widened_root g t
opened (shape nid w p u fs) t = refl

-- what the laws of values say
pub record ValueLaws : Type 0 where
  pub again : (n : ℕ) (s u v : Segments) (p : Place) (t w : Tree) → Replaces n s u p t → Replaces n u v p w → Replaces n s v p w
  pub after : (n : ℕ) (s u : Segments) (p : Place) (t v : Tree) → Owns n s p t → Replaces n s u p v → Owns n u p v
  pub down : (n : ℕ) (s : Segments) (p : Place) (f : Found) (t : Tree) → found_at s p ≡ Ok f → Owns (suc n) s p t → OwnsObject n s f.object t
  pub depths_at : (n : ℕ) (s : Segments) (p : Place) (t : Tree) → Owns n s p t → depth t ≤ words_of_segments s
  pub owned_at : (n m : ℕ) (s : Segments) (p : Place) (t : Tree) → depth t ≤ m → Owns n s p t → Owns m s p t
  pub replaced_at : (n m : ℕ) (s u : Segments) (p : Place) (t v : Tree) → depth t ≤ m → depth v ≤ m → Owns n s p t → Replaces n s u p v → Replaces m s u p v
  pub up : (n : ℕ) (s u : Segments) (p : Place) (f : Found) (t v : Tree) → found_at s p ≡ Ok f → Owns (suc n) s p t → ReplacesObject n s u f.object v → Replaces (suc n) s u p v

-- the root's value, opened as a struct that is owned at its place
record Opened (s u : Segments) (g : Shape) (o : StructPlace) (n : ℕ) (t : Tree) : Type 0 where
  changed : Replaces (suc n) s u root (widened_root g t)
  now : Owns (suc n) u root (widened_root g t)
  section : ℕ
  kids : Trees
  is : widened_root g t ≡ structure o.data_words section kids
  object : OwnsObject n u (object_of_struct o) (structure o.data_words section kids)

module _ (values : ValueLaws) (s u : Segments) (few : words_of_segments s < 2 ^ 29) (few_later : words_of_segments u < 2 ^ 29) (schema : StructSchema) (o : StructPlace) (d k : ℕ) (dw : d ≡ words_of_shape (shape_of_struct schema)) (kp : k ≡ pointers_of_shape (shape_of_struct schema))
    (widens : Widens s u root d k) (leads : LeadsTo u root (object_of_struct o)) where
  abbrev found : Found
  found = record { pads = leads.0; object = object_of_struct o }

  opened_at : (n : ℕ) (t : Tree) → 2 ^ 29 ≤ n → Owns (suc n) s root t → Opened s u (shape_of_struct schema) o n t
  opened_at n t most owns =
      let g = shape_of_struct schema in
      let w : Tree = widened_root g t in
      let wide : widened d k t ≡ w = ap (λ x. widened x k t) dw ∙ ap (λ x. widened (words_of_shape g) x t) kp ∙ opened g t in
      let low = values.depths_at (suc n) s root t owns in
      let change = subst (Replaces (suc (suc n)) s u root) wide (widens (suc n) t owns) in
      let deeper : depth t ≤ suc (suc n) = omega (arith, low, few, most) in
      let more = values.owned_at (suc n) (suc (suc n)) s root t deeper owns in
      let owned = values.after (suc (suc n)) s u root t w more change in
      let low' = values.depths_at (suc (suc n)) u root w owned in
      let fits : depth t ≤ suc n = omega (arith, low, few, most) in
      let fits' : depth w ≤ suc n = omega (arith, low', few_later, most) in
      let changed : Replaces (suc n) s u root w = values.replaced_at (suc (suc n)) (suc n) s u root t w fits fits' more change in
      let now : Owns (suc n) u root w = values.after (suc n) s u root t w owns changed in
      let object = values.down n u root found w leads.1 now in
      let is = struct_shape n u (place_view o.start) o.data_words o.pointers w object in
      record { changed = changed; now = now; section = is.0; kids = is.1; is = is.2; object = subst (OwnsObject n u (object_of_struct o)) is.2 object }

  pub at_root : (v : Segments) (calls : List Call) (told : List Reply) → RunsAt u v (record { place = o; schema = schema }) calls told → RunsRoot s v schema calls told
  at_root v calls told runs n t most owns =
      let w : Tree = widened_root (shape_of_struct schema) t in
      let a = opened_at n t most owns in
      let run = runs n a.section a.kids most a.object in
      let lifted = values.up n u v root found w run.0 leads.1 a.now run.1 in (
        run.0,
        values.again (suc n) s u v root w run.0 a.changed lifted,
        subst (λ x. RunsAll schema calls x run.0 told) (sym a.is) run.2,
      )

  pub long_at_root : (calls : List Call) → EndsLongAt u o schema calls → EndsLongRoot s schema calls
  long_at_root calls long n t most owns =
      let a = opened_at n t most owns in
      subst (LongInTurn schema calls) (sym a.is) (long n a.section a.kids most a.object)

  pub stops_at_root : (told : Error → Type 0) (v : Segments) (calls : List Call) (fault : RunFault) → StopsAt told u v (record { place = o; schema = schema }) calls fault → StopsRoot told s v schema calls fault
  stops_at_root told v calls fault stops n t most owns =
      let w : Tree = widened_root (shape_of_struct schema) t in
      let a = opened_at n t most owns in
      let x = stops n a.section a.kids most a.object in
      let T : Tree = edits (schema_around schema) (id_of schema) x.before (structure o.data_words a.section a.kids) in
      let same : structure o.data_words a.section a.kids ≡ w = sym a.is in
      let lifted : Replaces (suc n) u x.mid root T = values.up n u x.mid root found w T leads.1 a.now x.made in
      let whole : Replaces (suc n) s x.mid root T = values.again (suc n) s u x.mid root w T a.changed lifted in
      inr (record {
        before = x.before;
        behind = x.behind;
        split = x.split;
        mid = x.mid;
        made = subst (λ (y : Tree). Replaces (suc n) s x.mid root (edits (schema_around schema) (id_of schema) x.before y)) same whole;
        grows = x.grows;
        why = subst (λ (y : Tree). StopsBy told schema x.behind (edits (schema_around schema) (id_of schema) x.before y) fault) same x.why;
      })

-- the root isn't got
pub root_refused : (told : Error → Type 0) (s u : Segments) (schema : StructSchema) (d k : ℕ) → d ≡ words_of_shape (shape_of_struct schema) → k ≡ pointers_of_shape (shape_of_struct schema) → (calls : List Call) (e : Error) → u ≡ s → WideStructRefused s (object_at s root) d k e → (IsStructOrNull (object_at s root) → told e) → StopsRoot told s u schema calls (faults.Refused e)
root_refused told s u schema d k dw kp calls e stands why cause n t most owns = inl (stands, subst (λ j. WideStructRefused s (object_at s root) (words_of_shape (shape_of_struct schema)) j e) kp (subst (λ j. WideStructRefused s (object_at s root) j k e) dw why), cause)
