-- A struct that takes over the content of a message's root.
use Rattle.std.proofs.Common.{◌≡◌, ℕ, zero, suc, min, ◌+◌, ◌*◌, ◌%◌, ◌^◌, ◌≤◌, take, Option, Some, Result, Ok, Err, OnOk, refl, sym, subst, ap, ◌∙◌, arith}
use Rattle.std.specs.Prelude.{⊤}
use Rattle.capnp_model.specs.Sections.{section_of}
use Rattle.capnp_model.specs.Segments.{Segments, Place, after, words_at}
use Rattle.capnp_model.specs.Pointers.{Found, found_at, nothing, a_struct}
use Rattle.capnp_model.specs.Traversal.{tree_of, tree_at, each}
use Rattle.capnp_model.specs.Trees.{Tree, null, structure, Trees, none, ◌▸◌, resized}
use Rattle.capnp_model.specs.Calls.{message_root}
use Rattle.capnp_model.proofs.lemmas.Chaining.{bind_some, bind_found, some_is, ok_is}
use Rattle.capnp_wire_objects.specs.Inside.{section_at}
use Rattle.capnp_wire_objects.proofs.lemmas.Linking.{section_front}
use Rattle.capnp_units.specs.declared.errors.Error.{Error}
use Rattle.capnp_units.specs.declared.limiter.ReadLimiter.{ReadLimiter}
use Rattle.capnp_wire_objects.specs.Places.{place_view}
use Rattle.capnp_model_writes.specs.Changes.{ReplacesObject}
use Rattle.capnp_copy_arenas.specs.Structs.{object_of_struct}
use Rattle.capnp_copy_arenas.specs.Values.{LeadsTo}
use Rattle.capnp_copy_arenas.specs.declared.fields.StructPlace.{StructPlace}
use Rattle.capnp_copy_values.specs.Copies.{StructSource, copy_source, limited_words}
use Rattle.capnp_copy_values.specs.Contents.{CopiesContent, TakesContent}
use Rattle.capnp_schema_structs.proofs.lemmas.Deeper.{object_owned_more}
use Rattle.capnp_schema_structs.specs.Grown.{GrowsAround}
use Rattle.capnp_calls_edits.specs.Elements.{TakesTree}

-- ---- what the root holds

pub record Content (n : ℕ) (s : Segments) (q : Place) (d k : ℕ) (t : Tree) : Type 0 where
  pub section : ℕ
  pub kids : Trees
  pub is : t ≡ structure d section kids
  pub section_is : section_at s q d ≡ section
  pub kids_are : each (tree_at n s) (after q d) k ≡ Some kids

pub struct_content : (n : ℕ) (s : Segments) (p q : Place) (d k : ℕ) (t : Tree) → LeadsTo s p (a_struct q d k) → tree_at (suc n) s p ≡ Some t → Content n s q d k t
unfolding tree_at
struct_content n s p q d k t leads e =
    let x = bind_found (found_at s p) _ t e in
    let is : x.0 ≡ record { pads = leads.0; object = a_struct q d k } = ok_is _ _ (sym x.1 ∙ leads.1) in
    let here : tree_of s (tree_at n s) (a_struct q d k) ≡ Some t = subst (λ (f : Found). tree_of s (tree_at n s) f.object ≡ Some t) is x.2 in
    let y = bind_some (words_at s q (d + k)) _ t here in
    let z = bind_some (each (tree_at n s) (after q d) k) _ t y.2 in
    record { section = section_of (take d y.0); kids = z.0; is = sym (some_is _ _ z.2); section_is = section_front s q d k y.0 y.1; kids_are = z.1 }

null_content : (n : ℕ) (s : Segments) (p : Place) (t : Tree) → LeadsTo s p nothing → tree_at (suc n) s p ≡ Some t → t ≡ null
unfolding tree_at
null_content n s p t leads e =
    let x = bind_found (found_at s p) _ t e in
    let is : x.0 ≡ record { pads = leads.0; object = nothing } = ok_is _ _ (sym x.1 ∙ leads.1) in
    let here : tree_of s (tree_at n s) nothing ≡ Some t = subst (λ (f : Found). tree_of s (tree_at n s) f.object ≡ Some t) is x.2 in
    sym (some_is _ _ here)

-- ---- the first of some children

first_kids : (f : Place → Option Tree) (p : Place) (k m j : ℕ) (kids ts : Trees) → j ≡ min k m → each f p k ≡ Some kids → each f p j ≡ Some ts → resized m ts ≡ resized m kids
first_kids f p zero m j kids ts e a b =
    let none_j : j ≡ 0 = omega (arith, e) in
    let b' : Some none ≡ Some ts = subst (λ (i : ℕ). each f p i ≡ Some ts) none_j b in
    ap (resized m) (sym (some_is _ _ b') ∙ some_is _ _ a)
first_kids f p (suc k) zero j kids ts e a b = refl
first_kids f p (suc k) (suc m) zero kids ts e a b = absurd (omega (arith, e))
first_kids f p (suc k) (suc m) (suc j) kids ts e a b =
    let x = bind_some (f p) _ kids a in
    let y = bind_some (each f (after p 1) k) _ kids x.2 in
    let v = bind_some (f p) _ ts b in
    let w = bind_some (each f (after p 1) j) _ ts v.2 in
    let head : v.0 ≡ x.0 = some_is _ _ (sym v.1 ∙ x.1) in
    let less : j ≡ min k m = omega (arith, e) in
    let rest : resized m w.0 ≡ resized m y.0 = first_kids f (after p 1) k m j y.0 w.0 less y.1 w.1 in
    ap (resized (suc m)) (sym (some_is _ _ w.2)) ∙ ap (λ h. h ▸ resized m w.0) head ∙ ap (λ (r : Trees). x.0 ▸ r) rest ∙ ap (resized (suc m)) (some_is _ _ y.2)

-- ---- what is taken over

taken : (levels : ℕ) (s u : Segments) (o : StructPlace) (w section : ℕ) (kids ts : Trees) → levels ≤ 65 → TakesContent levels s u o section ts → resized o.pointers ts ≡ resized o.pointers kids → TakesTree s u o (structure w section kids)
taken levels s u o w section kids ts few made same n own old owns =
    let more = object_owned_more n (n + 65) s (object_of_struct o) (structure o.data_words own old) (omega arith) owns in
    subst (λ x. ReplacesObject (n + 65) s u (object_of_struct o) (structure o.data_words (section % 2 ^ (64 * o.data_words)) x)) same (made (n + 65) own old (omega (arith, few)) more)

module _ (levels : ℕ) (few : levels ≤ 65) (from : Segments) (p : Place) (x : StructSource) (s u : Segments) (o : StructPlace) (old new : ReadLimiter) where
  pub struct_taken : (r : Result ⊤ Error) → CopiesContent (copy_source levels from x) o (limited_words s old) r (limited_words u new) → (q : Place) (d : ℕ) → LeadsTo from p (a_struct q d x.pointers) → x.section ≡ section_at from q d → place_view x.first ≡ after q d
      → (t : Tree) → tree_at (suc levels) from p ≡ Some t → OnOk r (TakesTree s u o (message_root t))
  struct_taken (Err e) h q d leads section first t reads = tt
  struct_taken (Ok y) h q d leads section first t reads =
      let c = struct_content levels from p q d x.pointers t leads reads in
      let there : each (tree_at levels from) (after q d) (min x.pointers o.pointers) ≡ Some h.value = subst (λ z. each (tree_at levels from) z (min x.pointers o.pointers) ≡ Some h.value) first h.there_is in
      let same = first_kids (tree_at levels from) (after q d) x.pointers o.pointers (min x.pointers o.pointers) c.kids h.value refl c.kids_are there in
      let all : TakesTree s u o (structure d x.section c.kids) = taken levels s u o d x.section c.kids h.value few h.made same in
      let here : TakesTree s u o (structure d c.section c.kids) = subst (λ z. TakesTree s u o (structure d z c.kids)) (section ∙ c.section_is) all in
      subst (λ z. TakesTree s u o (message_root z)) (sym c.is) here

  pub null_taken : (r : Result ⊤ Error) → CopiesContent (copy_source levels from x) o (limited_words s old) r (limited_words u new) → LeadsTo from p nothing → x.section ≡ 0 → x.pointers ≡ 0 → (t : Tree) → tree_at (suc levels) from p ≡ Some t → OnOk r (TakesTree s u o (message_root t))
  null_taken (Err e) h leads section none_there t reads = tt
  null_taken (Ok y) h leads section none_there t reads =
      let zero_first : min x.pointers o.pointers ≡ 0 = omega (arith, none_there) in
      let there : Some none ≡ Some h.value = subst (λ (j : ℕ). each (tree_at levels from) (place_view x.first) j ≡ Some h.value) zero_first h.there_is in
      let same : resized o.pointers h.value ≡ resized o.pointers none = ap (resized o.pointers) (sym (some_is _ _ there)) in
      let all : TakesTree s u o (structure 0 x.section none) = taken levels s u o 0 x.section none h.value few h.made same in
      let here : TakesTree s u o (structure 0 0 none) = subst (λ z. TakesTree s u o (structure 0 z none)) section all in
      subst (λ z. TakesTree s u o (message_root z)) (sym (null_content levels from p t leads reads)) here

  pub content_grows : (r : Result ⊤ Error) → CopiesContent (copy_source levels from x) o (limited_words s old) r (limited_words u new) → GrowsAround s u o
  content_grows (Ok y) h n section kids owns = h.grows
  content_grows (Err e) h n section kids owns =
      (h.left.left (n + levels) section kids (omega arith) (object_owned_more n (n + levels) s (object_of_struct o) (structure o.data_words section kids) (omega arith) owns)).changes.grows
