-- Plain fields that are found by their names.
use Rattle.std.proofs.Common.{◌≡◌, ℕ, ◌+◌, ◌*◌, Option, Some, None, List, [], ◌∷◌, ◌++◌, bit_xor, ap, sym, subst, ◌∙◌}
use Rattle.std.specs.Prelude.{IfSome}
use Rattle.capnp_model.specs.Sections.{with_bits}
use Rattle.capnp_model.specs.Trees.{structure}
use Rattle.capnp_model.specs.Schemas.{width, Body, void_slot, plain_slot, pointer_slot, group_slot}
use Rattle.capnp_model.specs.Calls.{Step, name, Verb, set_to, CallValue, Call}
use Rattle.capnp_model.specs.Steps.{target, target_of}
use Rattle.capnp_model.specs.Answers.{widened_root}
use Rattle.capnp_model.proofs.lemmas.Bits.{xor_twice}
use Rattle.capnp_values_queries.specs.Structs.{schema_around, shape_of_struct, fields_of_struct, id_of}
use Rattle.capnp_values_queries.specs.declared.structs.StructSchema.{StructSchema}
use Rattle.capnp_model.specs.Printing.{as_it_is}
use Rattle.capnp_calls_in_place.specs.PlainSets.{IsPlain, ArePlain}
use Rattle.capnp_calls_splice.specs.DataWords.{put_set}
use Rattle.capnp_calls.specs.PlainFields.{PutsInto}
use Rattle.capnp_calls.specs.Splices.{PathLeadsTo}
use Rattle.capnp_calls.specs.Resolved.{call_of, IsSpliceOf, KnowsSplice}
use Rattle.capnp_calls.specs.declared.resolved.Resolved.{Resolved}
use Rattle.capnp_calls_splice.specs.declared.splice.Hop.{Hop}
use Rattle.capnp_calls_splice.specs.declared.splice.Put.{Put}
use Rattle.capnp_calls_splice.specs.declared.splice.Put.TheVariants as puts
use Rattle.capnp_calls_splice.specs.declared.splice.Splice.{Splice}
use Rattle.capnp_calls_splice.specs.declared.plain.PlainSet.{PlainSet}
use Rattle.capnp_calls_in_place.proofs.PlainCalls.{is_replied, is_edited}

module _ (schema : StructSchema) (n : List ℕ) (v : CallValue) (p : PlainSet) where
  abbrev call : Call
  call = record { path = name n ∷ []; verb = set_to v }

  by_body : (b : Body) → target_of n (fields_of_struct schema) ≡ target None b → PutsInto b v p → IsPlain schema call p
  by_body (void_slot j) found h = absurd h
  by_body (plain_slot q at d) found h =
      let s = schema_around schema in
      let id = id_of schema in
      let x : ℕ = bit_xor p.bits d in
      let same : (section : ℕ) → with_bits at (width q) (bit_xor x d) section ≡ put_set p section =
      λ section. ap (λ (i : ℕ). with_bits i (width q) (bit_xor x d) section) (sym h.place) ∙ ap (λ (w : ℕ). with_bits (64 * p.word + p.shift) w (bit_xor x d) section) (sym h.width)
      ∙ ap (λ (y : ℕ). with_bits (64 * p.word + p.shift) p.width y section) (xor_twice p.bits d) in
      record {
        replied = λ r. is_replied s id n v q at d x found h.value as_it_is r;
        edited = λ words section kids. is_edited s id n v q at d x found h.value words section kids ∙ ap (λ (u : ℕ). widened_root (shape_of_struct schema) (structure words u kids)) (same section);
      }
  by_body (pointer_slot i ty d) found h = absurd h
  by_body (group_slot g) found h = absurd h

set_call : (schema : StructSchema) (v : CallValue) (p : PlainSet) (c : Call) → c.verb ≡ set_to v → PathLeadsTo (schema_around schema) v (puts.Number p) [] (shape_of_struct schema) c.path → IsPlain schema c p
set_call schema v p c verb leads =
    let n = leads.0 in
    let path = leads.3 in
    let found : target_of n (fields_of_struct schema) ≡ target None leads.2 = leads.4 ∙ ap (λ (m : Option ℕ). target m leads.2) leads.5.0 in
    let same : record { path = name n ∷ []; verb = set_to v } ≡ c = ap (λ (way : List Step). record { path = way; verb = set_to v }) (sym path) ∙ ap (λ (does : Verb). record { path = c.path; verb = does }) (sym verb) in
    subst (λ (call : Call). IsPlain schema call p) same (by_body schema n v p leads.2 found leads.5.1)

by_splice : (schema : StructSchema) (c : Call) (s : Splice) (p : PlainSet) → s.hops.items ≡ [] → s.put ≡ puts.Number p → IsSpliceOf schema c s → IsPlain schema c p
by_splice schema c s p none put h =
    let v = h.0 in
    let here = subst (λ (hs : List Hop). PathLeadsTo (schema_around schema) v s.put hs (shape_of_struct schema) c.path) none h.2 in
    set_call schema v p c h.1 (subst (λ (x : Put). PathLeadsTo (schema_around schema) v x [] (shape_of_struct schema) c.path) put here)

-- The call whose splice puts a number into the root itself.
pub is_plain : (schema : StructSchema) (r : Resolved) (s : Splice) → r.splice ≡ Some s → (o : Option PlainSet) → IfSome o (λ p. (s.hops.items ≡ []) × (s.put ≡ puts.Number p)) → KnowsSplice schema r → IfSome o (IsPlain schema (call_of r))
is_plain schema r s is None puts h = tt
is_plain schema r s is (Some p) puts h = by_splice schema (call_of r) s p puts.0 puts.1 (subst (λ (o : Option Splice). IfSome o (IsSpliceOf schema (call_of r))) is h)

-- ---- calls in turn

pub one_more : (schema : StructSchema) (cs : List Call) (ps : List PlainSet) (c : Call) (p : PlainSet) → ArePlain schema cs ps → IsPlain schema c p → ArePlain schema (cs ++ c ∷ []) (ps ++ p ∷ [])
one_more schema [] [] c p h k = (k, tt)
one_more schema [] (q ∷ ps) c p h k = absurd h
one_more schema (b ∷ cs) [] c p h k = absurd h
one_more schema (b ∷ cs) (q ∷ ps) c p h k = (h.0, one_more schema cs ps c p h.1 k)
