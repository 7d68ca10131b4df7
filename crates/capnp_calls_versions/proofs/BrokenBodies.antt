-- Slots and groups that do not keep others, and the rule that they break.
use Rattle.std.proofs.Common.{◌≡◌, ◌≢◌, ℕ, true, false, not, inl, inr, Option, option_map, refl, sym, ◌∙◌, ap, subst}
use Rattle.capnp_model.specs.Schemas.{Ty, type_of}
use Rattle.capnp_model.specs.Accepted.{is_default_of}
use Rattle.capnp_records.specs.NodeViews.{type_record_of, value_of, kind_of_field}
use Rattle.capnp_records.specs.declared.node.TypeRecord.{TypeRecord}
use Rattle.capnp_records.specs.declared.node.Value.{Value}
use Rattle.capnp_records.specs.declared.node.FieldBody.{FieldBody}
use Rattle.capnp_records.specs.declared.node.FieldBody.TheVariants as B
use Rattle.capnp_records.specs.declared.node.FieldRecord.{FieldRecord}
use Rattle.capnp_model.proofs.lemmas.Tests.{and_left, and_right, test_is_false}
use Rattle.capnp_calls_versions.specs.declared.breaks.Fault.{Fault}
use Rattle.capnp_calls_versions.specs.declared.breaks.Fault.TheVariants as fault
use Rattle.capnp_calls_versions.specs.declared.breaks.FieldRule.TheVariants as of_field
use Rattle.capnp_calls_versions.specs.declared.breaks.Break.{Break}
use Rattle.capnp_calls_versions.specs.declared.reached.Reached.{Reached}
use Rattle.capnp_calls_versions.specs.declared.keeps.Versions.{Versions}
use Rattle.capnp_calls_versions.specs.declared.keeps.Levels.{Levels}
use Rattle.capnp_calls_versions.specs.Defaults.{AllBytes, default_value_bytes, same_value}
use Rattle.capnp_calls_versions.specs.Holders.{held_schema, is_sound_kind}
use Rattle.capnp_calls_versions.specs.Pairs.{has_each, pairs_of}
use Rattle.capnp_calls_versions.specs.Walks.{Decides, older_schema, kept_body, newer_body}
use Rattle.capnp_calls_versions.specs.Breaks.{AreRelated, AreUnrelated, AreSlots}
use Rattle.capnp_calls_versions.specs.Faults.{IsBodyFault, IsFaultOf, IsBreakAt}
use Rattle.capnp_calls_versions.proofs.EqualDefaults.{defaults_equal}
use Rattle.capnp_calls_versions.proofs.Slots.{type_wide, same_members}
use Rattle.capnp_calls_versions.proofs.SlotParts.{slot_is_no_group, type_is, places_are, defaults_are}
use Rattle.capnp_calls_versions.proofs.Bodies.{types_test}
use Rattle.capnp_calls_versions.proofs.AllKept.{each_itself}

-- types that are related, as the walk found
pub some_related : (v : Versions) (old new : Reached) (t u : TypeRecord) → Decides v old new true (types_test v t u) → AreRelated (older_schema v) (held_schema v.newer) (type_of (type_record_of t)) (type_of (type_record_of u))
some_related v old new t u d =
    (pairs_of new, and_right (has_each (pairs_of new) (pairs_of old)) (types_test v t u (pairs_of new)) (d.tested (pairs_of new) ∙ each_itself (pairs_of new)))

module _ (v : Versions) (levels : Levels) (a b : ℕ) (t u : TypeRecord) (d e : Option Value) where
  abbrev older_body : FieldBody
  older_body = B.Slot a t d

  abbrev newer_slot : FieldBody
  newer_slot = B.Slot b u e

  both : (P : Ty → Ty → Type 0) → P (type_of (type_record_of t)) (type_of (type_record_of u)) → AreSlots (kept_body v levels older_body) (newer_body v levels newer_slot) P
  both P h = record {
    older_type = type_of (type_record_of t);
    newer_type = type_of (type_record_of u);
    is_older = type_is a (type_of (type_record_of t)) (option_map value_of d);
    is_newer = type_is b (type_of (type_record_of u)) (option_map value_of e);
    holds = h;
  }

  pub breaks_type : AreUnrelated (older_schema v) (held_schema v.newer) (type_of (type_record_of t)) (type_of (type_record_of u)) → IsBodyFault v levels older_body newer_slot (fault.Field of_field.Type)
  breaks_type h = both (AreUnrelated (older_schema v) (held_schema v.newer)) h

  pub breaks_place : AreRelated (older_schema v) (held_schema v.newer) (type_of (type_record_of t)) (type_of (type_record_of u)) → a ≢ b → IsBodyFault v levels older_body newer_slot (fault.Field of_field.Place)
  breaks_place h k = (
    both (AreRelated (older_schema v) (held_schema v.newer)) h,
    places_are (older_schema v) (held_schema v.newer) h.0 a b (type_of (type_record_of t)) (type_of (type_record_of u)) (option_map value_of d) (option_map value_of e) (type_wide t) h.1 ∙ test_is_false a b k,
  )

  pub breaks_default : is_sound_kind (kind_of_field older_body) ≡ true → is_sound_kind (kind_of_field newer_slot) ≡ true → AllBytes (default_value_bytes (option_map value_of d)) → AllBytes (default_value_bytes (option_map value_of e))
      → AreRelated (older_schema v) (held_schema v.newer) (type_of (type_record_of t)) (type_of (type_record_of u)) → same_value (option_map value_of d) (option_map value_of e) ≡ false
      → IsBodyFault v levels older_body newer_slot (fault.Field of_field.Default)
  breaks_default sound other x y h k = (
    both (AreRelated (older_schema v) (held_schema v.newer)) h,
    defaults_are (older_schema v) (held_schema v.newer) h.0 a b (type_of (type_record_of t)) (type_of (type_record_of u)) (option_map value_of d) (option_map value_of e) h.1
        ∙ defaults_equal (older_schema v) (held_schema v.newer) h.0 (type_of (type_record_of t)) (type_of (type_record_of u)) (option_map value_of d) (option_map value_of e) h.1
        (and_left (is_default_of (type_of (type_record_of t)) (option_map value_of d)) _ sound)
        (and_left (is_default_of (type_of (type_record_of u)) (option_map value_of e)) _ other)
        (and_right (is_default_of (type_of (type_record_of t)) (option_map value_of d)) _ sound)
        (and_right (is_default_of (type_of (type_record_of u)) (option_map value_of e)) _ other)
        x y
        ∙ k,
  )

pub breaks_slot : (v : Versions) (levels : Levels) (a g : ℕ) (t : TypeRecord) (d : Option Value) → IsBodyFault v levels (B.Slot a t d) (B.Group g) (fault.Field of_field.Kind)
breaks_slot v levels a g t d = slot_is_no_group a (type_of (type_record_of t)) (option_map value_of d)

pub breaks_group : (v : Versions) (levels : Levels) (g b : ℕ) (u : TypeRecord) (e : Option Value) → IsBodyFault v levels (B.Group g) (B.Slot b u e) (fault.Field of_field.Kind)
breaks_group v levels g b u e = sym (ap not (slot_is_no_group b (type_of (type_record_of u)) (option_map value_of e)))

pub breaks_groups : (v : Versions) (levels : Levels) (g h : ℕ) (x : Break) → IsBreakAt v levels g h x → IsBodyFault v levels (B.Group g) (B.Group h) (fault.Inner x)
breaks_groups v levels g h x k = k

pub faults_are : (v : Versions) (levels : Levels) (older newer x y : FieldBody) (f : Fault) → older ≡ x → newer ≡ y → IsBodyFault v levels x y f → IsBodyFault v levels older newer f
faults_are v levels older newer x y f e k h = subst (λ (z : FieldBody). IsBodyFault v levels z newer f) (sym e) (subst (λ (z : FieldBody). IsBodyFault v levels x z f) (sym k) h)

pub breaks_value : (v : Versions) (levels : Levels) (f g : FieldRecord) → f.discriminant_value ≢ g.discriminant_value → IsFaultOf v levels f g (fault.Field of_field.Value)
breaks_value v levels f g h = inl (refl, same_members f.discriminant_value g.discriminant_value ∙ test_is_false f.discriminant_value g.discriminant_value h)

pub body_fault : (v : Versions) (levels : Levels) (f g : FieldRecord) (x : Fault) → IsBodyFault v levels f.body g.body x → IsFaultOf v levels f g x
body_fault v levels f g fault.Taken h = h
body_fault v levels f g (fault.Field r) h = inr h
body_fault v levels f g (fault.Inner b) h = h
