-- What values of node records show is what the model reads of them.
use Rattle.std.proofs.Common.{◌≡◌, ℕ, Bool, true, if◌then◌else◌, Ok, Err, refl, sym, subst}
use Rattle.capnp_model.specs.Kinds.{TypeMismatch}
use Rattle.capnp_model.specs.Trees.{null}
use Rattle.capnp_model.specs.Schemas.{PlainType, void, plain, text, blob, untyped, interface, struct, list, no_value, bits, text_bytes, blob_bytes, list_segment, struct_segment, untyped_value, interface_value, Schema}
use Rattle.capnp_model.specs.Readings.{number, opaque}
use Rattle.capnp_model.specs.Trimming.{trim}
use Rattle.capnp_model.specs.Accepted.{same_plain}
use Rattle.capnp_values.specs.Shown.{number_shown}
use Rattle.capnp_values.specs.Standing.{Answers, PointersAreRead}
use Rattle.capnp_values.specs.ValuesShown.{value_shown, ValuesAreRead}
use Rattle.capnp_values.proofs.lemmas.FieldReadings.{number_read}
use Rattle.capnp_values.proofs.lemmas.DefaultReadings.{null_leads, segment_read}

number_value : (s : Schema) (p q : PlainType) (n : ℕ) → same_plain p q ≡ true → Answers s (value_shown s (plain p) (bits q n)) (number n)
number_value s p q n h =
    let P : Bool → Type 0 = λ b. Answers s (if b then Ok (number_shown s p n) else Err TypeMismatch) (number n) in
    subst P (sym h) (number_read s p n n refl)

null_trims : opaque null ≡ opaque (trim null)
unfolding trim
null_trims = refl

pub values : PointersAreRead → ValuesAreRead
values pointers s void no_value h good = refl
values pointers s void (bits q n) h good = absurd (cc h)
values pointers s void (text_bytes bs) h good = absurd (cc h)
values pointers s void (blob_bytes bs) h good = absurd (cc h)
values pointers s void (list_segment bs) h good = absurd (cc h)
values pointers s void (struct_segment bs) h good = absurd (cc h)
values pointers s void untyped_value h good = absurd (cc h)
values pointers s void interface_value h good = absurd (cc h)
values pointers s (plain p) no_value h good = absurd (cc h)
values pointers s (plain p) (bits q n) h good = number_value s p q n h
values pointers s (plain p) (text_bytes bs) h good = absurd (cc h)
values pointers s (plain p) (blob_bytes bs) h good = absurd (cc h)
values pointers s (plain p) (list_segment bs) h good = absurd (cc h)
values pointers s (plain p) (struct_segment bs) h good = absurd (cc h)
values pointers s (plain p) untyped_value h good = absurd (cc h)
values pointers s (plain p) interface_value h good = absurd (cc h)
values pointers s text no_value h good = absurd (cc h)
values pointers s text (bits q n) h good = absurd (cc h)
values pointers s text (text_bytes bs) h good = refl
values pointers s text (blob_bytes bs) h good = absurd (cc h)
values pointers s text (list_segment bs) h good = absurd (cc h)
values pointers s text (struct_segment bs) h good = absurd (cc h)
values pointers s text untyped_value h good = absurd (cc h)
values pointers s text interface_value h good = absurd (cc h)
values pointers s blob no_value h good = absurd (cc h)
values pointers s blob (bits q n) h good = absurd (cc h)
values pointers s blob (text_bytes bs) h good = absurd (cc h)
values pointers s blob (blob_bytes bs) h good = refl
values pointers s blob (list_segment bs) h good = absurd (cc h)
values pointers s blob (struct_segment bs) h good = absurd (cc h)
values pointers s blob untyped_value h good = absurd (cc h)
values pointers s blob interface_value h good = absurd (cc h)
values pointers s untyped no_value h good = absurd (cc h)
values pointers s untyped (bits q n) h good = absurd (cc h)
values pointers s untyped (text_bytes bs) h good = absurd (cc h)
values pointers s untyped (blob_bytes bs) h good = absurd (cc h)
values pointers s untyped (list_segment bs) h good = absurd (cc h)
values pointers s untyped (struct_segment bs) h good = absurd (cc h)
values pointers s untyped untyped_value h good = record { levels = 64; tree = null; leads = null_leads; is = null_trims }
values pointers s untyped interface_value h good = absurd (cc h)
values pointers s interface no_value h good = absurd (cc h)
values pointers s interface (bits q n) h good = absurd (cc h)
values pointers s interface (text_bytes bs) h good = absurd (cc h)
values pointers s interface (blob_bytes bs) h good = absurd (cc h)
values pointers s interface (list_segment bs) h good = absurd (cc h)
values pointers s interface (struct_segment bs) h good = absurd (cc h)
values pointers s interface untyped_value h good = absurd (cc h)
values pointers s interface interface_value h good = (null, refl)
values pointers s (struct id) no_value h good = absurd (cc h)
values pointers s (struct id) (bits q n) h good = absurd (cc h)
values pointers s (struct id) (text_bytes bs) h good = absurd (cc h)
values pointers s (struct id) (blob_bytes bs) h good = absurd (cc h)
values pointers s (struct id) (list_segment bs) h good = absurd (cc h)
values pointers s (struct id) (struct_segment bs) h good = segment_read pointers s (λ t. true) (struct id) bs tt good
values pointers s (struct id) untyped_value h good = absurd (cc h)
values pointers s (struct id) interface_value h good = absurd (cc h)
values pointers s (list ty) no_value h good = absurd (cc h)
values pointers s (list ty) (bits q n) h good = absurd (cc h)
values pointers s (list ty) (text_bytes bs) h good = absurd (cc h)
values pointers s (list ty) (blob_bytes bs) h good = absurd (cc h)
values pointers s (list ty) (list_segment bs) h good = segment_read pointers s (λ t. true) (list ty) bs tt good
values pointers s (list ty) (struct_segment bs) h good = absurd (cc h)
values pointers s (list ty) untyped_value h good = absurd (cc h)
values pointers s (list ty) interface_value h good = absurd (cc h)
