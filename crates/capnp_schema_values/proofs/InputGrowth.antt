-- The message grows, whatever an untyped pointer is set to.
use Rattle.std.proofs.Common.{◌≡◌, ℕ, Bool, true, false, Option, Some, None, Result, Ok, Err, IfOk, IfErr, List, ap}
use Rattle.std.specs.Bool.{⊤}
use Rattle.std.specs.Prelude.{◌↔◌, MatchOption, OnOk, OnErr}
use Rattle.capnp_model.specs.Trees.{plain_list}
use Rattle.capnp_units.specs.declared.kinds.ErrorKind.TheVariants.{SizeOverflow}
use Rattle.capnp_wire_objects.specs.declared.place.Place as code
use Rattle.capnp_wire_objects.specs.Places.{place_view}
use Rattle.capnp_copy_arenas.specs.Allocations.{total_words}
use Rattle.capnp_copy_arenas.specs.Values.{Becomes}
use Rattle.capnp_layout_builders.specs.Inputs.{IsTooLong}
use Rattle.capnp_schema_values.specs.Inputs.{PutsByteList}
use Rattle.capnp_model.specs.Coverage.{Grows}
use Rattle.capnp_model.specs.Segments.{Segments, Place}
use Rattle.capnp_units.specs.declared.errors.Error.{Error}
use Rattle.capnp_units.specs.declared.limiter.ReadLimiter.{ReadLimiter}
use Rattle.capnp_units.specs.Segments.{words_in}
use Rattle.capnp_wire.specs.Views.{PointerView}
use Rattle.capnp_copy_arenas.proofs.lemmas.RoomLaws.{sizes_grow}
use Rattle.capnp_copy_values.specs.Copies.{CopiesValue, copy_source, limited_words}
use Rattle.capnp_layout_builders.specs.Copied.{Charged, WithoutLevels, BecomesNull, CopiesPointer}
use Rattle.capnp_values.specs.Sources.{WithoutLimit}
use Rattle.capnp_schema_structs.proofs.lemmas.Grown.{same_grows}
use Rattle.capnp_schema_structs.proofs.lemmas.Sources.{same_words}

value_grows : (n : ℕ) (from : Segments) (q : Place) (s u : Segments) (p : Place) (old : ReadLimiter) (r : Result ⊤ Error) (new : ReadLimiter) → CopiesValue (copy_source n from q) p (limited_words s old) r (limited_words u new) → Grows s u
value_grows n from q s u p old (Ok x) new h = h.grows
value_grows n from q s u p old (Err e) new h = h.left.grows

at_place : (o : Option Place) (paid : Bool) (n : ℕ) (from s u : Segments) (p : Place) (old : ReadLimiter) (r : Result ⊤ Error) (new : ReadLimiter) → MatchOption o (BecomesNull s u p old r new) (λ q. Charged paid (λ l x m. CopiesValue (copy_source n from q) p (limited_words s l) x (limited_words u m)) old r new) → Grows s u
at_place None paid n from s u p old r new h = sizes_grow s u h.2
at_place (Some q) true n from s u p old r new h = value_grows n from q s u p old r new h
at_place (Some q) false n from s u p old r new h = value_grows n from q s u p h.0 r h.1 h.3

at_levels : (o : Option ℕ) (place : Option Place) (paid : Bool) (from s u : Segments) (p : Place) (old : ReadLimiter) (r : Result ⊤ Error) (new : ReadLimiter) → MatchOption o (WithoutLevels s u old r new) (λ n. MatchOption place (BecomesNull s u p old r new) (λ q. Charged paid (λ l x m. CopiesValue (copy_source n from q) p (limited_words s l) x (limited_words u m)) old r new)) → Grows s u
at_levels None place paid from s u p old r new h = same_words s u h.1
at_levels (Some n) place paid from s u p old r new h = at_place place paid n from s u p old r new h

pub copied_grows : (v : PointerView) (s u : Segments) (p : Place) (r : Result ⊤ Error) → WithoutLimit (CopiesPointer v s u p) r → Grows s u
copied_grows v s u p r h = at_levels v.levels v.place v.basis.paid v.basis.segments s u p h.0 r h.1 h.3

-- a list of bytes that is put, or refused
pub bytes_grow : {X : Type 0} (a b : List (List ℕ)) (r : Result X Error) → OnOk r (Grows (words_in a) (words_in b)) → OnErr r (b ≡ a) → Grows (words_in a) (words_in b)
bytes_grow a b (Ok x) g h = g
bytes_grow a b (Err e) g h = same_grows a b h

-- what is put, or why not
pub bytes_put : (a b : List (List ℕ)) (slot : code.Place) (count section : ℕ) (r : Result ⊤ Error) → IfOk r (λ o. Becomes (words_in a) (words_in b) (place_view slot) (plain_list 2 count section)) → IfErr r (λ e. (e.kind ≡ SizeOverflow) ↔ IsTooLong count (total_words (words_in a))) → OnErr r (b ≡ a) → PutsByteList count section (words_in a) (words_in b) slot r
bytes_put a b slot count section (Ok x) value kind stays = value
bytes_put a b slot count section (Err e) value kind stays = (kind, ap words_in stays)
