-- Slots whose text is appended straight off the words of a message.
use Rattle.std.specs.Prelude.{ℕ, ◌≡◌, ◌⊎◌, ◌*◌, ◌^◌, ◌<◌, Bool, true, false, Option, Some, None, List, ◌++◌, Result, Ok, Err}
use Rattle.capnp_model.specs.Schemas.{int, uint, width, Ty, plain, Value, BaseType, FieldKind, slot, Schema}
use Rattle.capnp_model.specs.Accepted.{field_body}
use Rattle.capnp_units.specs.declared.errors.Error.{Error}
use Rattle.capnp_units.specs.declared.kinds.ErrorKind.TheVariants.{OutOfMemory}
use Rattle.capnp_units.specs.Errors.{kind_of}
use Rattle.capnp_wire.specs.Views.{StructView}
use Rattle.capnp_values.specs.Sources.{masked_bits}
use Rattle.capnp_values.specs.Shown.{Shown, a_struct, a_list, kind_shown, default_said, is_null_slot}
use Rattle.capnp_values_print.specs.Singles.{single_text}

-- A number with or without a sign, and a default of its width.
abbrev pub IsNumberWithin : Ty → ℕ → Type 0
IsNumberWithin (plain (int w)) n = n < 2 ^ w
IsNumberWithin (plain (uint w)) n = n < 2 ^ w
IsNumberWithin ty n = ⊥

-- The bits of a number that lies at an offset, exclusive or those of its default.
abbrev pub slot_bits : StructView → Ty → ℕ → ℕ → ℕ
slot_bits v (plain p) offset default = masked_bits v (width p * offset) (width p) default
slot_bits v ty offset default = 0

-- What is shown holds no other values.
abbrev pub IsSingle : Shown → Type 0
IsSingle (a_struct s g v) = ⊥
IsSingle (a_list s ty l) = ⊥
IsSingle x = Unit {0}

-- The field shows this, whose text was appended. It is no null pointer, or has no default.
pub record AppendsSingle (v : StructView) (k : FieldKind) (old new : List ℕ) : Type 0 where
  pub x : Shown
  pub way : ((s : Schema) → is_null_slot v (Some (field_body s.shape_of k)) ≡ false) ⊎ (default_said k ≡ None)
  pub single : IsSingle x
  pub shows : (s : Schema) → kind_shown s v k ≡ Ok x
  pub there : new ≡ old ++ single_text x

-- A field's text was appended, or nothing was. It is refused for want of memory, or by the kind of
-- the fault that a field without a default shows.
abbrev pub AppendsSlot : StructView → FieldKind → List ℕ → Result Bool Error → List ℕ → Type 0
AppendsSlot v k old (Ok true) new = AppendsSingle v k old new
AppendsSlot v k old (Ok false) new = new ≡ old
AppendsSlot v k old (Err e) new = (e.kind ≡ OutOfMemory) ⊎ ((default_said k ≡ None) × ((s : Schema) → kind_shown s v k ≡ Err (kind_of e.kind)))

-- The same of a slot of a type that is no list.
abbrev pub AppendsBase : StructView → BaseType → ℕ → Option Value → List ℕ → Result Bool Error → List ℕ → Type 0
AppendsBase v base offset d = AppendsSlot v (slot offset (record { list_count = 0; base = base }) d)
