-- Values that hold no others print as they are.
use Rattle.std.proofs.Common.{◌≡◌, ℕ, List, Ok, refl}
use Rattle.capnp_model.specs.Printing.{Style}
use Rattle.capnp_values.specs.Shown.{shown}
use Rattle.capnp_values.specs.declared.dynamic_value.Reader.{Reader}
use Rattle.capnp_values.specs.declared.dynamic_value.Reader.TheVariants as value
use Rattle.capnp_values.specs.declared.dynamic_struct.Reader as structs
use Rattle.capnp_values.specs.declared.dynamic_list.Reader as lists
use Rattle.capnp_values_print.specs.Printed.{printed, shown_text}
use Rattle.capnp_values_print.specs.ShownReadings.{reading_within}
use Rattle.capnp_values_print.specs.Singles.{single_text}

pub single_value : {A : Type 0} (bytes : A → List (List ℕ)) (left : ℕ) (style : Style) (x : Reader A) → ((r : structs.Reader A) → x ≡ value.Struct r → ⊥) → ((l : lists.Reader A) → x ≡ value.List l → ⊥)
    → shown_text left style (shown bytes x) ≡ Ok (single_text (shown bytes x))
unfolding printed reading_within
single_value bytes left style value.Void g h = refl
single_value bytes left style (value.Bool b) g h = refl
single_value bytes left style (value.Int8 n) g h = refl
single_value bytes left style (value.Int16 n) g h = refl
single_value bytes left style (value.Int32 n) g h = refl
single_value bytes left style (value.Int64 n) g h = refl
single_value bytes left style (value.UInt8 n) g h = refl
single_value bytes left style (value.UInt16 n) g h = refl
single_value bytes left style (value.UInt32 n) g h = refl
single_value bytes left style (value.UInt64 n) g h = refl
single_value bytes left style (value.Enum e) g h = refl
single_value bytes left style (value.Text t) g h = refl
single_value bytes left style (value.Data d) g h = refl
single_value bytes left style (value.Struct r) g h = absurd (g r refl)
single_value bytes left style (value.List l) g h = absurd (h l refl)
single_value bytes left style (value.AnyPointer p) g h = refl
single_value bytes left style (value.Capability c) g h = refl
