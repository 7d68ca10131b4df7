-- The texts of values that hold no others.
use Rattle.std.specs.Prelude.{ℕ, List, []}
use Rattle.capnp_model.specs.Schemas.{plain, «enum», untyped, interface}
use Rattle.capnp_model.specs.Printing.{text_text, blob_text, number_text, opaque_text, as_it_is}
use Rattle.capnp_values.specs.Shown.{Shown, a_number, an_enum, a_text, a_blob, a_struct, a_list, a_pointer, a_capability}
use Rattle.capnp_values_print.specs.Printed.{no_schema}

-- The text of a single value, nothing of a struct or a list.
abbrev pub single_text : Shown → List ℕ
single_text (a_number ty n) = number_text no_schema ty n
single_text (an_enum s id n) = number_text s (plain («enum» id)) n
single_text (a_text bytes) = text_text as_it_is bytes
single_text (a_blob bytes) = blob_text bytes
single_text (a_struct s g v) = []
single_text (a_list s ty l) = []
single_text (a_pointer p) = opaque_text untyped
single_text a_capability = opaque_text interface
