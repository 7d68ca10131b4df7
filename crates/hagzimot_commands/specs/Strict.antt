-- What is wrong with calls that no record takes.
use Rattle.std.specs.Prelude.{◌≡◌, ℕ, ◌-◌, ◌^◌, ◌==◌, ℤ, pos, negsuc, int_lt, Bool, true, false, not, ◌||◌, ◌&&◌, if◌then◌else◌, ◌⊎◌, Option, Some, None, is_some, List, length, map, slice_get}
use Rattle.capnp_model.specs.Calls.{Step as ModelStep, name, index, CallValue as ModelValue, whole_number, truth, enumerant, text_value, blob_value, message, Verb as ModelVerb, get, set_to, init, initn, clear}
use Rattle.capnp_records.specs.declared.node.BaseType.{BaseType}
use Rattle.capnp_records.specs.declared.node.BaseType.TheVariants as base
use Rattle.capnp_model.specs.Schemas.{Node}
use Rattle.capnp_records.specs.NodeViews.{node_of}
use Rattle.capnp_records.specs.declared.node.NodeRecord.{NodeRecord}
use Rattle.hagzimot_commands.specs.declared.paths.Landing.{Landing}
use Rattle.hagzimot_commands.specs.declared.paths.Landing.TheVariants as landing
use Rattle.hagzimot_commands.specs.declared.strict.Misfit.{Misfit}
use Rattle.hagzimot_commands.specs.declared.strict.Misfit.TheVariants as misfit
use Rattle.hagzimot_commands.specs.Paths.{struct_landing, walked, Misses}

-- The least and the greatest number of a whole number's type.
abbrev pub numbers_of : BaseType → Option (ℤ × ℤ)
numbers_of base.Int8 = Some (negsuc (2 ^ 7 - 1), pos (2 ^ 7 - 1))
numbers_of base.Int16 = Some (negsuc (2 ^ 15 - 1), pos (2 ^ 15 - 1))
numbers_of base.Int32 = Some (negsuc (2 ^ 31 - 1), pos (2 ^ 31 - 1))
numbers_of base.Int64 = Some (negsuc (2 ^ 63 - 1), pos (2 ^ 63 - 1))
numbers_of base.UInt8 = Some (pos 0, pos (2 ^ 8 - 1))
numbers_of base.UInt16 = Some (pos 0, pos (2 ^ 16 - 1))
numbers_of base.UInt32 = Some (pos 0, pos (2 ^ 32 - 1))
numbers_of base.UInt64 = Some (pos 0, pos (2 ^ 64 - 1))
numbers_of _ = None

-- Whether a number is one of these; any is where they aren't told.
abbrev pub is_number_among : ℤ → Option (ℤ × ℤ) → Bool
is_number_among z None = true
is_number_among z (Some (least, greatest)) = not (int_lt z least || int_lt greatest z)

-- Which base types a value is of: Void takes any value, an untyped pointer any that isn't plain.
abbrev pub base_takes_number : BaseType → Bool
base_takes_number base.Void = true
base_takes_number b = is_some (numbers_of b)

abbrev pub base_takes_truth : BaseType → Bool
base_takes_truth base.Bool = true
base_takes_truth base.Void = true
base_takes_truth _ = false

abbrev pub base_takes_enumerant : BaseType → Bool
base_takes_enumerant (base.Enum id) = true
base_takes_enumerant base.Void = true
base_takes_enumerant _ = false

abbrev pub base_takes_text : BaseType → Bool
base_takes_text base.Text = true
base_takes_text base.AnyPointer = true
base_takes_text base.Void = true
base_takes_text _ = false

abbrev pub base_takes_blob : BaseType → Bool
base_takes_blob base.Data = true
base_takes_blob base.AnyPointer = true
base_takes_blob base.Void = true
base_takes_blob _ = false

abbrev pub is_struct_base : BaseType → Bool
is_struct_base (base.Struct id) = true
is_struct_base _ = false

abbrev pub base_takes_message : BaseType → Bool
base_takes_message (base.Struct id) = true
base_takes_message base.AnyPointer = true
base_takes_message base.Void = true
base_takes_message _ = false

abbrev pub base_takes : ModelValue → BaseType → Bool
base_takes (whole_number z) b = base_takes_number b
base_takes (truth x) b = base_takes_truth b
base_takes (enumerant n) b = base_takes_enumerant b
base_takes (text_value bytes) b = base_takes_text b
base_takes (blob_value bytes) b = base_takes_blob b
base_takes (message t) b = base_takes_message b

abbrev pub is_whole_message : ModelValue → Bool
is_whole_message (whole_number z) = false
is_whole_message (truth x) = false
is_whole_message (enumerant n) = false
is_whole_message (text_value bytes) = false
is_whole_message (blob_value bytes) = false
is_whole_message (message t) = true

-- Whether a value is of the sort of what stands there: a list and a group take a message.
abbrev pub has_sort_of : ModelValue → Landing → Bool
has_sort_of v (landing.Group id) = is_whole_message v
has_sort_of v (landing.Value ty) = if ty.list_count == 0 then base_takes v ty.base else is_whole_message v

-- The least and the greatest number of the type that stands there.
abbrev pub numbers_there : Landing → Option (ℤ × ℤ)
numbers_there (landing.Group id) = None
numbers_there (landing.Value ty) = numbers_of ty.base

-- Whether a number is one of them.
abbrev pub is_in_type : ℤ → Landing → Bool
is_in_type z at = is_number_among z (numbers_there at)

abbrev pub is_in_range_there : ModelValue → Landing → Bool
is_in_range_there (whole_number z) at = is_in_type z at
is_in_range_there (truth x) at = true
is_in_range_there (enumerant n) at = true
is_in_range_there (text_value bytes) at = true
is_in_range_there (blob_value bytes) at = true
is_in_range_there (message t) at = true

-- Whether a struct or a group stands there.
abbrev pub is_struct_there : Landing → Bool
is_struct_there (landing.Group id) = true
is_struct_there (landing.Value ty) = if ty.list_count == 0 then is_struct_base ty.base else false

-- Whether an untyped pointer stands there.
abbrev pub is_untyped_base : BaseType → Bool
is_untyped_base base.AnyPointer = true
is_untyped_base _ = false

abbrev pub is_untyped_there : Landing → Bool
is_untyped_there (landing.Group id) = false
is_untyped_there (landing.Value ty) = if ty.list_count == 0 then is_untyped_base ty.base else false

abbrev pub is_blob_base : BaseType → Bool
is_blob_base base.Text = true
is_blob_base base.Data = true
is_blob_base _ = false

-- Whether a list, a text or data stands there.
abbrev pub is_many_there : Landing → Bool
is_many_there (landing.Group id) = false
is_many_there (landing.Value ty) = if ty.list_count == 0 then is_blob_base ty.base else true

-- Whether a path ends with an index.
abbrev pub is_index : ModelStep → Bool
is_index (name text) = false
is_index (index i) = true

abbrev pub is_found_index : Option ModelStep → Bool
is_found_index None = false
is_found_index (Some s) = is_index s

abbrev pub ends_with_index : List ModelStep → Bool
ends_with_index path = is_found_index (slice_get path (length path - 1))

-- Whether a call can be made where its path leads, as far as types tell: messages aren't looked into. No untyped pointer of a list can be set, and no element is made anew or cleared.
abbrev pub fits_there : Landing → List ModelStep → ModelVerb → Bool
fits_there at path get = true
fits_there at path (set_to v) = has_sort_of v at && (is_in_range_there v at && not (is_untyped_there at && ends_with_index path))
fits_there at path init = not (ends_with_index path) && (is_struct_there at || is_untyped_there at)
fits_there at path (initn n) = is_many_there at
fits_there at path clear = not (ends_with_index path)

-- A number is not one of the type that stands there, which has these.
abbrev pub IsOutOfRange : ℤ → Landing → Misfit → Type 0
IsOutOfRange z at (misfit.Range number there least greatest) = (number ≡ z) × (numbers_there at ≡ Some (least, greatest)) × (is_in_type z at ≡ false)
IsOutOfRange z at _ = ⊥

-- What is wrong with a call where its path leads.
abbrev pub IsMisfitThere : Landing → List ModelStep → ModelVerb → Misfit → Type 0
IsMisfitThere at path verb (misfit.Path m) = ⊥
IsMisfitThere at path verb (misfit.Sort given there) = (v : ModelValue) × (verb ≡ set_to v) × (has_sort_of v at ≡ false)
IsMisfitThere at path verb (misfit.Value there) = fits_there at path verb ≡ true
IsMisfitThere at path verb (misfit.Range z there least greatest) = (verb ≡ set_to (whole_number z)) × (has_sort_of (whole_number z) at ≡ true) × IsOutOfRange z at (misfit.Range z there least greatest)
IsMisfitThere at path verb (misfit.NotMade told wanted there) = ((verb ≡ init) × (is_struct_there at ≡ false) × (is_untyped_there at ≡ false)) ⊎ ((n : ℕ) × (verb ≡ initn n) × (is_many_there at ≡ false))
IsMisfitThere at path verb (misfit.AtElement told) = ((verb ≡ init) ⊎ (verb ≡ clear)) × (ends_with_index path ≡ true)
IsMisfitThere at path verb (misfit.Size count words limit) = ⊥
IsMisfitThere at path verb misfit.UntypedElement = (v : ModelValue) × (verb ≡ set_to v) × (is_untyped_there at ≡ true) × (ends_with_index path ≡ true)

-- Why no record could take it.
abbrev pub IsMisfit : List NodeRecord → ℕ → List ModelStep → ModelVerb → Misfit → Type 0
IsMisfit nodes root path verb (misfit.Path m) = Misses nodes (struct_landing root) path m
IsMisfit nodes root path verb e = (at : Landing) × (walked nodes (struct_landing root) path ≡ Some at) × IsMisfitThere at path verb e

-- The same, where what is known of the nodes are their views.
abbrev pub IsMisfitUnder : List Node → ℕ → List ModelStep → ModelVerb → Misfit → Type 0
IsMisfitUnder views root path verb m = (nodes : List NodeRecord) × (map node_of nodes ≡ views) × IsMisfit nodes root path verb m
