-- What is asked of values that stand in node records as bytes.
use Rattle.std.specs.Prelude.{Bool, true}
use Rattle.capnp_model.specs.Trees.{Tree, null, capability, structure, plain_list, pointer_list, struct_list, none, no_elements}
use Rattle.capnp_model.specs.Schemas.{type_of}
use Rattle.capnp_model.specs.Accepted.{opens_as}
use Rattle.capnp_units.specs.Sizes.{size_number}
use Rattle.capnp_wire_objects.specs.declared.object.Object.{Object}
use Rattle.capnp_wire_objects.specs.declared.object.Object.TheVariants as object
use Rattle.capnp_records.specs.NodeViews.{type_record_of}
use Rattle.capnp_records.specs.declared.segment.Wanted.{Wanted}
use Rattle.capnp_records.specs.declared.segment.Wanted.TheVariants.{Anything, Of}

-- The value is as it is wanted.
abbrev pub wants : Wanted → Tree → Bool
wants Anything t = true
wants (Of ty) t = opens_as t (type_of (type_record_of ty))

-- A value of an object's form, with nothing in it.
abbrev pub form_of : Object → Tree
form_of object.Null = null
form_of (object.Capability i) = capability i
form_of (object.Struct p d k) = structure d 0 none
form_of (object.List p size n) = plain_list (size_number size) n 0
form_of (object.PointerList p n) = pointer_list none
form_of (object.StructList p words n d k) = struct_list d k no_elements
