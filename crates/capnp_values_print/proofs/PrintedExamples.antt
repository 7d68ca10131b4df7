-- Texts of worked readings.
use Rattle.std.specs.Prelude.{◌≡◌, Some, None, codes, Ok, Err, refl}
use Rattle.std.specs.Str.{is_utf8, chars}
use Rattle.std.specs.Fmt.{digits}
use Rattle.capnp_model.specs.Kinds.{TextWithoutZeroByte, NestingLimitExceeded}
use Rattle.capnp_model.specs.Trees.{null, structure, none}
use Rattle.capnp_model.specs.Schemas.{uint, plain, text, struct, list, shape, no_fields, field, plain_slot, pointer_slot, Fields}
use Rattle.capnp_model.specs.Readings.{null_pointer, fault, number, text_of, list_of, record_as, inactive, no_readings, ◌▹◌, Record, no_more, entry}
use Rattle.capnp_model.specs.Printing.{Style, on_one_line, indented, as_group, as_type, as_it_is}
use Rattle.capnp_values_print.specs.Printed.{Text, no_schema, printed, null_printed}

-- a number and a text
two_fields : Fields
two_fields = field (codes "a") None (plain_slot (uint 16) 0 0) (field (codes "t") None (pointer_slot 0 text None) no_fields)

-- the text of a record of these fields
abbrev of_two : Style → Record → Text
of_two style r = printed no_schema as_it_is (null_printed no_schema as_it_is 64) style (as_group (shape 1 1 1 None two_fields)) (record_as r)

number_and_text : of_two on_one_line (entry (codes "a") (number 0) (entry (codes "t") (text_of (codes "hi")) no_more)) ≡ Ok (codes "(a = 0, t = \"hi\")")
unfolding printed digits is_utf8 chars lib.Utf8.encode two_fields
number_and_text = refl

on_lines : of_two (indented 0) (entry (codes "a") (number 5) (entry (codes "t") null_pointer no_more)) ≡ Ok (codes "(\n  a = 5\n)")
unfolding printed digits two_fields
on_lines = refl

a_fault : of_two on_one_line (entry (codes "a") (number 5) (entry (codes "t") (fault TextWithoutZeroByte) no_more)) ≡ Err TextWithoutZeroByte
unfolding printed two_fields
a_fault = refl

-- a number and, as the second member of a union, a text
members : Fields
members = field (codes "u") (Some 0) (plain_slot (uint 16) 0 0) (field (codes "t") (Some 1) (pointer_slot 0 text None) no_fields)

abbrev of_members : Record → Text
of_members r = printed no_schema as_it_is (null_printed no_schema as_it_is 64) on_one_line (as_group (shape 1 1 1 (Some 16) members)) (record_as r)

first_member : of_members (entry (codes "u") (number 7) (entry (codes "t") inactive no_more)) ≡ Ok (codes "(u = 7)")
unfolding printed digits members
first_member = refl

null_member : of_members (entry (codes "u") inactive (entry (codes "t") null_pointer no_more)) ≡ Ok (codes "(t = \"\")")
unfolding printed null_printed members
null_member = refl

no_member : of_members (entry (codes "u") inactive (entry (codes "t") inactive no_more)) ≡ Ok (codes "()")
unfolding printed members
no_member = refl

numbers_on_lines : printed no_schema as_it_is (null_printed no_schema as_it_is 64) (indented 1) (as_type (list (plain (uint 8))) null) (list_of (number 1 ▹ number 2 ▹ no_readings)) ≡ Ok (codes "[\n    1,\n    2\n  ]")
unfolding printed digits
numbers_on_lines = refl

-- a default that may not be entered any more
past_the_last : null_printed no_schema as_it_is 0 on_one_line (struct 1) (structure 1 7 none) ≡ Err NestingLimitExceeded
unfolding null_printed
past_the_last = refl
