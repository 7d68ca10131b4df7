-- Files, computed: the plain struct of a number and a text, and a call that sets the number.
use Rattle.std.proofs.Common.{◌≡◌, pos, Some, None, [], ◌∷◌, codes, refl}
use Rattle.capnp_model.specs.Schemas.{uint, BaseType, bits, slot}
use Rattle.capnp_model.specs.Calls.{name, index}
use Rattle.serde_json.specs.Data.{number, string, array, object, unsigned, item, no_items, member, no_members}
use Rattle.capnp_calls.specs.declared.call.Verb.TheVariants as verb
use Rattle.capnp_relay_files.specs.SchemaFiles.{type_in, type_of_members, field_in, bare_base}
use Rattle.capnp_relay_files.specs.CallsFiles.{call_in, given_number}
use Rattle.capnp_relay_files.specs.RenamesFiles.{renaming_in}

-- {"name": "a", "offset": 0, "type": "UInt16"}
number_field : field_in (object (member (codes "name") (string (codes "a")) (member (codes "offset") (number (unsigned 0)) (member (codes "type") (string (codes "UInt16")) no_members))))
    ≡ Some (record { name = codes "a"; member = None; annotations = []; kind = slot 0 (bare_base BaseType.UInt16) (Some (bits (uint 16) 0)) })
unfolding type_in type_of_members
number_field = refl

-- {"name": "rows", "offset": 1, "type": {"list": {"list": "Text"}}}
lists_field : field_in (object (member (codes "name") (string (codes "rows")) (member (codes "offset") (number (unsigned 1)) (member (codes "type") (object (member (codes "list") (object (member (codes "list") (string (codes "Text")) no_members)) no_members)) no_members))))
    ≡ Some (record { name = codes "rows"; member = None; annotations = []; kind = slot 1 (record { list_count = 2; base = BaseType.Text }) None })
unfolding type_in type_of_members
lists_field = refl

-- {"name": "a", "of": 0} has an unknown key and lacks others.
other_field : field_in (object (member (codes "name") (string (codes "a")) (member (codes "of") (number (unsigned 0)) no_members))) ≡ None
unfolding type_in type_of_members
other_field = refl

-- {"path": ["items", 0, "a"], "value": {"number": 7}, "verb": "set"}
number_call : call_in (object (member (codes "path") (array (item (string (codes "items")) (item (number (unsigned 0)) (item (string (codes "a")) no_items)))) (member (codes "value") (object (member (codes "number") (number (unsigned 7)) no_members)) (member (codes "verb") (string (codes "set")) no_members))))
    ≡ Some (record { path = name (codes "items") ∷ index 0 ∷ name (codes "a") ∷ []; verb = verb.Set; value = Some (given_number (pos 7)) })
number_call = refl

-- {"from": "a", "node": 1, "to": "c"}
one_renaming : renaming_in (object (member (codes "from") (string (codes "a")) (member (codes "node") (number (unsigned 1)) (member (codes "to") (string (codes "c")) no_members))))
    ≡ Some (record { node = 1; older = codes "a"; newer = codes "c" })
one_renaming = refl

-- {"from": "a", "node": 1} lacks a key.
no_newer_name : renaming_in (object (member (codes "from") (string (codes "a")) (member (codes "node") (number (unsigned 1)) no_members))) ≡ None
no_newer_name = refl
