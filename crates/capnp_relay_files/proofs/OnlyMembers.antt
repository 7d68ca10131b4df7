-- Types that are the value of an object's only member.
use Rattle.std.proofs.Common.{◌≡◌, ℕ, ◌<◌, if◌then◌else◌, Bool, true, false, ◌∙◌, Some, None, List, codes, option_map, ap, refl, arith}
use Rattle.std.proofs.lemmas.Option.{same_Some}
use Rattle.std.proofs.lemmas.Slice.Eq.{bytes_eq-Decides}
use Rattle.std.specs.Str.{bytes_eq}
use Rattle.capnp_model.specs.Chains.{◌>>=◌}
use Rattle.serde_json.specs.Find.{as_str, as_object}
use Rattle.serde_json.specs.Data.{Data, null, boolean, number, string, array, object, Members, no_members, member, depth}
use Rattle.capnp_relay_files.specs.Json.{only_member, find_named}
use Rattle.capnp_relay_files.specs.SchemaFiles.{named_bases, bare_base, type_in, type_of_members, list_type, type_with_id}

none-type : (ms : Members) → None ≡ only_member ms → type_in (object ms) ≡ None
unfolding type_in type_of_members
none-type no_members h = refl
none-type (member k d no_members) h = absurd (cc h)
none-type (member k d (member l e ms)) h = refl

only-type : (ms : Members) (m : List ℕ × Data) → Some m ≡ only_member ms
    → type_in (object ms) ≡ (if bytes_eq m.0 (codes "list") then type_in m.1 >>= list_type else type_with_id m.0 m.1)
unfolding type_in type_of_members
only-type no_members m h = absurd (cc h)
only-type (member k d no_members) m h = rw (same_Some m (k, d) h) refl
only-type (member k d (member l e ms)) m h = absurd (cc h)

chosen : {X : Type 0} (b : Bool) (x y : X) → b ≡ true → (if b then x else y) ≡ x
chosen true x y h = refl
chosen false x y h = absurd (cc h)

other : {X : Type 0} (b : Bool) (x y : X) → (b ≡ true → ⊥) → (if b then x else y) ≡ y
other true x y h = absurd (h refl)
other false x y h = refl

list-by-member : (ms : Members) (m : List ℕ × Data) → Some m ≡ only_member ms → m.0 ≡ codes "list" → type_in (object ms) ≡ (type_in m.1 >>= list_type)
list-by-member ms m h e = only-type ms m h ∙ chosen (bytes_eq m.0 (codes "list")) (type_in m.1 >>= list_type) (type_with_id m.0 m.1) ((bytes_eq-Decides m.0 (codes "list")).1 e)

id-by-member : (ms : Members) (m : List ℕ × Data) → Some m ≡ only_member ms → (m.0 ≡ codes "list" → ⊥) → type_in (object ms) ≡ type_with_id m.0 m.1
id-by-member ms m h e = only-type ms m h ∙ other (bytes_eq m.0 (codes "list")) (type_in m.1 >>= list_type) (type_with_id m.0 m.1) (λ t. e ((bytes_eq-Decides m.0 (codes "list")).0 t))

only-depth : (ms : Members) (m : List ℕ × Data) → Some m ≡ only_member ms → depth m.1 < depth (object ms)
only-depth no_members m h = absurd (cc h)
only-depth (member k d no_members) m h = rw (same_Some m (k, d) h) (omega arith)
only-depth (member k d (member l e ms)) m h = absurd (cc h)

pub type-by-name : (d : Data) (n : List ℕ) → as_str d ≡ Some n → type_in d ≡ option_map bare_base (find_named n named_bases)
unfolding type_in type_of_members
type-by-name null n h = absurd (cc h)
type-by-name (boolean b) n h = absurd (cc h)
type-by-name (number x) n h = absurd (cc h)
type-by-name (string m) n h = rw (same_Some m n h) refl
type-by-name (array ds) n h = absurd (cc h)
type-by-name (object ms) n h = absurd (cc h)

pub no-type : (d : Data) → as_str d ≡ None → as_object d ≡ None → type_in d ≡ None
unfolding type_in type_of_members
no-type null h g = refl
no-type (boolean b) h g = refl
no-type (number x) h g = refl
no-type (string m) h g = absurd (cc h)
no-type (array ds) h g = refl
no-type (object ms) h g = absurd (cc g)

type-by-members : (d : Data) (ms : Members) → as_object d ≡ Some ms → d ≡ object ms
type-by-members null ms h = absurd (cc h)
type-by-members (boolean b) ms h = absurd (cc h)
type-by-members (number x) ms h = absurd (cc h)
type-by-members (string m) ms h = absurd (cc h)
type-by-members (array ds) ms h = absurd (cc h)
type-by-members (object ns) ms h = ap object (same_Some ns ms h)

pub no-member : (d : Data) (ms : Members) → as_object d ≡ Some ms → None ≡ only_member ms → type_in d ≡ None
no-member d ms o h = ap type_in (type-by-members d ms o) ∙ none-type ms h

pub list-type : (d : Data) (ms : Members) (m : List ℕ × Data) → as_object d ≡ Some ms → Some m ≡ only_member ms → m.0 ≡ codes "list" → type_in d ≡ (type_in m.1 >>= list_type)
list-type d ms m o h e = ap type_in (type-by-members d ms o) ∙ list-by-member ms m h e

pub id-type : (d : Data) (ms : Members) (m : List ℕ × Data) → as_object d ≡ Some ms → Some m ≡ only_member ms → (m.0 ≡ codes "list" → ⊥) → type_in d ≡ type_with_id m.0 m.1
id-type d ms m o h e = ap type_in (type-by-members d ms o) ∙ id-by-member ms m h e

pub value-depth : (d : Data) (ms : Members) (m : List ℕ × Data) → as_object d ≡ Some ms → Some m ≡ only_member ms → depth m.1 < depth d
value-depth d ms m o h = rw (type-by-members d ms o) (only-depth ms m h)

pub ruleset types = (type-by-name, no-type, no-member)
