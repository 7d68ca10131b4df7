-- Equal defaults of related types are equal values.
use Rattle.std.proofs.Common.{◌≡◌, ℕ, ◌*◌, ◌-◌, ◌^◌, ◌<◌, Bool, true, false, ◌&&◌, ◌==◌, Option, Some, None, List, length, nat_lt, refl, sym, ◌∙◌, ap}
use Rattle.std.specs.Str.{bytes_eq}
use Rattle.capnp_model.specs.Trees.{Tree}
use Rattle.capnp_model.specs.Schemas.{PlainType, Ty, void, plain, text, blob, untyped, interface, struct, list, Value, no_value, bits, text_bytes, blob_bytes, list_segment, struct_segment, untyped_value, interface_value, Schema}
use Rattle.capnp_model.specs.Decoding.{decode}
use Rattle.capnp_model.specs.Accepted.{default_bits, default_tree, is_default_of, opens_as, is_good_segment, is_good_value}
use Rattle.capnp_model.specs.Compatible.{Pairs, related, same_default}
use Rattle.capnp_model.proofs.lemmas.Tests.{and_true, lt_is, and_left, and_right}
use Rattle.capnp_calls_versions.specs.Defaults.{AllBytes, default_value_bytes, same_bytes, same_value}
use Rattle.capnp_calls_versions.proofs.EqualBytes.{data_equal, texts_equal, segments_equal}

-- whether the defaults of a type are equal
abbrev pub same_slot_default : Ty → Option Value → Option Value → Bool
same_slot_default void d e = true
same_slot_default (plain p) d e = default_bits d == default_bits e
same_slot_default _ d e = same_default (default_tree d) (default_tree e)

segments : (test other : Tree → Bool) (xs ys : List ℕ) → is_good_segment test xs ≡ true → is_good_segment other ys ≡ true → same_default (decode xs) (decode ys) ≡ bytes_eq xs ys
segments test other xs ys g h = by (decode xs) (decode ys) refl refl (and_right (nat_lt (length xs) (8 * 2 ^ 29)) _ g) (and_right (nat_lt (length ys) (8 * 2 ^ 29)) _ h)
  where
    a : length xs < 8 * 2 ^ 29
    a = lt_is (length xs) (8 * 2 ^ 29) (and_left (nat_lt (length xs) (8 * 2 ^ 29)) _ g)

    b : length ys < 8 * 2 ^ 29
    b = lt_is (length ys) (8 * 2 ^ 29) (and_left (nat_lt (length ys) (8 * 2 ^ 29)) _ h)

    by : (o p : Option Tree) → decode xs ≡ o → decode ys ≡ p → (elim o as (λ (x : Option Tree). Bool) [ None ↦ false | Some t ↦ test t ]) ≡ true → (elim p as (λ (x : Option Tree). Bool) [ None ↦ false | Some t ↦ other t ]) ≡ true → same_default o p ≡ bytes_eq xs ys
    by None p e f k l = absurd (cc k)
    by (Some t) None e f k l = absurd (cc l)
    by (Some t) (Some u) e f k l = segments_equal xs ys t u a b e f

void_default : (d : Option Value) → is_default_of void d ≡ true → (default_bits d ≡ 0) × (default_value_bytes d ≡ None)
void_default None h = absurd (cc h)
void_default (Some no_value) h = (refl, refl)
void_default (Some (bits q n)) h = absurd (cc h)
void_default (Some (text_bytes b)) h = absurd (cc h)
void_default (Some (blob_bytes b)) h = absurd (cc h)
void_default (Some (list_segment b)) h = absurd (cc h)
void_default (Some (struct_segment b)) h = absurd (cc h)
void_default (Some untyped_value) h = absurd (cc h)
void_default (Some interface_value) h = absurd (cc h)

plain_default : (p : PlainType) (d : Option Value) → is_default_of (plain p) d ≡ true → default_value_bytes d ≡ None
plain_default p None h = absurd (cc h)
plain_default p (Some no_value) h = absurd (cc h)
plain_default p (Some (bits q n)) h = refl
plain_default p (Some (text_bytes b)) h = absurd (cc h)
plain_default p (Some (blob_bytes b)) h = absurd (cc h)
plain_default p (Some (list_segment b)) h = absurd (cc h)
plain_default p (Some (struct_segment b)) h = absurd (cc h)
plain_default p (Some untyped_value) h = absurd (cc h)
plain_default p (Some interface_value) h = absurd (cc h)

text_defaults : (d e : Option Value) → is_default_of text d ≡ true → is_default_of text e ≡ true → is_good_value (λ x. opens_as x text) d ≡ true → is_good_value (λ x. opens_as x text) e ≡ true → AllBytes (default_value_bytes d) → AllBytes (default_value_bytes e) → same_default (default_tree d) (default_tree e) ≡ same_value d e
text_defaults None None h k g l x y = refl
text_defaults None (Some no_value) h k g l x y = absurd (cc k)
text_defaults None (Some (bits qe ne)) h k g l x y = absurd (cc k)
text_defaults None (Some (text_bytes be)) h k g l x y = refl
text_defaults None (Some (blob_bytes be)) h k g l x y = absurd (cc k)
text_defaults None (Some (list_segment be)) h k g l x y = absurd (cc k)
text_defaults None (Some (struct_segment be)) h k g l x y = absurd (cc k)
text_defaults None (Some untyped_value) h k g l x y = absurd (cc k)
text_defaults None (Some interface_value) h k g l x y = absurd (cc k)
text_defaults (Some no_value) e h k g l x y = absurd (cc h)
text_defaults (Some (bits qd nd)) e h k g l x y = absurd (cc h)
text_defaults (Some (text_bytes bd)) None h k g l x y = refl
text_defaults (Some (text_bytes bd)) (Some no_value) h k g l x y = absurd (cc k)
text_defaults (Some (text_bytes bd)) (Some (bits qe ne)) h k g l x y = absurd (cc k)
text_defaults (Some (text_bytes bd)) (Some (text_bytes be)) h k g l x y = texts_equal bd be x y (lt_is (length bd) (2 ^ 29 - 1) h) (lt_is (length be) (2 ^ 29 - 1) k)
text_defaults (Some (text_bytes bd)) (Some (blob_bytes be)) h k g l x y = absurd (cc k)
text_defaults (Some (text_bytes bd)) (Some (list_segment be)) h k g l x y = absurd (cc k)
text_defaults (Some (text_bytes bd)) (Some (struct_segment be)) h k g l x y = absurd (cc k)
text_defaults (Some (text_bytes bd)) (Some untyped_value) h k g l x y = absurd (cc k)
text_defaults (Some (text_bytes bd)) (Some interface_value) h k g l x y = absurd (cc k)
text_defaults (Some (blob_bytes bd)) e h k g l x y = absurd (cc h)
text_defaults (Some (list_segment bd)) e h k g l x y = absurd (cc h)
text_defaults (Some (struct_segment bd)) e h k g l x y = absurd (cc h)
text_defaults (Some untyped_value) e h k g l x y = absurd (cc h)
text_defaults (Some interface_value) e h k g l x y = absurd (cc h)

blob_defaults : (d e : Option Value) → is_default_of blob d ≡ true → is_default_of blob e ≡ true → is_good_value (λ x. opens_as x blob) d ≡ true → is_good_value (λ x. opens_as x blob) e ≡ true → AllBytes (default_value_bytes d) → AllBytes (default_value_bytes e) → same_default (default_tree d) (default_tree e) ≡ same_value d e
blob_defaults None None h k g l x y = refl
blob_defaults None (Some no_value) h k g l x y = absurd (cc k)
blob_defaults None (Some (bits qe ne)) h k g l x y = absurd (cc k)
blob_defaults None (Some (text_bytes be)) h k g l x y = absurd (cc k)
blob_defaults None (Some (blob_bytes be)) h k g l x y = refl
blob_defaults None (Some (list_segment be)) h k g l x y = absurd (cc k)
blob_defaults None (Some (struct_segment be)) h k g l x y = absurd (cc k)
blob_defaults None (Some untyped_value) h k g l x y = absurd (cc k)
blob_defaults None (Some interface_value) h k g l x y = absurd (cc k)
blob_defaults (Some no_value) e h k g l x y = absurd (cc h)
blob_defaults (Some (bits qd nd)) e h k g l x y = absurd (cc h)
blob_defaults (Some (text_bytes bd)) e h k g l x y = absurd (cc h)
blob_defaults (Some (blob_bytes bd)) None h k g l x y = refl
blob_defaults (Some (blob_bytes bd)) (Some no_value) h k g l x y = absurd (cc k)
blob_defaults (Some (blob_bytes bd)) (Some (bits qe ne)) h k g l x y = absurd (cc k)
blob_defaults (Some (blob_bytes bd)) (Some (text_bytes be)) h k g l x y = absurd (cc k)
blob_defaults (Some (blob_bytes bd)) (Some (blob_bytes be)) h k g l x y = data_equal bd be x y (lt_is (length bd) (2 ^ 29) h) (lt_is (length be) (2 ^ 29) k)
blob_defaults (Some (blob_bytes bd)) (Some (list_segment be)) h k g l x y = absurd (cc k)
blob_defaults (Some (blob_bytes bd)) (Some (struct_segment be)) h k g l x y = absurd (cc k)
blob_defaults (Some (blob_bytes bd)) (Some untyped_value) h k g l x y = absurd (cc k)
blob_defaults (Some (blob_bytes bd)) (Some interface_value) h k g l x y = absurd (cc k)
blob_defaults (Some (list_segment bd)) e h k g l x y = absurd (cc h)
blob_defaults (Some (struct_segment bd)) e h k g l x y = absurd (cc h)
blob_defaults (Some untyped_value) e h k g l x y = absurd (cc h)
blob_defaults (Some interface_value) e h k g l x y = absurd (cc h)

none_before : (test : Tree → Bool) (ys : List ℕ) → is_good_segment test ys ≡ true → same_default None (decode ys) ≡ false
none_before test ys h = by (decode ys) (and_right (nat_lt (length ys) (8 * 2 ^ 29)) _ h)
  where
    by : (p : Option Tree) → (elim p as (λ (x : Option Tree). Bool) [ None ↦ false | Some t ↦ test t ]) ≡ true → same_default None p ≡ false
    by None k = absurd (cc k)
    by (Some u) k = refl

none_behind : (test : Tree → Bool) (xs : List ℕ) → is_good_segment test xs ≡ true → same_default (decode xs) None ≡ false
none_behind test xs h = by (decode xs) (and_right (nat_lt (length xs) (8 * 2 ^ 29)) _ h)
  where
    by : (p : Option Tree) → (elim p as (λ (x : Option Tree). Bool) [ None ↦ false | Some t ↦ test t ]) ≡ true → same_default p None ≡ false
    by None k = absurd (cc k)
    by (Some u) k = refl

list_defaults : (t u : Ty) (d e : Option Value) → is_default_of (list t) d ≡ true → is_default_of (list u) e ≡ true → is_good_value (λ x. opens_as x (list t)) d ≡ true → is_good_value (λ x. opens_as x (list u)) e ≡ true → AllBytes (default_value_bytes d) → AllBytes (default_value_bytes e) → same_default (default_tree d) (default_tree e) ≡ same_value d e
list_defaults t u None None h k g l x y = refl
list_defaults t u None (Some no_value) h k g l x y = absurd (cc k)
list_defaults t u None (Some (bits qe ne)) h k g l x y = absurd (cc k)
list_defaults t u None (Some (text_bytes be)) h k g l x y = absurd (cc k)
list_defaults t u None (Some (blob_bytes be)) h k g l x y = absurd (cc k)
list_defaults t u None (Some (list_segment be)) h k g l x y = none_before (λ z. opens_as z (list u)) be l
list_defaults t u None (Some (struct_segment be)) h k g l x y = absurd (cc k)
list_defaults t u None (Some untyped_value) h k g l x y = absurd (cc k)
list_defaults t u None (Some interface_value) h k g l x y = absurd (cc k)
list_defaults t u (Some no_value) e h k g l x y = absurd (cc h)
list_defaults t u (Some (bits qd nd)) e h k g l x y = absurd (cc h)
list_defaults t u (Some (text_bytes bd)) e h k g l x y = absurd (cc h)
list_defaults t u (Some (blob_bytes bd)) e h k g l x y = absurd (cc h)
list_defaults t u (Some (list_segment bd)) None h k g l x y = none_behind (λ z. opens_as z (list t)) bd g
list_defaults t u (Some (list_segment bd)) (Some no_value) h k g l x y = absurd (cc k)
list_defaults t u (Some (list_segment bd)) (Some (bits qe ne)) h k g l x y = absurd (cc k)
list_defaults t u (Some (list_segment bd)) (Some (text_bytes be)) h k g l x y = absurd (cc k)
list_defaults t u (Some (list_segment bd)) (Some (blob_bytes be)) h k g l x y = absurd (cc k)
list_defaults t u (Some (list_segment bd)) (Some (list_segment be)) h k g l x y = segments (λ z. opens_as z (list t)) (λ z. opens_as z (list u)) bd be g l
list_defaults t u (Some (list_segment bd)) (Some (struct_segment be)) h k g l x y = absurd (cc k)
list_defaults t u (Some (list_segment bd)) (Some untyped_value) h k g l x y = absurd (cc k)
list_defaults t u (Some (list_segment bd)) (Some interface_value) h k g l x y = absurd (cc k)
list_defaults t u (Some (struct_segment bd)) e h k g l x y = absurd (cc h)
list_defaults t u (Some untyped_value) e h k g l x y = absurd (cc h)
list_defaults t u (Some interface_value) e h k g l x y = absurd (cc h)

struct_defaults : (i j : ℕ) (d e : Option Value) → is_default_of (struct i) d ≡ true → is_default_of (struct j) e ≡ true → is_good_value (λ x. opens_as x (struct i)) d ≡ true → is_good_value (λ x. opens_as x (struct j)) e ≡ true → AllBytes (default_value_bytes d) → AllBytes (default_value_bytes e) → same_default (default_tree d) (default_tree e) ≡ same_value d e
struct_defaults i j None None h k g l x y = refl
struct_defaults i j None (Some no_value) h k g l x y = absurd (cc k)
struct_defaults i j None (Some (bits qe ne)) h k g l x y = absurd (cc k)
struct_defaults i j None (Some (text_bytes be)) h k g l x y = absurd (cc k)
struct_defaults i j None (Some (blob_bytes be)) h k g l x y = absurd (cc k)
struct_defaults i j None (Some (list_segment be)) h k g l x y = absurd (cc k)
struct_defaults i j None (Some (struct_segment be)) h k g l x y = none_before (λ z. opens_as z (struct j)) be l
struct_defaults i j None (Some untyped_value) h k g l x y = absurd (cc k)
struct_defaults i j None (Some interface_value) h k g l x y = absurd (cc k)
struct_defaults i j (Some no_value) e h k g l x y = absurd (cc h)
struct_defaults i j (Some (bits qd nd)) e h k g l x y = absurd (cc h)
struct_defaults i j (Some (text_bytes bd)) e h k g l x y = absurd (cc h)
struct_defaults i j (Some (blob_bytes bd)) e h k g l x y = absurd (cc h)
struct_defaults i j (Some (list_segment bd)) e h k g l x y = absurd (cc h)
struct_defaults i j (Some (struct_segment bd)) None h k g l x y = none_behind (λ z. opens_as z (struct i)) bd g
struct_defaults i j (Some (struct_segment bd)) (Some no_value) h k g l x y = absurd (cc k)
struct_defaults i j (Some (struct_segment bd)) (Some (bits qe ne)) h k g l x y = absurd (cc k)
struct_defaults i j (Some (struct_segment bd)) (Some (text_bytes be)) h k g l x y = absurd (cc k)
struct_defaults i j (Some (struct_segment bd)) (Some (blob_bytes be)) h k g l x y = absurd (cc k)
struct_defaults i j (Some (struct_segment bd)) (Some (list_segment be)) h k g l x y = absurd (cc k)
struct_defaults i j (Some (struct_segment bd)) (Some (struct_segment be)) h k g l x y = segments (λ z. opens_as z (struct i)) (λ z. opens_as z (struct j)) bd be g l
struct_defaults i j (Some (struct_segment bd)) (Some untyped_value) h k g l x y = absurd (cc k)
struct_defaults i j (Some (struct_segment bd)) (Some interface_value) h k g l x y = absurd (cc k)
struct_defaults i j (Some untyped_value) e h k g l x y = absurd (cc h)
struct_defaults i j (Some interface_value) e h k g l x y = absurd (cc h)

untyped_defaults : (d e : Option Value) → is_default_of untyped d ≡ true → is_default_of untyped e ≡ true → same_default (default_tree d) (default_tree e) ≡ same_value d e
untyped_defaults None None h k = refl
untyped_defaults None (Some no_value) h k = absurd (cc k)
untyped_defaults None (Some (bits qe ne)) h k = absurd (cc k)
untyped_defaults None (Some (text_bytes be)) h k = absurd (cc k)
untyped_defaults None (Some (blob_bytes be)) h k = absurd (cc k)
untyped_defaults None (Some (list_segment be)) h k = absurd (cc k)
untyped_defaults None (Some (struct_segment be)) h k = absurd (cc k)
untyped_defaults None (Some untyped_value) h k = absurd (cc k)
untyped_defaults None (Some interface_value) h k = absurd (cc k)
untyped_defaults (Some no_value) e h k = absurd (cc h)
untyped_defaults (Some (bits qd nd)) e h k = absurd (cc h)
untyped_defaults (Some (text_bytes bd)) e h k = absurd (cc h)
untyped_defaults (Some (blob_bytes bd)) e h k = absurd (cc h)
untyped_defaults (Some (list_segment bd)) e h k = absurd (cc h)
untyped_defaults (Some (struct_segment bd)) e h k = absurd (cc h)
untyped_defaults (Some untyped_value) e h k = absurd (cc h)
untyped_defaults (Some interface_value) e h k = absurd (cc h)

interface_defaults : (d e : Option Value) → is_default_of interface d ≡ true → is_default_of interface e ≡ true → same_default (default_tree d) (default_tree e) ≡ same_value d e
interface_defaults None None h k = refl
interface_defaults None (Some no_value) h k = absurd (cc k)
interface_defaults None (Some (bits qe ne)) h k = absurd (cc k)
interface_defaults None (Some (text_bytes be)) h k = absurd (cc k)
interface_defaults None (Some (blob_bytes be)) h k = absurd (cc k)
interface_defaults None (Some (list_segment be)) h k = absurd (cc k)
interface_defaults None (Some (struct_segment be)) h k = absurd (cc k)
interface_defaults None (Some untyped_value) h k = absurd (cc k)
interface_defaults None (Some interface_value) h k = absurd (cc k)
interface_defaults (Some no_value) e h k = absurd (cc h)
interface_defaults (Some (bits qd nd)) e h k = absurd (cc h)
interface_defaults (Some (text_bytes bd)) e h k = absurd (cc h)
interface_defaults (Some (blob_bytes bd)) e h k = absurd (cc h)
interface_defaults (Some (list_segment bd)) e h k = absurd (cc h)
interface_defaults (Some (struct_segment bd)) e h k = absurd (cc h)
interface_defaults (Some untyped_value) e h k = absurd (cc h)
interface_defaults (Some interface_value) e h k = absurd (cc h)

-- the defaults of related types are equal where their values are
pub defaults_equal : (o n : Schema) (pairs : Pairs) (t u : Ty) (d e : Option Value) → related o n pairs t u ≡ true → is_default_of t d ≡ true → is_default_of u e ≡ true
    → is_good_value (λ x. opens_as x t) d ≡ true → is_good_value (λ x. opens_as x u) e ≡ true → AllBytes (default_value_bytes d) → AllBytes (default_value_bytes e) → same_slot_default t d e ≡ same_value d e
defaults_equal o n pairs void void d e r h k g l x y = let f = void_default d h in let f2 = void_default e k in sym (ap (λ z. z == default_bits e && same_bytes (default_value_bytes d) (default_value_bytes e)) f.0 ∙ ap (λ z. 0 == z && same_bytes (default_value_bytes d) (default_value_bytes e)) f2.0 ∙ ap (λ z. same_bytes z (default_value_bytes e)) f.1 ∙ ap (same_bytes None) f2.1)
defaults_equal o n pairs void (plain q) d e r h k g l x y = absurd (cc r)
defaults_equal o n pairs void text d e r h k g l x y = absurd (cc r)
defaults_equal o n pairs void blob d e r h k g l x y = absurd (cc r)
defaults_equal o n pairs void untyped d e r h k g l x y = absurd (cc r)
defaults_equal o n pairs void interface d e r h k g l x y = absurd (cc r)
defaults_equal o n pairs void (struct j) d e r h k g l x y = absurd (cc r)
defaults_equal o n pairs void (list u) d e r h k g l x y = absurd (cc r)
defaults_equal o n pairs (plain p) void d e r h k g l x y = absurd (cc r)
defaults_equal o n pairs (plain p) (plain q) d e r h k g l x y = sym (ap (λ z. default_bits d == default_bits e && same_bytes z (default_value_bytes e)) (plain_default p d h) ∙ ap (λ z. default_bits d == default_bits e && same_bytes None z) (plain_default q e k) ∙ and_true (default_bits d == default_bits e))
defaults_equal o n pairs (plain p) text d e r h k g l x y = absurd (cc r)
defaults_equal o n pairs (plain p) blob d e r h k g l x y = absurd (cc r)
defaults_equal o n pairs (plain p) untyped d e r h k g l x y = absurd (cc r)
defaults_equal o n pairs (plain p) interface d e r h k g l x y = absurd (cc r)
defaults_equal o n pairs (plain p) (struct j) d e r h k g l x y = absurd (cc r)
defaults_equal o n pairs (plain p) (list u) d e r h k g l x y = absurd (cc r)
defaults_equal o n pairs text void d e r h k g l x y = absurd (cc r)
defaults_equal o n pairs text (plain q) d e r h k g l x y = absurd (cc r)
defaults_equal o n pairs text text d e r h k g l x y = text_defaults d e h k g l x y
defaults_equal o n pairs text blob d e r h k g l x y = absurd (cc r)
defaults_equal o n pairs text untyped d e r h k g l x y = absurd (cc r)
defaults_equal o n pairs text interface d e r h k g l x y = absurd (cc r)
defaults_equal o n pairs text (struct j) d e r h k g l x y = absurd (cc r)
defaults_equal o n pairs text (list u) d e r h k g l x y = absurd (cc r)
defaults_equal o n pairs blob void d e r h k g l x y = absurd (cc r)
defaults_equal o n pairs blob (plain q) d e r h k g l x y = absurd (cc r)
defaults_equal o n pairs blob text d e r h k g l x y = absurd (cc r)
defaults_equal o n pairs blob blob d e r h k g l x y = blob_defaults d e h k g l x y
defaults_equal o n pairs blob untyped d e r h k g l x y = absurd (cc r)
defaults_equal o n pairs blob interface d e r h k g l x y = absurd (cc r)
defaults_equal o n pairs blob (struct j) d e r h k g l x y = absurd (cc r)
defaults_equal o n pairs blob (list u) d e r h k g l x y = absurd (cc r)
defaults_equal o n pairs untyped void d e r h k g l x y = absurd (cc r)
defaults_equal o n pairs untyped (plain q) d e r h k g l x y = absurd (cc r)
defaults_equal o n pairs untyped text d e r h k g l x y = absurd (cc r)
defaults_equal o n pairs untyped blob d e r h k g l x y = absurd (cc r)
defaults_equal o n pairs untyped untyped d e r h k g l x y = untyped_defaults d e h k
defaults_equal o n pairs untyped interface d e r h k g l x y = absurd (cc r)
defaults_equal o n pairs untyped (struct j) d e r h k g l x y = absurd (cc r)
defaults_equal o n pairs untyped (list u) d e r h k g l x y = absurd (cc r)
defaults_equal o n pairs interface void d e r h k g l x y = absurd (cc r)
defaults_equal o n pairs interface (plain q) d e r h k g l x y = absurd (cc r)
defaults_equal o n pairs interface text d e r h k g l x y = absurd (cc r)
defaults_equal o n pairs interface blob d e r h k g l x y = absurd (cc r)
defaults_equal o n pairs interface untyped d e r h k g l x y = absurd (cc r)
defaults_equal o n pairs interface interface d e r h k g l x y = interface_defaults d e h k
defaults_equal o n pairs interface (struct j) d e r h k g l x y = absurd (cc r)
defaults_equal o n pairs interface (list u) d e r h k g l x y = absurd (cc r)
defaults_equal o n pairs (struct i) void d e r h k g l x y = absurd (cc r)
defaults_equal o n pairs (struct i) (plain q) d e r h k g l x y = absurd (cc r)
defaults_equal o n pairs (struct i) text d e r h k g l x y = absurd (cc r)
defaults_equal o n pairs (struct i) blob d e r h k g l x y = absurd (cc r)
defaults_equal o n pairs (struct i) untyped d e r h k g l x y = absurd (cc r)
defaults_equal o n pairs (struct i) interface d e r h k g l x y = absurd (cc r)
defaults_equal o n pairs (struct i) (struct j) d e r h k g l x y = struct_defaults i j d e h k g l x y
defaults_equal o n pairs (struct i) (list u) d e r h k g l x y = absurd (cc r)
defaults_equal o n pairs (list t) void d e r h k g l x y = absurd (cc r)
defaults_equal o n pairs (list t) (plain q) d e r h k g l x y = absurd (cc r)
defaults_equal o n pairs (list t) text d e r h k g l x y = absurd (cc r)
defaults_equal o n pairs (list t) blob d e r h k g l x y = absurd (cc r)
defaults_equal o n pairs (list t) untyped d e r h k g l x y = absurd (cc r)
defaults_equal o n pairs (list t) interface d e r h k g l x y = absurd (cc r)
defaults_equal o n pairs (list t) (struct j) d e r h k g l x y = absurd (cc r)
defaults_equal o n pairs (list t) (list u) d e r h k g l x y = list_defaults t u d e h k g l x y
