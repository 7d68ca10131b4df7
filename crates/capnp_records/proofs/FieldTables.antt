-- The tables at the place of a struct.
use Rattle.std.proofs.Common.{◌≡◌, ℕ, zero, suc, ◌<◌, Bool, true, false, ◌&&◌, ◌==◌, Option, Some, None, List, [], ◌∷◌, map, length, get_or, slice_get, refl, sym, ◌∙◌, ap, subst, arith}
use Rattle.capnp_model.specs.Schemas.{StructNode, NodeKind, struct_node, enum_node, Node}
use Rattle.capnp_model.specs.Accepted.{find_node, fields_of_kind, IsAccepted}
use Rattle.capnp_model.proofs.lemmas.Tests.{same_number, and_left}
use Rattle.capnp_records.specs.Sets.{has_struct, is_at, struct_of_kind, struct_found}
use Rattle.capnp_records.specs.Tables.{members_in, others_in, AreByName, AreNodesByName, AreTablesOf}
use Rattle.capnp_records.specs.declared.tables.FieldTables.{FieldTables as Places}
use Rattle.capnp_records.proofs.lemmas.PlainStructs.{place_is_found}
use Rattle.capnp_records.proofs.lemmas.FieldPlaces.{same_length, same_at, in_range}

kind_is : (k : NodeKind) (s : StructNode) → struct_of_kind k ≡ Some s → k ≡ struct_node s
kind_is (struct_node r) s e = let is : r ≡ s = cc e in ap struct_node is
kind_is (enum_node es) s e = absurd (cc e)

slice_get_at : {A : Type 0} (xs : List A) (i : ℕ) (x : A) → i < length xs → x ≡ get_or xs i x → slice_get xs i ≡ Some x
slice_get_at [] i x lt e = absurd (omega arith)
slice_get_at (y ∷ ys) zero x lt e = ap (λ z. Some z) (sym e)
slice_get_at (y ∷ ys) (suc i) x lt e = slice_get_at ys i x (omega arith) e

pub tables_at : (nodes : List Node) → IsAccepted nodes → (ts : List Places)
    → map (λ t. t.members.items) ts ≡ map (λ n. members_in n.kind) nodes → map (λ t. t.others.items) ts ≡ map (λ n. others_in n.kind) nodes
    → AreNodesByName nodes ts
    → (k id : ℕ) (t : Places) → is_at has_struct nodes k id ≡ true → t ≡ get_or ts k t → (s : StructNode) → struct_found nodes id ≡ Some s → AreTablesOf s t
tables_at nodes accepted ts members others by_name k id t at e s h = by (slice_get nodes k) refl at
  where
    by : (o : Option Node) → slice_get nodes k ≡ o → (elim o as (λ (p : Option Node). Bool) [ None ↦ false | Some n ↦ n.id == id && has_struct n ]) ≡ true → AreTablesOf s t
    by None q b = absurd (cc b)
    by (Some n) q b =
        let is : n.id ≡ id = same_number n.id id (and_left (n.id == id) (has_struct n) b) in
        let found : find_node nodes id ≡ Some n = ap (find_node nodes) (sym is) ∙ place_is_found nodes accepted k n q in
        let kind : n.kind ≡ struct_node s = kind_is n.kind s (sym (ap (λ (o : Option Node). elim o as (λ (p : Option Node). Option StructNode) [ None ↦ None | Some m ↦ struct_of_kind m.kind ]) found) ∙ h) in
        let lt : k < length ts = subst (λ (l : ℕ). k < l) (sym (same_length (λ (x : Places). x.members.items) (λ m. members_in m.kind) ts nodes members)) (in_range nodes k n q) in
        record {
          members = same_at (λ (x : Places). x.members.items) (λ m. members_in m.kind) ts nodes k t n members lt e q ∙ ap members_in kind;
          others = same_at (λ (x : Places). x.others.items) (λ m. others_in m.kind) ts nodes k t n others lt e q ∙ ap others_in kind;
          by_name = subst (λ (x : NodeKind). AreByName (fields_of_kind x) t.by_name.items) kind (by_name k n t q (slice_get_at ts k t lt e));
        }
