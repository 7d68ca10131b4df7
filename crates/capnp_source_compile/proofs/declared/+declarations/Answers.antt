-- a declaration's own node, and those of its members
use Rattle.std.proofs.Common.{◌≡◌, ℕ, List, Some, nat_eq, All, ap, sym, ◌∙◌, subst, arith}
use Rattle.std.specs.HashMap.{get}
use Rattle.std.specs.Prelude.{string_bytes}
use Rattle.capnp_source_syntax.specs.declared.tree.Declaration.{Declaration}
use Rattle.capnp_source_syntax.specs.declared.tree.Declaration.TheViews.{out-Declaration}
use Rattle.capnp_source_compile.specs.Declarations.{id_in, declared_in, declared_in_all}
use Rattle.capnp_source_compile.proofs.Walks.{declared_some, declared_from, declared_end}
use Rattle.capnp_source_compile.proofs.declared.+declarations.Goals as goal

pub is_there-returns-then-has : goal.is_there-returns-then-has
is_there-returns-then-has t c is =
    let nodes = c.args.nodes.now in
    let scope = c.args.scope in
    let o = out-Declaration c.args.declaration.now in
    let kind = c.in-Some.kind in
    let name = c.in-Some-name.name in
    let id : c.id_in-id.result ≡ id_in scope o.id (string_bytes name.text) = c.id_in-id.ensures ∙ ap (id_in scope o.id) c.as_str.ensures.value in
    let here = subst (λ (n : ℕ). get nat_eq nodes n ≡ Some (kind, scope)) id (c.has.ensures c.if-has.true) in
    let inner = subst (λ (ds : List Declaration). All (λ d. get nat_eq nodes d.0 ≡ Some d.1) (declared_in_all c.id_in-id.result ds)) c.deref.ensures.value (c.are_there.ensures is) in
    declared_some (λ d. get nat_eq nodes d.0 ≡ Some d.1) c.args.declaration.now scope kind name (sym c.kind_of.ensures ∙ c.in-Some.is) c.in-Some-name.is here
    (subst (λ (n : ℕ). All (λ d. get nat_eq nodes d.0 ≡ Some d.1) (declared_in_all n o.members.items)) id inner)

pub are_there-loop-declaration-preserved : goal.are_there-loop-declaration-preserved
are_there-loop-declaration-preserved t c rest =
    let nodes = c.args.nodes.now in
    let here = subst (λ (d : Declaration). All (λ x. get nat_eq nodes x.0 ≡ Some x.1) (declared_in d c.args.scope)) c.declaration-item.is (c.is_there.ensures c.if-not-is_there.false) in
    c.loop-declaration.invariant
    (declared_from (λ x. get nat_eq nodes x.0 ≡ Some x.1) c.args.scope c.args.declarations.now c.loop-declaration.declaration-index c.declaration-item.result c.loop-declaration-test.true here rest)

pub are_there-returns : goal.are_there-returns
are_there-returns t c is =
    c.loop-declaration.invariant (declared_end (λ d. get nat_eq c.args.nodes.now d.0 ≡ Some d.1) c.args.scope c.args.declarations.now c.loop-declaration.declaration-index (omega arith))
