-- the file's own node, and those of its declarations
use Rattle.std.proofs.Common.{◌≡◌, Some, Option, List, nat_eq, All, sym, subst}
use Rattle.std.specs.HashMap.{get}
use Rattle.std.proofs.lemmas.List.Elements.{All-cons}
use Rattle.capnp_source_syntax.specs.declared.tree.Number.{Number}
use Rattle.capnp_source_syntax.specs.declared.tree.Declaration.{Declaration}
use Rattle.capnp_source_names.specs.declared.entries.Kind.{Kind}
use Rattle.capnp_source_compile.specs.Declarations.{declared_under, declared_in_all}
use Rattle.capnp_source_compile.proofs.declared.is_file_there.Goals as goal

pub returns-then-has : goal.returns-then-has
returns-then-has c is =
    let file = c.args.file.now.file in
    let id = c.in-Some.number.value in
    let inner = subst (λ (ds : List Declaration). All (λ d. get nat_eq c.args.nodes.now d.0 ≡ Some d.1) (declared_in_all id ds)) c.deref.ensures.value (c.are_there.ensures is) in
    subst (λ (o : Option Number). All (λ d. get nat_eq c.args.nodes.now d.0 ≡ Some d.1) (declared_under o file.declarations.items)) (sym c.in-Some.is)
    (All-cons (λ d. get nat_eq c.args.nodes.now d.0 ≡ Some d.1) (id, (Kind.File, 0)) (declared_in_all id file.declarations.items) (c.has.ensures c.if-has.true) inner)
