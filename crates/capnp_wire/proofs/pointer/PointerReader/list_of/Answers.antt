-- A list takes a level, and its elements are those that are expected.
use Rattle.std.proofs.Common.{Ok, Err, ap, sym, ◌∙◌}
use Rattle.std.proofs.lemmas.Result.{err_from_is_err_and, IfOk-from_err}
use Rattle.capnp_model.specs.Kinds.{WrongElementSize}
use Rattle.capnp_units.specs.Errors.{kind_of}
use Rattle.capnp_units.specs.Sizes.{size_number}
use Rattle.capnp_wire.specs.Views.{ListView, seen_list}
use Rattle.capnp_wire.proofs.Passing.{passed, not_passed, level_left, no_level}
use Rattle.capnp_wire.proofs.Objects.{bits_are_expected}
use Rattle.capnp_wire.proofs.pointer.PointerReader.list_of.Goals as goal

pub returns-in_err-levels : goal.returns-in_err-levels
returns-in_err-levels g c =
    let r = err_from_is_err_and c.from_residual.result c.from_residual.ensures.1 in
    record {
      list = no_level (seen_list g.A.ReaderArena.segments) c.args.self.now.levels _ c.in_err-levels.field-0.0 r.0 c.from_residual.result r.1 r.2 c.in_err-levels.ensures;
      bytewise = λ _. IfOk-from_err c.from_residual.result _ c.from_residual.ensures.0;
    }

pub returns-then-not-is_accepted : goal.returns-then-not-is_accepted
returns-then-not-is_accepted g c = record {
  list = level_left c.args.self.now.levels c.in_ok-levels.levels _ (Err (kind_of c.from.result.kind)) c.in_ok-levels.ensures (not_passed _ (kind_of c.from.result.kind) WrongElementSize _ c.if-not-is_accepted.ensures (ap kind_of c.from.ensures));
  bytewise = λ _. tt;
}

pub returns : goal.returns
returns g c =
    let v = seen_list g.A.ReaderArena.segments c.of_parts.result in
    record {
      list = level_left c.args.self.now.levels c.in_ok-levels.levels _ (Ok v) c.in_ok-levels.ensures (ap (λ (l : ListView). Ok l) c.of_parts.ensures ∙ passed _ WrongElementSize _ c.if-not-is_accepted.ensures);
      bytewise = λ other bits. bits_are_expected c.args.expected c.args.size c.args.data_words c.args.pointers c.if-not-is_accepted.ensures other (sym (ap (λ (l : ListView). size_number l.size) c.of_parts.ensures) ∙ bits);
    }
