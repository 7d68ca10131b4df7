use Rattle.std.proofs.Common.{◌≡◌, ◌≢◌, ◌==◌, ◌+◌, ℕ, Bool, true, false, if◌then◌else◌, Some, List, drop, ◌∷◌, sym, ◌∙◌, ap, arith}
use Rattle.std.specs.Prelude.{find}
use Rattle.std.proofs.lemmas.Bool.Decides.{nat_tests}
use Rattle.capnp_records.specs.declared.node.AnnotationRecord.{AnnotationRecord}
use Rattle.capnp_model.proofs.lemmas.Tests.{test_is_false}
use Rattle.capnp_values_queries.proofs.lemmas.Records.{rest_from}
use Rattle.capnp_values_queries.proofs.annotations.AnnotationList.find.Goals as goal

found : (id : ℕ) (x : AnnotationRecord) (xs : List AnnotationRecord) (b : Bool) → (x.id == id) ≡ b → find (λ a. a.id == id) (x ∷ xs) ≡ (if b then Some x else find (λ a. a.id == id) xs)
found id x xs b e = ap (λ t. if t then Some x else find (λ a. a.id == id) xs) e

same : (a b c : ℕ) → a ≡ b → b ≡ c → (a == c) ≡ true
same a b c e f = grind (arith, nat_tests)

pub returns-then-get_id-id-clause-annotation : goal.returns-then-get_id-id-clause-annotation
returns-then-get_id-id-clause-annotation c =
    let x = c.get-annotation.result.proto.now in
    let xs = c.args.self.annotations.now in
    let here : (x.id == c.args.id) ≡ true = same x.id c.get_id.result c.args.id (sym c.get_id.ensures) c.if-get_id-id.true in
    sym (found c.args.id x (drop (c.loop-i.i + 1) xs) true here) ∙ ap (find (λ a. a.id == c.args.id)) (sym (rest_from xs c.loop-i.i x c.get-annotation.ensures.annotation)) ∙ c.loop-i.invariant

pub loop-i-preserved : goal.loop-i-preserved
loop-i-preserved c =
    let x = c.get-annotation.result.proto.now in
    let xs = c.args.self.annotations.now in
    let here : (x.id == c.args.id) ≡ false = ap (λ k. k == c.args.id) (sym c.get_id.ensures) ∙ test_is_false c.get_id.result c.args.id c.if-get_id-id.false in
    sym (found c.args.id x (drop (c.loop-i.i + 1) xs) false here) ∙ ap (find (λ a. a.id == c.args.id)) (sym (rest_from xs c.loop-i.i x c.get-annotation.ensures.annotation)) ∙ c.loop-i.invariant
