use Rattle.std.proofs.Common.{◌≡◌, ◌++◌, List, ℕ, codes, string_bytes, ap, ◌∙◌}
use Rattle.std.proofs.lemmas.Result.{IfOk-weaker}
use Rattle.hagzimot_schemas.specs.Sentences.{Pair, nodes_text, interface_text, pair_view, pair_of}
use Rattle.hagzimot_schemas.proofs.breaks.interface_sentence.Goals as goal

abbrev told : List ℕ → List ℕ → List ℕ → List ℕ
told age names fields = names ++ (codes ": field " ++ (fields ++ (codes " has another interface in the " ++ (age ++ codes " schema"))))

pub returns : goal.returns
returns c =
    let p = pair_view c.nodes_of-nodes.result in
    let age = c.nodes_of-nodes.result.age.now in
    let i = c.args.broken.older_field in
    let k = c.args.broken.newer_field in
    let fields = string_bytes c.in_ok-fields.fields in
    let ids = pair_of c.args.older c.args.newer c.args.broken.older c.args.broken.newer in
    IfOk-weaker c.format.result (λ s. string_bytes s ≡ told age (string_bytes c.in_ok-names.names) fields) (λ s. string_bytes s ≡ interface_text ids i k)
    (λ s e. e ∙ ap (λ n. told age n fields) c.in_ok-names.ensures ∙ ap (λ f. told age (nodes_text p) f) c.in_ok-fields.ensures ∙ ap (λ (q : Pair). interface_text q i k) c.nodes_of-nodes.ensures)
    c.format.ensures.ok
