use Rattle.std.proofs.Common.{◌≡◌, ◌++◌, List, ℕ, codes, string_bytes, ap, ◌∙◌}
use Rattle.std.proofs.lemmas.Result.{IfOk-weaker}
use Rattle.hagzimot_schemas.specs.Sentences.{name_text, newer_name, due_text, taken_text, pair_view}
use Rattle.hagzimot_schemas.proofs.breaks.taken_told.Goals as goal

abbrev told : List ℕ → List ℕ → List ℕ → List ℕ
told age name due = codes "the field \"" ++ (name ++ (codes "\" of the " ++ (age ++ (codes " schema takes the union value of an older member" ++ due))))

pub returns : goal.returns
returns c =
    let age = c.args.nodes.age.now in
    let p = pair_view c.args.nodes in
    let due = string_bytes c.in_ok-due.due in
    IfOk-weaker c.format.result (λ s. string_bytes s ≡ told age c.name_of-name.result.now due) (λ s. string_bytes s ≡ taken_text p c.args.due c.args.newer)
    (λ s e. e ∙ ap (λ n. told age n due) (c.name_of-name.ensures ∙ ap name_text c.field_at.ensures) ∙ ap (λ d. told age (newer_name p c.args.newer) d) (c.in_ok-due.ensures ∙ ap due_text c.field_at-2.ensures))
    c.format.ensures.ok
