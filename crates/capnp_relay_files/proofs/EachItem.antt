-- Lists whose items are read one by one.
use Rattle.std.proofs.Common.{◌≡◌, ◌++◌, Option, Some, None, List, [], ◌∷◌, map, option_map, refl, sym, ◌∙◌, ap}
use Rattle.capnp_model.specs.Chains.{◌>>=◌}
use Rattle.serde_json.specs.Data.{Data}
use Rattle.serde_json.specs.View.{view, items_view}
use Rattle.serde_json.specs.declared.value.Value.{Value}
use Rattle.capnp_relay_files.specs.Json.{each_item}

one_later : {X Y : Type 0} (of : Y → X) (done : List Y) (y : Y) (xs : List X) → map of done ++ (of y ∷ xs) ≡ map of (done ++ (y ∷ [])) ++ xs
one_later of [] y xs = refl
one_later of (d ∷ ds) y xs = ap (λ zs. of d ∷ zs) (one_later of ds y xs)

one_more : {X Y : Type 0} (of : Y → X) (done : List Y) (y : Y) (o : Option (List X)) → option_map (λ xs. map of done ++ xs) (option_map (λ xs. of y ∷ xs) o) ≡ option_map (λ xs. map of (done ++ (y ∷ [])) ++ xs) o
one_more of done y None = refl
one_more of done y (Some xs) = ap Some (one_later of done y xs)

-- what was read, with one item more, stands in front of what the others read as
pub read_more : {X Y : Type 0} (f : Data → Option X) (of : Y → X) (whole : Option (List X)) (rest : List Value) (first : Value) (more : List Value) (y : Y) (done now : List Y)
    → rest ≡ first ∷ more → f (view first) ≡ Some (of y) → now ≡ done ++ (y ∷ [])
    → whole ≡ option_map (λ xs. map of done ++ xs) (each_item f (items_view rest)) → whole ≡ option_map (λ xs. map of now ++ xs) (each_item f (items_view more))
read_more {X} {Y} f of whole rest first more y done now split read is h =
    h
    ∙ ap (λ (vs : List Value). option_map (λ xs. map of done ++ xs) (each_item f (items_view vs))) split
    ∙ ap (λ (o : Option X). option_map (λ xs. map of done ++ xs) (o >>= λ x. option_map (λ xs. x ∷ xs) (each_item f (items_view more)))) read
    ∙ one_more of done y (each_item f (items_view more))
    ∙ ap (λ (ys : List Y). option_map (λ xs. map of ys ++ xs) (each_item f (items_view more))) (sym is)
