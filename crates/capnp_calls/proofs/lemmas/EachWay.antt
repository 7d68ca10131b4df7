-- Ways that grow, and what is known of a path's first step.
use Rattle.std.proofs.Common.{◌≡◌, ◌≢◌, ℕ, Option, Some, None, IfSome, List, [], ◌∷◌, ◌++◌, ◌<◌, refl, ap, sym, subst, ◌∙◌}
use Rattle.std.specs.Prelude.{slice_get}
use Rattle.capnp_model.specs.Schemas.{Schema}
use Rattle.capnp_model.specs.Calls.{Step, name, index}
use Rattle.capnp_model.specs.InKindCalls.{PathEnd, nowhere, next_end}
use Rattle.capnp_values_queries.specs.Fields.{field_count, place_of_name}
use Rattle.capnp_values_queries.specs.Structs.{schema_around, id_of, fields_of_struct}
use Rattle.capnp_values_queries.specs.declared.structs.StructSchema.{StructSchema}
use Rattle.capnp_values_queries.proofs.lemmas.Places.{index_inside}
use Rattle.std.specs.Str.{bytes_eq}
use Rattle.capnp_model.specs.Printing.{fields_in}
use Rattle.capnp_calls.specs.declared.find.FoundField.{FoundField}
use Rattle.capnp_calls.specs.Ends.{IsStepFound, found_fields}
use Rattle.capnp_calls.specs.Ways.{Finds, FindsFirst, fields_behind_first, IsWay}

-- Of no fields nothing is said.
pub nothing_known : (s : Schema) (path : List Step) → IsWay s path []
nothing_known s [] = tt
nothing_known s (name n ∷ path) = (tt, nothing_known s path)
nothing_known s (index i ∷ path) = nothing_known s path

pub first_finds : (s : Schema) (n : List ℕ) (way : List FoundField) (found : FoundField) → FindsFirst s n way → slice_get way 0 ≡ Some found → Finds s n found
first_finds s n [] found first at = absurd (cc at)
first_finds s n (f ∷ way) found first at = let is : f ≡ found = cc at in subst (λ (x : FoundField). Finds s n x) is first

-- A field that was found under the struct is the first of the name there.
pub found_here : (g : StructSchema) (n : List ℕ) (found : FoundField) → found.node ≡ id_of g → Finds (schema_around g) n found → found.place ≡ place_of_name n (fields_of_struct g)
found_here g n found here finds = finds ∙ ap (λ id. place_of_name n (fields_in ((schema_around g).shape_of id))) here

pub place_inside : (g : StructSchema) (n : List ℕ) (found : FoundField) (i : ℕ) → found.node ≡ id_of g → Finds (schema_around g) n found → found.place ≡ Some i → i < field_count (fields_of_struct g)
place_inside g n found i here finds at = index_inside (λ m k. bytes_eq m n) (fields_of_struct g) i (sym (found_here g n found here finds) ∙ at)

-- ---- a way that is found step by step

append_assoc : {A : Type 0} (xs : List A) (y : A) (ys : List A) → (xs ++ y ∷ []) ++ ys ≡ xs ++ y ∷ ys
append_assoc [] y ys = refl
append_assoc (x ∷ xs) y ys = ap (λ zs. x ∷ zs) (append_assoc xs y ys)

nothing_more : (xs : List FoundField) → xs ++ [] ≡ xs
nothing_more [] = refl
nothing_more (x ∷ xs) = ap (λ zs. x ∷ zs) (nothing_more xs)

-- With the way of the rest of a path, what is found so far is that of the whole. Past nowhere there is no more to find.
abbrev pub GrowsTo : Schema → List Step → List FoundField → List Step → PathEnd → Type 0
GrowsTo s whole old rest at = (more : List FoundField) → (at ≡ nowhere → more ≡ []) → IsWay s rest more → IsWay s whole (old ++ more)

pub way_at_first : (s : Schema) (path : List Step) (at : PathEnd) → GrowsTo s path [] path at
way_at_first s path at more last is = is

pub way_grown : (s : Schema) (whole rest : List Step) (st : Step) (before after : PathEnd) (found : Option FoundField) (old new : List FoundField) → new ≡ old ++ found_fields found → after ≡ next_end s st before → IsStepFound s st after found → IfSome found (λ f. before ≢ nowhere)
    → GrowsTo s whole old (st ∷ rest) before → GrowsTo s whole new rest after
way_grown s whole rest (name n) before after (Some f) old new pushed goes finds begun grows more last is =
    subst (λ way. IsWay s whole way) (sym (ap (λ xs. xs ++ more) pushed ∙ append_assoc old f more)) (grows (f ∷ more) (λ gone. absurd (begun gone)) (finds, is))
way_grown s whole rest (name n) before after None old new pushed goes gone begun grows more last is =
    let same : new ++ more ≡ old ++ [] = ap (λ xs. new ++ xs) (last gone) ∙ nothing_more new ∙ pushed in
    subst (λ way. IsWay s whole way) (sym same) (grows [] (λ at. refl) (tt, nothing_known s rest))
way_grown s whole rest (index i) before after (Some f) old new pushed goes none begun grows more last is = absurd none
way_grown s whole rest (index i) before after None old new pushed goes finds begun grows more last is =
    let same : new ++ more ≡ old ++ more = ap (λ xs. xs ++ more) (pushed ∙ nothing_more old) in
    subst (λ way. IsWay s whole way) (sym same) (grows more (λ gone. last (goes ∙ ap (next_end s (index i)) gone)) is)

pub whole_way : (s : Schema) (path : List Step) (found : List FoundField) (at : PathEnd) → GrowsTo s path found [] at → IsWay s path found
whole_way s path found at grows = subst (λ way. IsWay s path way) (nothing_more found) (grows [] (λ gone. refl) tt)

-- The way behind the first step of a path: a name, or an index.
pub way_behind_name : (s : Schema) (n : List ℕ) (path rest : List Step) (way : List FoundField) → path ≡ name n ∷ rest → IsWay s path way → FindsFirst s n way × IsWay s rest (fields_behind_first way)
way_behind_name s n path rest way split is = subst (λ q. IsWay s q way) split is

pub way_behind_index : (s : Schema) (i : ℕ) (path rest : List Step) (way : List FoundField) → path ≡ index i ∷ rest → IsWay s path way → IsWay s rest way
way_behind_index s i path rest way split is = subst (λ q. IsWay s q way) split is
