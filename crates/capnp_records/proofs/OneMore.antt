-- Lists with one item more behind.
use Rattle.std.proofs.Common.{◌≡◌, ℕ, ◌+◌, ◌<◌, List, [], ◌∷◌, ◌++◌, map, take, length, get_or, append_assoc, refl, sym, ◌∙◌, ap}
use Rattle.std.specs.List.{flat_map}
use Rattle.std.proofs.lemmas.List.{flat_map_more, map-append, map_push, map_more}

pub none_more : {A : Type 0} (xs : List A) → xs ≡ xs ++ []
none_more [] = refl
none_more (x ∷ xs) = ap (λ ys. x ∷ ys) (none_more xs)

-- As what one item more is seen stands behind.
map_one_more : {A B : Type 0} (see : A → B) (xs : List A) (i : ℕ) (x : A) → i < length xs → x ≡ get_or xs i x → map see (take (i + 1) xs) ≡ map see (take i xs) ++ see x ∷ []
map_one_more see xs i x lt is = map_more see xs i x lt ∙ ap (λ y. map see (take i xs) ++ see y ∷ []) (sym is)

-- What one item more gives stands behind what those before it gave.
pub flat_one_more : {A B C : Type 0} (gives : B → List C) (see : A → B) (old now new : List C) (xs : List A) (i : ℕ) (x : A) → i < length xs → x ≡ get_or xs i x
    → now ≡ old ++ flat_map gives (map see (take i xs)) → new ≡ now ++ gives (see x) → new ≡ old ++ flat_map gives (map see (take (i + 1) xs))
flat_one_more gives see old now new xs i x lt is before put =
    put
    ∙ ap (λ ys. ys ++ gives (see x)) before
    ∙ flat_map_more gives old (map see (take i xs)) (see x)
    ∙ ap (λ ys. old ++ flat_map gives ys) (sym (map_one_more see xs i x lt is))

-- So does what is taken of each of the items that one more has.
pub lists_one_more : {A B C D : Type 0} (takes : C → D) (lists : B → List C) (see : A → B) (old now new : List D) (xs : List A) (i : ℕ) (x : A) → i < length xs → x ≡ get_or xs i x
    → now ≡ old ++ map takes (flat_map (λ l. l) (map lists (map see (take i xs)))) → new ≡ now ++ map takes (lists (see x))
    → new ≡ old ++ map takes (flat_map (λ l. l) (map lists (map see (take (i + 1) xs))))
lists_one_more takes lists see old now new xs i x lt is before put =
    let ys = map see (take i xs) in
    let more = lists (see x) in
    put
    ∙ ap (λ l. l ++ map takes more) before
    ∙ append_assoc old (map takes (flat_map (λ l. l) (map lists ys))) (map takes more)
    ∙ ap (λ l. old ++ l) (sym (map-append takes (flat_map (λ l. l) (map lists ys)) more))
    ∙ ap (λ l. old ++ map takes l) (flat_map_more (λ l. l) [] (map lists ys) more)
    ∙ ap (λ l. old ++ map takes (flat_map (λ k. k) l)) (sym (ap (map lists) (map_one_more see xs i x lt is) ∙ map_push lists ys (see x)))

-- So does what is shown of one item put behind, where the item more is shown so.
pub put_one_more : {A B C D : Type 0} (see : A → B) (takes : B → C) (shows : D → C) (old : List C) (now new : List D) (d : D) (xs : List A) (i : ℕ) (x : A) → i < length xs → x ≡ get_or xs i x
    → map shows now ≡ old ++ map takes (map see (take i xs)) → new ≡ now ++ d ∷ [] → shows d ≡ takes (see x) → map shows new ≡ old ++ map takes (map see (take (i + 1) xs))
put_one_more see takes shows old now new d xs i x lt is before put same =
    ap (map shows) put
    ∙ map_push shows now d
    ∙ ap (λ ys. ys ++ shows d ∷ []) before
    ∙ append_assoc old (map takes (map see (take i xs))) (shows d ∷ [])
    ∙ ap (λ y. old ++ (map takes (map see (take i xs)) ++ y ∷ [])) same
    ∙ ap (λ ys. old ++ ys) (sym (ap (map takes) (map_one_more see xs i x lt is) ∙ map_push takes (map see (take i xs)) (see x)))
