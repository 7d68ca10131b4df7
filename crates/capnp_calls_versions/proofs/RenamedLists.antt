-- Renamings in lists.
use Rattle.std.proofs.Common.{◌≡◌, ℕ, zero, suc, Bool, true, false, not, ◌&&◌, ◌==◌, cond, if◌then◌else◌, Option, Some, option_map, List, [], ◌∷◌, Bor, map, drop, find, string_bytes, refl, ◌∙◌, ap}
use Rattle.std.specs.List.{list_any}
use Rattle.std.specs.Str.{bytes_eq}
use Rattle.capnp_model.specs.Partners.{Renaming as ModelRenaming, same_key, are_distinct_names, are_one_to_one}
use Rattle.capnp_model.proofs.lemmas.Tests.{and_false}
use Rattle.capnp_calls_versions.specs.declared.renamings.Renaming.{Renaming}
use Rattle.capnp_calls_versions.specs.declared.renamings.Version.{Version}
use Rattle.capnp_calls_versions.specs.declared.renamings.Version.TheVariants as version
use Rattle.capnp_calls_versions.specs.Renamings.{renaming_of, key_in}

-- ---- what a name finds

-- one renaming more in front of those whose names are found
pub named_step : (given told : ModelRenaming → List ℕ) (id i : ℕ) (key n : List ℕ) (x : ModelRenaming) (rest : List ModelRenaming) (e : Bor (List ℕ)) (old : Option (Bor (List ℕ))) → e.now ≡ told x → i ≡ x.node → key ≡ given x
    → option_map (λ s. s.now) old ≡ option_map told (find (λ r. r.node == id && bytes_eq (given r) n) rest)
    → option_map (λ s. s.now) (cond (i == id && bytes_eq key n) (Some e) old) ≡ option_map told (find (λ r. r.node == id && bytes_eq (given r) n) (x ∷ rest))
named_step given told id i key n x rest e old h a k o =
    by (i == id && bytes_eq key n)
    ∙ ap (λ (z : ℕ). option_map told (if (z == id && bytes_eq key n) then Some x else find (λ r. r.node == id && bytes_eq (given r) n) rest)) a
    ∙ ap (λ (z : List ℕ). option_map told (if (x.node == id && bytes_eq z n) then Some x else find (λ r. r.node == id && bytes_eq (given r) n) rest)) k
  where
    by : (b : Bool) → option_map (λ s. s.now) (cond b (Some e) old) ≡ option_map told (if b then Some x else find (λ r. r.node == id && bytes_eq (given r) n) rest)
    by true = ap Some h
    by false = o

-- ---- names apart

-- names that are not apart are not apart with more in front
pub behind : (v : Version) (n : ℕ) (xs : List Renaming) → are_distinct_names (map (key_in v) (drop n xs)) ≡ false → are_distinct_names (map (key_in v) xs) ≡ false
behind v zero xs h = h
behind v (suc n) [] h = absurd (cc h)
behind v (suc n) (x ∷ xs) h = ap (λ b. not (list_any (same_key (key_in v x)) (map (key_in v) xs)) && b) (behind v n xs h) ∙ and_false (not (list_any (same_key (key_in v x)) (map (key_in v) xs)))

pub older_keys : (xs : List Renaming) → map (λ (r : ModelRenaming). (r.node, r.older)) (map renaming_of xs) ≡ map (key_in version.Older) xs
older_keys [] = refl
older_keys (x ∷ xs) = ap (λ ks. (x.node, string_bytes x.older) ∷ ks) (older_keys xs)

pub newer_keys : (xs : List Renaming) → map (λ (r : ModelRenaming). (r.node, r.newer)) (map renaming_of xs) ≡ map (key_in version.Newer) xs
newer_keys [] = refl
newer_keys (x ∷ xs) = ap (λ ks. (x.node, string_bytes x.newer) ∷ ks) (newer_keys xs)

pub one_to_one : (xs : List Renaming) → are_one_to_one (map renaming_of xs) ≡ (are_distinct_names (map (key_in version.Older) xs) && are_distinct_names (map (key_in version.Newer) xs))
one_to_one xs =
    ap (λ ks. are_distinct_names ks && are_distinct_names (map (λ (r : ModelRenaming). (r.node, r.newer)) (map renaming_of xs))) (older_keys xs)
    ∙ ap (λ ks. are_distinct_names (map (key_in version.Older) xs) && are_distinct_names ks) (newer_keys xs)
