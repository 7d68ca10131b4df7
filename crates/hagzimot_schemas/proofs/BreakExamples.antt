-- Worked examples: sentences on breaks, the pairs that are reached, and the structs that two versions have both.
use Rattle.std.proofs.Common.{◌≡◌, ℕ, ◌==◌, if◌then◌else◌, None, [], ◌∷◌, codes, refl}
use Rattle.capnp_model.specs.Compatible.{Pairs}
use Rattle.capnp_calls_versions.specs.declared.breaks.Rule.TheVariants as rule
use Rattle.hagzimot_schemas.specs.Interfaces.{reached}
use Rattle.hagzimot_schemas.specs.Sentences.{Pair, names_text, sentence_text, interface_text}

both_names : names_text (codes "\"") (codes "total") (codes "sum") (codes "newer") ≡ codes "\"total\" (in the newer schema \"sum\")"
both_names = refl

one_name : names_text [] (codes "a.capnp:Order") (codes "a.capnp:Order") (codes "newer") ≡ codes "a.capnp:Order"
one_name = refl

abbrev gone : Pair
gone = record { older = None; newer = None; age = codes "newer" }

fewer_words : sentence_text gone rule.Words ≡ codes "a node that is missing: the data section has fewer words in the newer schema"
fewer_words = refl

other_interface : interface_text gone 0 0 ≡ codes "a node that is missing: field \"?\" has another interface in the newer schema"
other_interface = refl

-- the first pair leads to two others, and each of these to the first
abbrev leads : (ℕ × ℕ) → Pairs
leads p = if p.0 == 1 then (2, 2) ∷ (3, 3) ∷ [] else (1, 1) ∷ []

three_pairs : reached leads (1, 1) 3 ≡ (1, 1) ∷ (2, 2) ∷ (3, 3) ∷ []
unfolding reached
three_pairs = refl
