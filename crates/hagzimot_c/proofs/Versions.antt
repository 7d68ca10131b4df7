-- Versions of schemas that are compared.
use Rattle.std.proofs.Common.{◌≡◌, List, ℕ, Option, Some, None, is_none, subst}
use Rattle.std.specs.Bool.{MatchBool}
use Rattle.hagzimot_in_process.specs.declared.versions.Versions.{Versions}
use Rattle.hagzimot_in_process.specs.Opened.{AreVersionsOf, AreCompatible}
use Rattle.hagzimot_c.specs.Exports.{word_of, AreFound, AreBroken}

-- Versions that are compatible, and those that aren't, are those of the files.
pub found_of : (older newer renames root : List ℕ) (word : Option (List ℕ)) (v : Versions) → word ≡ word_of root → AreVersionsOf older newer renames word v → AreCompatible v → (w : Versions) × AreFound older newer renames root w
found_of older newer renames root word v same are is =
    let P : Option (List ℕ) → Type 0 = λ o. AreVersionsOf older newer renames o v in
    (v, (subst P same are, is))

pub broken_of : (older newer renames root : List ℕ) (word : Option (List ℕ)) (v : Versions) → word ≡ word_of root → AreVersionsOf older newer renames word v → (AreCompatible v → ⊥) → (w : Versions) × AreBroken older newer renames root w
broken_of older newer renames root word v same are not =
    let P : Option (List ℕ) → Type 0 = λ o. AreVersionsOf older newer renames o v in
    (v, (subst P same are, not))

-- There is no break, or there is one.
pub without_break : {A C : Type 0} (why : Option A) → MatchBool (is_none why) C (C → ⊥) → why ≡ None → C
without_break None h is = h
without_break (Some x) h is = absurd cc

pub with_break : {A C : Type 0} (why : Option A) (x : A) → MatchBool (is_none why) C (C → ⊥) → why ≡ Some x → C → ⊥
with_break None x h is = absurd cc
with_break (Some y) x h is = h
