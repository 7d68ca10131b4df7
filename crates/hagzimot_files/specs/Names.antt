-- The parts of a path, and the names of drafts.
use Rattle.std.specs.Prelude.{◌≡◌, ◌≢◌, ◌⊎◌, ℕ, ◌<◌, nat_le, if◌then◌else◌, List, [], ◌∷◌, ◌++◌, length, get_or, codes, decimal}

-- a path is a folder, which ends with a slash or is empty, and a name without a slash
pub record SplitsPath (path folder name : List ℕ) : Type 0 where
  pub joined : folder ++ name ≡ path
  pub ends : (folder ≡ []) ⊎ ((front : List ℕ) × (folder ≡ front ++ 47 ∷ []))
  pub has_no_slash : (i : ℕ) → i < length name → get_or name i 0 ≢ 47

-- the folder of a path: where it lies, the root, or the folder before its last slash
abbrev pub IsFolderOf : List ℕ → List ℕ → Type 0
IsFolderOf path result =
    (folder : List ℕ) × (name : List ℕ) × SplitsPath path folder name
    × (((folder ≡ []) × (result ≡ codes ".")) ⊎ (((folder ≡ codes "/") × (result ≡ codes "/")) ⊎ (folder ≡ result ++ codes "/")))

-- the draft lies in the folder of the path, under a hidden name
abbrev pub IsDraftOf : List ℕ → ℕ → ℕ → List ℕ → Type 0
IsDraftOf path process number draft =
    (folder : List ℕ) × (name : List ℕ) × SplitsPath path folder name
    × (draft ≡ folder ++ codes "." ++ (if nat_le (length name) 180 then name else []) ++ codes ".hagzimot-" ++ decimal process ++ codes "-" ++ decimal number)

-- a link that begins with a slash leads to what it names, another one to what it names in the folder of the path
pub record LinkLeadsTo (path link target : List ℕ) : Type 0 where
  pub absolute : get_or link 0 0 ≡ 47 → target ≡ link
  pub relative : get_or link 0 0 ≢ 47 → (folder : List ℕ) × (name : List ℕ) × SplitsPath path folder name × (target ≡ folder ++ link)
