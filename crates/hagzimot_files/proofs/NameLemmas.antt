-- The parts of a path.
use Rattle.std.proofs.Common.{◌≡◌, ◌≢◌, inl, inr, ℕ, suc, ◌+◌, ◌<◌, List, [], ◌∷◌, ◌++◌, length, get_or, take, drop, Result, Ok, Err, String, IfOk, string_bytes, codes, refl, ap, ◌∙◌, arith, length-drop}
use Rattle.std.proofs.Math.Seq.{take-suc}
use Rattle.std.proofs.lemmas.List.{take-append-drop, get_or-drop}
use Rattle.hagzimot_files.specs.Names.{SplitsPath, IsFolderOf, LinkLeadsTo}

through_slash : (path : List ℕ) (at : ℕ) → at < length path → get_or path at 0 ≡ 47 → take (at + 1) path ≡ take at path ++ 47 ∷ []
through_slash path at within here = let e : at + 1 ≡ suc at = omega arith in rw e (take-suc path at 0 within ∙ ap (λ x. take at path ++ (x ∷ [])) here)

pub split_at_slash : (path : List ℕ) (at : ℕ) → at < length path → get_or path at 0 ≡ 47 → ((i : ℕ) → at < i → i < length path → get_or path i 0 ≢ 47)
    → SplitsPath path (take (at + 1) path) (drop (at + 1) path)
split_at_slash path at within here later = record {
  joined = take-append-drop (at + 1) path;
  ends = inr (take at path, through_slash path at within here);
  has_no_slash = λ i l. rw (get_or-drop (at + 1) path i 0) (later (at + 1 + i) (omega arith) (omega (arith, l, length-drop (at + 1) path)));
}

pub split_nowhere : (path : List ℕ) → ((i : ℕ) → i < length path → get_or path i 0 ≢ 47) → SplitsPath path [] path
split_nowhere path none = record { joined = refl; ends = inl refl; has_no_slash = none }

pub folder_at : (path : List ℕ) (at : ℕ) → at < length path → get_or path at 0 ≡ 47 → ((i : ℕ) → at < i → i < length path → get_or path i 0 ≢ 47) → IsFolderOf path (take at path)
folder_at path at within here later = (take (at + 1) path, drop (at + 1) path, split_at_slash path at within here later, inr (inr (through_slash path at within here)))

pub folder_at_root : (path : List ℕ) (at : ℕ) → at ≡ 0 → at < length path → get_or path at 0 ≡ 47 → ((i : ℕ) → at < i → i < length path → get_or path i 0 ≢ 47) → IsFolderOf path (codes "/")
folder_at_root path at first within here later =
    let root : take at path ++ 47 ∷ [] ≡ 47 ∷ [] = rw first refl in
    (take (at + 1) path, drop (at + 1) path, split_at_slash path at within here later, inr (inl (through_slash path at within here ∙ root, refl)))

pub folder_here : (path : List ℕ) → ((i : ℕ) → i < length path → get_or path i 0 ≢ 47) → IsFolderOf path (codes ".")
folder_here path none = ([], path, split_nowhere path none, inl (refl, refl))

pub absolute_link : {E A : Type 0} (path link : List ℕ) (r : Result (String A) E) → get_or link 0 0 ≡ 47 → IfOk r (λ s. string_bytes s ≡ link) → IfOk r (λ s. LinkLeadsTo path link (string_bytes s))
absolute_link path link (Ok s) slash is = record { absolute = λ _. is; relative = λ other. absurd (other slash) }
absolute_link path link (Err e) slash is = tt

pub relative_link : (path folder name link target : List ℕ) → get_or link 0 0 ≢ 47 → SplitsPath path folder name → target ≡ folder ++ link → LinkLeadsTo path link target
relative_link path folder name link target other splits is = record { absolute = λ slash. absurd (other slash); relative = λ _. (folder, name, splits, is) }
