-- What becomes of names while a draft is written and gets its name.
use Rattle.std.specs.Prelude.{◌≡◌, ◌⊎◌, ℕ, ◌+◌, ◌≤◌, Bool, true, false, Option, None, option_map, List, ◌∷◌, length, drop, bytes_eq, IsTrue}
use Rattle.hagzimot_files.specs.Calls.{Name, FileContent, FileTree, FileCall, created, synced, removed, synced_names, as_synced, tree_after}

-- what a name holds after these calls
abbrev pub held_after : FileTree → List FileCall → Name → Option FileContent
held_after start calls name = (tree_after start calls).held name

-- a draft's content once it is ready to get its name
unfoldable pub ready : Bool → Option FileContent → Option FileContent
ready true content = option_map as_synced content
ready false content = content

-- P holds of the calls, also without the newest of them, as far back as the old ones
abbrev pub Throughout : (List FileCall → Type 0) → List FileCall → List FileCall → Type 0
Throughout P old new = (count : ℕ) → count + length old ≤ length new → P (drop count new)

-- each name but the draft's holds what it held
abbrev pub KeepsOthers : Name → List FileCall → List FileCall → Type 0
KeepsOthers draft old new =
    (start : FileTree) (other : Name) → bytes_eq other draft ≡ false → held_after start new other ≡ held_after start old other

-- the name holds what the draft held, the draft's name nothing, and each other name what it held
pub record ReplacesFile (draft path : Name) (sync : Bool) (old new : List FileCall) : Type 0 where
  pub held : (start : FileTree) → held_after start new path ≡ ready sync (held_after start old draft)
  pub gone : (start : FileTree) → held_after start new draft ≡ None
  pub others : (start : FileTree) (other : Name) → bytes_eq other draft ≡ false → bytes_eq other path ≡ false
      → held_after start new other ≡ held_after start old other

-- the names outlive a stop of the machine
abbrev pub HasSyncedNames : List FileCall → Type 0
HasSyncedNames calls = (start : FileTree) → IsTrue (tree_after start calls).has_synced_names

-- the name holds what it held or the draft, whole and synced if that is asked for, and each name but these two what it held
abbrev pub IsOldOrNew : Name → Name → Bool → List FileCall → List FileCall → Type 0
IsOldOrNew draft path sync old calls = KeepsOthers draft old calls ⊎ ReplacesFile draft path sync old calls

-- the bytes of a draft were synced if that is asked for
abbrev pub made_ready : Bool → Name → List FileCall → List FileCall
made_ready true draft old = synced draft ∷ old
made_ready false draft old = old

-- the names were synced if that is asked for
abbrev pub with_synced_names : Bool → List FileCall → List FileCall
with_synced_names true old = synced_names ∷ old
with_synced_names false old = old

-- the draft was removed, or could not be
abbrev pub MayRemove : Name → List FileCall → List FileCall → Type 0
MayRemove draft old new = (new ≡ old) ⊎ (new ≡ removed draft ∷ old)

-- nothing was made, or one file of a name that nothing had, which was then removed or could not be
abbrev pub MakesNoDraft : List FileCall → List FileCall → Type 0
MakesNoDraft old new = (new ≡ old) ⊎ ((draft : Name) × MayRemove draft (created draft ∷ old) new)
