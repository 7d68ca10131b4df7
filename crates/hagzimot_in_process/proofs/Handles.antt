-- The machine values of a `Handle`. Assumes `Logic`.
use Rattle.std.proofs.Common.{◌≡◌, ℕ, List, [], ◌∷◌, ◌++◌, refl, subst, Option, Some, None}
use seplogic.Ra.Ura.{Ura}
use mir.Raw.{raw as bare}
use mir.Val.{Val, vstruct, vcons, vnil, of_list}
use base.Logic.{SProp, ent, guard, via, snd∗, guard_i}
use base.Fml.{ftrue}
use types.Logic.{Logic, sem}
use types.Kit.{Item, Goal, Seq, Step, step, ‵, ◌$◌, drop, fsplit, fjoin, fpick, fpack, feq_i, feq_l}
use contract.Monad.{fact_use}
use denote.RattleType.{RattleType, Valss}
use denote.Builtin.{RawPtr}
use denote.Memory.{lone}
use denote.RawPtr.{Ptr, block_ptr, null_ptr, ptr_val, lies_at, Testable}
use denote.Steps.{nothing}
use denote.Struct.Struct.{within}
use denote.Struct.Owning.{shape}
use Rattle.std.specs.contracts.impls.GlobalAllocator.TheImpl.{ghosts}
use Rattle.std.specs.declared.alloc.Global.{Global}
use Rattle.std.proofs.GlobalToken.{dealloc_token-Testable}
use Rattle.hagzimot_in_process.specs.Held.{held, holds, boxed}
use Rattle.hagzimot_in_process.specs.contracts.handle.Handle as handle
use Rattle.hagzimot_in_process.specs.contracts.kinds.Kind as state

abbrev pub word : Ptr → Val
word p = vstruct (vcons (ptr_val p) vnil)

abbrev pub S : RattleType
S = state.the_row

abbrev pub Handle : RattleType
Handle = handle.the_row

module _ {M : Type 1} {𝓤 : Ura M} {𝓛 : Logic 𝓤} {K : Type 0} {Γ : List (Item 𝓤)} {G : Goal 𝓤 𝓛.H} where
  pub handle_in : K → (p : Ptr) (x : Option S.Denot)
      → Step K 𝓛 (‵ (Handle.own_val (record { at = p; value = x }) (word p ∷ [])) ∷ Γ) G (‵ (held S p x) ∷ Γ) G
  handle_in t p x = step (λ s. nothing t $ feq_i t (List Val) (ptr_val p ∷ []) (ptr_val p ∷ []) refl $ fjoin t $ feq_i t (List Val) (word p ∷ []) (word p ∷ []) refl $ fjoin t $
      fpack t (Valss (RawPtr ∷ [])) (within (shape handle.the_type) (p, tt) (word p ∷ [])) (ptr_val p ∷ [], tt) $ fjoin t $ s)

  pub handle_out : K → (d : Handle.Denot) (vs : List Val)
      → (vs ≡ word d.at ∷ [] → Seq K 𝓛 (‵ (held S d.at d.value) ∷ Γ) G)
      → Seq K 𝓛 (‵ (Handle.own_val d vs) ∷ Γ) G
  handle_out t d vs k =
      fsplit t $ fpick t (λ vss. fsplit t $ feq_l t (λ ev. fsplit t $ feq_l t (λ ep. drop t $
      k (subst (λ (ps : List Val). vs ≡ vstruct (of_list (ps ++ [])) ∷ []) ep ev))))

module _ {M : Type 1} {𝓤 : Ura M} (𝓛 : Logic 𝓤) (a : Global) where
  pub tested : (p : Ptr) (x : S.Denot) → ent 𝓤 (sem 𝓛 (boxed a S p x)) (guard 𝓤 (Testable p) (sem 𝓛 (boxed a S p x)))
  tested p x = let B : SProp 𝓤 = sem 𝓛 (boxed a S p x) in
      fact_use 𝓤 (Testable p) (via 𝓤 _ (snd∗ 𝓤 (sem 𝓛 (lies_at S base.Fraction.full_share p x)) (sem 𝓛 (ghosts.dealloc_token a (bare (lone S.mir)) p))) (dealloc_token-Testable 𝓛 a (bare (lone S.mir)) p)) (guard_i 𝓤 (Testable p) B)

module _ {M : Type 1} {𝓤 : Ura M} {𝓛 : Logic 𝓤} {K : Type 0} {Γ : List (Item 𝓤)} {G : Goal 𝓤 𝓛.H} where
  pub either_held : K → (a : Global) (p : Ptr) (v : Option S.Denot)
      → (p ≡ null_ptr → v ≡ None → Seq K 𝓛 Γ G)
      → ((b o : ℕ) (x : S.Denot) → p ≡ block_ptr b o → v ≡ Some x → Testable (block_ptr b o) → Seq K 𝓛 (‵ (boxed a S (block_ptr b o) x) ∷ Γ) G)
      → Seq K 𝓛 (‵ (held S p v) ∷ Γ) G
  either_held t a null_ptr v none one = feq_l t (λ e. none refl e)
  either_held t a (block_ptr b o) v none one = fpick t (λ s. fsplit t $ feq_l t (λ ev. fsplit t $ fpick t (λ e. drop t $ one b o s.0 refl ev e)))

  pub hold : K → (a : Global) (b o : ℕ) (x : S.Denot) → Testable (block_ptr b o)
      → Step K 𝓛 (‵ (held S (block_ptr b o) (Some x)) ∷ Γ) G (‵ (boxed a S (block_ptr b o) x) ∷ Γ) G
  hold t a b o x e = step (λ s. nothing t $ fpack t (Testable (block_ptr b o)) (λ _. ftrue) e $ fjoin t $
      feq_i t (Option S.Denot) (Some x) (Some x) refl $ fjoin t $ fpack t (S.Denot × Global) (holds S (block_ptr b o) (Some x)) (x, a) $ s)
