-- Copies one after the other, and their refusals.
use Rattle.std.specs.Bool.{⊤}
use Rattle.std.proofs.Common.{◌≡◌, ◌⊎◌, ◌↔◌, ℕ, List, [], ◌∷◌, ◌++◌, Option, Result, Ok, Err, ap, sym, ◌∙◌, subst, inl, inr}
use Rattle.std.proofs.lemmas.List.{append_assoc}
use Rattle.capnp_model.specs.Segments.{Segments}
use Rattle.capnp_model.specs.Visits.{Visit}
use Rattle.capnp_units.specs.declared.errors.Error.{Error}
use Rattle.capnp_units.specs.declared.kinds.ErrorKind.TheVariants.{SizeOverflow}
use Rattle.capnp_units.specs.declared.limiter.ReadLimiter.{ReadLimiter}
use Rattle.capnp_wire_objects.specs.Follow.{follow_cost}
use Rattle.capnp_wire_objects.specs.Walks.{Walked, Stopped}
use Rattle.capnp_wire_objects.proofs.lemmas.Walks.{walked_both, stopped_later}
use Rattle.capnp_copy_arenas.specs.Allocations.{total_words}
use Rattle.capnp_copy_values.specs.Objects.{IsTooLarge}
use Rattle.capnp_copy_values.specs.Copies.{Unplaced, Refused, CopyGives, copy_of, limited_words}

-- behind visits that were made
pub unplaced_later : (from : Segments) (a b path more : List Visit) (u v : Segments) (old mid new : ReadLimiter) (e : Error) → path ≡ a ++ (b ++ more) → total_words u ≡ total_words v → Walked a old mid → Unplaced from b u mid e new → Unplaced from path v old e new
unplaced_later from a b path more u v old mid new e is same w x =
    let one : Visit = Ok (follow_cost x.found) in
    let rest : List Visit = one ∷ x.rest in
    let within : b ++ more ≡ x.before ++ (rest ++ more) = ap (λ (vs : List Visit). vs ++ more) x.path_is ∙ append_assoc x.before rest more in
    record {
      before = a ++ x.before;
      rest = x.rest ++ more;
      at = x.at;
      found = x.found;
      found_is = x.found_is;
      path_is = is ∙ ap (λ (vs : List Visit). a ++ vs) within ∙ sym (append_assoc a x.before (one ∷ (x.rest ++ more)));
      walked = subst (λ (vs : List Visit). Walked vs old new) (sym (append_assoc a x.before (one ∷ []))) (walked_both a (x.before ++ one ∷ []) old mid new w x.walked);
      kind = subst (λ (n : ℕ). (e.kind ≡ SizeOverflow) ↔ IsTooLarge x.found.object n) same x.kind;
    }

pub why_later : (from : Segments) (a b path more : List Visit) (u v : Segments) (old mid new : ReadLimiter) (e : Error) → path ≡ a ++ (b ++ more) → total_words u ≡ total_words v → Walked a old mid → Stopped b mid e new ⊎ Unplaced from b u mid e new → Stopped path old e new ⊎ Unplaced from path v old e new
why_later from a b path more u v old mid new e is same w (inl x) = inl (stopped_later a b path more old mid new e is w x)
why_later from a b path more u v old mid new e is same w (inr x) = inr (unplaced_later from a b path more u v old mid new e is same w x)

-- a refusal that is passed on
pub refused_is : {X : Type 0} (from : Segments) (there : Option X) (path : List Visit) (Made : X → Type 0) (Left : Type 0) (s u : Segments) (old new : ReadLimiter) (r : Result ⊤ Error) (d e : Error) → r ≡ Err d → d ≡ e → Refused from path Left (limited_words s old) e (limited_words u new) → CopyGives (copy_of from there path) Made Left (limited_words s old) r (limited_words u new)
refused_is from there path Made Left s u old new r d e is same x =
    subst (λ (y : Result ⊤ Error). CopyGives (copy_of from there path) Made Left (limited_words s old) y (limited_words u new)) (sym (is ∙ ap (λ (y : Error). Err y) same)) x

pub gives_is : {X : Type 0} (from : Segments) (there there' : Option X) (path path' : List Visit) (Made : X → Type 0) (Left : Type 0) (s u : Segments) (old new : ReadLimiter) (r : Result ⊤ Error) → there ≡ there' → path ≡ path' → CopyGives (copy_of from there path) Made Left (limited_words s old) r (limited_words u new) → CopyGives (copy_of from there' path') Made Left (limited_words s old) r (limited_words u new)
gives_is from there there' path path' Made Left s u old new r e f g =
    subst (λ (x : Option _). CopyGives (copy_of from x path') Made Left (limited_words s old) r (limited_words u new)) e (subst (λ (vs : List Visit). CopyGives (copy_of from there vs) Made Left (limited_words s old) r (limited_words u new)) f g)
