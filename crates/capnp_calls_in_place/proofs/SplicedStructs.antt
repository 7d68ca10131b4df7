-- What is put into trimmed structs and lists of structs, and the changes that do the same to the whole ones.
use Rattle.std.proofs.Common.{◌≡◌, ℕ, suc, max, refl, ap, sym, subst, ◌∙◌, arith}
use Rattle.capnp_model.specs.Sections.{needed_words}
use Rattle.capnp_model.specs.Trees.{Tree, null, capability, structure, plain_list, pointer_list, struct_list, Trees, tree_count, padded_to, widened}
use Rattle.capnp_model.specs.Fits.{Fits}
use Rattle.capnp_model.specs.Trimming.{stripped, trim, trim_each}
use Rattle.capnp_model.specs.Edits.{Cell, Edit, in_struct}
use Rattle.capnp_model.proofs.lemmas.Numbers.{needed_words-more, needed_words_le}
use Rattle.capnp_model.proofs.lemmas.Stripping.{stripped-stripped, count-stripped}
use Rattle.capnp_model.proofs.lemmas.Widening.{bare-padded_to}
use Rattle.capnp_calls_splice.specs.Splices.{InStruct}
use Rattle.capnp_calls_in_place.proofs.SplicedKids.{depths_padded, all_kept}
use Rattle.capnp_calls_in_place.proofs.SplicedCells.{IsCut, Follows, IsEditOf, Makes, IsChangeOf}

-- ---- structs

module _ (w : ℕ) (puts : ℕ → ℕ → Cell → Cell → Type 0) (f : Edit) (is : IsEditOf w puts f) where
  struct_makes : (p words section m : ℕ) (kids : Trees) (new : Cell) → Fits (trim (structure words section kids))
      → puts (needed_words words section) m (record { section = section; kids = stripped (trim_each kids) }) new
      → Makes (structure words section kids) (in_struct (max w words) f (widened w p (structure words section kids))) (structure m new.section new.kids)
  unfolding trim
  struct_makes p words section m kids new fit h =
      let n : ℕ = needed_words words section in
      let bare : Trees = stripped (trim_each kids) in
      let cut : Cell = record { section = section; kids = bare } in
      let old : Cell = record { section = section; kids = padded_to p kids } in
      let edited : Cell = f old in
      let again : stripped bare ≡ bare = stripped-stripped (trim_each kids) in
      let begins : IsCut n cut old = record { section = refl; kids = bare-padded_to p kids ∙ sym again; inside = fit.2; fit = fit.3 } in
      let follows : Follows w n m cut new old edited = is n m cut new old begins h in
      let less = needed_words_le words section in
      let most = follows.most in
      let least : needed_words n section ≡ n = sym (needed_words-more words n section less fit.2) in
      let needs : needed_words (max w words) new.section ≡ m = needed_words-more (max w words) m new.section (omega (arith, less, most)) follows.inside ∙ follows.words least in
      let whole : stripped new.kids ≡ new.kids = all_kept new.kids (let few = follows.least in let all = ap tree_count again in let count = follows.count in let most = count-stripped new.kids in omega (arith, few, all, count, most)) in
      record {
        trimmed = ap (λ (s : ℕ). structure (needed_words (max w words) s) s (stripped (trim_each edited.kids))) follows.section
            ∙ ap (λ (k : ℕ). structure k new.section (stripped (trim_each edited.kids))) needs ∙ ap (structure m new.section) (follows.kids ∙ whole);
        deep = ap suc (follows.deep ∙ depths_padded p kids);
        some = refl;
        some_new = refl;
      }

  pub struct_is : (p : ℕ) → IsChangeOf (InStruct puts) (λ t. in_struct w f (widened w p t))
  unfolding trim
  struct_is p null new fit h = absurd h
  struct_is p (capability i) new fit h = absurd h
  struct_is p (structure words section kids) new fit h =
      subst (λ (u : Tree). Makes (structure words section kids) (in_struct w f (widened w p (structure words section kids))) u) (sym h.3) (struct_makes p words section h.0 kids h.1 fit h.2)
  struct_is p (plain_list z m section) new fit h = absurd h
  struct_is p (pointer_list ts) new fit h = absurd h
  struct_is p (struct_list d k es) new fit h = absurd h
