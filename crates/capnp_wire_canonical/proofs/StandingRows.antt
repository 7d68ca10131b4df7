-- Values in a row and elements of lists that stand, one at a time.
use Rattle.std.proofs.Common.{◌≡◌, ℕ, suc, ◌+◌, ◌-◌, ◌*◌, ◌≤◌, [], ◌∷◌, ◌++◌, length, Some, refl, ap, sym, ◌∙◌, subst, arith}
use Rattle.std.proofs.lemmas.List.{length-append}
use Rattle.capnp_model.specs.Sections.{words_of}
use Rattle.capnp_model.specs.Segments.{Segments, Place, place, after}
use Rattle.capnp_model.specs.Trees.{Tree, Trees, ◌▸◌, Elements, element, tree_count, element_count}
use Rattle.capnp_model.specs.Encoding.{pointer, body, links, bodies, cells, element_bodies}
use Rattle.capnp_model.proofs.lemmas.Locality.{word_is, word_was}
use Rattle.capnp_model.proofs.lemmas.Numbers.{length-numbers_in}
use Rattle.capnp_model.proofs.lemmas.RoundTrip.{links_length}
use Rattle.capnp_wire_canonical.specs.Standing.{Hold, Stands, StandEach, StandElements}
use Rattle.capnp_wire_canonical.proofs.Holding.{hold_parts, hold_both, hold_at}
use Rattle.capnp_wire_canonical.proofs.lemmas.Putting.{links_sum}

-- ---- pointers in a row

module _ (s : Segments) (p : Place) (head end : ℕ) (t : Tree) (ts : Trees) (room : p.position + suc (tree_count ts) ≤ head) where
  -- the words of targets before the first one's
  before : ℕ
  before = head - p.position - suc (tree_count ts)

  gap_is : head - p.position - 1 ≡ tree_count ts + 0 + (head - p.position - suc (tree_count ts))
  gap_is = omega arith

  pub row_both : (e : ℕ) → Stands s p head t e → StandEach s (after p 1) e ts end → StandEach s p head (t ▸ ts) end
  row_both e x y =
      let b = head - p.position - suc (tree_count ts) in
      let e_is = x.ends in
      let next : e - (p.position + 1) - tree_count ts ≡ b + length (body t) = omega arith in
      let size = length-append (body t) (bodies ts) in
      let last = y.ends in
      record {
        row = hold_both s p (pointer (tree_count ts + 0 + b) t ∷ []) (links 0 (b + length (body t)) ts) (word_is s p _ (x.link ∙ ap (λ (g : ℕ). Some (pointer g t)) gap_is)) (subst (λ (j : ℕ). Hold s (after p 1) (links 0 j ts)) next y.row);
        targets = hold_both s (place p.segment head) (body t) (bodies ts) x.targets (hold_at s p.segment e (head + length (body t)) (bodies ts) e_is y.targets);
        ends = omega arith;
      }

  pub row_parts : StandEach s p head (t ▸ ts) end → Stands s p head t (head + length (body t)) × StandEach s (after p 1) (head + length (body t)) ts end
  row_parts x =
      let b = head - p.position - suc (tree_count ts) in
      let e = head + length (body t) in
      let next : b + length (body t) ≡ e - (p.position + 1) - tree_count ts = omega arith in
      let size = length-append (body t) (bodies ts) in
      let last = x.ends in
      let own = hold_parts s p (pointer (tree_count ts + 0 + b) t ∷ []) (links 0 (b + length (body t)) ts) x.row in
      let far = hold_parts s (place p.segment head) (body t) (bodies ts) x.targets in (
        record { link = word_was s p _ own.0 ∙ ap (λ (g : ℕ). Some (pointer g t)) (sym gap_is); targets = far.0; ends = refl },
        record { row = subst (λ (j : ℕ). Hold s (after p 1) (links 0 j ts)) next own.1; targets = far.1; ends = omega arith },
      )

-- ---- elements

module _ (s : Segments) (p : Place) (d k head end section : ℕ) (ts : Trees) (es : Elements) (count : tree_count ts ≡ k) (room : p.position + suc (element_count es) * (d + k) ≤ head) where
  pub element_both : (e : ℕ) → Hold s p (words_of d section) → StandEach s (after p d) head ts e → StandElements s (after p (d + k)) d k e es end → StandElements s p d k head (element section ts es) end
  element_both e own x y =
      let c = element_count es in
      let w = d + k in
      let b = head - p.position - suc c * w in
      let sum : suc c * w ≡ w + c * w = omega arith in
      let e_is = x.ends in
      let last = y.ends in
      let size = length-append (bodies ts) (element_bodies es) in
      let ws = words_of d section in
      let long = length-numbers_in 64 d section in
      let ls = links (c * w) b ts in
      let cs = cells (b + length (bodies ts)) d k es in
      let gap : head - (p.position + d) - tree_count ts ≡ c * w + b = omega arith in
      let next : e - (p.position + w) - c * w ≡ b + length (bodies ts) = omega arith in
      let ls_are : links 0 (head - (p.position + d) - tree_count ts) ts ≡ ls = ap (λ (j : ℕ). links 0 j ts) gap ∙ sym (links_sum (c * w) b ts) in
      let front = links_length ts (c * w) b in
      let at_links : p.position + d ≡ p.position + length ws = omega arith in
      let at_cells : p.position + w ≡ p.position + length ws + length ls = omega arith in
      record {
        row = hold_both s p ws (ls ++ cs) own (hold_both s (after p (length ws)) ls cs (hold_at s p.segment (p.position + d) (p.position + length ws) ls at_links (subst (Hold s (after p d)) ls_are x.row))
            (hold_at s p.segment (p.position + w) (p.position + length ws + length ls) cs at_cells (subst (λ (j : ℕ). Hold s (after p w) (cells j d k es)) next y.row)));
        targets = hold_both s (place p.segment head) (bodies ts) (element_bodies es) x.targets (hold_at s p.segment e (head + length (bodies ts)) (element_bodies es) e_is y.targets);
        ends = omega arith;
      }

  pub element_parts : StandElements s p d k head (element section ts es) end
      → StandEach s (after p d) head ts (head + length (bodies ts)) × StandElements s (after p (d + k)) d k (head + length (bodies ts)) es end
  element_parts x =
      let c = element_count es in
      let w = d + k in
      let b = head - p.position - suc c * w in
      let e = head + length (bodies ts) in
      let sum : suc c * w ≡ w + c * w = omega arith in
      let last = x.ends in
      let size = length-append (bodies ts) (element_bodies es) in
      let ws = words_of d section in
      let long = length-numbers_in 64 d section in
      let ls = links (c * w) b ts in
      let cs = cells (b + length (bodies ts)) d k es in
      let gap : c * w + b ≡ head - (p.position + d) - tree_count ts = omega arith in
      let next : b + length (bodies ts) ≡ e - (p.position + w) - c * w = omega arith in
      let ls_are : ls ≡ links 0 (head - (p.position + d) - tree_count ts) ts = links_sum (c * w) b ts ∙ ap (λ (j : ℕ). links 0 j ts) gap in
      let front = links_length ts (c * w) b in
      let at_links : p.position + length ws ≡ p.position + d = omega arith in
      let at_cells : p.position + length ws + length ls ≡ p.position + w = omega arith in
      let own = hold_parts s p ws (ls ++ cs) x.row in
      let more = hold_parts s (after p (length ws)) ls cs own.1 in
      let far = hold_parts s (place p.segment head) (bodies ts) (element_bodies es) x.targets in (
        record { row = subst (Hold s (after p d)) ls_are (hold_at s p.segment (p.position + length ws) (p.position + d) ls at_links more.0); targets = far.0; ends = refl },
        record {
          row = subst (λ (j : ℕ). Hold s (after p w) (cells j d k es)) next (hold_at s p.segment (p.position + length ws + length ls) (p.position + w) cs at_cells more.1);
          targets = far.1;
          ends = omega arith;
        },
      )
